use Rattle.std.proofs.Common.{◌+◌, ◌-◌, ◌*◌, ◌^◌, ◌≤◌, sym, ◌∙◌, arith}
use Rattle.tp_lex.proofs.Forms.Numerals.{after_digits-goes, after_digits-stops, after_digits-none, value_with-goes, value_with-stops, value_with-none, saturates, same_pair}
use Rattle.tp_lex.proofs.digits.number.Goals as goal
use Rattle.tp_lex.proofs.digits.number.Goals.{in-Some+in_default-to_digit, in_default}

pub loop-c-preserved : goal.loop-c-preserved
loop-c-preserved c =
    let i = c.loop-c.invariant in
    let n = i.2.0 in
    let d = c.in-Some-to_digit.ensures.value in
    let all = c.in-Some.ensures.split in
    let after = after_digits-goes c.args.base _ _ _ all d.0 in
    let more = value_with-goes c.args.base n _ _ _ all d.0 in
    let base : 1 ≤ c.args.base = omega arith in
    let held = saturates (2 ^ 64 - 1) n c.args.base c.in-Some-to_digit.digit base in
    (c.in-Some.ensures.utf8, sym after ∙ i.1, (n * c.args.base + c.in-Some-to_digit.digit, cc, cc))

pub returns-clause-value : goal.returns-clause-value
returns-clause-value c =
    let i = c.loop-c.invariant in
    elim c.match-split_first.branch [
      | in-Some+in_default-to_digit w ↦
          let all = w.in-Some.ensures.split in
          let d = w.in_default-to_digit.ensures.value in
          let e = value_with-stops c.args.base i.2.0 _ _ _ all d in
          let after = after_digits-stops c.args.base _ _ _ all d in
          same_pair _ _ _ _ (cc) (sym after ∙ i.1)
      | in_default w ↦
          let all = w.in_default.ensures.split in
          let e = value_with-none c.args.base i.2.0 _ all in
          let after = after_digits-none c.args.base _ all in
          same_pair _ _ _ _ (cc) (sym after ∙ i.1)
    ]
