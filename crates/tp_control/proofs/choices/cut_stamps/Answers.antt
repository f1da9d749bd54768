use Rattle.std.proofs.Common.{rules, ◌≡◌, ◌∙◌, ◌<◌, ◌-◌, sym, ap, subst, length, take, Some, IfSome}
use Rattle.tp_control.specs.Stamps.{newest}
use Rattle.tp_control.proofs.StampsStay.{newest-below, filter-older, cut-one}
use Rattle.tp_control.proofs.choices.cut_stamps.Goals as goal

pub returns-then-choice-stamp-clause-kept : goal.returns-then-choice-stamp-clause-kept
returns-then-choice-stamp-clause-kept c =
    let cs = c.loop-choice.choices.items in
    let n = c.args.stamp in
    let there : newest cs ≡ Some c.in-Some.choice.now = sym (c.in-Some.ensures.value ∙ ap newest c.deref.ensures.value) in
    let older = subst (λ o. IfSome o (λ d. d.stamp < n)) (sym there) c.if-choice-stamp.true in
    sym (filter-older n cs (newest-below n cs c.loop-choice.invariant.rise older)) ∙ c.loop-choice.invariant.kept

pub loop-choice-preserved : goal.loop-choice-preserved
loop-choice-preserved c =
    let cs = c.loop-choice.choices.items in
    let n = c.args.stamp in
    let so_far = c.loop-choice.invariant in
    let there : newest cs ≡ Some c.in-Some.choice.now = sym (c.in-Some.ensures.value ∙ ap newest c.deref.ensures.value) in
    let short : c.pop.new.self.items ≡ take (length cs - 1) cs = c.pop.ensures.rest ∙ ap (λ k. take (k - 1) cs) (search rules) in
    let cut = cut-one n c.args.choices.now.items cs c.pop.new.self.items c.in-Some.choice.now c.if-choice-stamp.false there short so_far.rise so_far.kept so_far.oldest in
    record { rise = cut.rise; kept = cut.kept; oldest = cut.oldest }
