use Rattle.std.proofs.Common.{◌≡◌, ◌+◌, ◌-◌, suc, [], ◌∷◌, ◌++◌, length, refl, sym, ap, ◌∙◌, arith}
use Rattle.std.proofs.lemmas.Result.{err_from_is_err_and}
use Rattle.tp_parse.specs.Ops.{table_of}
use Rattle.tp_parse.specs.Reading.{reading, infix_parts, args}
use Rattle.tp_parse.specs.Steps.{trees_of, top_of}
use Rattle.tp_parse.specs.Words.{ahead}
use Rattle.tp_parse.specs.declared.steps.Step.TheVariants as step
use Rattle.tp_parse.proofs.ReadsTerms.Words.{ahead-after, ahead-length, some-first}
use Rattle.tp_parse.proofs.ReadsTerms.Exits.{going-after, going-step, going-same, going-items, named-has}
use Rattle.tp_parse.proofs.ReadsTerms.Loops.{Fails-then, Fails-same, reading-zero, reading-step, read-then, read-some, primary-none, primary-at, primary-named, primary-simple, args-start, args-more, args-last, args-fails, args-end, arg-then, arg-fails, elements-start, elements-more, elements-last, elements-enough, elements-fails, elements-end, element-then, element-fails, parts-start, parts-more, parts-none, parts-fails, parts-end, part-none, part-some, prefixed-is, operand-taken, operand-refused, compound-read, row-enough, operand-read, part-read, part-two, infix-label, braced-read, named-kind}
use Rattle.tp_parse.proofs.reader.+reader.Goals as goal

pub read-returns-then-levels-eq0-clause-gives : goal.read-returns-then-levels-eq0-clause-gives
read-returns-then-levels-eq0-clause-gives t c =
    let ops = table_of c.args.source.now.ops.now in
    let text = c.args.source.now.text.now in
    Fails-same (ahead text c.args.at.now.cursor) _ _ _ (reading-zero ops c.args.levels c.args.bound (ahead text c.args.at.now.cursor) c.if-levels-eq0.true) (c.too_deep.ensures.fails text)

pub read-returns-in_err-priority-clause-gives : goal.read-returns-in_err-priority-clause-gives
read-returns-in_err-priority-clause-gives t c =
    let ops = table_of c.args.source.now.ops.now in
    let text = c.args.source.now.text.now in
    let p = err_from_is_err_and c.from_residual.result c.from_residual.ensures.1 in
    rw (p.1, p.2) (Fails-then (ahead text c.read_primary.new.at.cursor) _ _ _ _ (reading-step ops c.args.levels c.args.bound (ahead text c.args.at.now.cursor) c.if-levels-eq0.false) c.in_err-priority.ensures.gives)

pub read-returns-clause-gives : goal.read-returns-clause-gives
read-returns-clause-gives t c =
    let ops = table_of c.args.source.now.ops.now in
    let text = c.args.source.now.text.now in
    read-then _ _ _ _ _ _ _ _ _ _ (reading-step ops c.args.levels c.args.bound (ahead text c.args.at.now.cursor) c.if-levels-eq0.false) c.in_ok-priority.ensures.gives c.read_infix_parts.ensures.gives

pub read_primary-returns-in_default-clause-gives : goal.read_primary-returns-in_default-clause-gives
read_primary-returns-in_default-clause-gives t c =
    let ops = table_of c.args.source.now.ops.now in
    let text = c.args.source.now.text.now in
    primary-none ops (reading ops c.args.levels) c.args.bound text c.args.at.now.cursor (sym c.first.ensures ∙ c.in_default.is)

pub read_primary-returns-in-Open-clause-gives : goal.read_primary-returns-in-Open-clause-gives
read_primary-returns-in-Open-clause-gives t c =
    let ops = table_of c.args.source.now.ops.now in
    let text = c.args.source.now.text.now in
    rw (primary-at ops (reading ops c.args.levels) c.args.bound text c.args.at.now.cursor c.pass-in-Open.new.self c.in-Some.word _ (sym c.first.ensures ∙ c.in-Some.is) c.in-Open.is c.pass-in-Open.ensures) c.read_bracketed.ensures.gives

pub read_primary-returns-in-OpenList-clause-gives : goal.read_primary-returns-in-OpenList-clause-gives
read_primary-returns-in-OpenList-clause-gives t c =
    let ops = table_of c.args.source.now.ops.now in
    let text = c.args.source.now.text.now in
    rw (primary-at ops (reading ops c.args.levels) c.args.bound text c.args.at.now.cursor c.pass-in-OpenList.new.self c.in-Some.word _ (sym c.first.ensures ∙ c.in-Some.is) c.in-OpenList.is c.pass-in-OpenList.ensures) c.read_listed.ensures.gives

pub read_primary-returns-in-OpenCurly-clause-gives : goal.read_primary-returns-in-OpenCurly-clause-gives
read_primary-returns-in-OpenCurly-clause-gives t c =
    let ops = table_of c.args.source.now.ops.now in
    let text = c.args.source.now.text.now in
    rw (primary-at ops (reading ops c.args.levels) c.args.bound text c.args.at.now.cursor c.pass-in-OpenCurly.new.self c.in-Some.word _ (sym c.first.ensures ∙ c.in-Some.is) c.in-OpenCurly.is c.pass-in-OpenCurly.ensures) c.read_braced.ensures.gives

pub read_primary-returns-in-Name-clause-gives : goal.read_primary-returns-in-Name-clause-gives
read_primary-returns-in-Name-clause-gives t c =
    let ops = table_of c.args.source.now.ops.now in
    let text = c.args.source.now.text.now in
    rw (primary-named ops (reading ops c.args.levels) c.args.bound text c.args.at.now.cursor c.pass.new.self c.in-Some.word (sym c.first.ensures ∙ c.in-Some.is) (named-kind _ c.in-Name.is) c.pass.ensures) c.read_named.ensures.gives

pub read_primary-returns-in_default-kind : goal.read_primary-returns-in_default-kind
read_primary-returns-in_default-kind t c =
    let ops = table_of c.args.source.now.ops.now in
    let text = c.args.source.now.text.now in
    let d = c.in_default-kind in
    record {
      gives = rw (primary-simple ops (reading ops c.args.levels) c.args.bound text c.args.at.now.cursor c.in-Some.word (sym c.first.ensures ∙ c.in-Some.is) d.not-Name d.not-Quoted d.not-Open d.not-OpenList d.not-OpenCurly) c.read_simple.ensures.gives;
      going = c.read_simple.ensures.going;
      memory = λ _. some-first _ _ (sym c.first.ensures ∙ c.in-Some.is);
      shorter = c.read_simple.ensures.shorter;
    }

pub read_argument-returns-in_err-read-clause-gives : goal.read_argument-returns-in_err-read-clause-gives
read_argument-returns-in_err-read-clause-gives t c =
    let ops = table_of c.args.source.now.ops.now in
    let text = c.args.source.now.text.now in
    let p = err_from_is_err_and c.from_residual.result c.from_residual.ensures.1 in
    rw (p.1, p.2) (arg-fails (reading ops c.args.levels) c.args.rest (ahead text c.args.at.now.cursor) (ahead text c.read.new.at.cursor) _ c.in_err-read.ensures.gives)

pub read_argument-returns-clause-gives : goal.read_argument-returns-clause-gives
read_argument-returns-clause-gives t c =
    let ops = table_of c.args.source.now.ops.now in
    let text = c.args.source.now.text.now in
    arg-then (reading ops c.args.levels) c.args.rest _ _ _ _ _ _ _ c.in_ok-read.ensures.gives (c.follow_argument.ensures.follows text (args (reading ops c.args.levels) c.args.rest) (top_of (trees_of text c.read.new.at.steps.items)))

pub read_args-returns-in_err-read_argument-clause-gives : goal.read_args-returns-in_err-read_argument-clause-gives
read_args-returns-in_err-read_argument-clause-gives t c =
    let ops = table_of c.args.source.now.ops.now in
    let text = c.args.source.now.text.now in
    let p = err_from_is_err_and c.from_residual.result c.from_residual.ensures.1 in
    let fuel : 255 - c.arguments.index ≡ suc (254 - c.arguments.index) = let h = c.arguments-test.true in omega arith in
    rw (p.1, p.2) (args-fails _ _ _ _ _ _ _ _ _ _ fuel c.arguments.invariant.so_far c.in_err-read_argument.ensures.gives)

pub read_args-returns-in-Nothing-clause-gives : goal.read_args-returns-in-Nothing-clause-gives
read_args-returns-in-Nothing-clause-gives t c =
    let ops = table_of c.args.source.now.ops.now in
    let text = c.args.source.now.text.now in
    let fuel : 255 - c.arguments.index ≡ suc (254 - c.arguments.index) = let h = c.arguments-test.true in omega arith in
    args-last _ _ _ _ _ _ _ _ _ _ _ fuel (omega arith) c.arguments.invariant.so_far (rw c.in-Nothing.is at c.in_ok-read_argument.ensures.gives)

pub read_args-returns-clause-gives : goal.read_args-returns-clause-gives
read_args-returns-clause-gives t c =
    let ops = table_of c.args.source.now.ops.now in
    let text = c.args.source.now.text.now in
    args-end _ _ _ _ _ _ _ (let h = c.arguments-test.false in omega arith) c.arguments.invariant.so_far

pub read_args-arguments-init : goal.read_args-arguments-init
read_args-arguments-init t c =
    let ops = table_of c.args.source.now.ops.now in
    let text = c.args.source.now.text.now in
    record { so_far = args-start (reading ops c.args.levels) 255 (trees_of text c.args.at.now.steps.items) (ahead text c.args.at.now.cursor); going = c.requires.going; shorter = omega arith }

pub read_args-arguments-preserved : goal.read_args-arguments-preserved
read_args-arguments-preserved t c =
    let ops = table_of c.args.source.now.ops.now in
    let text = c.args.source.now.text.now in
    let fuel : 255 - c.arguments.index ≡ suc (254 - c.arguments.index) = let h = c.arguments-test.true in omega arith in
    record { so_far = args-more _ _ _ _ _ _ _ _ _ _ _ _ fuel (omega arith) (omega arith) c.arguments.invariant.so_far (rw c.in-More.is at c.in_ok-read_argument.ensures.gives); going = c.in_ok-read_argument.ensures.going; shorter = let a = c.in_ok-read_argument.ensures.shorter in let b = c.arguments.invariant.shorter in omega arith }

pub read_compound-returns-clause-gives : goal.read_compound-returns-clause-gives
read_compound-returns-clause-gives t c =
    let ops = table_of c.args.source.now.ops.now in
    let text = c.args.source.now.text.now in
    compound-read (reading ops c.args.levels) text c.read_args.new.at.steps.items c.push.new.self.items _ _ _ (ahead text c.args.at.now.cursor) _ _ (c.in_ok-push.ensures.items ∙ ap (λ l. c.read_args.new.at.steps.items ++ step.Compound c.in_ok-count.count l ∷ []) c.written.ensures) (ap (ahead text) c.pass.ensures ∙ ahead-after text c.args.at.now.cursor) c.in_ok-count.ensures.gives

pub read_compound-returns-clause-going : goal.read_compound-returns-clause-going
read_compound-returns-clause-going t c =
    let ops = table_of c.args.source.now.ops.now in
    let text = c.args.source.now.text.now in
    let r = c.in_ok-count.ensures in
    let some = r.gives.some in
    let enough = row-enough _ _ _ _ _ r.gives in
    going-step ops text c.read_args.new.at.cursor c.read_args.new.at.steps.items c.push.new.self.items _ (c.in_ok-push.ensures.items ∙ ap (λ l. c.read_args.new.at.steps.items ++ step.Compound c.in_ok-count.count l ∷ []) c.written.ensures) ((c.requires.known.given, named-has c.args.word.token.kind c.requires.named), some, enough) r.going

pub read_operand-returns-clause-gives : goal.read_operand-returns-clause-gives
read_operand-returns-clause-gives t c =
    let ops = table_of c.args.source.now.ops.now in
    let text = c.args.source.now.text.now in
    let r = c.in_ok-read.ensures.gives in
    operand-read (reading ops c.args.levels) text c.read.new.at.steps.items c.push.new.self.items _ _ _ (ahead text c.args.at.now.cursor) _ c.args.op (c.in_ok-push.ensures.items ∙ ap (λ l. c.read.new.at.steps.items ++ step.Compound 1 l ∷ []) c.written.ensures) (rw c.right_bound.ensures at r)

pub read_operand-returns-clause-going : goal.read_operand-returns-clause-going
read_operand-returns-clause-going t c =
    let ops = table_of c.args.source.now.ops.now in
    let text = c.args.source.now.text.now in
    let r = c.in_ok-read.ensures in
    let some = read-some _ _ _ _ _ r.gives in
    going-step ops text c.read.new.at.cursor c.read.new.at.steps.items c.push.new.self.items _ (c.in_ok-push.ensures.items ∙ ap (λ l. c.read.new.at.steps.items ++ step.Compound 1 l ∷ []) c.written.ensures) ((c.requires.known.given, named-has c.args.word.token.kind c.requires.named), omega arith, some) r.going

pub read_prefixed-returns-in_default-clause-gives : goal.read_prefixed-returns-in_default-clause-gives
read_prefixed-returns-in_default-clause-gives t c =
    let ops = table_of c.args.source.now.ops.now in
    let text = c.args.source.now.text.now in
    rw (prefixed-is ops (reading ops c.args.levels) text c.args.bound c.args.word c.args.at.now.cursor _ c.requires.going.known c.requires.known c.requires.named (sym c.operator.ensures ∙ c.in_default.is)) c.read_atom.ensures.gives

pub read_prefixed-returns-then-op-bound-clause-gives : goal.read_prefixed-returns-then-op-bound-clause-gives
read_prefixed-returns-then-op-bound-clause-gives t c =
    let ops = table_of c.args.source.now.ops.now in
    let text = c.args.source.now.text.now in
    prefixed-is ops (reading ops c.args.levels) text c.args.bound c.args.word c.args.at.now.cursor _ c.requires.going.known c.requires.known c.requires.named (sym c.operator.ensures ∙ c.in-Some.is) ∙ operand-refused (reading ops c.args.levels) c.args.bound _ _ c.in-Some.op c.if-op-bound.true

pub read_prefixed-returns-clause-gives : goal.read_prefixed-returns-clause-gives
read_prefixed-returns-clause-gives t c =
    let ops = table_of c.args.source.now.ops.now in
    let text = c.args.source.now.text.now in
    rw (prefixed-is ops (reading ops c.args.levels) text c.args.bound c.args.word c.args.at.now.cursor _ c.requires.going.known c.requires.known c.requires.named (sym c.operator.ensures ∙ c.in-Some.is) ∙ operand-taken (reading ops c.args.levels) c.args.bound _ _ c.in-Some.op c.if-op-bound.false) c.read_operand.ensures.gives

pub read_prefixed-returns-clause-memory : goal.read_prefixed-returns-clause-memory
read_prefixed-returns-clause-memory t c = λ _. rw (sym c.operator.ensures ∙ c.in-Some.is) c.if-op-bound.false

pub read_braced-returns-in_err-pass_closing-clause-going : goal.read_braced-returns-in_err-pass_closing-clause-going
read_braced-returns-in_err-pass_closing-clause-going t c =
    let ops = table_of c.args.source.now.ops.now in
    let text = c.args.source.now.text.now in
    going-same ops text c.read.new.at.cursor c.pass_closing.new.self c.read.new.at.steps.items c.in_err-pass_closing.ensures.err c.in_ok-read.ensures.going

pub read_bracketed-returns-in_err-pass_closing-clause-going : goal.read_bracketed-returns-in_err-pass_closing-clause-going
read_bracketed-returns-in_err-pass_closing-clause-going t c =
    let ops = table_of c.args.source.now.ops.now in
    let text = c.args.source.now.text.now in
    going-same ops text c.read.new.at.cursor c.pass_closing.new.self c.read.new.at.steps.items c.in_err-pass_closing.ensures.err c.in_ok-read.ensures.going

pub read_bracketed-returns-clause-going : goal.read_bracketed-returns-clause-going
read_bracketed-returns-clause-going t c =
    let ops = table_of c.args.source.now.ops.now in
    let text = c.args.source.now.text.now in
    going-after ops text c.read.new.at.cursor c.pass_closing.new.self c.read.new.at.steps.items c.in_ok-pass_closing.ensures.ok c.in_ok-read.ensures.going

pub read_tail-returns-in_err-pass_closing-clause-going : goal.read_tail-returns-in_err-pass_closing-clause-going
read_tail-returns-in_err-pass_closing-clause-going t c =
    let ops = table_of c.args.source.now.ops.now in
    let text = c.args.source.now.text.now in
    going-same ops text c.read.new.at.cursor c.pass_closing.new.self c.read.new.at.steps.items c.in_err-pass_closing.ensures.err c.in_ok-read.ensures.going

pub read_tail-returns-clause-going : goal.read_tail-returns-clause-going
read_tail-returns-clause-going t c =
    let ops = table_of c.args.source.now.ops.now in
    let text = c.args.source.now.text.now in
    going-after ops text c.read.new.at.cursor c.pass_closing.new.self c.read.new.at.steps.items c.in_ok-pass_closing.ensures.ok c.in_ok-read.ensures.going

pub read_braced-returns-in_err-push-clause-going : goal.read_braced-returns-in_err-push-clause-going
read_braced-returns-in_err-push-clause-going t c =
    let ops = table_of c.args.source.now.ops.now in
    let text = c.args.source.now.text.now in
    going-items ops text c.pass_closing.new.self c.read.new.at.steps.items c.push.new.self.items c.in_err-push.ensures.items (going-after ops text c.read.new.at.cursor c.pass_closing.new.self c.read.new.at.steps.items c.in_ok-pass_closing.ensures.ok c.in_ok-read.ensures.going)

pub read_braced-returns-clause-going : goal.read_braced-returns-clause-going
read_braced-returns-clause-going t c =
    let ops = table_of c.args.source.now.ops.now in
    let text = c.args.source.now.text.now in
    let some = read-some _ _ _ _ _ c.in_ok-read.ensures.gives in
    going-step ops text c.pass_closing.new.self c.read.new.at.steps.items c.push.new.self.items _ c.in_ok-push.ensures.items (tt, omega arith, some) (going-after ops text c.read.new.at.cursor c.pass_closing.new.self c.read.new.at.steps.items c.in_ok-pass_closing.ensures.ok c.in_ok-read.ensures.going)

pub read_braced-returns-clause-gives : goal.read_braced-returns-clause-gives
read_braced-returns-clause-gives t c =
    let ops = table_of c.args.source.now.ops.now in
    let text = c.args.source.now.text.now in
    braced-read (reading ops c.args.levels) text c.read.new.at.steps.items c.push.new.self.items _ _ c.args.at.now.cursor _ _ (sym c.closes.ensures ∙ c.if-closes.false) c.in_ok-push.ensures.items c.in_ok-read.ensures.gives (c.in_ok-pass_closing.ensures.behind text)

pub read_element-returns-in_err-read-clause-gives : goal.read_element-returns-in_err-read-clause-gives
read_element-returns-in_err-read-clause-gives t c =
    let ops = table_of c.args.source.now.ops.now in
    let text = c.args.source.now.text.now in
    let p = err_from_is_err_and c.from_residual.result c.from_residual.ensures.1 in
    λ n. rw (p.1, p.2) (element-fails (reading ops c.args.levels) n (ahead text c.args.at.now.cursor) (ahead text c.read.new.at.cursor) _ c.in_err-read.ensures.gives)

pub read_element-returns-clause-gives : goal.read_element-returns-clause-gives
read_element-returns-clause-gives t c =
    let ops = table_of c.args.source.now.ops.now in
    let text = c.args.source.now.text.now in
    λ n. element-then (reading ops c.args.levels) n _ _ _ _ _ _ _ _ c.in_ok-read.ensures.gives (c.follow_element.ensures.gives n)

pub read_elements-returns-in_err-read_element-clause-gives : goal.read_elements-returns-in_err-read_element-clause-gives
read_elements-returns-in_err-read_element-clause-gives t c =
    let ops = table_of c.args.source.now.ops.now in
    let text = c.args.source.now.text.now in
    let p = err_from_is_err_and c.from_residual.result c.from_residual.ensures.1 in
    let fuel : c.len-most.result - c.elements.index ≡ suc (c.len-most.result - (c.elements.index + 1)) = let h = c.elements-test.true in omega arith in
    let n = c.len-most.result - (c.elements.index + 1) in
    rw (p.1, p.2) (elements-fails _ _ _ _ _ _ _ _ _ _ fuel c.elements.invariant.so_far (c.in_err-read_element.ensures.gives n))

pub read_elements-link-requires-clause-enough : goal.read_elements-link-requires-clause-enough
read_elements-link-requires-clause-enough t c =
    let ops = table_of c.args.source.now.ops.now in
    let text = c.args.source.now.text.now in
    let fuel : c.len-most.result - c.elements.index ≡ suc (c.len-most.result - (c.elements.index + 1)) = let h = c.elements-test.true in omega arith in
    let n = c.len-most.result - (c.elements.index + 1) in
    elements-enough _ _ _ _ _ _ _ _ _ _ _ (omega arith) c.elements.invariant.so_far (rw c.in-Nothing.is at (c.in_ok-read_element.ensures.gives n))

pub read_elements-returns-clause-gives : goal.read_elements-returns-clause-gives
read_elements-returns-clause-gives t c =
    let ops = table_of c.args.source.now.ops.now in
    let text = c.args.source.now.text.now in
    elements-end _ _ _ _ _ _ _ (let h = c.elements-test.false in omega arith) c.elements.invariant.so_far

pub read_elements-elements-init : goal.read_elements-elements-init
read_elements-elements-init t c =
    let ops = table_of c.args.source.now.ops.now in
    let text = c.args.source.now.text.now in
    let len = ahead-length text c.args.at.now.cursor in
    let same = c.len-most.ensures in
    let fuel : length (ahead text c.args.at.now.cursor) ≡ c.len-most.result - 0 = omega arith in
    record { so_far = elements-start (reading ops c.args.levels) _ _ (trees_of text c.args.at.now.steps.items) (ahead text c.args.at.now.cursor) fuel; going = c.requires.going; shorter = omega arith }

pub read_elements-elements-preserved : goal.read_elements-elements-preserved
read_elements-elements-preserved t c =
    let ops = table_of c.args.source.now.ops.now in
    let text = c.args.source.now.text.now in
    let fuel : c.len-most.result - c.elements.index ≡ suc (c.len-most.result - (c.elements.index + 1)) = let h = c.elements-test.true in omega arith in
    let n = c.len-most.result - (c.elements.index + 1) in
    record { so_far = elements-more _ _ _ _ _ _ _ _ _ _ _ fuel (omega arith) c.elements.invariant.so_far (rw c.in-More.is at (c.in_ok-read_element.ensures.gives n)); going = c.in_ok-read_element.ensures.going; shorter = let a = c.in_ok-read_element.ensures.shorter in let b = c.elements.invariant.shorter in omega arith }

pub read_infix_part-returns-in_default-clause-gives : goal.read_infix_part-returns-in_default-clause-gives
read_infix_part-returns-in_default-clause-gives t c =
    let ops = table_of c.args.source.now.ops.now in
    let text = c.args.source.now.text.now in
    λ more. record { read = part-none ops (reading ops c.args.levels) text more c.args.bound c.args.priority (top_of (trees_of text c.args.at.now.steps.items)) c.args.at.now.cursor c.requires.going.known (sym c.next_infix.ensures ∙ c.in_default.is); left_is = refl; made = refl }

pub read_infix_part-returns-in_err-read-clause-gives : goal.read_infix_part-returns-in_err-read-clause-gives
read_infix_part-returns-in_err-read-clause-gives t c =
    let ops = table_of c.args.source.now.ops.now in
    let text = c.args.source.now.text.now in
    let p = err_from_is_err_and c.from_residual.result c.from_residual.ensures.1 in
    λ more. rw (p.1, p.2) (Fails-then (ahead text c.read.new.at.cursor) _ _ _ _ (part-some ops (reading ops c.args.levels) text more c.args.bound c.args.priority (top_of (trees_of text c.args.at.now.steps.items)) c.args.at.now.cursor c.requires.going.known (c.in-Some.label, c.in-Some.op) c.pass.new.self (sym c.next_infix.ensures ∙ c.in-Some.is) c.pass.ensures) (rw c.right_bound.ensures at c.in_err-read.ensures.gives))

pub read_infix_part-returns-clause-gives : goal.read_infix_part-returns-clause-gives
read_infix_part-returns-clause-gives t c =
    let ops = table_of c.args.source.now.ops.now in
    let text = c.args.source.now.text.now in
    λ more. part-read ops (reading ops c.args.levels) text more c.args.bound c.args.priority _ _ c.args.at.now.cursor c.pass.new.self _ c.requires.going.known c.read.new.at.steps.items c.push.new.self.items (c.in-Some.label, c.in-Some.op) (sym c.next_infix.ensures ∙ c.in-Some.is) c.pass.ensures c.in_ok-push.ensures.items c.requires.some (rw c.right_bound.ensures at c.in_ok-read.ensures.gives)

pub read_infix_part-returns-clause-going : goal.read_infix_part-returns-clause-going
read_infix_part-returns-clause-going t c =
    let ops = table_of c.args.source.now.ops.now in
    let text = c.args.source.now.text.now in
    let r = c.in_ok-read.ensures in
    let two = part-two _ _ _ _ _ r.gives c.requires.some in
    going-step ops text c.read.new.at.cursor c.read.new.at.steps.items c.push.new.self.items _ c.in_ok-push.ensures.items (infix-label ops text c.args.bound c.args.priority c.args.at.now.cursor (c.in-Some.label, c.in-Some.op) c.requires.going.known (sym c.next_infix.ensures ∙ c.in-Some.is), omega arith, two) r.going

pub read_infix_parts-returns-in_err-taken-clause-gives : goal.read_infix_parts-returns-in_err-taken-clause-gives
read_infix_parts-returns-in_err-taken-clause-gives t c =
    let ops = table_of c.args.source.now.ops.now in
    let text = c.args.source.now.text.now in
    let p = err_from_is_err_and c.from_residual.result c.from_residual.ensures.1 in
    let fuel : c.len-most.result - c.parts.counter ≡ suc (c.len-most.result - (c.parts.counter + 1)) = let h = c.parts-test.true in omega arith in
    let n = c.len-most.result - (c.parts.counter + 1) in
    let more = infix_parts ops (reading ops c.args.levels) n c.args.bound in
    rw (p.1, p.2) (parts-fails _ _ _ _ _ n _ _ _ _ _ fuel c.parts.invariant.so_far _ (c.in_err-taken.ensures.gives more))

pub read_infix_parts-returns-in-None-clause-gives : goal.read_infix_parts-returns-in-None-clause-gives
read_infix_parts-returns-in-None-clause-gives t c =
    let ops = table_of c.args.source.now.ops.now in
    let text = c.args.source.now.text.now in
    let fuel : c.len-most.result - c.parts.counter ≡ suc (c.len-most.result - (c.parts.counter + 1)) = let h = c.parts-test.true in omega arith in
    let n = c.len-most.result - (c.parts.counter + 1) in
    let more = infix_parts ops (reading ops c.args.levels) n c.args.bound in
    parts-none _ _ _ _ _ n _ _ _ _ _ fuel c.parts.invariant.so_far _ (rw c.in-None.is at (c.in_ok-taken.ensures.gives more))

pub read_infix_parts-returns-clause-gives : goal.read_infix_parts-returns-clause-gives
read_infix_parts-returns-clause-gives t c =
    let ops = table_of c.args.source.now.ops.now in
    let text = c.args.source.now.text.now in
    parts-end _ _ _ _ _ _ _ _ _ (let h = c.parts-test.false in omega arith) c.parts.invariant.so_far

pub read_infix_parts-parts-init : goal.read_infix_parts-parts-init
read_infix_parts-parts-init t c =
    let ops = table_of c.args.source.now.ops.now in
    let text = c.args.source.now.text.now in
    let len = ahead-length text c.args.at.now.cursor in
    let same = c.len-most.ensures in
    let fuel : length (ahead text c.args.at.now.cursor) ≡ c.len-most.result - 0 = omega arith in
    record { so_far = parts-start ops (reading ops c.args.levels) c.args.bound _ _ c.args.priority (trees_of text c.args.at.now.steps.items) (ahead text c.args.at.now.cursor) c.requires.some fuel; going = c.requires.going; shorter = omega arith }

pub read_infix_parts-parts-preserved : goal.read_infix_parts-parts-preserved
read_infix_parts-parts-preserved t c =
    let ops = table_of c.args.source.now.ops.now in
    let text = c.args.source.now.text.now in
    let fuel : c.len-most.result - c.parts.counter ≡ suc (c.len-most.result - (c.parts.counter + 1)) = let h = c.parts-test.true in omega arith in
    let n = c.len-most.result - (c.parts.counter + 1) in
    let more = infix_parts ops (reading ops c.args.levels) n c.args.bound in
    let r = c.in_ok-taken.ensures in
    record { so_far = parts-more _ _ _ _ _ n _ _ _ _ _ fuel c.parts.invariant.so_far _ _ (rw c.in-Some.is at (r.gives more)); going = r.going; shorter = let a = r.shorter in let b = c.parts.invariant.shorter in omega arith }

pub read_elements-returns-in-Nothing-clause-gives : goal.read_elements-returns-in-Nothing-clause-gives
read_elements-returns-in-Nothing-clause-gives t c =
    let fuel : c.len-most.result - c.elements.index ≡ suc (c.len-most.result - (c.elements.index + 1)) = let h = c.elements-test.true in omega arith in
    let n = c.len-most.result - (c.elements.index + 1) in
    elements-last _ _ _ _ _ _ _ _ _ _ _ _ fuel (omega arith) c.elements.invariant.so_far (rw c.in-Nothing.is at (c.in_ok-read_element.ensures.gives n)) c.in_ok-link-in-Nothing.ensures.trees
