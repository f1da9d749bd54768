use Rattle.std.proofs.Common.{Some, sym, ap, ◌∙◌}
use Rattle.std.proofs.lemmas.Result.{err_from_is_err_and}
use Rattle.std.specs.declared.alloc.Global.{Global}
use Rattle.std.specs.declared.vec.Vec.{Vec}
use Rattle.tp_parse.specs.Ops.{table_of}
use Rattle.tp_parse.specs.Whole.{ended_of}
use Rattle.tp_parse.specs.Words.{ahead}
use Rattle.tp_parse.specs.declared.words.Word.{Word}
use Rattle.tp_parse.proofs.ReadsTerms.Whole.{clause-words, clause-none, clause-open, clause-term, clause-tells}
use Rattle.tp_parse.proofs.read.read_clause.Goals as goal

pub returns-in_err-words-clause-read : goal.returns-in_err-words-clause-read
returns-in_err-words-clause-read c =
    let p = err_from_is_err_and c.from_residual.result c.from_residual.ensures.1 in
    rw (p.1, p.2) (clause-words (λ (v : Vec Word Global). v.items) c.args.atoms.now (table_of c.args.ops.now) c.args.text.now c.args.at _ c.in_err-words.ensures.tokens)

pub returns-in-None-clause-read : goal.returns-in-None-clause-read
returns-in-None-clause-read c =
    let text = c.args.text.now in
    clause-none (table_of c.args.ops.now) text c.args.at (ahead text c.in_ok-words.words.items) c.in_ok-words.ensures.tokens (ap (λ w. ended_of (ahead text w)) (sym c.deref.ensures.value) ∙ sym (c.is_ended.ensures text) ∙ c.in-None.is)

pub returns-in-Some-false-clause-read : goal.returns-in-Some-false-clause-read
returns-in-Some-false-clause-read c =
    let text = c.args.text.now in
    clause-open (table_of c.args.ops.now) text c.args.at (ahead text c.in_ok-words.words.items) c.in_ok-words.ensures.tokens
    (ap (λ w. ended_of (ahead text w)) (sym c.deref.ensures.value) ∙ sym (c.is_ended.ensures text) ∙ c.in-Some-false.is ∙ ap Some c.in-Some-false.field-0-test)

pub returns-in_err-term-in-Some-true-clause-read : goal.returns-in_err-term-in-Some-true-clause-read
returns-in_err-term-in-Some-true-clause-read c =
    let text = c.args.text.now in
    let p = err_from_is_err_and c.from_residual-in_err-term-in-Some-true.result c.from_residual-in_err-term-in-Some-true.ensures.1 in
    rw (p.1, p.2) (clause-term c.read_words.new.atoms (table_of c.args.ops.now) text c.args.at (ahead text c.in_ok-words.words.items) _ c.in_ok-words.ensures.tokens
    (ap (λ w. ended_of (ahead text w)) (sym c.deref.ensures.value) ∙ sym (c.is_ended.ensures text) ∙ c.in-Some-true.is ∙ ap Some c.in-Some-true.field-0-test)
    c.in_err-term-in-Some-true.ensures.read)

pub returns-in_ok-term-in-Some-true-clause-read : goal.returns-in_ok-term-in-Some-true-clause-read
returns-in_ok-term-in-Some-true-clause-read c =
    let text = c.args.text.now in
    clause-tells c.read_words.new.atoms (table_of c.args.ops.now) text c.args.at (ahead text c.in_ok-words.words.items) _ c.in_ok-words.ensures.tokens
    (ap (λ w. ended_of (ahead text w)) (sym c.deref.ensures.value) ∙ sym (c.is_ended.ensures text) ∙ c.in-Some-true.is ∙ ap Some c.in-Some-true.field-0-test)
    c.in_ok-term-in-Some-true.ensures.read
