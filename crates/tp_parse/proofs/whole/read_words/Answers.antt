use Rattle.std.proofs.Common.{◌≡◌, ◌<◌, List, ap, sym, subst, ◌∙◌, length}
use Rattle.tp_parse.specs.Steps.{trees_of}
use Rattle.tp_parse.specs.Texts.{byte_at}
use Rattle.tp_parse.specs.Whole.{to_of}
use Rattle.tp_parse.specs.Words.{ahead}
use Rattle.tp_parse.specs.declared.words.Word.{Word}
use Rattle.tp_parse.proofs.Numbered.NewNames.{names-term}
use Rattle.tp_parse.proofs.ReadsTerms.Whole.{is-term}
use Rattle.tp_parse.proofs.whole.read_words.Goals as goal

pub returns-clause-read : goal.returns-clause-read
returns-clause-read c =
    let text = c.args.source.now.text.now in
    let w = c.in_ok-steps.ensures.tells in
    let same : c.deref.result.now ≡ c.deref-2.result.now = c.deref.ensures.value ∙ sym c.deref-2.ensures.value in
    rw (← c.deref-2.ensures.value)
    (is-term c.build.new.atoms (length text) (ahead text c.deref-2.result.now) _ _ w.tree _ w.read (c.in_ok-cells.ensures.built w.tree (ap (trees_of text) c.deref-3.ensures.value ∙ w.made)) c.in_ok-named.ensures c.count-vars.ensures
    (c.span-from.ensures.from text ∙ ap (λ (ws : List Word). byte_at (length text) (ahead text ws)) same)
    (c.span-from.ensures.to text ∙ ap (λ (ws : List Word). to_of (length text) (ahead text ws)) same))

pub returns-clause-names : goal.returns-clause-names
returns-clause-names c =
    let text = c.args.source.now.text.now in
    let w = c.in_ok-steps.ensures.tells in
    let made = ap (trees_of text) c.deref-3.ensures.value ∙ w.made in
    names-term c.build.new.atoms c.args.atoms.now w.tree _ _ _ (c.in_ok-cells.ensures.built w.tree made).term made c.in_ok-cells.ensures.names

pub returns-in_err-cells-clause-memory : goal.returns-in_err-cells-clause-memory
returns-in_err-cells-clause-memory c = λ _. subst (λ (ws : List Word). 0 < length ws) c.deref-2.ensures.value c.in_ok-steps.ensures.some

pub returns-in_err-named-clause-memory : goal.returns-in_err-named-clause-memory
returns-in_err-named-clause-memory c = λ _. subst (λ (ws : List Word). 0 < length ws) c.deref-2.ensures.value c.in_ok-steps.ensures.some
