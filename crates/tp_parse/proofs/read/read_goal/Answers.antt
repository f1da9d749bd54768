use Rattle.std.proofs.lemmas.Result.{err_from_is_err_and}
use Rattle.std.proofs.lemmas.Str.{IsCharBoundary-start}
use Rattle.std.specs.declared.alloc.Global.{Global}
use Rattle.std.specs.declared.vec.Vec.{Vec}
use Rattle.tp_parse.specs.declared.words.Word.{Word}
use Rattle.tp_parse.specs.Ops.{table_of}
use Rattle.tp_parse.specs.Words.{ahead}
use Rattle.tp_parse.proofs.ReadsTerms.Whole.{goal-words, goal-tells}
use Rattle.tp_parse.proofs.read.read_goal.Goals as goal

pub take_words-requires : goal.take_words-requires
take_words-requires c = IsCharBoundary-start c.args.text.now c.utf8.text

pub returns-in_err-words-clause-read : goal.returns-in_err-words-clause-read
returns-in_err-words-clause-read c =
    let p = err_from_is_err_and c.from_residual.result c.from_residual.ensures.1 in
    rw (p.1, p.2) (goal-words (λ (v : Vec Word Global). v.items) c.args.atoms.now (table_of c.args.ops.now) c.args.text.now _ c.in_err-words.ensures.tokens)

pub returns-clause-read : goal.returns-clause-read
returns-clause-read c =
    let text = c.args.text.now in
    goal-tells c.read_words.new.atoms (table_of c.args.ops.now) text (ahead text c.in_ok-words.words.items) c.read_words.result c.in_ok-words.ensures.tokens c.read_words.ensures.read
