use Rattle.std.proofs.Common.{◌≡◌, ◌-◌, ◌<◌, ◌⊎◌, length, None}
use Rattle.std.specs.Str.{IsCharBoundary}
use Rattle.tp_lex.specs.Tokens.{tokens_from}
use Rattle.tp_parse.specs.Ops.{table_of}
use Rattle.tp_parse.specs.Texts.{HasToken}
use Rattle.tp_parse.specs.Words.{AreKnown, ahead, reach_of}
use Rattle.tp_parse.proofs.ReadsTerms.Words.{before}
use Rattle.tp_parse.proofs.words.take_words.Given as goal

-- the words so far, and then the tokens that are left, are the tokens of all
abbrev pub invariant-loop-words : goal.invariant-loop-words
invariant-loop-words l = record {
  same : before (ahead l.source.text.now l.words.items) (tokens_from (reach_of l.extent) l.source.text.now l.from l.end) ≡ tokens_from (reach_of l.extent) l.source.text.now l.fn.at None;
  place : IsCharBoundary l.source.text.now l.from;
  known : AreKnown (table_of l.source.ops.now) l.source.text.now l.words.items;
  start : (l.from ≡ l.fn.at) ⊎ HasToken l.source.text.now l.fn.at;
  there : 0 < length l.words.items → HasToken l.source.text.now l.fn.at;
}

abbrev pub decreases-loop-words : goal.decreases-loop-words
decreases-loop-words l = length l.source.text.now - l.from
