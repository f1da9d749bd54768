use Rattle.std.proofs.Common.{length, inl, inr, refl, arith, ap, sym, ◌∙◌}
use Rattle.tp_parse.specs.Ops.{table_of}
use Rattle.tp_parse.specs.Words.{reach_of}
use Rattle.tp_parse.proofs.ReadsTerms.Words.{words-more, known-more, token-at, words-start, known-none}
use Rattle.tp_parse.proofs.words.take_words.Goals as goal

pub returns-then-stops_at-clause-known : goal.returns-then-stops_at-clause-known
returns-then-stops_at-clause-known c =
    known-more (table_of c.args.source.now.ops.now) c.args.source.now.text.now c.loop-words.words.items c.add_word.new.words.items c.in-Some.word
    c.in_ok-add_word.ensures c.loop-words.invariant.known (rw c.in-Some.is at c.in_ok-word.ensures.known)

pub loop-words-preserved : goal.loop-words-preserved
loop-words-preserved c =
    let tokens = rw c.in-Some.is at (c.in_ok-word.ensures.tokens (reach_of c.args.extent)) in
    let place = rw c.in-Some.is at c.in_ok-word.ensures.place in
    let there = token-at _ _ _ c.loop-words.invariant.start (rw c.in-Some.is at c.in_ok-word.ensures.there) in
    record {
      start = inr there;
      there = λ _. there;
      same = words-more c.args.source.now.text.now c.loop-words.words.items c.add_word.new.words.items c.in-Some.word _ _ _ _ c.in_ok-add_word.ensures tokens (sym c.if-stops_at.false ∙ c.stops_at.ensures) c.loop-words.invariant.same;
      place = place.next_place;
      known = known-more (table_of c.args.source.now.ops.now) c.args.source.now.text.now c.loop-words.words.items c.add_word.new.words.items c.in-Some.word
          c.in_ok-add_word.ensures c.loop-words.invariant.known (rw c.in-Some.is at c.in_ok-word.ensures.known);
    }

pub loop-words-init : goal.loop-words-init
loop-words-init c = record {
  same = words-start _ _ _ c.new-words.ensures.items;
  place = c.requires;
  known = known-none _ _ _ c.new-words.ensures.items;
  start = inl refl;
  there = λ h. absurd (let none = ap length c.new-words.ensures.items in omega arith);
}
