-- The entries of further bindings in a log.
use Rattle.std.proofs.Common.{◌≡◌, ℕ, ◌+◌, ◌<◌, ◌≤◌, List, [], ◌∷◌, ◌++◌, length, take, drop, map, reverse, ap, sym, ◌∙◌, arith, length-append}
use Rattle.std.proofs.lemmas.List.{take_more, take-append-le, drop-append-le, length-take, reverse-append, reverse-reverse, map-append, append_assoc, append-nil}
use Rattle.std.proofs.Math.Seq.{take-append_seam, drop-append_seam}
use Rattle.tp_terms.specs.declared.cells.Ref.{Ref}
use Rattle.tp_terms.specs.Binds.{Bindings}
use Rattle.tp_log.specs.declared.entry.Entry.{Entry}
use Rattle.tp_log.specs.declared.entry.Entry.TheVariants.{Bind}
use Rattle.tp_store.specs.declared.chains.Chains.{Chains}
use Rattle.tp_store.specs.Contents.{Contents, AddsPairs}
use Rattle.tp_store.specs.Chain.{contents_of}
use Rattle.tp_store.specs.Logged.{Logs}
use Rattle.tp_store.specs.Trail.{number_at}
use Rattle.tp_store.proofs.Logging.Numbers.{binding_at}

-- the entries of some pairs, in their order
abbrev pub entries_of : List (ℕ × Ref) → List Entry
entries_of = map (λ p. Bind p.0)

-- an entry taken away that stands above the mark
pub popped : (kept : ℕ) (old new : List Entry) (e : Entry) → old ≡ new ++ e ∷ [] → kept < length old → take kept new ≡ take kept old
popped kept old new e split above =
    sym (take-append-le kept new (e ∷ []) (omega (arith, ap length split, length-append new (e ∷ [])))) ∙ ap (take kept) (sym split)

-- one more pair has its entry
pub pushed : (kept at : ℕ) (pairs : List (ℕ × Ref)) (n : ℕ) (before log new : List Entry) → kept ≤ at → at < length pairs → n ≡ number_at pairs at
    → log ≡ before ++ entries_of (drop kept (take at pairs)) → new ≡ log ++ Bind n ∷ [] → new ≡ before ++ entries_of (drop kept (take (at + 1) pairs))
pushed kept at pairs n before log new le lt is so_far more =
    let b = binding_at pairs at lt in
    let p = b.pair in
    more ∙ ap (λ k. log ++ Bind k ∷ []) (is ∙ b.number) ∙ ap (λ l. l ++ Bind p.0 ∷ []) so_far
    ∙ append_assoc before (entries_of (drop kept (take at pairs))) (Bind p.0 ∷ [])
    ∙ ap (λ l. before ++ l) (sym (map-append (λ q. Bind q.0) (drop kept (take at pairs)) (p ∷ [])))
    ∙ ap (λ l. before ++ entries_of l) (sym (drop-append-le kept (take at pairs) (p ∷ []) (omega (arith, length-take at pairs))))
    ∙ ap (λ l. before ++ entries_of (drop kept (take at pairs ++ l ∷ []))) (sym b.here)
    ∙ ap (λ l. before ++ entries_of (drop kept l)) (sym (take_more pairs at p lt))

-- what stood in the log stands
pub before_stays : (before more log : List Entry) → log ≡ before ++ more → take (length before) log ≡ before
before_stays before more log e = ap (take (length before)) e ∙ take-append_seam before more

-- the pairs behind those of before are the further ones
pub drop_pairs : (old now : List (ℕ × Ref)) (more : Bindings) → reverse now ≡ more ++ reverse old → drop (length old) now ≡ reverse more
drop_pairs old now more e =
    let all : now ≡ old ++ reverse more = sym (reverse-reverse now) ∙ ap reverse e ∙ reverse-append more (reverse old) ∙ ap (λ l. l ++ reverse more) (reverse-reverse old) in
    ap (drop (length old)) all ∙ drop-append_seam old (reverse more)

-- the entries of the pairs from those of before on are those of the further pairs
pub logs_of : (old now : Chains) (kept : ℕ) (before after : List Entry) → AddsPairs (contents_of old) (contents_of now) → kept ≡ length old.trail.pairs
    → after ≡ before ++ entries_of (drop kept now.trail.pairs) → Logs (contents_of old) (contents_of now) before after
logs_of old now kept before after a k e = record {
  more = a.more;
  pairs = a.pairs;
  cells = a.cells;
  vars = a.vars;
  log = e ∙ ap (λ n. before ++ entries_of (drop n now.trail.pairs)) k ∙ ap (λ l. before ++ entries_of l) (drop_pairs old.trail.pairs now.trail.pairs a.more a.pairs);
}

-- nothing is bound or logged
pub logs_none : (old new : Contents) (before after : List Entry) → new ≡ old → after ≡ before → Logs old new before after
logs_none old new before after e l = record {
  more = [];
  pairs = ap (λ (x : Contents). x.pairs) e;
  cells = ap (λ (x : Contents). x.cells) e;
  vars = ap (λ (x : Contents). x.vars) e;
  log = l ∙ sym (append-nil before);
}
