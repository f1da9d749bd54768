-- A store under a table of names is a heap.
use Rattle.std.proofs.Common.{◌≡◌, ℕ, ◌<◌, ◌^◌, List, length, Result, Ok, Err, sym, ap, subst, ◌∙◌, arith, length-append}
use Rattle.std.specs.Prelude.{OnOk, OnErr}
use Rattle.tp_terms.specs.declared.cells.Cell.{Cell}
use Rattle.tp_terms.specs.declared.cells.Cell.TheVariants as cell
use Rattle.tp_terms.specs.Term.{Name}
use Rattle.tp_terms.specs.Names.{IsTable, Grows, with_name}
use Rattle.tp_terms.specs.Shown.{AreNamed, IsNamed, StandsBefore}
use Rattle.tp_terms.proofs.Places.Shown.{AreNamed-push, AreNamed-longer}
use Rattle.tp_meaning.specs.Subst.{IsSubst}
use Rattle.tp_meaning.specs.Heap.{IsHeap, IsUnbound, HasPlaces, with_name_too}
use Rattle.tp_log.specs.declared.entry.Entry.{Entry}
use Rattle.tp_store.specs.Contents as store
use Rattle.tp_store.specs.Contents.{Contents, IsStore, subst_of, with_cell, with_vars}
use Rattle.tp_store.specs.Joined.{KeepsAtoms}
use Rattle.tp_store.proofs.Standing.Facts.{IsSubst-store, subst_of-names}
use Rattle.tp_store.proofs.Substitution.Chained.{unnamed}
use Rattle.tp_view.specs.Seen.{heap_of}

pub is-heap : (c : Contents) (log : List Entry) (names : List Name) → IsStore c → IsTable names → AreNamed (length names) c.cells → IsHeap (heap_of c log names)
is-heap c log names s t named = record { table = t; built = s.built; named = named; numbered = s.numbered; subst = IsSubst-store names c s }

-- atoms of a store with one cell more, where there is one
pub named-after : {A E : Type 0} (n : ℕ) (old new : Contents) (x : Cell) (r : Result A E) → OnOk r (new ≡ with_cell old x) → OnErr r (new ≡ old) → AreNamed n old.cells → IsNamed n x → AreNamed n new.cells
named-after n old new x (Ok a) value err named is = subst (λ (c : Contents). AreNamed n c.cells) (sym value) (AreNamed-push n old.cells x named is)
named-after n old new x (Err e) value err named is = subst (λ (c : Contents). AreNamed n c.cells) (sym err) named

pub named-fresh : {A E : Type 0} (n : ℕ) (old new : Contents) (r : Result A E) → OnOk r (new ≡ with_cell (with_vars old 1) (cell.Var old.vars)) → OnErr r (new ≡ old) → AreNamed n old.cells → AreNamed n new.cells
named-fresh n old new (Ok a) value err named = subst (λ (c : Contents). AreNamed n c.cells) (sym value) (AreNamed-push n old.cells (cell.Var old.vars) named tt)
named-fresh n old new (Err e) value err named = subst (λ (c : Contents). AreNamed n c.cells) (sym err) named

pub unbound-top : (names : List Name) (c : Contents) (x : Cell) → IsStore c → store.IsUnbound c.pairs x → IsUnbound (subst_of names c) x
unbound-top names c (cell.Var v) s u = unnamed names c.cells c.vars c.pairs v (s.chain names) u
unbound-top names c (cell.Int z) s u = tt
unbound-top names c (cell.Atom a) s u = tt
unbound-top names c (cell.Comp f first count) s u = tt

pub places-top : (n : ℕ) (x : Cell) → n < 2 ^ 64 → StandsBefore n x → HasPlaces x
places-top n (cell.Var v) lt b = tt
places-top n (cell.Int z) lt b = tt
places-top n (cell.Atom a) lt b = tt
places-top n (cell.Comp f first count) lt b = let h = b.1 in omega arith

-- a longer table of names
same-names : (c : Contents) (old new : List Name) → Grows old new → AreNamed (length old) c.cells → subst_of new c ≡ subst_of old c
same-names c old new g named = ap (λ names. subst_of names c) g.added ∙ subst_of-names old g.more c named

pub heap-names : {A E : Type 0} (c : Contents) (log : List Entry) (old new : List Name) (name : Name) (r : Result A E) → Grows old new → AreNamed (length old) c.cells → OnOk r (new ≡ with_name old name) → OnOk r (heap_of c log new ≡ with_name_too (heap_of c log old) name)
heap-names c log old new name (Ok a) g named e =
    ap (λ s. record (heap_of c log new) { subst = s }) (same-names c old new g named)
    ∙ ap (λ names. record (heap_of c log old) { names = names }) e
heap-names c log old new name (Err e) g named h = tt

pub heap-longer : (c : Contents) (log : List Entry) (old new : List Name) → Grows old new → IsTable new → IsHeap (heap_of c log old) → IsHeap (heap_of c log new)
heap-longer c log old new g t is = record {
  table = t;
  built = is.built;
  named = AreNamed-longer (length old) (length new) c.cells (omega (arith, ap length g.added, length-append old g.more)) is.named;
  numbered = is.numbered;
  subst = subst IsSubst (sym (same-names c old new g is.named)) is.subst;
}

-- atoms of a store with a copy, where there is one
pub named-copied : {A E : Type 0} (n : ℕ) (old new : Contents) (r : Result A E) → OnOk r (KeepsAtoms old new) → OnErr r (new ≡ old) → AreNamed n old.cells → AreNamed n new.cells
named-copied n old new (Ok a) keeps err named = keeps n named
named-copied n old new (Err e) keeps err named = subst (λ (c : Contents). AreNamed n c.cells) (sym err) named
