-- What stays where cells are added to a heap.
use Rattle.std.proofs.Common.{◌≡◌, ℕ, suc, ◌<◌, ◌≤◌, [], ◌∷◌, ◌++◌, length, refl, sym, ap, subst, ◌∙◌, arith, append_assoc, append-nil, length-append}
use Rattle.tp_terms.specs.declared.cells.AtomId.{AtomId}
use Rattle.tp_terms.specs.declared.cells.Ref.{Ref}
use Rattle.tp_terms.specs.declared.cells.Cell.{Cell}
use Rattle.tp_terms.specs.declared.cells.Cell.TheVariants as cell
use Rattle.tp_terms.specs.Term.{Comp, NoMore, More}
use Rattle.tp_terms.specs.Shown.{name_at, shows, shown_from, IsNamed, StandsBefore}
use Rattle.tp_terms.proofs.Places.Shown.{shows-append, shows-push, shown_from-append}
use Rattle.tp_meaning.specs.Subst.{apply}
use Rattle.tp_meaning.specs.Heap.{Heap, CanStand, AddsCells, Makes, IsNumbered, shown, seen, cell_shown, cell_seen, with_cell}

pub adds-none : (h : Heap) → AddsCells h h
adds-none h = record { more = []; cells = sym (append-nil h.cells); subst = refl; next = refl; names = refl; trail = refl }

pub adds-trans : (a b c : Heap) → AddsCells a b → AddsCells b c → AddsCells a c
adds-trans a b c h k = record {
  more = h.more ++ k.more;
  cells = k.cells ∙ ap (λ cs. cs ++ k.more) h.cells ∙ append_assoc a.cells h.more k.more;
  subst = k.subst ∙ h.subst;
  next = k.next ∙ h.next;
  names = k.names ∙ h.names;
  trail = k.trail ∙ h.trail;
}

-- one cell more
pub adds-cell : (h k : Heap) (c : Cell) → k ≡ with_cell h c → AddsCells h k
adds-cell h k c e = record {
  more = c ∷ [];
  cells = ap (λ (q : Heap). q.cells) e;
  subst = ap (λ (q : Heap). q.subst) e;
  next = ap (λ (q : Heap). q.next) e;
  names = ap (λ (q : Heap). q.names) e;
  trail = ap (λ (q : Heap). q.trail) e;
}

pub longer : (a b : Heap) → AddsCells a b → length a.cells ≤ length b.cells
longer a b h = omega (arith, ap length h.cells, length-append a.cells h.more)

-- a place that stood shows what it showed, bindings aside and under the substitution
pub shown-kept : (a b : Heap) → AddsCells a b → (at : ℕ) → at < length a.cells → shown b at ≡ shown a at
shown-kept a b h at lt =
    ap (λ names. shows names b.cells at) h.names
    ∙ ap (λ cs. shows a.names cs at) h.cells
    ∙ shows-append a.names a.cells h.more at lt

pub seen-kept : (a b : Heap) → AddsCells a b → (at : ℕ) → at < length a.cells → seen b at ≡ seen a at
seen-kept a b h at lt = ap (λ s. apply s (shown b at)) h.subst ∙ ap (apply a.subst) (shown-kept a b h at lt)

pub cell_shown-kept : (a b : Heap) → AddsCells a b → (c : Cell) → CanStand a c → cell_shown b c ≡ cell_shown a c
cell_shown-kept a b h c k =
    ap (λ names. shown_from names b.cells c) h.names
    ∙ ap (λ cs. shown_from a.names cs c) h.cells
    ∙ shown_from-append a.names a.cells h.more c k.before

-- the place of a new cell shows its term
pub shown-placed : (h k : Heap) (c : Cell) (at : ℕ) → k ≡ with_cell h c → at ≡ length h.cells → shown k at ≡ cell_shown h c
shown-placed h k c at e place =
    ap (λ (q : Heap). shown q at) e ∙ ap (λ n. shows h.names (h.cells ++ c ∷ []) n) place ∙ shows-push h.names h.cells c

length-placed : (h k : Heap) (c : Cell) → k ≡ with_cell h c → length k.cells ≡ suc (length h.cells)
length-placed h k c e = ap (λ (q : Heap). length q.cells) e ∙ (let l : length (h.cells ++ c ∷ []) ≡ suc (length h.cells) = omega (arith, length-append h.cells (c ∷ [])) in l)

-- compounds whose arguments were placed
pub makes-one : (h k : Heap) (a : Cell) (name : AtomId) (first : Ref) → k ≡ with_cell h a → first.at ≡ length h.cells → CanStand h a → name.at < length h.names → Makes h k (cell.Comp name first 1) (Comp (name_at h.names name.at) (More (cell_shown h a) NoMore))
makes-one h k a name first e place stands named = record {
  adds = adds;
  stands = record {
    before = (omega arith, omega (arith, length-placed h k a e));
    named = subst (λ names. name.at < length names) (sym adds.names) named;
    numbered = tt;
  };
  term =
      ap (λ n. Comp n (More (shown k first.at) NoMore)) (ap (λ names. name_at names name.at) adds.names)
      ∙ ap (λ t. Comp (name_at h.names name.at) (More t NoMore)) (shown-placed h k a first.at e place);
}
  where
    adds : AddsCells h k
    adds = adds-cell h k a e

pub makes-two : (h k l : Heap) (a b : Cell) (name : AtomId) (first second : Ref) → k ≡ with_cell h a → l ≡ with_cell k b → first.at ≡ length h.cells → second.at ≡ length k.cells → CanStand h a → CanStand h b → name.at < length h.names → Makes h l (cell.Comp name first 2) (Comp (name_at h.names name.at) (More (cell_shown h a) (More (cell_shown h b) NoMore)))
makes-two h k l a b name first second e1 e2 place1 place2 stands_a stands_b named = record {
  adds = adds;
  stands = record {
    before = (omega arith, omega (arith, length-placed h k a e1, length-placed k l b e2));
    named = subst (λ names. name.at < length names) (sym adds.names) named;
    numbered = tt;
  };
  term =
      ap (λ n. Comp n (More (shown l first.at) (More (shown l (suc first.at)) NoMore))) (ap (λ names. name_at names name.at) adds.names)
      ∙ ap (λ t. Comp (name_at h.names name.at) (More t (More (shown l (suc first.at)) NoMore))) left
      ∙ ap (λ t. Comp (name_at h.names name.at) (More (cell_shown h a) (More t NoMore))) right;
}
  where
    to_k : AddsCells h k
    to_k = adds-cell h k a e1

    to_l : AddsCells k l
    to_l = adds-cell k l b e2

    adds : AddsCells h l
    adds = adds-trans h k l to_k to_l

    left : shown l first.at ≡ cell_shown h a
    left = shown-kept k l to_l first.at (omega (arith, length-placed h k a e1)) ∙ shown-placed h k a first.at e1 place1

    behind : suc first.at ≡ length k.cells
    behind = omega (arith, length-placed h k a e1)

    right : shown l (suc first.at) ≡ cell_shown h b
    right = shown-placed k l b (suc first.at) e2 behind ∙ cell_shown-kept h k to_k b stands_b
