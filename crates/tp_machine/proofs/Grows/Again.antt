-- A cell that is placed again.
use Rattle.std.proofs.Common.{◌≡◌, ℕ, List, [], ◌∷◌, ◌++◌, length, Some, slice_get, ap, sym, subst, ◌∙◌, arith, length-append}
use Rattle.tp_terms.specs.declared.cells.Cell.{Cell}
use Rattle.tp_terms.specs.Term.{Name}
use Rattle.tp_terms.specs.Shown.{shows, shown_from, AreNamed}
use Rattle.tp_terms.proofs.Places.Shown.{shows-push, AreNamed-push, AreNamed-cell}
use Rattle.tp_store.specs.Contents.{Contents, IsStore, Keeps, with_cell}
use Rattle.tp_machine.specs.Built.{Built}
use Rattle.tp_machine.proofs.Gives.Raised.{adds_cells}

-- its place shows what the cell's first place shows
pub again_built : (names : List Name) (s t : Contents) (x : Cell) (kind at : ℕ) → t ≡ with_cell s x → Keeps s t → IsStore t → AreNamed (length names) s.cells → slice_get s.cells kind ≡ Some x → shows names s.cells kind ≡ shown_from names s.cells x → at ≡ length s.cells → Built names s t at (shows names s.cells kind)
again_built names s t x kind at e keeps store named there shown place =
    let cells : t.cells ≡ s.cells ++ x ∷ [] = ap (λ (c : Contents). c.cells) e in
    record {
      adds = adds_cells s t (x ∷ []) e;
      keeps = keeps;
      store = store;
      named = subst (AreNamed (length names)) (sym cells) (AreNamed-push (length names) s.cells x named (AreNamed-cell (length names) s.cells kind x named there));
      last = omega (arith, place, ap length cells, length-append s.cells (x ∷ []));
      shown = ap (λ cs. shows names cs at) cells ∙ ap (shows names (s.cells ++ x ∷ [])) place ∙ shows-push names s.cells x ∙ sym shown;
    }
