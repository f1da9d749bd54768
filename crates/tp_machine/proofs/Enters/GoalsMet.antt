-- What a place shows as a goal.
use Rattle.std.proofs.Common.{◌≡◌, ℕ, ◌+◌, ◌<◌, ◌≤◌, List, ◌∷◌, length, refl, ap, sym, ◌∙◌, arith}
use Rattle.tp_terms.specs.declared.cells.AtomId.{AtomId}
use Rattle.tp_terms.specs.declared.cells.Ref.{Ref}
use Rattle.tp_terms.specs.declared.cells.Cell.TheVariants as cell
use Rattle.tp_terms.specs.Term.{Name, Terms, Var, Int, Atom, Comp, NoMore, More, term_of, count_of}
use Rattle.tp_terms.specs.Shown.{name_at}
use Rattle.tp_store.specs.Contents.{Contents, seen, seen_cell, args_seen}
use Rattle.tp_store.proofs.Standing.Facts.{count-seen}
use Rattle.tp_control.specs.declared.frames.Item.{Item}
use Rattle.tp_control.specs.declared.frames.Item.TheVariants.{Goal}
use Rattle.tp_machine.specs.declared.task.Call.{Call}
use Rattle.tp_machine.specs.declared.task.Met.{Met}
use Rattle.tp_machine.specs.declared.task.Met.TheVariants as met
use Rattle.tp_machine.specs.Meets.{IsCall, IsMet}

-- an atom
pub atom_is : (names : List Name) (c : Contents) (goal : Ref) (name : AtomId) → goal.at < length c.cells → name.at < length names → seen names c goal.at ≡ Atom (name_at names name.at) → IsCall names c goal (record { name = name; first = goal; count = 0 })
atom_is names c goal name within lt e = record { is = e; within = omega arith; name = lt }

term_of-some : (f : Name) (ts : Terms) → 0 < count_of ts → Comp f ts ≡ term_of f ts
term_of-some f NoMore lt = absurd (omega arith)
term_of-some f (More t ts) lt = refl

-- a compound
pub compound_is : (names : List Name) (c : Contents) (goal first : Ref) (name : AtomId) (count : ℕ) → name.at < length names → 0 < count → first.at + count ≤ length c.cells → seen names c goal.at ≡ seen_cell names c (cell.Comp name first count) → IsCall names c goal (record { name = name; first = first; count = count })
compound_is names c goal first name count lt some within e = record {
  is = e ∙ term_of-some (name_at names name.at) (args_seen names c first.at count) (omega (arith, count-seen names c first.at count));
  within = within;
  name = lt;
}

-- a goal that was found to have no name has none
pub not_named : (names : List Name) (c : Contents) (goal g : Ref) (x y : ℕ) (xs ys : List Item) (r : Met) → IsMet names c goal r → ((call : Call) → r ≡ met.Named call → ⊥) → (f : Name) (ts : Terms) → Goal goal x ∷ xs ≡ Goal g y ∷ ys → seen names c g.at ≡ term_of f ts → ⊥
not_named names c goal g x y xs ys r h other f ts e is = go r h other ts (ap (λ (q : Ref). seen names c q.at) same ∙ is)
  where
    same : goal ≡ g
    same = cc

    go : (r : Met) → IsMet names c goal r → ((call : Call) → r ≡ met.Named call → ⊥) → (ts : Terms) → seen names c goal.at ≡ term_of f ts → ⊥
    go met.Unbound h other NoMore e' = let z : Var h.0 ≡ Atom f = sym h.1 ∙ e' in cc
    go met.Unbound h other (More t ts) e' = let z : Var h.0 ≡ Comp f (More t ts) = sym h.1 ∙ e' in cc
    go (met.Number value) h other NoMore e' = let z : Int value ≡ Atom f = sym h ∙ e' in cc
    go (met.Number value) h other (More t ts) e' = let z : Int value ≡ Comp f (More t ts) = sym h ∙ e' in cc
    go (met.Named call) h other ts e' = other call refl
