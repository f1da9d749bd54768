-- The receivers that a term names.
use Rattle.std.proofs.Common.{◌≡◌, ℕ, zero, suc, ◌+◌, ◌<◌, Bool, false, nat_eq, List, [], ◌∷◌, ◌++◌, length, Option, Some, None, Ok, Err, codes, ℤ, if◌then◌else◌, refl, ap, sym, ◌∙◌, arith}
use Rattle.std.proofs.lemmas.Bool.{eq-eqb, ne_eqb}
use Rattle.tp_terms.specs.declared.cells.AtomId.{AtomId}
use Rattle.tp_terms.specs.declared.cells.Cell.{Cell}
use Rattle.tp_terms.specs.declared.cells.Cell.TheVariants as cell
use Rattle.tp_terms.specs.declared.cells.Ref.{Ref}
use Rattle.tp_terms.specs.Term.{Name, Term, Var, Int, Atom, Comp, NoMore, More, term_size}
use Rattle.tp_terms.specs.Shown.{name_at}
use Rattle.tp_terms.proofs.Naming.Start.{names_eq-start, start-name_at}
use Rattle.tp_terms.proofs.Naming.Constants.{start-list_cell, start-empty_list}
use Rattle.tp_meaning.specs.Checks.{Checked, ◌>>=◌, ◌>>◌, ◌if◌, type_error, domain_error, existence_error}
use Rattle.tp_meaning.specs.Process.{one_receiver, receiver, receivers, receivers_in}
use Rattle.tp_meaning.specs.World.{World, number_of}
use Rattle.tp_procs.specs.Processes.{named}
use Rattle.tp_store.specs.Contents.{IsStore, IsUnbound, seen, seen_cell}
use Rattle.tp_store.proofs.Standing.Facts.{value-unbound}
use Rattle.tp_state.specs.State.{plain_of}
use Rattle.tp_machine.specs.declared.errors.Cause.TheVariants as cause
use Rattle.tp_machine.specs.declared.machine.Machine.{Machine}
use Rattle.tp_machine.specs.declared.send.Next.TheVariants as next
use Rattle.tp_machine.specs.Machine.{IsMachine, world_in}
use Rattle.tp_machine.specs.Meets.{Fails}
use Rattle.tp_machine.specs.Sending.{FindsReceiver, IsElement, IsNext, ahead, left_of, receivers_at}
use Rattle.tp_machine.proofs.Worlds.Made.{number_is}

-- ---- one name

module _ (m : Machine) (at : Ref) (here : at.at < length m.state.store.cells) where
  abbrev w : World
  w = world_in m

  abbrev x : Term
  x = seen m.atoms m.state.store at.at

  -- a variable
  pub names_unbound : (v : ℕ) → seen m.atoms m.state.store at.at ≡ Var v → FindsReceiver m at (Err cause.Unbound)
  names_unbound v e = (tt, tt, ap (receiver w) e)

  -- no atom
  pub names_other : (y : Cell) → seen_cell m.atoms m.state.store y ≡ seen m.atoms m.state.store at.at → ((v : ℕ) → y ≡ cell.Var v → ⊥) → ((name : AtomId) → y ≡ cell.Atom name → ⊥) → FindsReceiver m at (Err (cause.NotAtom at))
  names_other (cell.Var v) e var atom = absurd (var v refl)
  names_other (cell.Atom name) e var atom = absurd (atom name refl)
  names_other (cell.Int z) e var atom = (here, tt, ap (receiver w) (sym e) ∙ ap (λ t. Err (type_error "atom" t)) e)
  names_other (cell.Comp f first count) e var atom = (here, tt, ap (receiver w) (sym e) ∙ ap (λ t. Err (type_error "atom" t)) e)

  module _ (is : IsMachine m) (name : AtomId) (within : name.at < length m.atoms) (e : seen m.atoms m.state.store at.at ≡ Atom (name_at m.atoms name.at)) where
    abbrev n : Name
    n = name_at m.atoms name.at

    by_empty : Bool → Option ℕ → Checked ℕ
    by_empty b o = (domain_error "process_name" (Atom n) if b) >> elim o as (λ _. Checked ℕ) [ None ↦ Err (existence_error "process" (Atom n)) | Some p ↦ Ok p ]

    receiver-is : receiver (world_in m) (seen m.atoms m.state.store at.at) ≡ by_empty (nat_eq name.at 1) (named name m.state.procs)
    unfolding by_empty
    receiver-is =
        ap (receiver w) e
        ∙ ap (λ b. by_empty b (number_of n (world_in m).processes)) (names_eq-start m.atoms is.program.table name.at 1 (codes "[]") within start-empty_list)
        ∙ ap (by_empty (nat_eq name.at 1)) (number_is m.atoms is.program.table.distinct name within (plain_of m.state) is.stands.procs)

    -- the empty list
    pub names_empty : name.at ≡ 1 → FindsReceiver m at (Err cause.EmptyName)
    unfolding by_empty
    names_empty one = (
      tt,
      tt,
      receiver-is ∙ ap (λ b. by_empty b (named name m.state.procs)) (eq-eqb name.at 1 one)
          ∙ ap (λ f. Err (domain_error "process_name" (Atom f))) (ap (name_at m.atoms) one ∙ start-name_at m.atoms is.program.table 1 (codes "[]") start-empty_list),
    )

    other-name : (name.at ≡ 1 → ⊥) → receiver (world_in m) (seen m.atoms m.state.store at.at) ≡ by_empty false (named name m.state.procs)
    other-name other = receiver-is ∙ ap (λ b. by_empty b (named name m.state.procs)) (ne_eqb name.at 1 other)

    -- a process has the name
    pub names_process : (p : ℕ) → (name.at ≡ 1 → ⊥) → named name m.state.procs ≡ Some p → FindsReceiver m at (Ok p)
    unfolding by_empty
    names_process p other found = other-name other ∙ ap (by_empty false) found

    -- none has it
    pub names_none : (name.at ≡ 1 → ⊥) → named name m.state.procs ≡ None → FindsReceiver m at (Err (cause.NoProcess at))
    unfolding by_empty
    names_none other found = (here, tt, other-name other ∙ ap (by_empty false) found ∙ ap (λ t. Err (existence_error "process" t)) (sym e))

    -- the receivers of an atom
    pub receivers_empty : name.at ≡ 1 → receivers_at m at ≡ Ok []
    receivers_empty one =
        ap (receivers w) e
        ∙ ap (λ b. if b then Ok [] else one_receiver w (Atom n)) (names_eq-start m.atoms is.program.table name.at 1 (codes "[]") within start-empty_list ∙ eq-eqb name.at 1 one)

    receivers-one : (name.at ≡ 1 → ⊥) → receivers_at m at ≡ (receiver (world_in m) (seen m.atoms m.state.store at.at) >>= (λ p. Ok (p ∷ [])))
    receivers-one other =
        ap (receivers w) e
        ∙ ap (λ b. if b then Ok [] else one_receiver w (Atom n)) (names_eq-start m.atoms is.program.table name.at 1 (codes "[]") within start-empty_list ∙ ne_eqb name.at 1 other)
        ∙ ap (one_receiver w) (sym e)

    pub receivers_found : (p : ℕ) → (name.at ≡ 1 → ⊥) → FindsReceiver m at (Ok p) → receivers_at m at ≡ Ok (p ∷ [])
    receivers_found p other found = receivers-one other ∙ ap (λ r. r >>= (λ p. Ok (p ∷ []))) found

    pub receivers_refused : (why : _) → (name.at ≡ 1 → ⊥) → FindsReceiver m at (Err why) → Fails m (receivers_at m at) why
    receivers_refused why other found = (found.0, found.1, receivers-one other ∙ ap (λ r. r >>= (λ p. Ok (p ∷ []))) found.2)

  -- a term that is no atom is a list of names, or is refused as one
  pub receivers_list : (x : Cell) → IsStore m.state.store → seen_cell m.atoms m.state.store x ≡ seen m.atoms m.state.store at.at → IsUnbound m.state.store.pairs x → ((name : AtomId) → x ≡ cell.Atom name → ⊥) → receivers_at m at ≡ left_of m at at
  receivers_list (cell.Int z) store e u other = ap (receivers w) (sym e) ∙ ap (λ t. receivers_in w t t) e
  receivers_list (cell.Comp f first count) store e u other = ap (receivers w) (sym e) ∙ ap (λ t. receivers_in w t t) e
  receivers_list (cell.Atom name) store e u other = absurd (other name refl)
  receivers_list (cell.Var v) store e u other = let var = value-unbound m.atoms m.state.store v store u in ap (receivers w) (sym e ∙ var) ∙ ap (λ t. receivers_in w t t) (sym (sym e ∙ var))

-- ---- a list of names

module _ (m : Machine) (list at : Ref) (whole : list.at < length m.state.store.cells) where
  abbrev w' : World
  w' = world_in m

  abbrev all : Term
  all = seen m.atoms m.state.store list.at

  pub ends_unbound : (v : ℕ) → seen m.atoms m.state.store at.at ≡ Var v → IsNext m list at (next.Refused cause.Unbound)
  ends_unbound v e = (tt, tt, ap (receivers_in w' all) e)

  pub ends_int : (z : ℤ) → seen m.atoms m.state.store at.at ≡ Int z → IsNext m list at (next.Refused (cause.NotList list))
  ends_int z e = (whole, tt, ap (receivers_in w' all) e)

  module _ (is : IsMachine m) (name : AtomId) (within : name.at < length m.atoms) where
    -- an atom
    pub ends_empty : seen m.atoms m.state.store at.at ≡ Atom (name_at m.atoms name.at) → name.at ≡ 1 → IsNext m list at next.End
    ends_empty e one =
        ap (receivers_in w' all) e
        ∙ ap (λ b. if b then Ok [] else Err (type_error "list" all)) (names_eq-start m.atoms is.program.table name.at 1 (codes "[]") within start-empty_list ∙ eq-eqb name.at 1 one)

    pub ends_atom : seen m.atoms m.state.store at.at ≡ Atom (name_at m.atoms name.at) → (name.at ≡ 1 → ⊥) → IsNext m list at (next.Refused (cause.NotList list))
    ends_atom e other = (
      whole,
      tt,
      ap (receivers_in w' all) e
          ∙ ap (λ b. if b then Ok [] else Err (type_error "list" all)) (names_eq-start m.atoms is.program.table name.at 1 (codes "[]") within start-empty_list ∙ ne_eqb name.at 1 other),
    )

    -- a compound that is no list cell
    pub ends_comp : (first : Ref) (count : ℕ) → seen m.atoms m.state.store at.at ≡ seen_cell m.atoms m.state.store (cell.Comp name first count) → (name.at ≡ 0 → count ≡ 2 → ⊥) → IsNext m list at (next.Refused (cause.NotList list))
    ends_comp first count e other = (whole, tt, ap (receivers_in w' all) e ∙ by count other)
      where
        by : (count : ℕ) → (name.at ≡ 0 → count ≡ 2 → ⊥) → receivers_in (world_in m) (seen m.atoms m.state.store list.at) (seen_cell m.atoms m.state.store (cell.Comp name first count)) ≡ Err (type_error "list" (seen m.atoms m.state.store list.at))
        by zero other = refl
        by (suc zero) other = refl
        by (suc (suc zero)) other =
            ap (λ b. if b then (receiver w' (seen m.atoms m.state.store first.at) >>= (λ p. receivers_in w' all (seen m.atoms m.state.store (suc first.at)) >>= (λ ps. Ok (p ∷ ps)))) else Err (type_error "list" all))
            (names_eq-start m.atoms is.program.table name.at 0 (codes ".") within start-list_cell ∙ ne_eqb name.at 0 (λ z. other z refl))
        by (suc (suc (suc n))) other = refl

    -- a list cell
    pub element_is : (first : Ref) (count : ℕ) → seen m.atoms m.state.store at.at ≡ seen_cell m.atoms m.state.store (cell.Comp name first count) → (name.at ≡ 0) × (count ≡ 2) → IsElement m at first
    element_is first count e two =
        e
        ∙ ap (λ k. seen_cell m.atoms m.state.store (cell.Comp name first k)) two.1
        ∙ ap (λ f. Comp f (More (seen m.atoms m.state.store first.at) (More (seen m.atoms m.state.store (suc first.at)) NoMore))) (ap (name_at m.atoms) two.0 ∙ start-name_at m.atoms is.program.table 0 (codes ".") start-list_cell)
        ∙ ap (λ k. Comp (codes ".") (More (seen m.atoms m.state.store first.at) (More (seen m.atoms m.state.store k) NoMore))) (let z : suc first.at ≡ first.at + 1 = omega arith in z)

  module _ (first tail : Ref) (behind : tail.at ≡ first.at + 1) (cells : first.at + 1 < length m.state.store.cells) (e : IsElement m at first) where
    abbrev rest : Checked (List ℕ)
    rest = receivers_in (world_in m) (seen m.atoms m.state.store list.at) (seen m.atoms m.state.store (first.at + 1))

    element-left : left_of m list at ≡ (receiver (world_in m) (seen m.atoms m.state.store first.at) >>= (λ p. receivers_in (world_in m) (seen m.atoms m.state.store list.at) (seen m.atoms m.state.store (first.at + 1)) >>= (λ ps. Ok (p ∷ ps))))
    element-left = ap (receivers_in w' all) e

    -- its element names a process
    pub next_process : (p : ℕ) → FindsReceiver m first (Ok p) → IsNext m list at (next.Process p tail)
    next_process p found = (
      omega (arith, behind, cells),
      (let size = ap term_size e ∙ ap (λ k. 1 + (term_size (seen m.atoms m.state.store first.at) + (term_size (seen m.atoms m.state.store k) + 0))) (sym behind) in omega (arith, size)),
      element-left
          ∙ ap (λ r. r >>= (λ p. rest >>= (λ ps. Ok (p ∷ ps)))) found
          ∙ ap (λ k. receivers_in w' all (seen m.atoms m.state.store k) >>= (λ ps. Ok (p ∷ ps))) (sym behind),
    )

    -- it is refused
    pub next_refused : (why : _) → FindsReceiver m first (Err why) → IsNext m list at (next.Refused why)
    next_refused why found = (found.0, found.1, element-left ∙ ap (λ r. r >>= (λ p. rest >>= (λ ps. Ok (p ∷ ps)))) found.2)

-- ---- all receivers

-- one more was found
pub ahead_more : (found : List ℕ) (p : ℕ) (r : Checked (List ℕ)) → ahead found (ahead (p ∷ []) r) ≡ ahead (found ++ p ∷ []) r
ahead_more found p (Ok ps) = ap Ok (sym (assoc found))
  where
    assoc : (xs : List ℕ) → (xs ++ p ∷ []) ++ ps ≡ xs ++ p ∷ ps
    assoc [] = refl
    assoc (x ∷ xs) = ap (λ ys. x ∷ ys) (assoc xs)
ahead_more found p (Err e) = refl

-- none is left
pub ahead_none : (found : List ℕ) → ahead found (Ok []) ≡ Ok found
ahead_none found = ap Ok (nil found)
  where
    nil : (xs : List ℕ) → xs ++ [] ≡ xs
    nil [] = refl
    nil (x ∷ xs) = ap (λ ys. x ∷ ys) (nil xs)

pub ahead_same : (r : Checked (List ℕ)) → r ≡ ahead [] r
ahead_same (Ok ps) = refl
ahead_same (Err e) = refl
