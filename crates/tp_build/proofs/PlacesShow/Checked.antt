-- Checks of a term by the cell that its place shows.
use Rattle.std.proofs.Common.{◌≡◌, ◌<◌, ℕ, ℤ, Ok, Err, length, refl, sym, ap, subst, ◌∙◌}
use Rattle.tp_terms.specs.declared.cells.AtomId.{AtomId}
use Rattle.tp_terms.specs.Term.{Var}
use Rattle.tp_terms.specs.Shown.{name_at}
use Rattle.tp_meaning.specs.Answers.{length_wanted}
use Rattle.tp_build.specs.declared.errors.Fault as errors
use Rattle.tp_build.specs.Names.{IsUnnamed, Measures}
use Rattle.tp_terms.specs.declared.cells.Cell.{Cell}
use Rattle.tp_terms.specs.declared.cells.Cell.TheVariants as cell
use Rattle.tp_meaning.specs.Checks.{Checked, ◌>>=◌, ◌>>◌, atomic, bound, integer, name_in, args_in, type_error}
use Rattle.tp_meaning.specs.Heap.{Heap, IsTop, IsUnbound, seen, cell_seen}
use Rattle.tp_meaning.proofs.Unification.Solved.{unbound}
use Rattle.tp_build.specs.declared.errors.WantedType.TheVariants as type
use Rattle.tp_build.specs.declared.errors.Fault.TheVariants as fault
use Rattle.tp_build.specs.Errors.{IsFault}
use Rattle.tp_build.specs.Rows.{IsSimple}

pub bound-variable : (h : Heap) (at v : ℕ) (c : Cell) → c ≡ cell.Var v → IsTop h at c → IsFault h (bound (seen h at)) fault.Unbound
bound-variable h at v c e t =
    let u : IsTop h at (cell.Var v) = subst (IsTop h at) e t in
    record { kind = subst (λ x. bound x ≡ bound (cell_seen h (cell.Var v))) u.same refl ∙ ap bound (unbound v h.subst u.unbound); stands = tt }

integer-none : (h : Heap) (c : Cell) → IsUnbound h.subst c → ((z : ℤ) → c ≡ cell.Int z → ⊥) → integer (cell_seen h c) ≡ Err (type_error "integer" (cell_seen h c))
integer-none h (cell.Var v) u other = subst (λ x. integer x ≡ Err (type_error "integer" x)) (sym (unbound v h.subst u)) refl
integer-none h (cell.Int z) u other = absurd (other z refl)
integer-none h (cell.Atom a) u other = refl
integer-none h (cell.Comp f first count) u other = refl

pub integer-other : (h : Heap) (at : ℕ) (c : Cell) → ((z : ℤ) → c ≡ cell.Int z → ⊥) → IsTop h at c → IsFault h (integer (seen h at)) (fault.Type type.Integer c)
integer-other h at c other t = record {
  kind = subst (λ x. integer x ≡ Err (type_error "integer" (cell_seen h c))) t.same (integer-none h c t.unbound other);
  stands = t.stands;
}

args-none : (h : Heap) (c : Cell) → IsUnbound h.subst c → IsSimple c → args_in (cell_seen h c) ≡ Err (type_error "compound" (cell_seen h c))
args-none h (cell.Var v) u other = subst (λ x. args_in x ≡ Err (type_error "compound" x)) (sym (unbound v h.subst u)) refl
args-none h (cell.Int z) u other = refl
args-none h (cell.Atom a) u other = refl
args-none h (cell.Comp f first count) u other = absurd (other f first count refl)

pub args-other : (h : Heap) (at : ℕ) (c : Cell) → IsSimple c → IsTop h at c → IsFault h (args_in (seen h at)) (fault.Type type.Compound c)
args-other h at c other t = record {
  kind = subst (λ x. args_in x ≡ Err (type_error "compound" (cell_seen h c))) t.same (args-none h c t.unbound other);
  stands = t.stands;
}

-- ---- checks in order

-- a check that holds gives what follows
pub past : {A : Type 0} (c : Checked (Unit {0})) (r : Checked A) → c ≡ Ok tt → (c >> r) ≡ r
past c r e = ap (λ d. d >> r) e

-- a check that gives a value gives what follows of it
pub past-value : {A B : Type 0} (c : Checked A) (g : A → Checked B) (a : A) → c ≡ Ok a → (c >>= g) ≡ g a
past-value c g a e = ap (λ d. d >>= g) e

-- a check that fails is the whole's error
pub fails : {A : Type 0} (h : Heap) (c : Checked (Unit {0})) (r : Checked A) (f : errors.Fault) → IsFault h c f → IsFault h (c >> r) f
fails h c r f i = record { kind = ap (λ d. d >> r) i.kind; stands = i.stands }

-- a check without a value is the whole's error
pub fails-value : {A B : Type 0} (h : Heap) (c : Checked A) (g : A → Checked B) (f : errors.Fault) → IsFault h c f → IsFault h (c >>= g) f
fails-value h c g f i = record { kind = ap (λ d. d >>= g) i.kind; stands = i.stands }

-- and so is one behind a check that holds
pub later : {A : Type 0} (h : Heap) (c : Checked (Unit {0})) (r : Checked A) (f : errors.Fault) → c ≡ Ok tt → IsFault h r f → IsFault h (c >> r) f
later h c r f e i = record { kind = past c r e ∙ i.kind; stands = i.stands }

-- and so is one behind a value
pub later-value : {A B : Type 0} (h : Heap) (c : Checked A) (g : A → Checked B) (a : A) (f : errors.Fault) → c ≡ Ok a → IsFault h (g a) f → IsFault h (c >>= g) f
later-value h c g a f e i = record { kind = past-value c g a e ∙ i.kind; stands = i.stands }

-- ---- names

-- an atom's name, by its cell
pub name-found : (h : Heap) (at : ℕ) (c : Cell) (name : AtomId) → c ≡ cell.Atom name → IsTop h at c → name_in (seen h at) ≡ Ok (name_at h.names name.at)
name-found h at c name e t =
    let u : IsTop h at (cell.Atom name) = subst (IsTop h at) e t in
    subst (λ x. name_in x ≡ Ok (name_at h.names name.at)) u.same refl

-- it is in the table
pub name-within : (h : Heap) (at : ℕ) (c : Cell) (name : AtomId) → c ≡ cell.Atom name → IsTop h at c → name.at < length h.names
name-within h at c name e t = let u : IsTop h at (cell.Atom name) = subst (IsTop h at) e t in u.stands.named

name-none : (h : Heap) (c : Cell) → IsUnbound h.subst c → IsUnnamed c → name_in (cell_seen h c) ≡ Err (type_error "atom" (cell_seen h c))
name-none h (cell.Var v) u other = subst (λ x. name_in x ≡ Err (type_error "atom" x)) (sym (unbound v h.subst u)) refl
name-none h (cell.Int z) u other = refl
name-none h (cell.Atom a) u other = absurd (other a refl)
name-none h (cell.Comp f first count) u other = refl

-- any other cell has none
pub name-other : (h : Heap) (at : ℕ) (c : Cell) → IsUnnamed c → IsTop h at c → IsFault h (name_in (seen h at)) (fault.Type type.Atom c)
name-other h at c other t = record {
  kind = subst (λ x. name_in x ≡ Err (type_error "atom" (cell_seen h c))) t.same (name-none h c t.unbound other);
  stands = t.stands;
}

-- ---- no compound

atomic-none : (h : Heap) (c : Cell) → IsUnbound h.subst c → IsSimple c → atomic (cell_seen h c) ≡ Ok tt
atomic-none h (cell.Var v) u other = subst (λ x. atomic x ≡ Ok tt) (sym (unbound v h.subst u)) refl
atomic-none h (cell.Int z) u other = refl
atomic-none h (cell.Atom a) u other = refl
atomic-none h (cell.Comp f first count) u other = absurd (other f first count refl)

-- a cell that is no compound passes
pub atomic-found : (h : Heap) (at : ℕ) (c : Cell) → IsSimple c → IsTop h at c → atomic (seen h at) ≡ Ok tt
atomic-found h at c other t = subst (λ x. atomic x ≡ Ok tt) t.same (atomic-none h c t.unbound other)

-- the term of a variable's cell
pub seen-variable : (h : Heap) (at v : ℕ) (c : Cell) → c ≡ cell.Var v → IsTop h at c → seen h at ≡ Var v
seen-variable h at v c e t =
    let u : IsTop h at (cell.Var v) = subst (IsTop h at) e t in
    sym u.same ∙ unbound v h.subst u.unbound

-- ---- atom_length

-- what is no atom has no length
pub measures-no_name : (h : Heap) (a n : ℕ) (c : Cell) (f : errors.Fault) → bound (seen h a) ≡ Ok tt → f ≡ fault.Type type.Atom c → IsUnnamed c → IsTop h a c → Measures h a n (Err f)
measures-no_name h a n c f e1 e other top s next =
    later h (bound (seen h a)) _ f e1 (fails-value h (name_in (seen h a)) _ f (subst (IsFault h (name_in (seen h a))) (sym e) (name-other h a c other top)))

-- any length is wanted of an unbound one
pub length-unbound : (h : Heap) (at v : ℕ) (c : Cell) → c ≡ cell.Var v → IsTop h at c → length_wanted (seen h at) ≡ Ok tt
length-unbound h at v c e t = ap length_wanted (seen-variable h at v c e t)
