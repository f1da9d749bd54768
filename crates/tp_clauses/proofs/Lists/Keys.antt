-- What `==` of first arguments and of keys with them tells.
use Rattle.std.proofs.Common.{◌≡◌, nat_eq, Bool, true, false, ◌&&◌, cond, Some, List, sym, refl, ap, ◌∙◌}
use Rattle.std.specs.Cmp.{nat_eq_equiv}
use Rattle.std.specs.Map.{lookup}
use Rattle.std.proofs.lemmas.Bool.{eqb-true}
use Rattle.std.proofs.lemmas.Bool.Decides.{Decides-int_eq}
use Rattle.tp_terms.specs.declared.cells.AtomId.{AtomId}
use Rattle.tp_clauses.specs.Candidates.{same_first_key}
use Rattle.tp_clauses.specs.First.{same_first}
use Rattle.tp_clauses.specs.Indexed.{ids_in, same_key}
use Rattle.tp_clauses.specs.contracts.first.FirstArgPartialEq.TheImpl as arg
use Rattle.tp_clauses.specs.contracts.first.FirstKeyPartialEq.TheImpl as derived
use Rattle.tp_clauses.specs.declared.first.FirstArg.{FirstArg}
use Rattle.tp_clauses.specs.declared.first.FirstArg.TheVariants.{Any, Int, Atom, Comp}
use Rattle.tp_clauses.specs.declared.first.FirstKey.{FirstKey}
use Rattle.tp_clauses.specs.declared.index.Index.{Index}
use Rattle.tp_clauses.specs.declared.kind.Key.{Key}
use Rattle.tp_clauses.proofs.Clauses.Places.{ids_in-ext, lookup-ext, one_key}
use Rattle.tp_clauses.proofs.Lists.Grouped.{same_first-sym}

-- the tests that are derived
abbrev pub derived_arg : FirstArg → FirstArg → Bool
derived_arg f g = arg.ghosts.eq f g

abbrev pub derived_test : FirstKey → FirstKey → Bool
derived_test j k = derived.ghosts.eq j k

-- the derived tests are those of the definitions
pub first_test : (f g : FirstArg) → derived_arg f g ≡ same_first f g
first_test Any Any = refl
first_test Any (Int n) = refl
first_test Any (Atom b) = refl
first_test Any (Comp g n) = refl
first_test (Int m) Any = refl
first_test (Int m) (Int n) = refl
first_test (Int m) (Atom b) = refl
first_test (Int m) (Comp g n) = refl
first_test (Atom a) Any = refl
first_test (Atom a) (Int n) = refl
first_test (Atom a) (Atom b) = refl
first_test (Atom a) (Comp g n) = refl
first_test (Comp f m) Any = refl
first_test (Comp f m) (Int n) = refl
first_test (Comp f m) (Atom b) = refl
first_test (Comp f m) (Comp g n) = refl

-- and so is the one of keys
pub key_test : (j k : FirstKey) → derived_test j k ≡ same_first_key j k
key_test j k = ap (λ b. same_key j.key k.key && b) (first_test j.first k.first)

-- what a map or an index has is the same by either test
pub lookup-keys : {X : Type 0} (k : FirstKey) (es : List (FirstKey × X)) → lookup (derived_test k) es ≡ lookup (same_first_key k) es
lookup-keys k es = lookup-ext (derived_test k) (same_first_key k) (key_test k) es

-- and of an index
pub ids_in-keys : (index : Index FirstKey) (k : FirstKey) → ids_in derived_test index k ≡ ids_in same_first_key index k
ids_in-keys index k = ids_in-ext derived_test same_first_key key_test index k

-- what is there after one insertion
pub put_keys : {X : Type 0} (key : FirstKey) (s : X) (old new : List (FirstKey × X)) → ((k : FirstKey) → lookup (derived_test k) new ≡ cond (derived_test key k) (Some s) (lookup (derived_test k) old)) → (k : FirstKey) → lookup (same_first_key k) new ≡ cond (same_first_key key k) (Some s) (lookup (same_first_key k) old)
put_keys key s old new put k =
    sym (lookup-keys k new) ∙ put k ∙ ap (λ b. cond b (Some s) (lookup (derived_test k) old)) (key_test key k)
    ∙ ap (cond (same_first_key key k) (Some s)) (lookup-keys k old)

-- ---- the same is one

both : (a b : Bool) → (a && b) ≡ true → (a ≡ true) × (b ≡ true)
both true b e = (refl, e)
both false b e = absurd (cc)

one_atom : (a b : AtomId) → nat_eq a.at b.at ≡ true → a ≡ b
one_atom a b e = ap (λ n. let i : AtomId = record { at = n } in i) (eqb-true a.at b.at e)

one_first : (f g : FirstArg) → same_first f g ≡ true → f ≡ g
one_first Any Any e = refl
one_first Any (Int n) e = absurd (cc)
one_first Any (Atom b) e = absurd (cc)
one_first Any (Comp g n) e = absurd (cc)
one_first (Int m) Any e = absurd (cc)
one_first (Int m) (Int n) e = ap Int ((Decides-int_eq m n).0 e)
one_first (Int m) (Atom b) e = absurd (cc)
one_first (Int m) (Comp g n) e = absurd (cc)
one_first (Atom a) Any e = absurd (cc)
one_first (Atom a) (Int n) e = absurd (cc)
one_first (Atom a) (Atom b) e = ap Atom (one_atom a b e)
one_first (Atom a) (Comp g n) e = absurd (cc)
one_first (Comp f m) Any e = absurd (cc)
one_first (Comp f m) (Int n) e = absurd (cc)
one_first (Comp f m) (Atom b) e = absurd (cc)
one_first (Comp f m) (Comp g n) e =
    let h = both (nat_eq f.at g.at) (nat_eq m n) e in
    ap (λ a. Comp a m) (one_atom f g h.0) ∙ ap (Comp g) (eqb-true m n h.1)

-- keys with the same parts are one key
pub one_first_key : (j k : FirstKey) → same_first_key j k ≡ true → j ≡ k
one_first_key j k e =
    let h = both (same_key j.key k.key) (same_first j.first k.first) e in
    let keys : ◌≡◌ {A = FirstKey} (record { key = j.key; first = j.first }) (record { key = k.key; first = k.first }) =
    ap (λ (i : Key). let r : FirstKey = record { key = i; first = j.first } in r) (one_key j.key k.key h.0)
    ∙ ap (λ (f : FirstArg). let r : FirstKey = record { key = k.key; first = f } in r) (one_first j.first k.first h.1) in
    keys

-- both ways
pub first_key-sym : (j k : FirstKey) → same_first_key j k ≡ same_first_key k j
first_key-sym j k =
    ap (λ b. b && same_first j.first k.first) (ap (λ b. b && nat_eq j.key.arity k.key.arity) (nat_eq_equiv.symm j.key.name.at k.key.name.at) ∙ ap (λ b. nat_eq k.key.name.at j.key.name.at && b) (nat_eq_equiv.symm j.key.arity k.key.arity))
    ∙ ap (λ b. same_key k.key j.key && b) (same_first-sym j.first k.first)
