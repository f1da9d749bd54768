-- Built-in goals bring only the variables that they number.
use Rattle.std.proofs.Common.{ℕ, zero, suc, ◌+◌, ◌≤◌, Bool, true, false, not, ◌||◌, List, [], ◌∷◌, map, length, Option, Some, None, Ok, Err, IfOk, IfSome, ℤ, is_none, arith, if◌then◌else◌, codes}
use Rattle.std.specs.List.{AllByRecursion}
use Rattle.tp_terms.specs.Term.{Term, Terms, Var, Int, Atom, Comp, NoMore, More, names_eq, count_of, name_term, args_of, arg_at, terms_in, terms_of, nat, list_term}
use Rattle.tp_meaning.specs.Subst.{Subst, mgu}
use Rattle.tp_meaning.specs.Copy.{copy_of}
use Rattle.tp_meaning.specs.Arith.{compared, value}
use Rattle.tp_meaning.specs.Checks.{Checked, ◌>>=◌, bound, integer, name_in, args_in, atomic, natural, arity_fits, type_error}
use Rattle.tp_meaning.specs.Answers as b
use Rattle.tp_meaning.specs.Answers.{Answer, Yes, No, succeeds, unifies, then_unifies, variables_from, elements, characters, functor_made, functor_of_known, arg_unifies, univ_made, univ, parts_list, length_wanted, codes_list}
use Rattle.tp_meaning.specs.Builtin.{is_variable, is_atom, is_integer, is_compound, compares, is_value, of_one, of_two, of_three, of_args}
use Rattle.tp_meaning.specs.declared.goals.BuiltId.{BuiltId}
use Rattle.tp_meaning.specs.declared.goals.BuiltId.TheVariants as id
use Rattle.tp_meaning.specs.Valid.{Below, AllBelow}
use Rattle.tp_meaning.proofs.ValidWorlds.Keeps.{after-ok, after-check}
use Rattle.tp_meaning.proofs.Unification.Under.{Unifies, mgu-unifies, below-more, bound-more}
use Rattle.tp_meaning.proofs.HeapsGrow.Copies.{copy-below}

-- an answer's substitution has only variables that are in use then
abbrev pub AnswerFits : ℕ → Answer → Type 0
AnswerFits next (Yes u n) = (next ≤ n) × Unifies n u
AnswerFits next No = Unit {0}

-- a value of which nothing more is said
always-ok : {A : Type 0} (r : Checked A) → IfOk r (λ x. Unit {0})
always-ok (Ok x) = tt
always-ok (Err e) = tt

-- ---- terms that are built

name-below : (n : ℕ) (t : Term) → Below n t → Below n (name_term t)
name-below n (Var v) h = h
name-below n (Int z) h = h
name-below n (Atom a) h = h
name-below n (Comp f ts) h = tt

args-below : (n : ℕ) (t : Term) → Below n t → AllBelow n (args_of t)
args-below n (Var v) h = tt
args-below n (Int z) h = tt
args-below n (Atom a) h = tt
args-below n (Comp f ts) h = h

arg_at-below : (n : ℕ) (ts : Terms) (k : ℕ) → AllBelow n ts → IfSome (arg_at ts k) (Below n)
arg_at-below n NoMore k h = tt
arg_at-below n (More t ts) zero h = h.0
arg_at-below n (More t ts) (suc k) h = arg_at-below n ts k h.1

abbrev EachBelow : ℕ → List Term → Type 0
EachBelow n = AllByRecursion (Below n)

terms_in-below : (n : ℕ) (ts : Terms) → AllBelow n ts → EachBelow n (terms_in ts)
terms_in-below n NoMore h = tt
terms_in-below n (More t ts) h = (h.0, terms_in-below n ts h.1)

terms_of-below : (n : ℕ) (ts : List Term) → EachBelow n ts → AllBelow n (terms_of ts)
terms_of-below n [] h = tt
terms_of-below n (t ∷ ts) h = (h.0, terms_of-below n ts h.1)

list-below : (n : ℕ) (ts : List Term) → EachBelow n ts → Below n (list_term ts)
list-below n [] h = tt
list-below n (t ∷ ts) h = (h.0, (list-below n ts h.1, tt))

numbers-below : (n : ℕ) (ns : List ℕ) → EachBelow n (map nat ns)
numbers-below n [] = tt
numbers-below n (x ∷ xs) = (tt, numbers-below n xs)

variables-below : (n v k : ℕ) → v + k ≤ n → AllBelow n (variables_from v k)
variables-below n v zero le = tt
variables-below n v (suc k) le = (omega arith, variables-below n (v + 1) k (omega arith))

at_end : (n : ℕ) (c : Bool) (e : Term) → IfOk (if c then Ok [] else Err e) (EachBelow n)
at_end n true e = tt
at_end n false e = tt

elements-below : (n : ℕ) (whole t : Term) → Below n t → IfOk (elements whole t) (EachBelow n)
elements-below n whole (Comp f (More h (More t NoMore))) x = go (names_eq f (codes ".")) (elements-below n whole t x.1.0)
  where
    go : (c : Bool) → IfOk (elements whole t) (EachBelow n) → IfOk (if c then (elements whole t >>= (λ es. Ok (h ∷ es))) else Err (type_error "list" whole)) (EachBelow n)
    go true r = after-ok (EachBelow n) (EachBelow n) (elements whole t) _ r (λ es y. (x.0, y))
    go false r = tt
elements-below n whole (Var v) x = tt
elements-below n whole (Atom a) x = at_end n (names_eq a (codes "[]")) (type_error "list" whole)
elements-below n whole t x = tt

-- ---- answers

succeeds-fits : (c : Bool) (s : Subst) (next : ℕ) → Unifies next s → AnswerFits next (succeeds c s next)
succeeds-fits true s next u = (omega arith, u)
succeeds-fits false s next u = tt

unifies-fit : (s : Subst) (next n : ℕ) (x y : Term) → next ≤ n → Unifies n s → Below n x → Below n y → AnswerFits next (unifies s n x y)
unifies-fit s next n x y le u bx by = go (mgu s x y) (mgu-unifies n s x y bx by u.bound u.is_subst)
  where
    go : (o : Option Subst) → IfSome o (Unifies n) → AnswerFits next (elim o [ None ↦ No | Some u ↦ Yes u n ])
    go None h = tt
    go (Some u) h = (le, h)

then-fit : (next : ℕ) (a : Answer) (x y : Term) → AnswerFits next a → Below next x → Below next y → AnswerFits next (then_unifies a x y)
then-fit next No x y h bx by = tt
then-fit next (Yes u n) x y h bx by = unifies-fit u next n x y h.0 h.1 (below-more next n x h.0 bx) (below-more next n y h.0 by)

more : (next n : ℕ) (s : Subst) → next ≤ n → Unifies next s → Unifies n s
more next n s le u = record { bound = bound-more next n s le u.bound; is_subst = u.is_subst }

Fits : ℕ → Checked Answer → Type 0
Fits next r = IfOk r (AnswerFits next)

functor_made-fits : (s : Subst) (next : ℕ) (t n : Term) (k : ℕ) → Unifies next s → Below next t → Below next n → IfOk (functor_made s next t n k) (AnswerFits next)
functor_made-fits s next t n zero u bt bn = unifies-fit s next next t n (omega arith) u bt bn
functor_made-fits s next t n (suc k) u bt bn =
    after-ok (λ f. Unit {0}) (AnswerFits next) (name_in n) _ (always-ok (name_in n)) (λ f _.
    unifies-fit s next (next + suc k) t (Comp f (variables_from next (suc k))) (omega arith) (more next (next + suc k) s (omega arith) u) (below-more next (next + suc k) t (omega arith) bt) (variables-below (next + suc k) next (suc k) (omega arith)))

functor_known : (s : Subst) (next : ℕ) (t n a : Term) → Unifies next s → Below next t → Below next n → Below next a → AnswerFits next (functor_of_known s next t n a)
functor_known s next t n a u bt bn ba = then-fit next (unifies s next n (name_term t)) a (nat (count_of (args_of t))) (unifies-fit s next next n (name_term t) (omega arith) u bn (name-below next t bt)) ba tt

functor-fits : (s : Subst) (next : ℕ) (t n a : Term) → Unifies next s → Below next t → Below next n → Below next a → IfOk (b.functor s next t n a) (AnswerFits next)
functor-fits s next (Var v) n a u bt bn ba =
    after-check Q (bound n) _ (after-check Q (bound a) _ (after-ok (λ z. Unit {0}) Q (integer a) _ (always-ok (integer a)) (λ z _.
    after-check Q (atomic n) _ (after-ok (λ k. Unit {0}) Q (natural z) _ (always-ok (natural z)) (λ k _.
    after-check Q (arity_fits k) _ (functor_made-fits s next (Var v) n k u bt bn))))))
  where
    Q : Answer → Type 0
    Q = AnswerFits next
functor-fits s next (Int z) n a u bt bn ba = functor_known s next (Int z) n a u bt bn ba
functor-fits s next (Atom f) n a u bt bn ba = functor_known s next (Atom f) n a u bt bn ba
functor-fits s next (Comp f ts) n a u bt bn ba = functor_known s next (Comp f ts) n a u bt bn ba

arg_unifies-fits : (s : Subst) (next k : ℕ) (ts : Terms) (x : Term) → Unifies next s → AllBelow next ts → Below next x → AnswerFits next (arg_unifies s next k ts x)
arg_unifies-fits s next zero ts x u bt bx = tt
arg_unifies-fits s next (suc k) ts x u bt bx = go (arg_at ts k) (arg_at-below next ts k bt)
  where
    go : (o : Option Term) → IfSome o (Below next) → AnswerFits next (elim o [ None ↦ No | Some t ↦ unifies s next x t ])
    go None h = tt
    go (Some t) h = unifies-fit s next next x t (omega arith) u bx h

args_in-below : (n : ℕ) (t : Term) → Below n t → IfOk (args_in t) (AllBelow n)
args_in-below n (Var v) h = tt
args_in-below n (Int z) h = tt
args_in-below n (Atom a) h = tt
args_in-below n (Comp f ts) h = h

arg-fits : (s : Subst) (next : ℕ) (n t x : Term) → Unifies next s → Below next t → Below next x → IfOk (b.arg s next n t x) (AnswerFits next)
arg-fits s next n t x u bt bx =
    after-check Q (bound n) _ (after-check Q (bound t) _ (after-ok (λ z. Unit {0}) Q (integer n) _ (always-ok (integer n)) (λ z _.
    after-ok (AllBelow next) Q (args_in t) _ (args_in-below next t bt) (λ ts bts. after-ok (λ k. Unit {0}) Q (natural z) _ (always-ok (natural z)) (λ k _.
    arg_unifies-fits s next k ts x u bts bx)))))
  where
    Q : Answer → Type 0
    Q = AnswerFits next

univ_made-fits : (s : Subst) (next : ℕ) (t : Term) (es : List Term) → Unifies next s → Below next t → EachBelow next es → IfOk (univ_made s next t es) (AnswerFits next)
univ_made-fits s next t [] u bt be = tt
univ_made-fits s next t (e ∷ []) u bt be = after-check (AnswerFits next) (bound e) _ (after-check (AnswerFits next) (atomic e) _ (unifies-fit s next next t e (omega arith) u bt be.0))
univ_made-fits s next t (e ∷ x ∷ xs) u bt be =
    after-check (AnswerFits next) (bound e) _ (after-ok (λ f. Unit {0}) (AnswerFits next) (name_in e) _ (always-ok (name_in e)) (λ f _.
    after-check (AnswerFits next) (arity_fits (length (x ∷ xs))) _ (unifies-fit s next next t (Comp f (terms_of (x ∷ xs))) (omega arith) u bt (terms_of-below next (x ∷ xs) be.1))))

univ_known : (s : Subst) (next : ℕ) (t l : Term) → Unifies next s → Below next t → Below next l → AnswerFits next (unifies s next l (parts_list t))
univ_known s next t l u bt bl = unifies-fit s next next l (parts_list t) (omega arith) u bl (list-below next (name_term t ∷ terms_in (args_of t)) (name-below next t bt, terms_in-below next (args_of t) (args-below next t bt)))

univ-fits : (s : Subst) (next : ℕ) (t l : Term) → Unifies next s → Below next t → Below next l → IfOk (univ s next t l) (AnswerFits next)
univ-fits s next (Var v) l u bt bl = after-ok (EachBelow next) (AnswerFits next) (elements l l) _ (elements-below next l l bl) (λ es be. univ_made-fits s next (Var v) es u bt be)
univ-fits s next (Int z) l u bt bl = univ_known s next (Int z) l u bt bl
univ-fits s next (Atom a) l u bt bl = univ_known s next (Atom a) l u bt bl
univ-fits s next (Comp f ts) l u bt bl = univ_known s next (Comp f ts) l u bt bl

atom_length-fits : (s : Subst) (next : ℕ) (a n : Term) → Unifies next s → Below next n → IfOk (b.atom_length s next a n) (AnswerFits next)
atom_length-fits s next a n u bn =
    after-check (AnswerFits next) (bound a) _ (after-ok (λ f. Unit {0}) (AnswerFits next) (name_in a) _ (always-ok (name_in a)) (λ f _.
    after-check (AnswerFits next) (length_wanted n) _ (unifies-fit s next next n (nat (length f)) (omega arith) u bn tt)))

atom_codes-fits : (s : Subst) (next : ℕ) (a l : Term) → Unifies next s → Below next a → Below next l → IfOk (b.atom_codes s next a l) (AnswerFits next)
atom_codes-fits s next (Atom a) l u ba bl = unifies-fit s next next l (codes_list a) (omega arith) u bl (list-below next (map nat a) (numbers-below next a))
atom_codes-fits s next (Var v) l u ba bl = after-ok (λ cs. Unit {0}) (AnswerFits next) (characters l l) _ (always-ok (characters l l)) (λ cs _. unifies-fit s next next (Var v) (Atom cs) (omega arith) u ba tt)
atom_codes-fits s next (Int z) l u ba bl = tt
atom_codes-fits s next (Comp f ts) l u ba bl = tt

compares-fits : (test : ℤ → ℤ → Bool) (s : Subst) (next : ℕ) (x y : Term) → Unifies next s → IfOk (compares test s next x y) (AnswerFits next)
compares-fits test s next x y u =
    after-ok (λ b. Unit {0}) (AnswerFits next) (compared test s x y) _ (always-ok (compared test s x y)) (λ b _. succeeds-fits b s next u)

is-fits : (s : Subst) (next : ℕ) (x e : Term) → Unifies next s → Below next x → IfOk (is_value s next x e) (AnswerFits next)
is-fits s next x e u bx = after-ok (λ a. Unit {0}) (AnswerFits next) (value s e) _ (always-ok (value s e)) (λ z _. unifies-fit s next next x (Int z) (omega arith) u bx tt)

copy-fits : (s : Subst) (next : ℕ) (t c : Term) → Unifies next s → Below next c → AnswerFits next (unifies s (next + (copy_of next t).1) c (copy_of next t).0)
copy-fits s next t c u bc = unifies-fit s next (next + (copy_of next t).1) c (copy_of next t).0 (omega arith) (more next (next + (copy_of next t).1) s (omega arith) u) (below-more next (next + (copy_of next t).1) c (omega arith) bc) (copy-below next t)

of_one-fits : (i : BuiltId) (s : Subst) (next : ℕ) (x : Term) → Unifies next s → IfOk (of_one i s next x) (AnswerFits next)
of_one-fits id.Var s next x u = succeeds-fits (is_variable x) s next u
of_one-fits id.Nonvar s next x u = succeeds-fits (not (is_variable x)) s next u
of_one-fits id.Atom s next x u = succeeds-fits (is_atom x) s next u
of_one-fits id.Integer s next x u = succeeds-fits (is_integer x) s next u
of_one-fits id.Atomic s next x u = succeeds-fits (is_atom x || is_integer x) s next u
of_one-fits id.Compound s next x u = succeeds-fits (is_compound x) s next u
of_one-fits id.Callable s next x u = succeeds-fits (is_atom x || is_compound x) s next u
of_one-fits _ s next x u = tt

of_two-fits : (i : BuiltId) (s : Subst) (next : ℕ) (x y : Term) → Unifies next s → Below next x → Below next y → IfOk (of_two i s next x y) (AnswerFits next)
of_two-fits id.Unify s next x y u bx by = unifies-fit s next next x y (omega arith) u bx by
of_two-fits id.NotUnifiable s next x y u bx by = succeeds-fits (is_none (mgu s x y)) s next u
of_two-fits id.Same s next x y u bx by = succeeds-fits _ s next u
of_two-fits id.NotSame s next x y u bx by = succeeds-fits _ s next u
of_two-fits id.Before s next x y u bx by = succeeds-fits _ s next u
of_two-fits id.BeforeOrSame s next x y u bx by = succeeds-fits _ s next u
of_two-fits id.After s next x y u bx by = succeeds-fits _ s next u
of_two-fits id.AfterOrSame s next x y u bx by = succeeds-fits _ s next u
of_two-fits id.Is s next x y u bx by = is-fits s next x y u bx
of_two-fits id.NumberEqual s next x y u bx by = compares-fits _ s next x y u
of_two-fits id.NumberUnequal s next x y u bx by = compares-fits _ s next x y u
of_two-fits id.Less s next x y u bx by = compares-fits _ s next x y u
of_two-fits id.LessEqual s next x y u bx by = compares-fits _ s next x y u
of_two-fits id.Greater s next x y u bx by = compares-fits _ s next x y u
of_two-fits id.GreaterEqual s next x y u bx by = compares-fits _ s next x y u
of_two-fits id.Univ s next x y u bx by = univ-fits s next x y u bx by
of_two-fits id.CopyTerm s next x y u bx by = copy-fits s next x y u by
of_two-fits id.AtomLength s next x y u bx by = atom_length-fits s next x y u by
of_two-fits id.AtomCodes s next x y u bx by = atom_codes-fits s next x y u bx by
of_two-fits _ s next x y u bx by = tt

of_three-fits : (i : BuiltId) (s : Subst) (next : ℕ) (x y z : Term) → Unifies next s → Below next x → Below next y → Below next z → IfOk (of_three i s next x y z) (AnswerFits next)
of_three-fits id.Functor s next x y z u bx by bz = functor-fits s next x y z u bx by bz
of_three-fits id.Arg s next x y z u bx by bz = arg-fits s next x y z u by bz
of_three-fits _ s next x y z u bx by bz = tt

-- What a built-in answers of arguments that have only variables in use fits.
pub of_args-fits : (i : BuiltId) (s : Subst) (next : ℕ) (ts : Terms) → Unifies next s → AllBelow next ts → IfOk (of_args i s next ts) (AnswerFits next)
of_args-fits i s next NoMore u h = tt
of_args-fits i s next (More x NoMore) u h = of_one-fits i s next x u
of_args-fits i s next (More x (More y NoMore)) u h = of_two-fits i s next x y u h.0 h.1.0
of_args-fits i s next (More x (More y (More z NoMore))) u h = of_three-fits i s next x y z u h.0 h.1.0 h.1.1.0
of_args-fits i s next (More x (More y (More z (More w ts)))) u h = tt
