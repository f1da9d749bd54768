-- What a built-in goal answers, and the rows that go by cases. Arguments are seen under the
-- substitution.
use Rattle.std.specs.Prelude.{ℕ, zero, suc, ◌+◌, Bool, true, false, not, nat_lt, List, [], ◌∷◌, map}
use Rattle.std.specs.Prelude.{length, Some, None, Ok, Err, ℤ, pos, codes, if◌then◌else◌, ◌&&◌, ◌||◌}
use Rattle.tp_terms.specs.Term.{Name, Term, Terms, Var, Atom, Comp, NoMore, More, names_eq}
use Rattle.tp_terms.specs.Term.{count_of, name_term, args_of, arg_at, terms_in, terms_of, atom, nat}
use Rattle.tp_terms.specs.Term.{list_term}
use Rattle.tp_meaning.specs.Subst.{Subst, mgu}
use Rattle.tp_meaning.specs.Checks.{Checked, ◌>>=◌, ◌>>◌, ◌if◌, unbound, type_error, domain_error}
use Rattle.tp_meaning.specs.Checks.{representation_error, bound, integer, name_in, args_in, atomic}
use Rattle.tp_meaning.specs.Checks.{natural, arity_fits}

-- whether a goal succeeds, and then with which substitution and next variable
pub data Answer : Type 0 where
  Yes : Subst → ℕ → Answer
  No : Answer

-- a goal that succeeds exactly where a test holds, and binds nothing
abbrev pub succeeds : Bool → Subst → ℕ → Answer
succeeds true s next = Yes s next
succeeds false s next = No

-- two terms made equal by their most general unifier, where there is one
abbrev pub unifies : Subst → ℕ → Term → Term → Answer
unifies s next a b = elim (mgu s a b) [ None ↦ No | Some u ↦ Yes u next ]

-- two further terms made equal
abbrev pub then_unifies : Answer → Term → Term → Answer
then_unifies No a b = No
then_unifies (Yes s next) a b = unifies s next a b

-- ---- functor

-- so many variables from a number on
abbrev pub variables_from : ℕ → ℕ → Terms
variables_from v zero = NoMore
variables_from v (suc n) = More (Var v) (variables_from (v + 1) n)

-- a term unified with a name, or with the compound of a name and so many new variables
abbrev pub functor_made : Subst → ℕ → Term → Term → ℕ → Checked Answer
functor_made s next t n zero = Ok (unifies s next t n)
functor_made s next t n (suc k) = do
  f ← name_in n
  Ok (unifies s (next + suc k) t (Comp f (variables_from next (suc k))))

-- `functor` of an unbound variable
abbrev pub functor_of_variable : Subst → ℕ → Term → Term → Term → Checked Answer
functor_of_variable s next t n a = do
  bound n
  bound a
  z ← integer a
  atomic n
  k ← natural z
  arity_fits k
  functor_made s next t n k

-- and of any other term
abbrev pub functor_of_known : Subst → ℕ → Term → Term → Term → Answer
functor_of_known s next t n a =
    then_unifies (unifies s next n (name_term t)) a (nat (count_of (args_of t)))

abbrev pub functor : Subst → ℕ → Term → Term → Term → Checked Answer
functor s next (Var v) n a = functor_of_variable s next (Var v) n a
functor s next t n a = Ok (functor_of_known s next t n a)

-- ---- arg

-- the argument of a number from 1
abbrev pub arg_unifies : Subst → ℕ → ℕ → Terms → Term → Answer
arg_unifies s next zero ts x = No
arg_unifies s next (suc k) ts x = elim (arg_at ts k) [ None ↦ No | Some t ↦ unifies s next x t ]

abbrev pub arg : Subst → ℕ → Term → Term → Term → Checked Answer
arg s next n t x = do
  bound n
  bound t
  z ← integer n
  ts ← args_in t
  k ← natural z
  Ok (arg_unifies s next k ts x)

-- ---- =..

-- The elements of a list that ends in `[]`. The first term is the whole list, which is the culprit
-- where the second, a part of it, doesn't end so.
abbrev pub elements : Term → Term → Checked (List Term)
elements whole (Comp f (More h (More t NoMore))) =
    if names_eq f (codes ".") then (do
      es ← elements whole t
      Ok (h ∷ es))
    else Err (type_error "list" whole)
elements whole (Var v) = Err unbound
elements whole (Atom a) = if names_eq a (codes "[]") then Ok [] else Err (type_error "list" whole)
elements whole t = Err (type_error "list" whole)

-- a term unified with that of the name and the arguments in a list
abbrev pub univ_made : Subst → ℕ → Term → List Term → Checked Answer
univ_made s next t [] = Err (domain_error "non_empty_list" (atom "[]"))
univ_made s next t (e ∷ []) = do
  bound e
  atomic e
  Ok (unifies s next t e)
univ_made s next t (e ∷ x ∷ xs) = do
  bound e
  f ← name_in e
  arity_fits (length (x ∷ xs))
  Ok (unifies s next t (Comp f (terms_of (x ∷ xs))))

-- `=..` of an unbound variable
abbrev pub univ_of_variable : Subst → ℕ → Term → Term → Checked Answer
univ_of_variable s next t l = do
  es ← elements l l
  univ_made s next t es

-- the name and the arguments of a term, in a list
abbrev pub parts_list : Term → Term
parts_list t = list_term (name_term t ∷ terms_in (args_of t))

abbrev pub univ : Subst → ℕ → Term → Term → Checked Answer
univ s next (Var v) l = univ_of_variable s next (Var v) l
univ s next t l = Ok (unifies s next l (parts_list t))

-- ---- atom_length

-- unbound, or an integer that isn't negative
abbrev pub length_wanted : Term → Checked (Unit {0})
length_wanted (Var v) = Ok tt
length_wanted n = do
  z ← integer n
  k ← natural z
  Ok tt

abbrev pub atom_length : Subst → ℕ → Term → Term → Checked Answer
atom_length s next a n = do
  bound a
  f ← name_in a
  length_wanted n
  Ok (unifies s next n (nat (length f)))

-- ---- atom_codes

-- whether a number is a character's
abbrev pub is_character : ℕ → Bool
is_character c = nat_lt c 55296 || (nat_lt 57343 c && nat_lt c 1114112)

-- the number of a character
abbrev pub character : ℤ → Checked ℕ
character (pos c) = do
  representation_error "character_code" if not (is_character c)
  Ok c
character z = Err (representation_error "character_code")

-- an element that is the number of a character
abbrev pub character_of : Term → Checked ℕ
character_of t = do
  bound t
  z ← integer t
  character z

-- The characters of a list of their numbers, which ends in `[]`. The first term is the whole list.
abbrev pub characters : Term → Term → Checked Name
characters whole (Comp f (More h (More t NoMore))) =
    if names_eq f (codes ".") then (do
      c ← character_of h
      cs ← characters whole t
      Ok (c ∷ cs))
    else Err (type_error "list" whole)
characters whole (Var v) = Err unbound
characters whole (Atom a) = if names_eq a (codes "[]") then Ok [] else Err (type_error "list" whole)
characters whole t = Err (type_error "list" whole)

-- the numbers of the characters of a name, in a list
abbrev pub codes_list : Name → Term
codes_list name = list_term (map nat name)

-- `atom_codes` of an unbound variable
abbrev pub atom_of_codes : Subst → ℕ → Term → Term → Checked Answer
atom_of_codes s next a l = do
  cs ← characters l l
  Ok (unifies s next a (Atom cs))

abbrev pub atom_codes : Subst → ℕ → Term → Term → Checked Answer
atom_codes s next (Atom a) l = Ok (unifies s next l (codes_list a))
atom_codes s next (Var v) l = atom_of_codes s next (Var v) l
atom_codes s next t l = Err (type_error "atom" t)
