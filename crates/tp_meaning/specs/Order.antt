-- The standard order of terms.
use Rattle.std.specs.declared.cmp.Ordering.{Ordering}
use Rattle.std.specs.declared.cmp.Ordering.TheVariants.{Less, Equal, Greater}
use Rattle.std.specs.Ordering.{ordering_then, nat_cmp, int_cmp}
use Rattle.std.specs.Cmp.Lexicographic.{slice_cmp}
use Rattle.tp_terms.specs.Term.{Name, Term, Terms, Var, Int, Atom, Comp, NoMore, More, count_of}

-- names by their characters from the left
abbrev pub name_cmp : Name → Name → Ordering
name_cmp = slice_cmp nat_cmp

-- Variables by number, then integers by value, then atoms by name, then compounds by number of
-- arguments, then by name, then by arguments from the left.
abbrev mutual
  pub term_cmp : Term → Term → Ordering
  term_cmp (Var v) (Var w) = nat_cmp v w
  term_cmp (Var v) u = Less
  term_cmp t (Var w) = Greater
  term_cmp (Int m) (Int n) = int_cmp m n
  term_cmp (Int m) u = Less
  term_cmp t (Int n) = Greater
  term_cmp (Atom a) (Atom b) = name_cmp a b
  term_cmp (Atom a) u = Less
  term_cmp t (Atom b) = Greater
  term_cmp (Comp f ts) (Comp g us) =
      ordering_then (nat_cmp (count_of ts) (count_of us))
      (ordering_then (name_cmp f g) (terms_cmp ts us))

  pub terms_cmp : Terms → Terms → Ordering
  terms_cmp NoMore NoMore = Equal
  terms_cmp NoMore us = Less
  terms_cmp ts NoMore = Greater
  terms_cmp (More t ts) (More u us) = ordering_then (term_cmp t u) (terms_cmp ts us)
