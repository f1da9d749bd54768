-- Terms as they are written: variables by their names, each `_` a variable of its own.
use Rattle.std.specs.Prelude.{ℕ, zero, suc, List, [], ◌∷◌, ℤ, pos, negsuc, codes}
use Rattle.tp_terms.specs.Term.{Name}

mutual
  pub data Tree : Type 0 where
    Variable : List ℕ → Tree
    Integer : ℤ → Tree
    Atom : List ℕ → Tree
    Compound : List ℕ → Trees → Tree

  pub data Trees : Type 0 where
    none : Trees
    first_of : Tree → Trees → Trees

abbrev pub unary : Name → Tree → Tree
unary f t = Compound f (first_of t none)

abbrev pub binary : Name → Tree → Tree → Tree
binary f t u = Compound f (first_of t (first_of u none))

-- lists: the empty one, and one with a first element
abbrev pub empty_list : Tree
empty_list = Atom (codes "[]")

abbrev pub list_cell : Tree → Tree → Tree
list_cell t rest = binary (codes ".") t rest

-- the list of integers
abbrev pub integers : List ℕ → Tree
integers [] = empty_list
integers (n ∷ ns) = list_cell (Integer (pos n)) (integers ns)

abbrev pub minus : ℕ → ℤ
minus zero = pos 0
minus (suc n) = negsuc n
