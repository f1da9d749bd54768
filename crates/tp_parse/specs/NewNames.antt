-- The names of a term, and what a reading adds to a table of names.
use Rattle.std.specs.Prelude.{◌≡◌, Bool, false, ◌||◌, List, ◌++◌, IsTrue}
use Rattle.std.specs.List.{list_all, list_any}
use Rattle.tp_terms.specs.Term.{Name, Term, Terms, Var, Int, Atom, Comp, NoMore, More, names_eq}
use Rattle.tp_parse.specs.Tree as tree
use Rattle.tp_parse.specs.Tree.{Tree, Trees}

-- whether this is the name of an atom or of a compound in the term
abbrev mutual
  pub mentions : Name → Term → Bool
  mentions name (Var v) = false
  mentions name (Int n) = false
  mentions name (Atom a) = names_eq name a
  mentions name (Comp f ts) = names_eq name f || mentions_in name ts

  pub mentions_in : Name → Terms → Bool
  mentions_in name NoMore = false
  mentions_in name (More t ts) = mentions name t || mentions_in name ts

-- the same in a tree
abbrev mutual
  pub writes : Name → Tree → Bool
  writes name (tree.Variable v) = false
  writes name (tree.Integer n) = false
  writes name (tree.Atom a) = names_eq name a
  writes name (tree.Compound f ts) = names_eq name f || writes_in name ts

  pub writes_in : Name → Trees → Bool
  writes_in name tree.none = false
  writes_in name (tree.first_of t ts) = writes name t || writes_in name ts

-- the same in one of these trees
abbrev pub writes_any : Name → List Tree → Bool
writes_any name trees = list_any (writes name) trees

-- the new table is the old one with more names behind it, each of them one of these
pub record AddsOnly (wanted : Name → Bool) (old new : List Name) : Type 0 where
  pub more : List Name
  pub added : new ≡ old ++ more
  pub each : IsTrue (list_all wanted more)
