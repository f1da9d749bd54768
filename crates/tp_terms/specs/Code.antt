-- Terms as data that a model's value may hold.
use Rattle.std.specs.Prelude.{◌≡◌, ℕ, zero, suc, List, [], ◌∷◌, ℤ, pos, negsuc, ◌⊎◌, refl}
use Rattle.std.proofs.Common.{inl, inr, ap, ◌∙◌}
use Rattle.std.specs.Coded.{Coded, code_by, coded×, coded_ℕ, coded_ℤ, coded_list}
use Rattle.tp_terms.specs.Term.{Term, Terms, Var, Int, Atom, Comp, NoMore, More}

-- a node of a term, in the order from the root
abbrev pub Node : Type 0
Node = ℕ × (ℤ × List ℕ)

abbrev mutual
  pub nodes : Term → List Node → List Node
  nodes (Var v) rest = (0, (pos v, [])) ∷ rest
  nodes (Int n) rest = (1, (n, [])) ∷ rest
  nodes (Atom a) rest = (2, (pos 0, a)) ∷ rest
  nodes (Comp f ts) rest = (3, (pos 0, f)) ∷ all_nodes ts rest

  pub all_nodes : Terms → List Node → List Node
  all_nodes NoMore rest = (4, (pos 0, [])) ∷ rest
  all_nodes (More t ts) rest = (5, (pos 0, [])) ∷ nodes t (all_nodes ts rest)

-- what stands behind a node, read from the end
abbrev pub Made : Type 0
Made = List (Term ⊎ Terms)

abbrev pub number : ℤ → ℕ
number (pos n) = n
number (negsuc n) = 0

abbrev pub compound : List ℕ → Made → Made
compound f [] = []
compound f (inl t ∷ made) = []
compound f (inr ts ∷ made) = inl (Comp f ts) ∷ made

abbrev pub more_of : Made → Made
more_of (inl t ∷ inr ts ∷ made) = inr (More t ts) ∷ made
more_of _ = []

abbrev pub make : ℕ → ℤ × List ℕ → Made → Made
make zero d made = inl (Var (number d.0)) ∷ made
make (suc zero) d made = inl (Int d.0) ∷ made
make (suc (suc zero)) d made = inl (Atom d.1) ∷ made
make (suc (suc (suc zero))) d made = compound d.1 made
make (suc (suc (suc (suc zero)))) d made = inr NoMore ∷ made
make (suc (suc (suc (suc (suc n))))) d made = more_of made

abbrev pub made_of : List Node → Made
made_of [] = []
made_of (n ∷ ns) = make n.0 n.1 (made_of ns)

abbrev pub first_term : Made → Term
first_term (inl t ∷ made) = t
first_term _ = Var 0

abbrev pub term_of_nodes : List Node → Term
term_of_nodes ns = first_term (made_of ns)

mutual
  pub made-nodes : (t : Term) (rest : List Node) → made_of (nodes t rest) ≡ inl t ∷ made_of rest
  made-nodes (Var v) rest = refl
  made-nodes (Int n) rest = refl
  made-nodes (Atom a) rest = refl
  made-nodes (Comp f ts) rest = ap (compound f) (made-all_nodes ts rest)

  pub made-all_nodes : (ts : Terms) (rest : List Node) →
      made_of (all_nodes ts rest) ≡ inr ts ∷ made_of rest
  made-all_nodes NoMore rest = refl
  made-all_nodes (More t ts) rest =
      ap more_of (made-nodes t (all_nodes ts rest) ∙ ap (λ m. inl t ∷ m) (made-all_nodes ts rest))

pub nodes_back : (t : Term) → term_of_nodes (nodes t []) ≡ t
nodes_back t = ap first_term (made-nodes t [])

abbrev pub term_code : Coded Term
term_code =
    let nodes_coded = coded_list (coded× coded_ℕ (coded× coded_ℤ (coded_list coded_ℕ))) in
    code_by (List Node) nodes_coded (λ t. nodes t []) term_of_nodes nodes_back
