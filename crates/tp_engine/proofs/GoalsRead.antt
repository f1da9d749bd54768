-- The variables of a goal that was read: each number is below the number of all.
use Rattle.std.proofs.Common.{◌≡◌, ℕ, zero, suc, ◌+◌, ◌<◌, ◌≤◌, Bool, true, false, cond, ◌||◌, List, [], ◌∷◌, ◌++◌, map, length, Option, Some, None, Result, Ok, Err, refl, sym, ap, subst, ◌∙◌, arith, codes}
use Rattle.std.specs.Prelude.{All}
use Rattle.std.specs.List.{AllByRecursion}
use Rattle.std.proofs.lemmas.Bool.{eqb-true}
use Rattle.tp_terms.specs.Term as term
use Rattle.tp_terms.specs.Term.{Name, Term, Terms, names_eq, occurs, occurs_in}
use Rattle.tp_terms.specs.declared.text.Named.{Named}
use Rattle.tp_terms.proofs.Places.Bound.{occurs-shows}
use Rattle.tp_lex.specs.Tokens.{Lexed, goal_tokens}
use Rattle.tp_lex.specs.declared.token.LexFault.{LexFault}
use Rattle.tp_parse.specs.Tree.{Tree, Variable, Integer, Atom, Compound, Trees, none, first_of}
use Rattle.tp_parse.specs.Numbers.{Numbers, no_numbers, number_in, number_of, known_number, numbered, all_numbered}
use Rattle.tp_parse.specs.Reading.{Read, goal_reading}
use Rattle.tp_parse.specs.Table.{Table}
use Rattle.tp_parse.specs.Tells.{Tells, named_of}
use Rattle.tp_parse.specs.Texts.{Found, Refusal, goal_of, goal_in, goal_by, found_by, last_byte}
use Rattle.tp_parse.specs.declared.read.ReadTerm.{ReadTerm}
use Rattle.tp_machine.specs.Program.{GoalFits}

-- ---- numbers

abbrev AreBelow : ℕ → List (Name × ℕ) → Type 0
AreBelow n = AllByRecursion (λ (x : Name × ℕ). x.1 < n)

abbrev IsNumbers : Numbers → Type 0
IsNumbers s = AreBelow s.vars s.named

below-longer : (m n : ℕ) (xs : List (Name × ℕ)) → m ≤ n → AreBelow m xs → AreBelow n xs
below-longer m n [] le h = tt
below-longer m n (x ∷ xs) le h = (let lt : x.1 < m = h.0 in omega arith, below-longer m n xs le h.1)

below-push : (n : ℕ) (xs : List (Name × ℕ)) (x : Name × ℕ) → AreBelow n xs → x.1 < n → AreBelow n (xs ++ x ∷ [])
below-push n [] x h lt = (lt, tt)
below-push n (y ∷ xs) x h lt = (h.0, below-push n xs x h.1 lt)

below-found : (n : ℕ) (xs : List (Name × ℕ)) (name : Name) (v : ℕ) → AreBelow n xs → number_in xs name ≡ Some v → v < n
below-found n [] name v h e = absurd (cc)
below-found n (x ∷ xs) name v h e = by (below-found n xs name v h.1) (names_eq name x.0) refl
  where
    same_number : (y : ℕ) → Some y ≡ Some v → y ≡ v
    same_number y is = cc

    by : (number_in xs name ≡ Some v → v < n) → (b : Bool) → names_eq name x.0 ≡ b → v < n
    by again true is = subst (λ y. y < n) (same_number x.1 (ap (λ b. cond b (Some x.1) (number_in xs name)) (sym is) ∙ e)) h.0
    by again false is = again (ap (λ b. cond b (Some x.1) (number_in xs name)) (sym is) ∙ e)

-- a number, and the numbers with it
record Given (s : Numbers) (r : ℕ × Numbers) : Type 0 where
  more : s.vars ≤ r.1.vars
  numbers : IsNumbers r.1
  below : r.0 < r.1.vars

known-given : (name : Name) (s : Numbers) → IsNumbers s → (o : Option ℕ) → number_in s.named name ≡ o → Given s (known_number name s o)
known-given name s h None e = record {
  more = omega arith;
  numbers = below-push (s.vars + 1) s.named (name, s.vars) (below-longer s.vars (s.vars + 1) s.named (omega arith) h) (omega arith);
  below = omega arith;
}
known-given name s h (Some v) e = record { more = omega arith; numbers = h; below = below-found s.vars s.named name v h e }

given : (name : Name) (s : Numbers) → IsNumbers s → Given s (number_of name s)
given name s h = by (names_eq name (codes "_"))
  where
    by : (b : Bool) → Given s (cond b (s.vars, record { named = s.named; vars = s.vars + 1 }) (known_number name s (number_in s.named name)))
    by true = record { more = omega arith; numbers = below-longer s.vars (s.vars + 1) s.named (omega arith) h; below = omega arith }
    by false = known-given name s h (number_in s.named name) refl

-- ---- terms

record Made (s : Numbers) (r : Term × Numbers) : Type 0 where
  more : s.vars ≤ r.1.vars
  numbers : IsNumbers r.1
  below : (v : ℕ) → occurs v r.0 ≡ true → v < r.1.vars

record AllMade (s : Numbers) (r : Terms × Numbers) : Type 0 where
  more : s.vars ≤ r.1.vars
  numbers : IsNumbers r.1
  below : (v : ℕ) → occurs_in v r.0 ≡ true → v < r.1.vars

var-below : (v w n : ℕ) → occurs v (term.Var w) ≡ true → w < n → v < n
var-below v w n e lt = let same : v ≡ w = eqb-true v w e in omega arith

or_split : (a b : Bool) (P : Type 0) → (a || b) ≡ true → (a ≡ true → P) → (b ≡ true → P) → P
or_split true b P e f g = f refl
or_split false b P e f g = g e

mutual
  made : (t : Tree) (s : Numbers) → IsNumbers s → Made s (numbered t s)
  made (Variable x) s h =
      let g = given x s h in
      record { more = g.more; numbers = g.numbers; below = λ v e. var-below v (number_of x s).0 (number_of x s).1.vars e g.below }
  made (Integer z) s h = record { more = omega arith; numbers = h; below = λ v e. absurd (cc) }
  made (Atom a) s h = record { more = omega arith; numbers = h; below = λ v e. absurd (cc) }
  made (Compound f ts) s h = let g = all_made ts s h in record { more = g.more; numbers = g.numbers; below = g.below }

  all_made : (ts : Trees) (s : Numbers) → IsNumbers s → AllMade s (all_numbered ts s)
  all_made none s h = record { more = omega arith; numbers = h; below = λ v e. absurd (cc) }
  all_made (first_of t ts) s h =
      let g = made t s h in
      let k = all_made ts (numbered t s).1 g.numbers in
      record {
        more = let a = g.more in let b = k.more in omega arith;
        numbers = k.numbers;
        below = λ v e. or_split (occurs v (numbered t s).0) (occurs_in v (all_numbered ts (numbered t s).1).0) (v < (all_numbered ts (numbered t s).1).1.vars) e
            (λ o. let a = g.below v o in let b = k.more in omega arith)
            (λ o. k.below v o);
      }

-- ---- goals

pub record FoundFits (f : Found) : Type 0 where
  pub variables : (v : ℕ) → occurs v f.term ≡ true → v < f.vars
  pub named : AreBelow f.vars f.named

tree-fits : (tree : Tree) (from to : ℕ) → FoundFits (found_by from to (numbered tree no_numbers))
tree-fits tree from to = let g = made tree no_numbers tt in record { variables = g.below; named = g.numbers }

-- every variable of a goal of a text has a number below the number of its variables
pub goal-fits : (ops : Table) (text : List ℕ) (f : Found) → goal_of ops text ≡ Ok f → FoundFits f
unfolding goal_of
goal-fits ops text f e = by (goal_tokens text) e
  where
    same_found : (g : Found) (r : Result Found Refusal) → r ≡ Ok g → r ≡ Ok f → g ≡ f
    same_found g r of_g of_f = cc

    go : (ts : List Lexed) (r : Read Tree) → goal_by (length text) ts r ≡ Ok f → FoundFits f
    go [] (Ok tree) is = let g : Found = found_by (length text) (length text) (numbered tree no_numbers) in subst FoundFits (same_found g (Ok g) refl is) (tree-fits tree (length text) (length text))
    go (t ∷ ts) (Ok tree) is = let g : Found = found_by t.from (last_byte t ts) (numbered tree no_numbers) in subst FoundFits (same_found g (Ok g) refl is) (tree-fits tree t.from (last_byte t ts))
    go [] (Err s) is = absurd (cc)
    go (t ∷ ts) (Err s) is = absurd (cc)

    by : (r : Result (List Lexed) LexFault) → goal_in ops (length text) r ≡ Ok f → FoundFits f
    by (Err fault) is = absurd (cc)
    by (Ok ts) is = go ts (goal_reading ops ts) is

named-below : (n : ℕ) (xs : List Named) → AreBelow n (map named_of xs) → All (λ x. x.number < n) xs
named-below n [] h i d lt = absurd (omega arith)
named-below n (x ∷ xs) h zero d lt = h.0
named-below n (x ∷ xs) h (suc i) d lt = named-below n xs h.1 i d (omega arith)

-- a goal that was read is one that an engine may start
pub read-fits : (names : List Name) (t : ReadTerm) (f : Found) → Tells names t f → FoundFits f → GoalFits names t
read-fits names t f h fits = record {
  root = h.root;
  atoms = h.atoms;
  variables = λ v o. subst (λ n. v < n) (sym h.vars) (fits.variables v (ap (occurs v) (sym h.term) ∙ occurs-shows names t.cells.items t.root.at v ∙ o));
  named = named-below t.vars t.named (subst (λ n. AreBelow n (map named_of t.named)) (sym h.vars) (subst (AreBelow f.vars) (sym h.named) fits.named));
}
