-- What a reading adds to a table of names.
use Rattle.std.proofs.Common.{◌≡◌, ℕ, zero, suc, Bool, true, false, ◌&&◌, ◌||◌, List, [], ◌∷◌, ◌++◌, drop, refl, sym, ap, subst, ◌∙◌, arith, append_assoc, if◌then◌else◌}
use Rattle.std.proofs.lemmas.List.{append-nil}
use Rattle.std.proofs.lemmas.List.Folds.{list_all-append}
use Rattle.std.specs.List.{list_all, list_any}
use Rattle.tp_terms.specs.Term.{Name, Term, names_eq}
use Rattle.tp_terms.specs.Names.{with_name}
use Rattle.tp_terms.proofs.Texts.Equal.{names_eq-same}
use Rattle.tp_parse.specs.Tree.{Tree, Trees, Variable, Integer, Atom, Compound, none, first_of, list_cell}
use Rattle.tp_parse.specs.Numbers.{Numbers, no_numbers, numbered, all_numbered}
use Rattle.tp_parse.specs.Steps.{act, row, linked, label_name}
use Rattle.tp_parse.specs.NewNames.{mentions, mentions_in, writes, writes_in, writes_any, AddsOnly}
use Rattle.tp_parse.specs.declared.steps.Label.{Label}
use Rattle.tp_parse.specs.declared.steps.Step.{Step}
use Rattle.tp_parse.specs.declared.steps.Step.TheVariants as step

all-joined : {X : Type 0} (p : X → Bool) (xs ys : List X) → list_all p xs ≡ true → list_all p ys ≡ true → list_all p (xs ++ ys) ≡ true
all-joined p xs ys h k = list_all-append p xs ys ∙ ap (λ b. b && list_all p ys) h ∙ k

all-weaker : {X : Type 0} (p q : X → Bool) (xs : List X) → ((x : X) → p x ≡ true → q x ≡ true) → list_all p xs ≡ true → list_all q xs ≡ true
all-weaker p q [] f h = refl
all-weaker p q (x ∷ xs) f h =
    let parts : (p x ≡ true) × (list_all p xs ≡ true) = both (p x) (list_all p xs) h in
    ap (λ b. b && list_all q xs) (f x parts.0) ∙ all-weaker p q xs f parts.1
  where
    both : (a b : Bool) → (a && b) ≡ true → (a ≡ true) × (b ≡ true)
    both true b h = (refl, h)
    both false b h = (h, cc)

-- nothing is added
pub AddsOnly-same : (wanted : Name → Bool) (names : List Name) → AddsOnly wanted names names
AddsOnly-same wanted names = record { more = []; added = sym (append-nil names); each = refl }

-- a name that is one of the wanted
pub AddsOnly-with_name : (wanted : Name → Bool) (names : List Name) (name : Name) → wanted name ≡ true → AddsOnly wanted names (with_name names name)
AddsOnly-with_name wanted names name h = by (list_any (names_eq name) names)
  where
    by : (b : Bool) → AddsOnly wanted names (names ++ (if b then [] else name ∷ []))
    by true = record { more = []; added = refl; each = refl }
    by false = record { more = name ∷ []; added = refl; each = ap (λ b. b && true) h }

-- names of the first part, and then of the whole
pub AddsOnly-then : (part whole : Name → Bool) (a b c : List Name) → ((name : Name) → part name ≡ true → whole name ≡ true) → AddsOnly part a b → AddsOnly whole b c → AddsOnly whole a c
AddsOnly-then part whole a b c f g h = record {
  more = g.more ++ h.more;
  added = h.added ∙ ap (λ l. l ++ h.more) g.added ∙ append_assoc a g.more h.more;
  each = all-joined whole g.more h.more (all-weaker part whole g.more f g.each) h.each;
}

pub AddsOnly-as : (part whole : Name → Bool) (a b : List Name) → ((name : Name) → part name ≡ true → whole name ≡ true) → AddsOnly part a b → AddsOnly whole a b
AddsOnly-as part whole a b f g = record { more = g.more; added = g.added; each = all-weaker part whole g.more f g.each }

either-true : (a b : Bool) → (a || true) ≡ true
either-true true b = refl
either-true false b = refl

-- the names of the trees are those of a row of them and of the others
writes-row : (name : Name) (n : ℕ) (made : List Tree) (more : Trees) → (writes_any name made || writes_in name more) ≡ true → (writes_in name (row n made more) || writes_any name (drop n made)) ≡ true
writes-row name zero made more h = grind arith
writes-row name (suc n) [] more h = grind arith
writes-row name (suc n) (t ∷ made) more h = writes-row name n made (first_of t more) (grind arith)

-- the names of trees that become a list
writes-linked : (name : Name) (n : ℕ) (made : List Tree) → writes_any name made ≡ true → writes_any name (linked n made) ≡ true
writes-linked name zero made h = h
writes-linked name (suc n) [] h = h
writes-linked name (suc n) (t ∷ []) h = h
writes-linked name (suc n) (t ∷ u ∷ made) h = writes-linked name n (list_cell u t ∷ made) (grind arith)

-- no step loses a name
pub writes-act : (text : List ℕ) (s : Step) (made : List Tree) (name : Name) → writes_any name made ≡ true → writes_any name (act text s made) ≡ true
writes-act text (step.Variable token) made name h = h
writes-act text (step.Integer value) made name h = h
writes-act text (step.Atom label) made name h = ap (λ b. names_eq name (label_name text label) || b) h ∙ either-true _ true
writes-act text (step.Compound count label) made name h =
    let k = writes-row name count made none (ap (λ b. b || false) h) in
    grind arith
writes-act text (step.List count) made name h = writes-linked name count made h

-- the names of a tree are those of its term
mutual
  pub mentions-numbered : (name : Name) (t : Tree) (s : Numbers) → mentions name (numbered t s).0 ≡ writes name t
  mentions-numbered name (Variable x) s = refl
  mentions-numbered name (Integer z) s = refl
  mentions-numbered name (Atom a) s = refl
  mentions-numbered name (Compound f ts) s = ap (λ b. names_eq name f || b) (mentions-all_numbered name ts s)

  mentions-all_numbered : (name : Name) (ts : Trees) (s : Numbers) → mentions_in name (all_numbered ts s).0 ≡ writes_in name ts
  mentions-all_numbered name none s = refl
  mentions-all_numbered name (first_of t ts) s =
      ap (λ b. b || mentions_in name (all_numbered ts (numbered t s).1).0) (mentions-numbered name t s)
      ∙ ap (λ b. writes name t || b) (mentions-all_numbered name ts (numbered t s).1)

-- one more step
pub names-step : (text : List ℕ) (s : Step) (made after : List Tree) (a b c : List Name) → after ≡ act text s made → AddsOnly (λ name. writes_any name made) a b → AddsOnly (λ name. writes_any name (act text s made)) b c → AddsOnly (λ name. writes_any name after) a c
names-step text s made after a b c e g h =
    subst (λ trees. AddsOnly (λ name. writes_any name trees) a c) (sym e) (AddsOnly-then (λ name. writes_any name made) (λ name. writes_any name (act text s made)) a b c (writes-act text s made) g h)

-- the name of a step's label
pub names-atom : (text : List ℕ) (label : Label) (made : List Tree) (names new : List Name) → new ≡ with_name names (label_name text label) → AddsOnly (λ name. writes_any name (act text (step.Atom label) made)) names new
names-atom text label made names new e =
    subst (AddsOnly (λ name. writes_any name (act text (step.Atom label) made)) names) (sym e)
    (AddsOnly-with_name (λ name. writes_any name (act text (step.Atom label) made)) names (label_name text label) (ap (λ b. b || writes_any (label_name text label) made) (names_eq-same (label_name text label))))

pub names-compound : (text : List ℕ) (label : Label) (count : ℕ) (made : List Tree) (names new : List Name) → new ≡ with_name names (label_name text label) → AddsOnly (λ name. writes_any name (act text (step.Compound count label) made)) names new
names-compound text label count made names new e =
    subst (AddsOnly (λ name. writes_any name (act text (step.Compound count label) made)) names) (sym e)
    (AddsOnly-with_name (λ name. writes_any name (act text (step.Compound count label) made)) names (label_name text label)
    (ap (λ b. (b || writes_in (label_name text label) (row count made none)) || writes_any (label_name text label) (drop count made)) (names_eq-same (label_name text label))))

-- what was added for a tree was added for its term
pub names-term : (names old : List Name) (tree : Tree) (t : Term) (s : Numbers) (trees : List Tree) → numbered tree no_numbers ≡ (t, s) → trees ≡ tree ∷ [] → AddsOnly (λ name. writes_any name trees) old names → AddsOnly (λ name. mentions name t) old names
names-term names old tree t s trees e f g =
    AddsOnly-as (λ name. writes_any name trees) (λ name. mentions name t) old names
    (λ name h. ap (λ (r : Term × Numbers). mentions name r.0) (sym e) ∙ mentions-numbered name tree no_numbers ∙ sym (or-false (writes name tree)) ∙ ap (writes_any name) (sym f) ∙ h) g
  where
    or-false : (b : Bool) → (b || false) ≡ b
    or-false true = refl
    or-false false = refl
