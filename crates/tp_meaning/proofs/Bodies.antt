-- Terms that are their own bodies, and the start of a goal.
use Rattle.std.proofs.Common.{◌≡◌, Bool, true, false, [], ◌∷◌, Option, Some, None, IfSome, refl, ap, ◌∙◌, if◌then◌else◌, codes}
use Rattle.tp_terms.specs.Term.{Name, Term, Terms, Var, Int, Atom, Comp, NoMore, More, comp}
use Rattle.tp_meaning.specs.Body.{body, joins_goals, pair_body}
use Rattle.tp_meaning.specs.World.{Goal, first_items}

-- a compound of two arguments, its name being none that joins goals
pub body-pair : (f : Name) (a b : Term) → joins_goals f ≡ false → body (Comp f (More a (More b NoMore))) ≡ Some (Comp f (More a (More b NoMore)))
body-pair f a b e = ap (λ c. if c then pair_body f (body a) (body b) else Some (Comp f (More a (More b NoMore)))) e

-- two goals joined
pub body-joined : (f : Name) (a b : Term) → joins_goals f ≡ true → body a ≡ Some a → body b ≡ Some b → body (Comp f (More a (More b NoMore))) ≡ Some (Comp f (More a (More b NoMore)))
body-joined f a b e ea eb = ap (λ c. if c then pair_body f (body a) (body b) else Some (Comp f (More a (More b NoMore)))) e ∙ ap (λ x. pair_body f x (body b)) ea ∙ ap (pair_body f (Some a)) eb

-- any other compound
pub body-compound : (f : Name) (ts : Terms) → joins_goals f ≡ false → body (Comp f ts) ≡ Some (Comp f ts)
body-compound f NoMore e = refl
body-compound f (More a NoMore) e = refl
body-compound f (More a (More b NoMore)) e = body-pair f a b e
body-compound f (More a (More b (More c ts))) e = refl

pub body-conjunction : (a b : Term) → body a ≡ Some a → body b ≡ Some b → body (comp "," (a ∷ b ∷ [])) ≡ Some (comp "," (a ∷ b ∷ []))
body-conjunction a b ea eb = body-joined (codes ",") a b refl ea eb

-- the body of a body is itself
pair_body-own : (f : Name) → joins_goals f ≡ true → (x y : Option Term) → IfSome x (λ a. body a ≡ Some a) → IfSome y (λ b. body b ≡ Some b) → IfSome (pair_body f x y) (λ c. body c ≡ Some c)
pair_body-own f e None None h k = tt
pair_body-own f e None (Some b) h k = tt
pair_body-own f e (Some a) None h k = tt
pair_body-own f e (Some a) (Some b) h k = body-joined f a b e h k

pub body-own : (t : Term) → IfSome (body t) (λ b. body b ≡ Some b)
body-own (Var v) = refl
body-own (Int z) = tt
body-own (Atom a) = refl
body-own (Comp f NoMore) = refl
body-own (Comp f (More a NoMore)) = refl
body-own (Comp f (More a (More b NoMore))) = go (joins_goals f) refl (body-own a) (body-own b)
  where
    go : (c : Bool) → joins_goals f ≡ c → IfSome (body a) (λ x. body x ≡ Some x) → IfSome (body b) (λ x. body x ≡ Some x) → IfSome (if c then pair_body f (body a) (body b) else Some (Comp f (More a (More b NoMore)))) (λ x. body x ≡ Some x)
    go true e h k = pair_body-own f e (body a) (body b) h k
    go false e h k = body-pair f a b e
body-own (Comp f (More a (More b (More c ts)))) = refl

-- the first item of a goal that has a body
pub first_items-body : (goal b : Term) → body goal ≡ Some b → first_items goal ≡ Goal b 0 ∷ []
first_items-body goal b e = ap (λ o. elim o [ None ↦ [] | Some b ↦ Goal b 0 ∷ [] ]) e
