-- What follows a part of some characters.
use Rattle.std.proofs.Common.{◌≡◌, ℕ, ◌≤◌, Bool, true, false, cond, List, [], ◌∷◌, ◌++◌, length, refl, sym, ap, ◌∙◌, arith, length-append, append_assoc}

-- the characters end with the rest
pub record EndsWith (all rest : List ℕ) : Type 0 where
  pub front : List ℕ
  pub parts : all ≡ front ++ rest

pub ends-same : (cs : List ℕ) → EndsWith cs cs
ends-same cs = record { front = []; parts = refl }

pub ends-cons : (c : ℕ) (cs rest : List ℕ) → EndsWith cs rest → EndsWith (c ∷ cs) rest
ends-cons c cs rest e = record { front = c ∷ e.front; parts = ap (λ l. c ∷ l) e.parts }

pub ends-nil : (cs : List ℕ) → EndsWith cs []
ends-nil [] = ends-same []
ends-nil (c ∷ cs) = ends-cons c cs [] (ends-nil cs)

pub ends-trans : (all middle rest : List ℕ) → EndsWith all middle → EndsWith middle rest → EndsWith all rest
ends-trans all middle rest a b = record {
  front = a.front ++ b.front;
  parts = a.parts ∙ ap (λ l. a.front ++ l) b.parts ∙ sym (append_assoc a.front b.front rest);
}

pub ends-length : (all rest : List ℕ) → EndsWith all rest → length rest ≤ length all
ends-length all rest e = omega (arith, ap length e.parts, length-append e.front rest)

-- a fact of both sides of a choice
pub of_choice : {A : Type 0} (P : A → Type 0) (b : Bool) (x y : A) → P x → P y → P (cond b x y)
of_choice P true x y p q = p
of_choice P false x y p q = q
