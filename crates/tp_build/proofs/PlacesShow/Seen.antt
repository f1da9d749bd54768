-- Unifiers of terms that are seen under a substitution.
use Rattle.std.proofs.Common.{◌≡◌, ℕ, Some, None, ap}
use Rattle.tp_terms.specs.Term.{Term}
use Rattle.tp_meaning.specs.Subst.{Subst, IsSubst, apply}
use Rattle.tp_build.specs.Answers.{Answer, unifies, Yes, No}
pub use Rattle.tp_build.proofs.PlacesShow.Unified.{mgu-seen}

-- what two terms that are seen answer is what the terms answer
pub unifies-seen : (s : Subst) (next : ℕ) (a b : Term) → IsSubst s → unifies s next (apply s a) (apply s b) ≡ unifies s next a b
unifies-seen s next a b is = ap (λ m. elim m as (λ q. Answer) [ None ↦ No | Some u ↦ Yes u next ]) (mgu-seen s a b is)
