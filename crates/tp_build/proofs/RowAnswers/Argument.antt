-- The argument of a number.
use Rattle.std.proofs.Common.{◌≡◌, ℕ, zero, suc, ◌+◌, ◌^◌, ◌<◌, ◌≤◌, Option, Some, None, Ok, Err, ℤ, refl, sym, ap, subst, ◌∙◌, arith}
use Rattle.tp_terms.specs.declared.cells.AtomId.{AtomId}
use Rattle.tp_terms.specs.declared.cells.Ref.{Ref}
use Rattle.tp_terms.specs.declared.cells.Cell.{Cell}
use Rattle.tp_terms.specs.declared.cells.Cell.TheVariants as cell
use Rattle.tp_terms.specs.Term.{Term, Terms, arg_at}
use Rattle.tp_meaning.specs.Subst.{Subst}
use Rattle.tp_meaning.specs.Checks.{Checked, ◌>>=◌, ◌>>◌, bound, integer, args_in, natural}
use Rattle.tp_meaning.specs.Heap.{Heap, IsTop, HasPlaces, seen}
use Rattle.tp_build.specs.declared.errors.WantedType.TheVariants as type
use Rattle.tp_build.specs.declared.errors.Fault as errors
use Rattle.tp_build.specs.declared.errors.Fault.TheVariants as fault
use Rattle.tp_build.specs.Answers.{Answer, No, unifies, args_seen}
use Rattle.tp_build.specs.Errors.{IsFault}
use Rattle.tp_build.specs.Rows.{IsSimple}
use Rattle.tp_meaning.specs.Answers.{arg, arg_unifies}
use Rattle.tp_build.specs.Functor.{IsNth, Picks}
use Rattle.tp_build.proofs.PlacesShow.Checked.{args-other, past, past-value}

argument-at : (h : Heap) (first count k place : ℕ) → k < count → place ≡ first + k → arg_at (args_seen h first count) k ≡ Some (seen h place)
argument-at h first zero k place lt e = absurd (omega arith)
argument-at h first (suc n) zero place lt e = let same : first ≡ place = omega arith in ap (λ (p : ℕ). Some (seen h p)) same
argument-at h first (suc n) (suc k) place lt e = argument-at h (suc first) n k place (omega arith) (omega arith)

argument-none : (h : Heap) (first count k : ℕ) → count ≤ k → arg_at (args_seen h first count) k ≡ None
argument-none h first zero k le = refl
argument-none h first (suc n) zero le = absurd (omega arith)
argument-none h first (suc n) (suc k) le = argument-none h (suc first) n k (omega arith)

pub places-of : (c : Cell) (name : AtomId) (first : Ref) (count : ℕ) → c ≡ cell.Comp name first count → HasPlaces c → first.at + count < 2 ^ 64
places-of c name first count e p = subst HasPlaces e p

args-found : (h : Heap) (t : ℕ) (c : Cell) (name : AtomId) (first : Ref) (count : ℕ) → c ≡ cell.Comp name first count → IsTop h t c → args_in (seen h t) ≡ Ok (args_seen h first.at count)
args-found h t c name first count e top =
    let u : IsTop h t (cell.Comp name first count) = subst (IsTop h t) e top in
    subst (λ x. args_in x ≡ Ok (args_seen h first.at count)) u.same refl

module _ (s : Subst) (next : ℕ) (n t x : Term) where
  rest-t : Checked Answer
  rest-t = do
    bound t
    z ← integer n
    ts ← args_in t
    k ← natural z
    Ok (arg_unifies s next k ts x)

  rest-args : ℤ → Checked Answer
  rest-args z = do
    ts ← args_in t
    k ← natural z
    Ok (arg_unifies s next k ts x)

  rest-n : Checked Answer
  rest-n = integer n >>= rest-args

  rest-k : ℤ → Terms → Checked Answer
  rest-k z ts = natural z >>= (λ k. Ok (arg_unifies s next k ts x))

  to-args : (z : ℤ) → bound n ≡ Ok tt → bound t ≡ Ok tt → integer n ≡ Ok z → arg s next n t x ≡ rest-args z
  unfolding rest-t rest-args rest-n
  to-args z e1 e2 e3 = past (bound n) rest-t e1 ∙ past (bound t) rest-n e2 ∙ past-value (integer n) rest-args z e3

  to-end : (z : ℤ) (ts : Terms) (k : ℕ) → bound n ≡ Ok tt → bound t ≡ Ok tt → integer n ≡ Ok z → args_in t ≡ Ok ts → natural z ≡ Ok k → arg s next n t x ≡ Ok (arg_unifies s next k ts x)
  unfolding rest-args rest-k
  to-end z ts k e1 e2 e3 e4 e5 = to-args z e1 e2 e3 ∙ past-value (args_in t) (rest-k z) ts e4 ∙ past-value (natural z) (λ i. Ok (arg_unifies s next i ts x)) k e5

  no-args : (h : Heap) (z : ℤ) (f : errors.Fault) → bound n ≡ Ok tt → bound t ≡ Ok tt → integer n ≡ Ok z → IsFault h (args_in t) f → IsFault h (arg s next n t x) f
  unfolding rest-args rest-k
  no-args h z f e1 e2 e3 i = record { kind = to-args z e1 e2 e3 ∙ ap (λ d. d >>= rest-k z) i.kind; stands = i.stands }

  no-number : (h : Heap) (z : ℤ) (ts : Terms) (f : errors.Fault) → bound n ≡ Ok tt → bound t ≡ Ok tt → integer n ≡ Ok z → args_in t ≡ Ok ts → IsFault h (natural z) f → IsFault h (arg s next n t x) f
  unfolding rest-args rest-k
  no-number h z ts f e1 e2 e3 e4 i = record {
    kind = to-args z e1 e2 e3 ∙ past-value (args_in t) (rest-k z) ts e4 ∙ ap (λ d. d >>= (λ k. Ok (arg_unifies s next k ts x))) i.kind;
    stands = i.stands;
  }

-- the exits of the checks
pub picks-no_args : (h : Heap) (n t : ℕ) (c : Cell) (z : ℤ) (f : errors.Fault) → bound (seen h n) ≡ Ok tt → bound (seen h t) ≡ Ok tt → integer (seen h n) ≡ Ok z
    → f ≡ fault.Type type.Compound c → IsSimple c → IsTop h t c → Picks h n t (Err f)
picks-no_args h n t c z f e1 e2 e3 e other top s next x = no-args s next (seen h n) (seen h t) x h z f e1 e2 e3 (subst (IsFault h (args_in (seen h t))) (sym e) (args-other h t c other top))

pub picks-no_number : (h : Heap) (n t : ℕ) (c : Cell) (name : AtomId) (first : Ref) (count : ℕ) (z : ℤ) (f : errors.Fault) → bound (seen h n) ≡ Ok tt → bound (seen h t) ≡ Ok tt → integer (seen h n) ≡ Ok z
    → c ≡ cell.Comp name first count → IsTop h t c → IsFault h (natural z) f → Picks h n t (Err f)
picks-no_number h n t c name first count z f e1 e2 e3 e top i s next x =
    no-number s next (seen h n) (seen h t) x h z (args_seen h first.at count) f e1 e2 e3 (args-found h t c name first count e top) i

pub picks : (h : Heap) (n t : ℕ) (c : Cell) (name : AtomId) (first : Ref) (count : ℕ) (z : ℤ) (k : ℕ) (o : Option Ref) → bound (seen h n) ≡ Ok tt → bound (seen h t) ≡ Ok tt → integer (seen h n) ≡ Ok z
    → c ≡ cell.Comp name first count → IsTop h t c → natural z ≡ Ok k → IsNth first.at count k o → Picks h n t (Ok o)
picks h n t c name first count z zero None e1 e2 e3 e top e5 i = λ s next x.
    to-end s next (seen h n) (seen h t) x z (args_seen h first.at count) 0 e1 e2 e3 (args-found h t c name first count e top) e5
picks h n t c name first count z (suc k) None e1 e2 e3 e top e5 i =
    let gone : count < suc k = i (omega arith) in
    λ s next x.
    to-end s next (seen h n) (seen h t) x z (args_seen h first.at count) (suc k) e1 e2 e3 (args-found h t c name first count e top) e5
    ∙ ap (λ (o : Option Term). Ok (elim o as (λ _. Answer) [ None ↦ No | Some y ↦ unifies s next x y ])) (argument-none h first.at count k (omega arith))
picks h n t c name first count z zero (Some place) e1 e2 e3 e top e5 i = absurd (let lt = i.0 in omega arith)
picks h n t c name first count z (suc k) (Some place) e1 e2 e3 e top e5 i =
    let u : IsTop h t (cell.Comp name first count) = subst (IsTop h t) e top in
    let most = i.1 in
    let where_is = i.2 in
    let all = u.stands.before.1 in (
      omega arith,
      λ s next x.
          to-end s next (seen h n) (seen h t) x z (args_seen h first.at count) (suc k) e1 e2 e3 (args-found h t c name first count e top) e5
          ∙ ap (λ (o : Option Term). Ok (elim o as (λ _. Answer) [ None ↦ No | Some y ↦ unifies s next x y ])) (argument-at h first.at count k place.at (omega arith) (omega arith)),
    )
