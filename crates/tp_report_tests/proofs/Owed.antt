-- What the tests owe.
use Rattle.std.proofs.Common.{◌≡◌, ℕ, nat_eq, Bool, true, false, List, [], ◌∷◌, ℤ, Some, None, ap, ◌∙◌, arith, if◌then◌else◌}
use Rattle.tp_terms.specs.declared.cells.Cell.{Cell}
use Rattle.tp_terms.specs.declared.cells.Cell.TheVariants as cell
use Rattle.tp_terms.specs.declared.cells.Ref.{Ref}
use Rattle.tp_terms.specs.Term.{occurs}
use Rattle.tp_terms.specs.Shown.{shows, terms_from}
use Rattle.tp_terms.specs.Binds.{Bindings, bound_in, LeadsAtOnce, Leads, at_once, over, Fits}
use Rattle.tp_terms.proofs.Places.Bound.{Fits-append}

-- one variable that is bound to the first place
one_bound : Bindings
one_bound = (0, record { at = 0 }) ∷ []

bound-first : (v : ℕ) (place : Ref) → bound_in one_bound v ≡ Some place → record { at = 0 } ≡ place
unfolding one_bound
bound-first v place = by (nat_eq 0 v)
  where
    by : (b : Bool) → (if b then Some (record { at = 0 }) else None) ≡ Some place → record { at = 0 } ≡ place
    by true e = cc
    by false e = absurd (cc)

none-at_once : (z : ℤ) (v w : ℕ) → ¬ (LeadsAtOnce one_bound (cell.Int z ∷ []) v w)
unfolding terms_from
none-at_once z v w leads =
    let e : occurs w (shows [] (cell.Int z ∷ []) leads.place.at) ≡ true = leads.occurring in
    let f : occurs w (shows [] (cell.Int z ∷ []) 0) ≡ true = ap (λ (r : Ref). occurs w (shows [] (cell.Int z ∷ []) r.at)) (bound-first v leads.place leads.bound) ∙ e in
    absurd (cc)

none-leads : (z : ℤ) (v w : ℕ) → ¬ (Leads one_bound (cell.Int z ∷ []) v w)
none-leads z v w (at_once {v = v'} {w = w'} leads) = none-at_once z v w leads
none-leads z u w (over {u = u'} {v = v} {w = w'} leads more) = none-at_once z u v leads

pub Fits-one : (z : ℤ) (more cells : List Cell) → cells ≡ cell.Int z ∷ more → Fits ((0, record { at = 0 }) ∷ []) cells
unfolding one_bound
Fits-one z more cells e =
    let fits : Fits one_bound (cell.Int z ∷ []) = record {
      within = λ v place b. let r = bound-first v place b in let at : 0 ≡ place.at = ap (λ (x : Ref). x.at) r in omega (arith, at);
      acyclic = λ v leads. none-leads z v v leads;
    } in
    rw e (Fits-append one_bound (cell.Int z ∷ []) more fits)
