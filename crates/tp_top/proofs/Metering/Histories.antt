-- Meters that count a history, and the lines that are made of their numbers.
use Rattle.std.proofs.Common.{◌≡◌, ◌∙◌, ℕ, ◌+◌, ◌<◌, ◌≤◌, List, [], ◌∷◌, ◌++◌, Some, None, inl, inr, map, flat_map, take, length, slice_get, All, refl, ap, ap₂, sym, subst, arith, append-nil}
use Rattle.std.specs.Prelude.{fold}
use Rattle.std.proofs.lemmas.List.Elements.{All-cons, All-nil}
use Rattle.std.proofs.lemmas.List.{map-append, take_more, length-map}
use Rattle.std.proofs.lemmas.Option.{get_or_from_slice_get, slice_get_within, slice_get_cases}
use Rattle.std.specs.Str.{chars}
use Rattle.tp_meters.specs.declared.MeterKind.{MeterKind}
use Rattle.tp_meters.specs.declared.MeterKind.TheVariants as meter
use Rattle.tp_meters.specs.declared.EventView.{EventView}
use Rattle.tp_meters.specs.Meters.{meter_fold, meter_next, told, zeros}
use Rattle.tp_meters.proofs.Folds.{fold-next}
use Rattle.tp_terms.specs.declared.world.Event.{Event}
use Rattle.tp_terms.specs.Term.{Name}
use Rattle.tp_meaning.specs.World as world
use Rattle.tp_state.specs.Plain.{event_of}
use Rattle.tp_store.specs.Contents.{Contents}
use Rattle.tp_top.specs.Metered.{counted, head_of, metered, meter_line, meter_lines, TellsFew}

abbrev first_or : {S : Type 0} → S → List S → S
first_or s [] = s
first_or s (x ∷ xs) = x

abbrev rest_of : {S : Type 0} → List S → List S
rest_of [] = []
rest_of (x ∷ xs) = xs

-- one step of each, by its kind and its state
stepped : {M K S : Type 0} (kind : M → K) (state : M → S) (next : K → S → S) (f : K → S) (items : List M)
    → map state items ≡ map f (map kind items)
    → map (λ m. next (kind m) (state m)) items ≡ map (λ k. next k (f k)) (map kind items)
stepped kind state next f [] e = refl
stepped kind state next f (m ∷ ms) e =
    ap₂ (λ x xs. x ∷ xs) (ap (λ s. next (kind m) s) (ap (first_or (state m)) e)) (stepped kind state next f ms (ap rest_of e))

map-same : {K S : Type 0} (f g : K → S) → ((k : K) → f k ≡ g k) → (ks : List K) → map f ks ≡ map g ks
map-same f g same [] = refl
map-same f g same (k ∷ ks) = ap₂ (λ x xs. x ∷ xs) (same k) (map-same f g same ks)

-- the numbers of each kind over some events
abbrev pub folded : List EventView → List MeterKind → List (List ℕ)
folded events kinds = map (λ kind. meter_fold kind events) kinds

-- meters that hold the numbers over some events, after one more
pub counted_more : {M : Type 0} (kind : M → MeterKind) (state : M → List ℕ) (items : List M) (kinds : List MeterKind) (events : List EventView) (event : EventView)
    → map kind items ≡ kinds → map state items ≡ folded events kinds
    → map (λ m. meter_next (kind m) (state m) event) items ≡ folded (events ++ event ∷ []) kinds
counted_more kind state items kinds events event are hold =
    stepped kind state (λ k s. meter_next k s event) (λ k. meter_fold k events) items (hold ∙ ap (folded events) (sym are))
    ∙ ap (map (λ k. meter_next k (meter_fold k events) event)) are
    ∙ map-same (λ k. meter_next k (meter_fold k events) event) (λ k. meter_fold k (events ++ event ∷ [])) (λ k. sym (fold-next k events event)) kinds

-- events of contents, as meters see them
abbrev pub metered_in : List Name → Contents → List Event → List EventView
metered_in names c events = map metered (map (event_of names c) events)

-- the events up to the next place
pub next_event : (names : List Name) (c : Contents) (events : List Event) (at : ℕ) (event : Event) → slice_get events at ≡ Some event
    → metered_in names c (take (at + 1) events) ≡ metered_in names c (take at events) ++ metered (event_of names c event) ∷ []
next_event names c events at event is =
    ap (metered_in names c) (take_more events at event (slice_get_within events at event is) ∙ ap (λ x. take at events ++ x ∷ []) (get_or_from_slice_get events at event event is))
    ∙ ap (map metered) (map-append (event_of names c) (take at events) (event ∷ []))
    ∙ map-append metered (map (event_of names c) (take at events)) (event_of names c event ∷ [])

-- meters that were cleared
pub none_counted : {M : Type 0} (kind : M → MeterKind) (items : List M) → map (λ m. zeros (kind m)) items ≡ folded [] (map kind items)
none_counted kind [] = refl
none_counted kind (m ∷ ms) = ap (λ xs. zeros (kind m) ∷ xs) (none_counted kind ms)

-- ---- the numbers that are told

-- a step leaves how many numbers there are
next_length : (kind : MeterKind) (state : List ℕ) (event : EventView) → length (meter_next kind state event) ≡ length state
next_length meter.Events (a ∷ b ∷ c ∷ d ∷ f ∷ g ∷ h ∷ ns) e = refl
next_length meter.Events [] e = refl
next_length meter.Events (a ∷ []) e = refl
next_length meter.Events (a ∷ b ∷ []) e = refl
next_length meter.Events (a ∷ b ∷ c ∷ []) e = refl
next_length meter.Events (a ∷ b ∷ c ∷ d ∷ []) e = refl
next_length meter.Events (a ∷ b ∷ c ∷ d ∷ f ∷ []) e = refl
next_length meter.Events (a ∷ b ∷ c ∷ d ∷ f ∷ g ∷ []) e = refl
next_length meter.Time [] e = refl
next_length meter.Time (a ∷ []) e = refl
next_length meter.Time (a ∷ b ∷ []) e = refl
next_length meter.Time (a ∷ b ∷ c ∷ ns) e = refl
next_length meter.Mail [] e = refl
next_length meter.Mail (a ∷ []) e = refl
next_length meter.Mail (a ∷ b ∷ []) e = refl
next_length meter.Mail (a ∷ b ∷ c ∷ ns) e = refl
next_length meter.Procs [] e = refl
next_length meter.Procs (a ∷ []) e = refl
next_length meter.Procs (a ∷ b ∷ []) e = refl
next_length meter.Procs (a ∷ b ∷ c ∷ []) e = refl
next_length meter.Procs (a ∷ b ∷ c ∷ d ∷ ns) e = refl

fold_length : (kind : MeterKind) (state : List ℕ) (events : List EventView) → length (fold (meter_next kind) state events) ≡ length state
fold_length kind state [] = refl
fold_length kind state (e ∷ es) = fold_length kind (meter_next kind state e) es ∙ next_length kind state e

told_few : (kind : MeterKind) (state : List ℕ) → length state ≡ length (zeros kind) → TellsFew kind state
told_few meter.Events state e = omega (arith, e)
told_few meter.Time state e = omega (arith, e)
told_few meter.Mail state e = omega (arith, e)
told_few meter.Procs (a ∷ b ∷ c ∷ d ∷ []) e = omega arith
told_few meter.Procs [] e = omega arith
told_few meter.Procs (a ∷ []) e = omega arith
told_few meter.Procs (a ∷ b ∷ []) e = omega arith
told_few meter.Procs (a ∷ b ∷ c ∷ []) e = omega arith
told_few meter.Procs (a ∷ b ∷ c ∷ d ∷ f ∷ ns) e = omega arith

-- a meter that counted a history tells at most seven numbers
counted_few : (history : List world.Event) (kind : MeterKind) → TellsFew kind (counted history kind)
counted_few history kind = told_few kind (counted history kind) (fold_length kind (zeros kind) (map metered history))

-- ---- meters that hold the numbers over a history

abbrev Holds : {M : Type 0} → (M → MeterKind) → (M → List ℕ) → List world.Event → List M → Type 0
Holds kind state history items = map state items ≡ map (counted history) (map kind items)

pub hold_few : {M : Type 0} (kind : M → MeterKind) (state : M → List ℕ) (history : List world.Event) (items : List M)
    → Holds kind state history items → All (λ m. TellsFew (kind m) (state m)) items
hold_few kind state history [] h = All-nil (λ m. TellsFew (kind m) (state m))
hold_few kind state history (m ∷ ms) h =
    All-cons (λ x. TellsFew (kind x) (state x)) m ms
    (subst (TellsFew (kind m)) (sym (ap (first_or (state m)) h)) (counted_few history (kind m)))
    (hold_few kind state history ms (ap rest_of h))

-- their lines are those of the history
pub hold_lines : {M : Type 0} (kind : M → MeterKind) (state : M → List ℕ) (history : List world.Event) (items : List M)
    → Holds kind state history items
    → flat_map (λ m. meter_line (kind m) (state m)) items ≡ meter_lines (map kind items) history
hold_lines kind state history [] h = refl
hold_lines kind state history (m ∷ ms) h =
    ap₂ (λ x xs. meter_line (kind m) x ++ xs) (ap (first_or (state m)) h) (hold_lines kind state history ms (ap rest_of h))

-- the head of a line is ASCII
pub head-chars : (kind : MeterKind) → chars (head_of kind) ≡ head_of kind
unfolding chars
head-chars meter.Events = refl
head-chars meter.Time = refl
head-chars meter.Mail = refl
head-chars meter.Procs = refl

-- where nothing stands at a place, the list ends before it
pub ends_before : {A : Type 0} (xs : List A) (i : ℕ) → None ≡ slice_get xs i → length xs ≤ i
ends_before xs i none = elim (slice_get_cases xs i).1 [
  | inl h ↦ absurd (cc)
  | inr h ↦ omega (arith, h.0)
]
