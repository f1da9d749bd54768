-- Choices whose worlds are computed from what is held: which acts leave them, and which take them back.
use Rattle.std.proofs.Common.{◌≡◌, ℕ, List, [], ◌∷◌, ◌++◌, map, reverse, take, zero, suc, ap, sym, subst, ◌∙◌}
use Rattle.std.specs.List.{AllByRecursion}
use Rattle.std.proofs.lemmas.List.{reverse-append}
use Rattle.tp_terms.specs.Term.{Name}
use Rattle.tp_terms.specs.Names.{Grows}
use Rattle.tp_meaning.specs.Clauses.{Base}
use Rattle.tp_meaning.proofs.ValidWorlds.Places.{all-append, all-weaker, map-same}
use Rattle.tp_control.specs.declared.choices.Choice.{Choice}
use Rattle.tp_control.specs.declared.choices.Marks.{Marks}
use Rattle.tp_state.specs.Plain.{world_of}
use Rattle.tp_state.specs.Stands.{PlainStands}
use Rattle.tp_state.specs.Going.{Held, Follows, Within, Under, marks_of, rewound}
use Rattle.tp_state.proofs.GoingBack.Follows.{WentBack, within-later, rewound-later, rewound-now, rewound-twice, within-now, within-back}
use Rattle.tp_machine.specs.Machine.{ChoiceFits, ChoicesFit, GoesOn, MarksRise, choice_of, choices_of, open_at}
use Rattle.tp_machine.proofs.Worlds.Names.{all-reverse, world-later, stands-later, goes_on-later}

-- ---- a choice at what is held now, and later

-- the contents at a choice's marks are the same ones
pub record StaysAt (old new : Held) (c : Choice) : Type 0 where
  pub within : Within c.marks new
  pub same : rewound new c.marks ≡ rewound old c.marks

-- after acts
pub stay_by_acts : (names : List Name) (base : Base) (old new : Held) (cs : List Choice) → Follows old new → AllByRecursion (ChoiceFits names base old) cs → AllByRecursion (StaysAt old new) cs
stay_by_acts names base old new cs f = all-weaker (ChoiceFits names base old) (StaysAt old new) (λ c k. record { within = within-later old new c.marks f k.within; same = rewound-later old new c.marks f k.within }) cs

-- and after going back to later marks
pub stay_by_rewind : (old new : Held) (m : Marks) (cs : List Choice) → WentBack old new m → Within m old → AllByRecursion (λ (d : Choice). Under m d.marks) cs → AllByRecursion (StaysAt old new) cs
stay_by_rewind old new m cs b w = all-weaker (λ (d : Choice). Under m d.marks) (StaysAt old new) (λ d u. record { within = within-back old new m d.marks b w u; same = rewound-twice old new m d.marks b w u }) cs

-- then the choices are the same ones
pub choices_stay : (names : List Name) (base : Base) (old new : Held) (cs : List Choice) → AllByRecursion (StaysAt old new) cs → choices_of names base new cs ≡ choices_of names base old cs
choices_stay names base old new cs h =
    map-same (choice_of names base new) (choice_of names base old) (StaysAt old new)
    (λ c k. ap (λ p. open_at base (world_of names p c.stamp) c.stamp c.next) k.same) (reverse cs) (all-reverse (StaysAt old new) cs h)

fit_stays : (names : List Name) (base : Base) (old new : Held) (cs : List Choice) → AllByRecursion (StaysAt old new) cs → AllByRecursion (ChoiceFits names base old) cs → AllByRecursion (ChoiceFits names base new) cs
fit_stays names base old new [] h k = tt
fit_stays names base old new (c ∷ cs) h k = (
  record {
    within = h.0.within;
    stands = subst (PlainStands names) (sym h.0.same) k.0.stands;
    next = subst (λ p. GoesOn names base p c.next) (sym h.0.same) k.0.next;
  },
  fit_stays names base old new cs h.1 k.1,
)

-- and they fit still
pub fits_stay : (names : List Name) (base : Base) (old new : Held) (cs : List Choice) → AllByRecursion (StaysAt old new) cs → ChoicesFit names base old cs → ChoicesFit names base new cs
fits_stay names base old new cs h k = record { fits = fit_stays names base old new cs h k.fits; rise = k.rise }

-- ---- a table of names that grows

-- the choices are the same under the longer table
pub choices_later : (old new : List Name) → Grows old new → (base : Base) (h : Held) (cs : List Choice) → ChoicesFit old base h cs → choices_of new base h cs ≡ choices_of old base h cs
choices_later old new grows base h cs k =
    map-same (choice_of new base h) (choice_of old base h) (ChoiceFits old base h)
    (λ c f. ap (λ w. open_at base w c.stamp c.next) (world-later old new grows (rewound h c.marks) f.stands c.stamp)) (reverse cs) (all-reverse (ChoiceFits old base h) cs k.fits)

-- and they fit still
pub fits_later : (old new : List Name) → Grows old new → (base : Base) (h : Held) (cs : List Choice) → ChoicesFit old base h cs → ChoicesFit new base h cs
fits_later old new grows base h cs k = record {
  fits = all-weaker (ChoiceFits old base h) (ChoiceFits new base h)
      (λ c f. record {
        within = f.within;
        stands = stands-later old new grows (rewound h c.marks) f.stands;
        next = goes_on-later old new grows base (rewound h c.marks) c.next f.stands f.next;
      }) cs k.fits;
  rise = k.rise;
}

-- ---- the newest choice

-- it comes first
pub choices_push : (names : List Name) (base : Base) (h : Held) (cs : List Choice) (c : Choice) → choices_of names base h (cs ++ c ∷ []) ≡ choice_of names base h c ∷ choices_of names base h cs
choices_push names base h cs c = ap (map (choice_of names base h)) (reverse-append cs (c ∷ []))

rise_push : (cs : List Choice) (c : Choice) → MarksRise cs → AllByRecursion (λ (d : Choice). Under c.marks d.marks) cs → MarksRise (cs ++ c ∷ [])
rise_push [] c r u = (tt, tt)
rise_push (d ∷ ds) c r u = (all-append (λ (e : Choice). Under e.marks d.marks) ds (c ∷ []) r.0 (u.0, tt), rise_push ds c r.1 u.1)

-- a choice at the marks of now is added
pub fits_push : (names : List Name) (base : Base) (h : Held) (cs : List Choice) (c : Choice) → c.marks ≡ marks_of h → PlainStands names h.plain → GoesOn names base h.plain c.next → ChoicesFit names base h cs → ChoicesFit names base h (cs ++ c ∷ [])
fits_push names base h cs c e s g k =
    let here : rewound h c.marks ≡ h.plain = ap (rewound h) e ∙ rewound-now h in
    record {
      fits = all-append (ChoiceFits names base h) cs (c ∷ []) k.fits (
        record {
          within = subst (λ m. Within m h) (sym e) (within-now h);
          stands = subst (PlainStands names) (sym here) s;
          next = subst (λ p. GoesOn names base p c.next) (sym here) g;
        },
        tt,
      );
      rise = rise_push cs c k.rise (all-weaker (ChoiceFits names base h) (λ (d : Choice). Under c.marks d.marks)
          (λ d f. subst (λ m. Under m d.marks) (sym e) (record { cells = f.within.cells; vars = f.within.vars; items = f.within.items; events = f.within.events; log = f.within.log })) cs k.fits);
    }

-- and its world is that of now
pub choice_now : (names : List Name) (base : Base) (h : Held) (c : Choice) → c.marks ≡ marks_of h → choice_of names base h c ≡ open_at base (world_of names h.plain c.stamp) c.stamp c.next
choice_now names base h c e = ap (λ p. open_at base (world_of names p c.stamp) c.stamp c.next) (ap (rewound h) e ∙ rewound-now h)

-- what is known of the newest choice and of those below it
pub record Popped (names : List Name) (base : Base) (h : Held) (cs : List Choice) (c : Choice) : Type 0 where
  pub older : ChoicesFit names base h cs
  pub newest : ChoiceFits names base h c
  pub under : AllByRecursion (λ (d : Choice). Under c.marks d.marks) cs

all-before : {A : Type 0} (P : A → Type 0) (xs : List A) (x : A) → AllByRecursion P (xs ++ x ∷ []) → AllByRecursion P xs × P x
all-before P [] x h = (tt, h.0)
all-before P (y ∷ ys) x h = let r = all-before P ys x h.1 in ((h.0, r.0), r.1)

pub popped : (names : List Name) (base : Base) (h : Held) (cs : List Choice) (c : Choice) → ChoicesFit names base h (cs ++ c ∷ []) → Popped names base h cs c
popped names base h cs c k =
    let f = all-before (ChoiceFits names base h) cs c k.fits in
    let r = go cs k.rise in
    record { older = record { fits = f.0; rise = r.0 }; newest = f.1; under = r.1 }
  where
    go : (cs : List Choice) → MarksRise (cs ++ c ∷ []) → MarksRise cs × AllByRecursion (λ (d : Choice). Under c.marks d.marks) cs
    go [] h = (tt, tt)
    go (d ∷ ds) h =
        let a = all-before (λ (e : Choice). Under e.marks d.marks) ds c h.0 in
        let b = go ds h.1 in
        ((a.0, b.0), (a.1, b.1))

-- the first choices fit
pub fits_take : (names : List Name) (base : Base) (h : Held) (n : ℕ) (cs : List Choice) → ChoicesFit names base h cs → ChoicesFit names base h (take n cs)
fits_take names base h n cs k = record { fits = all-take (ChoiceFits names base h) n cs k.fits; rise = go n cs k.rise }
  where
    all-take : {A : Type 0} (P : A → Type 0) (n : ℕ) (xs : List A) → AllByRecursion P xs → AllByRecursion P (take n xs)
    all-take P zero xs h = tt
    all-take P (suc n) [] h = tt
    all-take P (suc n) (x ∷ xs) h = (h.0, all-take P n xs h.1)

    go : (n : ℕ) (cs : List Choice) → MarksRise cs → MarksRise (take n cs)
    go zero cs h = tt
    go (suc n) [] h = tt
    go (suc n) (d ∷ ds) h = (all-take (λ (e : Choice). Under e.marks d.marks) n ds h.0, go n ds h.1)
