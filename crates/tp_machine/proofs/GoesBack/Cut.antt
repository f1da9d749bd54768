-- Choices that a commit removes.
use Rattle.std.proofs.Common.{◌≡◌, ℕ, ◌<◌, Bool, true, false, cond, nat_lt, List, [], ◌∷◌, ◌++◌, map, reverse, filter, refl, ap, sym, subst, ◌∙◌, arith}
use Rattle.std.specs.List.{AllByRecursion}
use Rattle.std.proofs.lemmas.List.{reverse-append}
use Rattle.std.proofs.lemmas.Bool.Decides.{nat_tests}
use Rattle.tp_terms.specs.Term.{Name}
use Rattle.tp_meaning.specs.Clauses.{Base}
use Rattle.tp_meaning.specs.World.{World}
use Rattle.tp_meaning.specs.Machine as machine
use Rattle.tp_meaning.specs.Machine.{cut_from}
use Rattle.tp_meaning.proofs.ValidWorlds.Places.{all-append}
use Rattle.tp_control.specs.declared.choices.Choice.{Choice}
use Rattle.tp_control.specs.Stamps.{is_before, StampsRise}
use Rattle.tp_state.specs.Going.{Held}
use Rattle.tp_machine.specs.Machine.{choice_of, choices_of}

-- Where stamps rise, a commit removes from the newest choice on exactly those that aren't before its stamp.
module _ (names : List Name) (base : Base) (h : Held) (stamp : ℕ) where
  abbrev open_ : List Choice → List (machine.Choice World)
  open_ cs = choices_of names base h cs

  -- the oldest choice comes last
  oldest : (c : Choice) (cs : List Choice) → choices_of names base h (c ∷ cs) ≡ choices_of names base h cs ++ choice_of names base h c ∷ []
  oldest c cs = ap (map (choice_of names base h)) (reverse-append (c ∷ []) cs) ∙ split (reverse cs)
    where
      split : (xs : List Choice) → map (choice_of names base h) (xs ++ c ∷ []) ≡ map (choice_of names base h) xs ++ choice_of names base h c ∷ []
      split [] = refl
      split (x ∷ xs) = ap (λ l. choice_of names base h x ∷ l) (split xs)

  -- a choice that is before the stamp stays below whatever is left above it
  stays-below : (xs : List (machine.Choice World)) (y : machine.Choice World) → nat_lt y.stamp stamp ≡ true → cut_from stamp (xs ++ y ∷ []) ≡ cut_from stamp xs ++ y ∷ []
  stays-below [] y e = ap (λ b. cond b (y ∷ []) []) e
  stays-below (x ∷ xs) y e = by (nat_lt x.stamp stamp) (stays-below xs y e)
    where
      by : (b : Bool) → cut_from stamp (xs ++ y ∷ []) ≡ cut_from stamp xs ++ y ∷ [] → cond b (x ∷ xs ++ y ∷ []) (cut_from stamp (xs ++ y ∷ [])) ≡ cond b (x ∷ xs) (cut_from stamp xs) ++ y ∷ []
      by true ih = refl
      by false ih = ih

  -- choices none of which is before the stamp go
  all-go : (xs : List (machine.Choice World)) → AllByRecursion (λ (x : machine.Choice World). nat_lt x.stamp stamp ≡ false) xs → cut_from stamp xs ≡ []
  all-go [] a = refl
  all-go (x ∷ xs) a = ap (λ b. cond b (x ∷ xs) (cut_from stamp xs)) a.0 ∙ all-go xs a.1

  -- above a choice that isn't before the stamp, none is
  later : (c : Choice) (cs : List Choice) → nat_lt c.stamp stamp ≡ false → AllByRecursion (λ (d : Choice). c.stamp < d.stamp) cs → (filter (is_before stamp) cs ≡ []) × AllByRecursion (λ (x : machine.Choice World). nat_lt x.stamp stamp ≡ false) (choices_of names base h cs)
  later c [] e a = (refl, tt)
  later c (d ∷ ds) e a =
      let lt : c.stamp < d.stamp = a.0 in
      let no : nat_lt d.stamp stamp ≡ false = grind (arith, nat_tests, lt, e) in
      let rest = later c ds e a.1 in (
        ap (λ b. cond b (d ∷ filter (is_before stamp) ds) (filter (is_before stamp) ds)) no ∙ rest.0,
        subst (AllByRecursion (λ (x : machine.Choice World). nat_lt x.stamp stamp ≡ false)) (sym (oldest d ds))
            (all-append (λ (x : machine.Choice World). nat_lt x.stamp stamp ≡ false) (choices_of names base h ds) (choice_of names base h d ∷ []) rest.1 (no, tt)),
      )

  pub cut_is : (cs : List Choice) → StampsRise cs → choices_of names base h (filter (is_before stamp) cs) ≡ cut_from stamp (choices_of names base h cs)
  cut_is [] r = refl
  cut_is (c ∷ cs) r = by (nat_lt c.stamp stamp) refl (cut_is cs r.1)
    where
      by : (b : Bool) → nat_lt c.stamp stamp ≡ b → choices_of names base h (filter (is_before stamp) cs) ≡ cut_from stamp (choices_of names base h cs) → choices_of names base h (filter (is_before stamp) (c ∷ cs)) ≡ cut_from stamp (choices_of names base h (c ∷ cs))
      by true e ih =
          ap (λ b. choices_of names base h (cond b (c ∷ filter (is_before stamp) cs) (filter (is_before stamp) cs))) e
          ∙ oldest c (filter (is_before stamp) cs)
          ∙ ap (λ l. l ++ choice_of names base h c ∷ []) ih
          ∙ sym (stays-below (choices_of names base h cs) (choice_of names base h c) e)
          ∙ ap (cut_from stamp) (sym (oldest c cs))
      by false e ih =
          let rest = later c cs e r.0 in
          ap (λ b. choices_of names base h (cond b (c ∷ filter (is_before stamp) cs) (filter (is_before stamp) cs))) e
          ∙ ap (choices_of names base h) rest.0
          ∙ sym (ap (cut_from stamp) (oldest c cs)
          ∙ all-go (choices_of names base h cs ++ choice_of names base h c ∷ [])
          (all-append (λ (x : machine.Choice World). nat_lt x.stamp stamp ≡ false) (choices_of names base h cs) (choice_of names base h c ∷ []) rest.1 (e, tt)))
