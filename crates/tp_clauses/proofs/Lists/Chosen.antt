-- What is found in the lists of a base are the candidates.
use Rattle.std.proofs.Common.{◌≡◌, ◌<◌, arith, length, ℕ, Bool, true, false, List, [], ◌∷◌, slice_get, Some, None, ◌||◌, cond, filter, refl, sym, ap, subst, ◌∙◌, if◌then◌else◌}
use Rattle.tp_clauses.specs.Candidates.{HasLists, listed_in}
use Rattle.tp_clauses.specs.Contents.{Contents, places_of}
use Rattle.tp_clauses.specs.First.{candidates_of, first_arg, is_indexed, may_match, same_first}
use Rattle.tp_terms.specs.declared.cells.AtomId.{AtomId}
use Rattle.tp_clauses.specs.declared.base.ClauseId.{ClauseId}
use Rattle.tp_clauses.specs.declared.candidates.Candidates.{Candidates}
use Rattle.tp_clauses.specs.declared.first.FirstArg.{FirstArg}
use Rattle.tp_clauses.specs.declared.first.FirstArg.TheVariants.{Any}
use Rattle.tp_clauses.specs.declared.first.FirstKey.{FirstKey}
use Rattle.tp_clauses.specs.declared.kind.Key.{Key}
use Rattle.tp_clauses.proofs.Lists.Kept.{chosen, in_list, in_none, in_open, kept}

abbrev pub key_with : Key → FirstArg → FirstKey
key_with key f = record { key = key; first = f }

-- a goal of any first argument is tried with all clauses
pub chosen_all : (c : Contents) (name : AtomId) (arity : ℕ) (f : FirstArg) → same_first f Any ≡ true → places_of name arity c ≡ candidates_of name arity f c
chosen_all c name arity f any = sym (all_of (is_indexed name arity c))
  where
    passing : (xs : List ClauseId) → filter (λ id. may_match f (first_arg c id)) xs ≡ xs
    passing [] = refl
    passing (x ∷ xs) = ap (λ b. cond ((b || same_first (first_arg c x) Any) || same_first f (first_arg c x)) (x ∷ filter (λ id. may_match f (first_arg c id)) xs) (filter (λ id. may_match f (first_arg c id)) xs)) any ∙ ap (λ l. x ∷ l) (passing xs)

    all_of : (b : Bool) → (if b then filter (λ id. may_match f (first_arg c id)) (places_of name arity c) else places_of name arity c) ≡ places_of name arity c
    all_of true = passing (places_of name arity c)
    all_of false = refl

module _ (c : Contents) (lists : Candidates) (h : HasLists c lists) (key : Key) (f : FirstArg) (other : same_first f Any ≡ false) where
  abbrev all : List ClauseId
  all = places_of key.name key.arity c

  -- the list of the first argument
  pub chosen_own : (l : List ClauseId) → listed_in lists (key_with key f) ≡ Some l → l ≡ candidates_of key.name key.arity f c
  chosen_own l e = in_list (first_arg c) f other all l (sym (h.kept (key_with key f)) ∙ e)

  -- a predicate that has a list has clauses
  pub chosen_some : (l : List ClauseId) → listed_in lists (key_with key f) ≡ Some l → 0 < length all
  chosen_some l e = go all (sym (h.kept (key_with key f)) ∙ e)
    where
      go : (xs : List ClauseId) → kept (first_arg c) f xs ≡ Some l → 0 < length xs
      go [] e = absurd (cc)
      go (x ∷ xs) e = omega arith

  -- the list for the first arguments that no clause has
  pub chosen_any : (l : List ClauseId) → listed_in lists (key_with key f) ≡ None → listed_in lists (key_with key Any) ≡ Some l → l ≡ candidates_of key.name key.arity f c
  chosen_any l none e = in_open (first_arg c) f other all l (sym (h.kept (key_with key f)) ∙ none) (sym (h.kept (key_with key Any)) ∙ e)

  -- no list: all or none, as the first clause tells
  pub chosen_first : (x : ClauseId) → slice_get all 0 ≡ Some x → listed_in lists (key_with key f) ≡ None → listed_in lists (key_with key Any) ≡ None → (if may_match f (first_arg c x) then all else []) ≡ candidates_of key.name key.arity f c
  chosen_first x here none none_any = go all here (sym (h.kept (key_with key f)) ∙ none) (sym (h.kept (key_with key Any)) ∙ none_any)
    where
      go : (xs : List ClauseId) → slice_get xs 0 ≡ Some x → kept (first_arg c) f xs ≡ None → kept (first_arg c) Any xs ≡ None → (if may_match f (first_arg c x) then xs else []) ≡ chosen (first_arg c) f xs
      go [] e a b = absurd (cc)
      go (y ∷ ys) e a b = let same : y ≡ x = cc in subst (λ z. (if may_match f (first_arg c z) then y ∷ ys else []) ≡ chosen (first_arg c) f (y ∷ ys)) same (in_none (first_arg c) f other y ys a b)
