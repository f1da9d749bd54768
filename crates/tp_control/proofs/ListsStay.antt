-- Lists of items: each place keeps its list, whatever is added behind it.
use Rattle.std.proofs.Common.{◌≡◌, ℕ, suc, ◌+◌, ◌<◌, ◌≤◌, Bool, true, false, nat_lt, List, [], ◌∷◌, ◌++◌, length, take, drop, Option, Some, None, IfSome, slice_get, get_or, refl, ap, sym, subst, ◌∙◌, arith, length-append, inl, inr}
use Rattle.std.proofs.lemmas.List.{get_or_append_left, take-append-drop, length-take-le, take-take, take_all}
use Rattle.std.proofs.Math.Seq.{get_or-append_seam, drop-cons, take-append_seam}
use Rattle.std.proofs.lemmas.Option.{slice_get_within, get_or_from_slice_get}
use borrow.Author.Tests.{ltb-true, ltb-false}
use Rattle.tp_terms.proofs.Naming.Tables.{slice_get-append, slice_get-push}
use Rattle.tp_terms.specs.declared.world.ItemId.{ItemId}
use Rattle.tp_control.specs.declared.frames.Item.{Item}
use Rattle.tp_control.specs.declared.frames.Frame.{Frame}
use Rattle.tp_control.specs.Lists.{items_at, lists_from, lists, AreLinked}

-- the list of a frame behind these lists
abbrev pub list_of : List (List Item) → Frame → List Item
list_of ls f = f.item ∷ items_at ls f.next

lists_from-append : (ls : List (List Item)) (fs gs : List Frame) → lists_from ls (fs ++ gs) ≡ lists_from (lists_from ls fs) gs
unfolding lists_from
lists_from-append ls [] gs = refl
lists_from-append ls (f ∷ fs) gs = lists_from-append (ls ++ list_of ls f ∷ []) fs gs

length-lists_from : (ls : List (List Item)) (fs : List Frame) → length (lists_from ls fs) ≡ length ls + length fs
unfolding lists_from
length-lists_from ls [] = omega arith
length-lists_from ls (f ∷ fs) = omega (arith, length-lists_from (ls ++ list_of ls f ∷ []) fs, length-append ls (list_of ls f ∷ []))

pub length-lists : (fs : List Frame) → length (lists fs) ≡ length fs
length-lists fs = omega (arith, length-lists_from [] fs)

-- a further frame
pub lists-push : (fs : List Frame) (f : Frame) → lists (fs ++ f ∷ []) ≡ lists fs ++ list_of (lists fs) f ∷ []
unfolding lists_from
lists-push fs f = lists_from-append [] fs (f ∷ [])

-- lists that stood first stand first
stood : (ls : List (List Item)) (fs : List Frame) → take (length ls) (lists_from ls fs) ≡ ls
unfolding lists_from
stood ls [] = take_all (length ls) ls (omega arith)
stood ls (f ∷ fs) =
    let x : List Item = list_of ls f in
    let longer : length (ls ++ x ∷ []) ≡ length ls + 1 = length-append ls (x ∷ []) in
    let all = lists_from (ls ++ x ∷ []) fs in
    sym (take-take (length ls) (length (ls ++ x ∷ [])) all (omega arith))
    ∙ ap (take (length ls)) (stood (ls ++ x ∷ []) fs)
    ∙ take-append_seam ls (x ∷ [])

pub lists-take : (n : ℕ) (fs : List Frame) → lists (take n fs) ≡ take n (lists fs)
lists-take n fs = go (nat_lt n (length fs)) refl
  where
    go : (b : Bool) → nat_lt n (length fs) ≡ b → lists (take n fs) ≡ take n (lists fs)
    go true e =
        let lt : n < length fs = ltb-true n (length fs) e in
        let here : length (lists (take n fs)) ≡ n = length-lists (take n fs) ∙ length-take-le n fs (omega arith) in
        sym (stood (lists (take n fs)) (drop n fs))
        ∙ ap (λ k. take k (lists_from (lists (take n fs)) (drop n fs))) here
        ∙ ap (take n) (sym (lists_from-append [] (take n fs) (drop n fs)) ∙ ap lists (take-append-drop n fs))
    go false e =
        let le : length fs ≤ n = ltb-false n (length fs) e in
        ap lists (take_all n fs le) ∙ sym (take_all n (lists fs) (omega (arith, length-lists fs)))

-- a list that is there is kept when further lists come behind it
pub items_at-append : (ls more : List (List Item)) (next : Option ItemId) → IfSome next (λ i. i.at < length ls) → items_at (ls ++ more) next ≡ items_at ls next
items_at-append ls more None h = refl
items_at-append ls more (Some i) h = get_or_append_left ls more [] i.at h

-- the list of a new last place
pub items_at-push : (ls : List (List Item)) (l : List Item) (more : List (List Item)) (i : ItemId) → i.at ≡ length ls → items_at (ls ++ l ∷ more) (Some i) ≡ l
items_at-push ls l more i e = ap (λ n. get_or (ls ++ l ∷ more) n []) e ∙ get_or-append_seam ls l more []

module _ (fs : List Frame) (at : ℕ) (f : Frame) (here : slice_get fs at ≡ Some f) where
  parts : take at fs ++ f ∷ drop (suc at) fs ≡ fs
  parts =
      let within : at < length fs = slice_get_within fs at f here in
      let same : get_or fs at f ≡ f = get_or_from_slice_get fs at f f here in
      ap (λ d. take at fs ++ d ∷ drop (suc at) fs) (sym same) ∙ ap (λ ds. take at fs ++ ds) (sym (drop-cons fs at f within)) ∙ take-append-drop at fs

  long : length (take at fs) ≡ at
  long = let within : at < length fs = slice_get_within fs at f here in length-take-le at fs (omega arith)

  abbrev before : List (List Item)
  before = lists (take at fs)

  there : lists fs ≡ lists_from (before ++ list_of before f ∷ []) (drop (suc at) fs)
  unfolding lists_from
  there = ap lists (sym parts) ∙ lists_from-append [] (take at fs) (f ∷ drop (suc at) fs)

  -- the list of a place
  pub items_at-frame : IfSome f.next (λ i. i.at < at) → items_at (lists fs) (Some (record { at = at })) ≡ list_of (lists fs) f
  items_at-frame linked =
      let within : at < length fs = slice_get_within fs at f here in
      let len : length before ≡ at = length-lists (take at fs) ∙ long in
      let first : List (List Item) = before ++ list_of before f ∷ [] in
      let lenf : length first ≡ at + 1 = length-append before (list_of before f ∷ []) ∙ ap (λ n. n + 1) len in
      let whole : take (length first) (lists fs) ≡ first = ap (take (length first)) there ∙ stood first (drop (suc at) fs) in
      let split : lists fs ≡ first ++ drop (length first) (lists fs) = sym (take-append-drop (length first) (lists fs)) ∙ ap (λ ls. ls ++ drop (length first) (lists fs)) whole in
      let item : items_at first (Some (record { at = at })) ≡ list_of before f = items_at-push before (list_of before f) [] (record { at = at }) (sym len) in
      let rest = kept first (drop (length first) (lists fs)) split len linked in
      ap (λ ls. items_at ls (Some (record { at = at }))) split
      ∙ get_or_append_left first (drop (length first) (lists fs)) [] at (omega arith)
      ∙ item ∙ ap (λ is. f.item ∷ is) (sym rest)
    where
      kept : (first more : List (List Item)) → lists fs ≡ (before ++ list_of before f ∷ []) ++ more → length before ≡ at → IfSome f.next (λ i. i.at < at) → items_at (lists fs) f.next ≡ items_at before f.next
      kept first more split len h =
          let ends : IfSome f.next (λ i. i.at < length before) = subst (λ n. IfSome f.next (λ i. i.at < n)) (sym len) h in
          ap (λ ls. items_at ls f.next) (split ∙ assoc before (list_of before f) more) ∙ items_at-append before (list_of before f ∷ more) f.next ends
        where
          assoc : (ls : List (List Item)) (l : List Item) (ms : List (List Item)) → (ls ++ l ∷ []) ++ ms ≡ ls ++ l ∷ ms
          assoc [] l ms = refl
          assoc (x ∷ ls) l ms = ap (λ ns. x ∷ ns) (assoc ls l ms)

-- frames are linked when one more comes behind them, and when the last ones go
pub linked-push : (fs : List Frame) (f : Frame) → AreLinked fs → IfSome f.next (λ i. i.at < length fs) → AreLinked (fs ++ f ∷ [])
linked-push fs f h k at g e = elim (slice_get-push fs f at g e) [
  | inl there ↦ h at g there
  | inr last ↦ subst (λ n. IfSome g.next (λ i. i.at < n)) (sym last.0) (subst (λ (q : Frame). IfSome q.next (λ i. i.at < length fs)) (sym last.1) k)
]

pub linked-take : (n : ℕ) (fs : List Frame) → AreLinked fs → AreLinked (take n fs)
linked-take n fs h at f e =
    h at f (ap (λ gs. slice_get gs at) (sym (take-append-drop n fs)) ∙ slice_get-append (take n fs) (drop n fs) at (slice_get_within (take n fs) at f e) ∙ e)

-- a place before another is before what that one is before
pub next_within : (next : Option ItemId) (at n : ℕ) → at < n → IfSome next (λ i. i.at < at) → IfSome next (λ i. i.at < n)
next_within None at n lt h = tt
next_within (Some i) at n lt h = omega arith
