-- Steps: one more step, arguments on the trees before, and lists.
use Rattle.std.proofs.Common.{◌≡◌, ℕ, suc, ◌+◌, ◌<◌, List, [], ◌∷◌, ◌++◌, length, drop, ℤ, pos, refl, sym, ap, subst, ◌∙◌, arith}
use Rattle.tp_parse.specs.Tree.{Tree, Integer, Compound, Trees, none, first_of, list_cell, integers, empty_list}
use Rattle.tp_parse.specs.Steps.{act, run, trees_of, row, IsReady, AreReady, label_name, onto, count, list_of, linked, onto_codes}
use Rattle.tp_parse.specs.declared.steps.Label.{Label}
use Rattle.tp_parse.specs.declared.steps.Label.TheVariants as label
use Rattle.tp_parse.specs.declared.steps.Step.{Step}
use Rattle.tp_parse.specs.declared.steps.Step.TheVariants as step

run-push : (text : List ℕ) (made : List Tree) (steps : List Step) (s : Step) → run text made (steps ++ s ∷ []) ≡ act text s (run text made steps)
run-push text made [] s = refl
run-push text made (r ∷ steps) s = run-push text (act text r made) steps s

ready-push : (text : List ℕ) (made : List Tree) (steps : List Step) (s : Step) → AreReady text made steps → IsReady text (length (run text made steps)) s → AreReady text made (steps ++ s ∷ [])
ready-push text made [] s h k = (k, tt)
ready-push text made (r ∷ steps) s h k = (h.0, ready-push text (act text r made) steps s h.1 k)

-- one more step
pub trees-more : (text : List ℕ) (steps new : List Step) (s : Step) → new ≡ steps ++ s ∷ [] → trees_of text new ≡ act text s (trees_of text steps)
trees-more text steps new s e = ap (trees_of text) e ∙ run-push text [] steps s

pub ready-more : (text : List ℕ) (steps new : List Step) (s : Step) → new ≡ steps ++ s ∷ [] → AreReady text [] steps → IsReady text (length (trees_of text steps)) s → AreReady text [] new
ready-more text steps new s e h k = subst (AreReady text []) (sym e) (ready-push text [] steps s h k)

-- ---- arguments

pub length-onto : (ts : Trees) (made : List Tree) → length (onto ts made) ≡ count ts + length made
length-onto none made = omega arith
length-onto (first_of t ts) made = omega (arith, length-onto ts (t ∷ made))

abbrev pub joined : Trees → Trees → Trees
joined none us = us
joined (first_of t ts) us = first_of t (joined ts us)

pub joined-none : (ts : Trees) → joined ts none ≡ ts
joined-none none = refl
joined-none (first_of t ts) = ap (first_of t) (joined-none ts)

pub onto-joined : (ts us : Trees) (made : List Tree) → onto (joined ts us) made ≡ onto us (onto ts made)
onto-joined none us made = refl
onto-joined (first_of t ts) us made = onto-joined ts us (t ∷ made)

pub count-joined : (ts us : Trees) → count (joined ts us) ≡ count ts + count us
count-joined none us = omega arith
count-joined (first_of t ts) us = omega (arith, count-joined ts us)

row-onto : (ts : Trees) (n m : ℕ) (made : List Tree) (more : Trees) → n ≡ count ts + m → row n (onto ts made) more ≡ row m made (joined ts more)
row-onto none n m made more e = ap (λ k. row k made more) (let f : n ≡ m = omega arith in f)
row-onto (first_of t ts) n m made more e = row-onto ts n (suc m) (t ∷ made) more (omega arith)

drop-onto : (ts : Trees) (n m : ℕ) (made : List Tree) → n ≡ count ts + m → drop n (onto ts made) ≡ drop m made
drop-onto none n m made e = ap (λ k. drop k made) (let f : n ≡ m = omega arith in f)
drop-onto (first_of t ts) n m made e = drop-onto ts n (suc m) (t ∷ made) (omega arith)

-- a compound of the arguments that were made last
pub act-onto : (text : List ℕ) (name : Label) (ts : Trees) (n : ℕ) (made : List Tree) → count ts ≡ n → act text (step.Compound n name) (onto ts made) ≡ Compound (label_name text name) ts ∷ made
act-onto text name ts n made e =
    let m : n ≡ count ts + 0 = omega arith in
    ap (λ r. Compound (label_name text name) r ∷ drop n (onto ts made)) (row-onto ts n 0 made none m ∙ joined-none ts)
    ∙ ap (λ r. Compound (label_name text name) ts ∷ r) (drop-onto ts n 0 made m)

-- ---- lists

linked-onto : (ts : Trees) (n m : ℕ) (tail : Tree) (made : List Tree) → n ≡ count ts + m → linked n (tail ∷ onto ts made) ≡ linked m (list_of ts tail ∷ made)
linked-onto none n m tail made e = ap (λ k. linked k (tail ∷ made)) (let f : n ≡ m = omega arith in f)
linked-onto (first_of t ts) n m tail made e = linked-onto ts n (suc m) tail (t ∷ made) (omega arith)

pub linked-list : (ts : Trees) (n : ℕ) (tail : Tree) (made : List Tree) → count ts ≡ n → linked n (tail ∷ onto ts made) ≡ list_of ts tail ∷ made
linked-list ts n tail made e = linked-onto ts n 0 tail made (omega arith)

-- ---- codes

abbrev codes_of : List ℕ → Trees
codes_of [] = none
codes_of (n ∷ ns) = first_of (Integer (pos n)) (codes_of ns)

count-codes : (ns : List ℕ) → count (codes_of ns) ≡ length ns
count-codes [] = refl
count-codes (n ∷ ns) = ap suc (count-codes ns)

onto-codes : (ns : List ℕ) (made : List Tree) → onto_codes ns made ≡ onto (codes_of ns) made
onto-codes [] made = refl
onto-codes (n ∷ ns) made = onto-codes ns (Integer (pos n) ∷ made)

list-codes : (ns : List ℕ) → list_of (codes_of ns) empty_list ≡ integers ns
list-codes [] = refl
list-codes (n ∷ ns) = ap (list_cell (Integer (pos n))) (list-codes ns)

pub linked-codes : (ns : List ℕ) (n : ℕ) (made : List Tree) → length ns ≡ n → linked n (empty_list ∷ onto_codes ns made) ≡ integers ns ∷ made
linked-codes ns n made e =
    ap (λ m. linked n (empty_list ∷ m)) (onto-codes ns made) ∙ linked-list (codes_of ns) n empty_list made (count-codes ns ∙ e) ∙ ap (λ t. t ∷ made) (list-codes ns)

pub length-onto_codes : (ns : List ℕ) (made : List Tree) → length (onto_codes ns made) ≡ length ns + length made
length-onto_codes [] made = omega arith
length-onto_codes (n ∷ ns) made = omega (arith, length-onto_codes ns (Integer (pos n) ∷ made))

onto_codes-push : (ns : List ℕ) (n : ℕ) (made : List Tree) → onto_codes (ns ++ n ∷ []) made ≡ Integer (pos n) ∷ onto_codes ns made
onto_codes-push [] n made = refl
onto_codes-push (m ∷ ns) n made = onto_codes-push ns n (Integer (pos m) ∷ made)

pub codes-more : (text : List ℕ) (steps new : List Step) (z : ℤ) (name : List ℕ) (item : ℕ) (before : List Tree) → new ≡ steps ++ step.Integer z ∷ [] → z ≡ pos item → trees_of text steps ≡ onto_codes name before → trees_of text new ≡ onto_codes (name ++ item ∷ []) before
codes-more text steps new z name item before e f same =
    trees-more text steps new _ e ∙ ap (λ m. Integer z ∷ m) same ∙ ap (λ y. Integer y ∷ onto_codes name before) f ∙ sym (onto_codes-push name item before)

pub enough-codes : (text : List ℕ) (mid new : List Step) (name : List ℕ) (n : ℕ) (before : List Tree) → trees_of text mid ≡ onto_codes name before → new ≡ mid ++ step.Atom label.EmptyList ∷ [] → n ≡ length name → n < length (trees_of text new)
enough-codes text mid new name n before e f g =
    let a = ap length (trees-more text mid new _ f) in
    let b = ap length e in
    let k = length-onto_codes name before in
    omega arith

pub list-made : (text : List ℕ) (mid new : List Step) (name whole : List ℕ) (n : ℕ) (before after : List Tree) → trees_of text mid ≡ onto_codes name before → new ≡ mid ++ step.Atom label.EmptyList ∷ [] → n ≡ length name → name ≡ whole → after ≡ linked n (trees_of text new) → after ≡ integers whole ∷ before
list-made text mid new name whole n before after e f g same h =
    h ∙ ap (linked n) (trees-more text mid new _ f ∙ ap (λ m. empty_list ∷ m) e) ∙ linked-codes name n before (sym g) ∙ ap (λ l. integers l ∷ before) same
