-- Cells that show trees: what stays when cells and names are added, and what each step makes.
use Rattle.std.proofs.Common.{◌≡◌, ℕ, zero, suc, ◌+◌, ◌-◌, ◌<◌, ◌≤◌, List, [], ◌∷◌, ◌++◌, length, get_or, take, drop, slice_get, codes, Some, refl, sym, ap, subst, ◌∙◌, arith, length-append, append_assoc, append-nil}
use Rattle.std.proofs.lemmas.List.{take-append-drop, length-take, length-drop, take_more}
use Rattle.std.proofs.lemmas.Option.{slice_get_within}
use Rattle.tp_terms.specs.declared.cells.AtomId.{AtomId}
use Rattle.tp_terms.specs.declared.cells.Cell.{Cell}
use Rattle.tp_terms.specs.declared.cells.Cell.TheVariants as cell
use Rattle.tp_terms.specs.Term.{Name, Term, Terms, Comp, NoMore, More}
use Rattle.tp_terms.specs.Names.{Grows}
use Rattle.tp_terms.specs.Shown.{shows, args_at, shown_from, StandsBefore, IsNamed, AreNamed}
use Rattle.tp_terms.proofs.Places.Shown.{shows-append, shows-push, shown_from-append, shown_from-names, AreNamed-longer, AreNamed-append, AreNamed-push, AreNamed-take}
use Rattle.tp_terms.proofs.Naming.Tables.{name_at-slice_get, Grows-length}
use Rattle.tp_parse.specs.Tree.{Tree, Compound, Trees, none, first_of, list_cell}
use Rattle.tp_parse.specs.Numbers.{Numbers, no_numbers, numbered, all_numbered}
use Rattle.tp_parse.specs.Steps.{act, run, trees_of, row, linked, count, IsReady, AreReady}
use Rattle.tp_parse.specs.declared.steps.Step.{Step}
use Rattle.tp_parse.specs.Making.{shown_row, AllBefore, upright, IsMade, IsBuilt, IsGathered}
use Rattle.tp_parse.specs.declared.build.Making.{Making}
use Rattle.tp_parse.proofs.ReadsTerms.Steps.{joined, trees-more}
use Rattle.tp_parse.proofs.ReadsTerms.Loops.{joined-assoc}

-- ---- cells that stand before a place

pub before-more : (c : Cell) (n m : ℕ) → n ≤ m → StandsBefore n c → StandsBefore m c
before-more (cell.Var v) n m l h = tt
before-more (cell.Int i) n m l h = tt
before-more (cell.Atom a) n m l h = tt
before-more (cell.Comp f first k) n m l h = (h.0, let b = h.1 in omega arith)

pub all-more : (cs : List Cell) (n m : ℕ) → n ≤ m → AllBefore n cs → AllBefore m cs
all-more [] n m l h = tt
all-more (c ∷ cs) n m l h = (before-more c n m l h.0, all-more cs n m l h.1)

pub all-at : (cs : List Cell) (n i : ℕ) (d : Cell) → AllBefore n cs → i < length cs → StandsBefore n (get_or cs i d)
all-at [] n i d h l = absurd (omega arith)
all-at (c ∷ cs) n zero d h l = h.0
all-at (c ∷ cs) n (suc i) d h l = all-at cs n i d h.1 (omega arith)

all-append : (cs ds : List Cell) (n : ℕ) → AllBefore n cs → AllBefore n ds → AllBefore n (cs ++ ds)
all-append [] ds n h k = k
all-append (c ∷ cs) ds n h k = (h.0, all-append cs ds n h.1 k)

pub all-take : (i : ℕ) (cs : List Cell) (n : ℕ) → AllBefore n cs → AllBefore n (take i cs)
all-take zero cs n h = tt
all-take (suc i) [] n h = tt
all-take (suc i) (c ∷ cs) n h = (h.0, all-take i cs n h.1)

pub all-drop : (i : ℕ) (cs : List Cell) (n : ℕ) → AllBefore n cs → AllBefore n (drop i cs)
all-drop zero cs n h = h
all-drop (suc i) [] n h = tt
all-drop (suc i) (c ∷ cs) n h = all-drop i cs n h.1

named-drop : (n i : ℕ) (cs : List Cell) → AreNamed n cs → AreNamed n (drop i cs)
named-drop n zero cs h = h
named-drop n (suc i) [] h = tt
named-drop n (suc i) (c ∷ cs) h = named-drop n i cs h.1

-- ---- rows of terms

abbrev joined_terms : Terms → Terms → Terms
joined_terms NoMore us = us
joined_terms (More t ts) us = More t (joined_terms ts us)

abbrev terms_count : Terms → ℕ
terms_count NoMore = 0
terms_count (More t ts) = suc (terms_count ts)

row-append : (names : List Name) (cells cs ds : List Cell) → shown_row names cells (cs ++ ds) ≡ joined_terms (shown_row names cells cs) (shown_row names cells ds)
row-append names cells [] ds = refl
row-append names cells (c ∷ cs) ds = ap (More (shown_from names cells c)) (row-append names cells cs ds)

row-count : (names : List Name) (cells cs : List Cell) → terms_count (shown_row names cells cs) ≡ length cs
row-count names cells [] = refl
row-count names cells (c ∷ cs) = ap suc (row-count names cells cs)

row-cells : (names : List Name) (cells more cs : List Cell) → AllBefore (length cells) cs → shown_row names (cells ++ more) cs ≡ shown_row names cells cs
row-cells names cells more [] h = refl
row-cells names cells more (c ∷ cs) h =
    ap (λ t. More t (shown_row names (cells ++ more) cs)) (shown_from-append names cells more c h.0) ∙ ap (More (shown_from names cells c)) (row-cells names cells more cs h.1)

row-names : (names more : List Name) (cells cs : List Cell) → AreNamed (length names) cells → AreNamed (length names) cs → shown_row (names ++ more) cells cs ≡ shown_row names cells cs
row-names names more cells [] h k = refl
row-names names more cells (c ∷ cs) h k =
    ap (λ t. More t (shown_row (names ++ more) cells cs)) (shown_from-names names more cells c h k.0) ∙ ap (More (shown_from names cells c)) (row-names names more cells cs h k.1)

first-of-terms : (t u : Term) (ts us : Terms) → More t ts ≡ More u us → t ≡ u
first-of-terms t u ts us e = ap (λ x. elim x [ NoMore ↦ t | More a b ↦ a ]) e

rest-of-terms : (t u : Term) (ts us : Terms) → More t ts ≡ More u us → ts ≡ us
rest-of-terms t u ts us e = ap (λ x. elim x [ NoMore ↦ ts | More a b ↦ b ]) e

-- rows of one length that are joined
joined-same : (a b c d : Terms) → terms_count a ≡ terms_count b → joined_terms a c ≡ joined_terms b d → (a ≡ b) × (c ≡ d)
joined-same NoMore NoMore c d n e = (refl, e)
joined-same NoMore (More u b) c d n e = absurd (omega arith)
joined-same (More t a) NoMore c d n e = absurd (omega arith)
joined-same (More t a) (More u b) c d n e =
    let rest = joined-same a b c d (omega arith) (rest-of-terms t u (joined_terms a c) (joined_terms b d) e) in
    (ap (λ x. More x a) (first-of-terms t u (joined_terms a c) (joined_terms b d) e) ∙ ap (More u) rest.0, rest.1)

-- ---- numbers of rows

all-append_numbered : (ts us : Trees) (s : Numbers) → all_numbered (joined ts us) s ≡ (joined_terms (all_numbered ts s).0 (all_numbered us (all_numbered ts s).1).0, (all_numbered us (all_numbered ts s).1).1)
all-append_numbered none us s = refl
all-append_numbered (first_of t ts) us s =
    ap (λ (r : Terms × Numbers). (More (numbered t s).0 r.0, r.1)) (all-append_numbered ts us (numbered t s).1)

numbered-count : (ts : Trees) (s : Numbers) → terms_count (all_numbered ts s).0 ≡ count ts
numbered-count none s = refl
numbered-count (first_of t ts) s = ap suc (numbered-count ts (numbered t s).1)

upright-more : (made : List Tree) (more : Trees) → upright made more ≡ joined (upright made none) more
upright-more [] more = refl
upright-more (t ∷ made) more =
    upright-more made (first_of t more) ∙ sym (joined-assoc (upright made none) (first_of t none) more) ∙ ap (λ ts. joined ts more) (sym (upright-more made (first_of t none)))

upright-count : (made : List Tree) (more : Trees) → count (upright made more) ≡ length made + count more
upright-count [] more = omega arith
upright-count (t ∷ made) more = omega (arith, upright-count made (first_of t more))

upright-split : (n : ℕ) (made : List Tree) (more : Trees) → n ≤ length made → upright made more ≡ joined (upright (drop n made) none) (row n made more)
upright-split zero made more h = upright-more made more
upright-split (suc n) [] more h = absurd (omega arith)
upright-split (suc n) (t ∷ made) more h = upright-split n made (first_of t more) (omega arith)

-- ---- what each step makes

module _ (names : List Name) (old new : Making) (made : List Tree) (t : Tree) (c : Cell) (m : IsMade names old made) (cells : new.cells.items ≡ old.cells.items) (pushed : new.made.items ≡ old.made.items ++ c ∷ []) (number : numbered t old.variables ≡ (shown_from names old.cells.items c, new.variables)) (stands : StandsBefore (length old.cells.items) c) (named : IsNamed (length names) c) where
  leaf : all_numbered (upright (t ∷ made) none) no_numbers ≡ (shown_row names old.cells.items (old.made.items ++ c ∷ []), new.variables)
  leaf =
      ap (λ ts. all_numbered ts no_numbers) (upright-more made (first_of t none)) ∙ all-append_numbered (upright made none) (first_of t none) no_numbers
      ∙ ap (λ (r : Terms × Numbers). (joined_terms r.0 (More (numbered t r.1).0 NoMore), (numbered t r.1).1)) m.shown
      ∙ ap (λ (r : Term × Numbers). (joined_terms (shown_row names old.cells.items old.made.items) (More r.0 NoMore), r.1)) number
      ∙ ap (λ ts. (ts, new.variables)) (sym (row-append names old.cells.items old.made.items (c ∷ [])))

  pub made-leaf : IsMade names new (t ∷ made)
  made-leaf = record {
    shown = leaf ∙ ap (λ l. (shown_row names old.cells.items l, new.variables)) (sym pushed) ∙ ap (λ l. (shown_row names l new.made.items, new.variables)) (sym cells);
    counted = let a = ap length pushed in let b = length-append old.made.items (c ∷ []) in let d = m.counted in omega arith;
    stands = subst (λ l. AllBefore (length l) new.made.items) (sym cells) (subst (AllBefore (length old.cells.items)) (sym pushed) (all-append old.made.items (c ∷ []) (length old.cells.items) m.stands (stands, tt)));
    named = subst (AreNamed (length names)) (sym cells) m.named;
    last_named = subst (AreNamed (length names)) (sym pushed) (AreNamed-push (length names) old.made.items c m.last_named named);
  }

-- a longer table of names
pub made-grows : (old new : List Name) (m : Making) (made : List Tree) → Grows old new → IsMade old m made → IsMade new m made
made-grows old new m made g h =
    let long = Grows-length old new g in
    record {
      shown = h.shown ∙ ap (λ r. (r, m.variables)) (sym (ap (λ n. shown_row n m.cells.items m.made.items) g.added ∙ row-names old g.more m.cells.items m.made.items h.named h.last_named));
      counted = h.counted;
      stands = h.stands;
      named = AreNamed-longer (length old) (length new) m.cells.items long h.named;
      last_named = AreNamed-longer (length old) (length new) m.made.items long h.last_named;
    }

-- what cells show that are added side by side
args-behind : (names : List Name) (old front cs : List Cell) → AllBefore (length old) cs → args_at names ((old ++ front) ++ cs) (length (old ++ front)) (length cs) ≡ shown_row names old cs
args-behind names old front [] h = refl
args-behind names old front (c ∷ cs) h =
    let parts : (old ++ (front ++ c ∷ [])) ++ cs ≡ (old ++ front) ++ c ∷ cs =
    ap (λ l. l ++ cs) (sym (append_assoc old front (c ∷ []))) ∙ append_assoc (old ++ front) (c ∷ []) cs in
    let long : length (old ++ (front ++ c ∷ [])) ≡ suc (length (old ++ front)) = omega (arith, length-append old (front ++ c ∷ []), length-append front (c ∷ []), length-append old front) in
    let this : shows names ((old ++ front) ++ c ∷ cs) (length (old ++ front)) ≡ shown_from names old c =
    ap (λ l. shows names l (length (old ++ front))) (sym (append_assoc (old ++ front) (c ∷ []) cs))
    ∙ shows-append names ((old ++ front) ++ c ∷ []) cs (length (old ++ front)) (omega (arith, length-append (old ++ front) (c ∷ [])))
    ∙ shows-push names (old ++ front) c ∙ shown_from-append names old front c h.0 in
    let rest : args_at names ((old ++ front) ++ c ∷ cs) (suc (length (old ++ front))) (length cs) ≡ shown_row names old cs =
    ap (λ l. args_at names l (suc (length (old ++ front))) (length cs)) (sym parts)
    ∙ ap (λ n. args_at names ((old ++ (front ++ c ∷ [])) ++ cs) n (length cs)) (sym long)
    ∙ args-behind names old (front ++ c ∷ []) cs h.1 in
    ap (λ t. More t (args_at names ((old ++ front) ++ c ∷ cs) (suc (length (old ++ front))) (length cs))) this ∙ ap (More (shown_from names old c)) rest

args-added : (names : List Name) (old cs : List Cell) → AllBefore (length old) cs → args_at names (old ++ cs) (length old) (length cs) ≡ shown_row names old cs
args-added names old cs h =
    ap (λ l. args_at names (l ++ cs) (length l) (length cs)) (sym (append-nil old)) ∙ args-behind names old [] cs h

-- what stands where the last terms are gathered, and how many are left
pub gathered-stands : (old new : Making) (atom : AtomId) (n : ℕ) → IsGathered atom n old new → 0 < n → n ≤ length old.made.items → AllBefore (length old.cells.items) old.made.items → AllBefore (length new.cells.items) new.made.items
gathered-stands old new atom n g some enough h =
    let long : length new.cells.items ≡ length old.cells.items + n = omega (arith, ap length g.cells, length-append old.cells.items (drop (length old.made.items - n) old.made.items), length-drop (length old.made.items - n) old.made.items) in
    subst (AllBefore (length new.cells.items)) (sym g.made)
    (all-append (take (length old.made.items - n) old.made.items) (cell.Comp atom (record { at = length old.cells.items }) n ∷ []) (length new.cells.items)
    (all-more (take (length old.made.items - n) old.made.items) (length old.cells.items) (length new.cells.items) (omega arith) (all-take (length old.made.items - n) old.made.items (length old.cells.items) h)) ((some, omega arith), tt))

pub gathered-left : (old new : Making) (atom : AtomId) (n : ℕ) → IsGathered atom n old new → n ≤ length old.made.items → length new.made.items + n ≡ suc (length old.made.items)
gathered-left old new atom n g enough =
    omega (arith, ap length g.made, length-append (take (length old.made.items - n) old.made.items) (cell.Comp atom (record { at = length old.cells.items }) n ∷ []), length-take (length old.made.items - n) old.made.items)

-- a compound of the last terms
module _ (names : List Name) (old new : Making) (made : List Tree) (atom : AtomId) (name : Name) (n : ℕ) (m : IsMade names old made) (g : IsGathered atom n old new) (some : 0 < n) (enough : n ≤ length old.made.items) (there : slice_get names atom.at ≡ Some name) (within : atom.at < length names) where
  abbrev front : List Cell
  front = take (length old.made.items - n) old.made.items

  abbrev last : List Cell
  last = drop (length old.made.items - n) old.made.items

  abbrev comp : Cell
  comp = cell.Comp atom (record { at = length old.cells.items }) n

  abbrev lower : Trees
  lower = upright (drop n made) none

  abbrev args : Trees
  args = row n made none

  abbrev lower_terms : Terms × Numbers
  lower_terms = all_numbered lower no_numbers

  abbrev arg_terms : Terms × Numbers
  arg_terms = all_numbered args lower_terms.1

  last-length : length last ≡ n
  last-length = omega (arith, length-drop (length old.made.items - n) old.made.items)

  front-length : length front + n ≡ length old.made.items
  front-length = omega (arith, length-take (length old.made.items - n) old.made.items)

  parts : front ++ last ≡ old.made.items
  parts = take-append-drop (length old.made.items - n) old.made.items

  both : ◌≡◌ {A = Terms × Numbers} (joined_terms lower_terms.0 arg_terms.0, arg_terms.1) (shown_row names old.cells.items old.made.items, old.variables)
  both =
      let fits : n ≤ length made = omega (arith, m.counted) in
      sym (ap (λ ts. all_numbered ts no_numbers) (upright-split n made none fits) ∙ all-append_numbered lower args no_numbers) ∙ m.shown

  same-terms : (lower_terms.0 ≡ shown_row names old.cells.items front) × (arg_terms.0 ≡ shown_row names old.cells.items last)
  same-terms =
      let a = numbered-count lower no_numbers in
      let b = upright-count (drop n made) none in
      let d = length-drop n made in
      let e = row-count names old.cells.items front in
      let f = front-length in
      let k = m.counted in
      joined-same lower_terms.0 (shown_row names old.cells.items front) arg_terms.0 (shown_row names old.cells.items last) (omega arith)
      (ap (λ (r : Terms × Numbers). r.0) both ∙ ap (shown_row names old.cells.items) (sym parts) ∙ row-append names old.cells.items front last)

  shown-comp : shown_from names new.cells.items comp ≡ Comp name (shown_row names old.cells.items last)
  shown-comp =
      ap (λ l. shown_from names l comp) g.cells
      ∙ ap (λ x. Comp x (args_at names (old.cells.items ++ last) (length old.cells.items) n)) (name_at-slice_get names atom.at name there)
      ∙ ap (Comp name) (ap (args_at names (old.cells.items ++ last) (length old.cells.items)) (sym last-length) ∙ args-added names old.cells.items last (all-drop (length old.made.items - n) old.made.items (length old.cells.items) m.stands))

  shown-new : shown_row names new.cells.items new.made.items ≡ joined_terms (shown_row names old.cells.items front) (More (Comp name (shown_row names old.cells.items last)) NoMore)
  shown-new =
      ap (shown_row names new.cells.items) g.made ∙ row-append names new.cells.items front (comp ∷ [])
      ∙ ap (λ t. joined_terms (shown_row names new.cells.items front) (More t NoMore)) shown-comp
      ∙ ap (λ ts. joined_terms ts (More (Comp name (shown_row names old.cells.items last)) NoMore)) (ap (λ l. shown_row names l front) g.cells ∙ row-cells names old.cells.items last front (all-take (length old.made.items - n) old.made.items (length old.cells.items) m.stands))

  gathered : all_numbered (upright (Compound name args ∷ drop n made) none) no_numbers ≡ (shown_row names new.cells.items new.made.items, new.variables)
  gathered =
      ap (λ ts. all_numbered ts no_numbers) (upright-more (drop n made) (first_of (Compound name args) none)) ∙ all-append_numbered lower (first_of (Compound name args) none) no_numbers
      ∙ ap (λ ts. (joined_terms ts (More (Comp name arg_terms.0) NoMore), arg_terms.1)) same-terms.0
      ∙ ap (λ ts. (joined_terms (shown_row names old.cells.items front) (More (Comp name ts) NoMore), arg_terms.1)) same-terms.1
      ∙ ap (λ s. (joined_terms (shown_row names old.cells.items front) (More (Comp name (shown_row names old.cells.items last)) NoMore), s)) (ap (λ (r : Terms × Numbers). r.1) both ∙ sym g.variables)
      ∙ ap (λ ts. (ts, new.variables)) (sym shown-new)

  pub made-gather : IsMade names new (Compound name args ∷ drop n made)
  made-gather =
      let long : length new.cells.items ≡ length old.cells.items + n = omega (arith, ap length g.cells, length-append old.cells.items last, last-length) in
      record {
        shown = gathered;
        counted = let a = ap length g.made in let b = length-append front (comp ∷ []) in let d = length-drop n made in let f = front-length in let k = m.counted in omega arith;
        stands = gathered-stands old new atom n g some enough m.stands;
        named = subst (AreNamed (length names)) (sym g.cells) (AreNamed-append (length names) old.cells.items last m.named (named-drop (length names) (length old.made.items - n) old.made.items m.last_named));
        last_named = subst (AreNamed (length names)) (sym g.made) (AreNamed-push (length names) front comp (AreNamed-take (length names) (length old.made.items - n) old.made.items m.last_named) within);
      }

-- one link more makes a compound of the last two trees
link-last : (i : ℕ) (made : List Tree) → suc i < length made → linked (suc i) made ≡ Compound (codes ".") (row 2 (linked i made) none) ∷ drop 2 (linked i made)
link-last i [] h = absurd (omega arith)
link-last i (t ∷ []) h = absurd (omega arith)
link-last zero (t ∷ u ∷ made) h = refl
link-last (suc i) (t ∷ u ∷ made) h = link-last i (list_cell u t ∷ made) (omega arith)

pub made-link : (names : List Name) (old new : Making) (made : List Tree) (atom : AtomId) (i k : ℕ) → slice_get names atom.at ≡ Some (codes ".") → IsMade names old (linked i made) → IsGathered atom 2 old new → 2 ≤ length old.made.items → k ≡ suc i → k < length made → IsMade names new (linked k made)
made-link names old new made atom i k there m g enough is h =
    subst (λ n. IsMade names new (linked n made)) (sym is)
    (subst (IsMade names new) (sym (link-last i made (omega arith)))
    (made-gather names old new (linked i made) atom (codes ".") 2 m g (omega arith) enough there (slice_get_within names atom.at (codes ".") there)))

pair-same : (r : Term × Numbers) (t : Term) (s : Numbers) → r.0 ≡ t → r.1 ≡ s → r ≡ (t, s)
pair-same r t s e f = ap (λ x. (x, r.1)) e ∙ ap (λ x. (t, x)) f

-- nothing is made at the start
pub made-start : (names : List Name) (m : Making) → m.cells.items ≡ [] → m.made.items ≡ [] → m.variables ≡ no_numbers → IsMade names m []
made-start names m c l v = record {
  shown = ap (λ s. (NoMore, s)) (sym v) ∙ ap (λ x. (shown_row names m.cells.items x, m.variables)) (sym l);
  counted = ap length l;
  stands = subst (AllBefore (length m.cells.items)) (sym l) tt;
  named = subst (AreNamed (length names)) (sym c) tt;
  last_named = subst (AreNamed (length names)) (sym l) tt;
}

-- the last cell, added to the others, shows the one tree
pub built : (names : List Name) (m : Making) (made : List Tree) (tree : Tree) (cells : List Cell) (root : ℕ) (c : Cell) → IsMade names m made → made ≡ tree ∷ [] → c ≡ get_or m.made.items 0 c → root ≡ length m.cells.items → cells ≡ m.cells.items ++ c ∷ [] → IsBuilt names cells root m.variables tree
built names m made tree cells root c h e first r p = go m.made.items h.shown h.counted h.last_named first
  where
    one : all_numbered (upright made none) no_numbers ≡ (More (numbered tree no_numbers).0 NoMore, (numbered tree no_numbers).1)
    one = ap (λ l. all_numbered (upright l none) no_numbers) e

    shows-it : shows names cells root ≡ shown_from names m.cells.items c
    shows-it = ap (λ l. shows names l root) p ∙ ap (shows names (m.cells.items ++ c ∷ [])) r ∙ shows-push names m.cells.items c

    go : (l : List Cell) → all_numbered (upright made none) no_numbers ≡ (shown_row names m.cells.items l, m.variables) → length l ≡ length made → AreNamed (length names) l → c ≡ get_or l 0 c → IsBuilt names cells root m.variables tree
    go [] s n k f = absurd (omega (arith, n, ap length e))
    go (d ∷ []) s n k f =
        let both : ◌≡◌ {A = Terms × Numbers} (More (numbered tree no_numbers).0 NoMore, (numbered tree no_numbers).1) (More (shown_from names m.cells.items d) NoMore, m.variables) = sym one ∙ s in
        let term : (numbered tree no_numbers).0 ≡ shown_from names m.cells.items d = first-of-terms _ _ NoMore NoMore (ap (λ (r : Terms × Numbers). r.0) both) in
        record {
          term = pair-same (numbered tree no_numbers) (shows names cells root) m.variables (term ∙ ap (shown_from names m.cells.items) (sym f) ∙ sym shows-it) (ap (λ (r : Terms × Numbers). r.1) both);
          within = omega (arith, r, ap length p, length-append m.cells.items (c ∷ []));
          named = subst (AreNamed (length names)) (sym p) (AreNamed-push (length names) m.cells.items c h.named (subst (IsNamed (length names)) (sym f) k.0));
        }
    go (d ∷ b ∷ l) s n k f = absurd (omega (arith, n, ap length e))

-- ---- the steps in turn

pub ready-at : (text : List ℕ) (made : List Tree) (steps : List Step) (i : ℕ) (d : Step) → AreReady text made steps → i < length steps → IsReady text (length (run text made (take i steps))) (get_or steps i d)
ready-at text made [] i d h l = absurd (omega arith)
ready-at text made (s ∷ steps) zero d h l = h.0
ready-at text made (s ∷ steps) (suc i) d h l = ready-at text (act text s made) steps i d h.1 (omega arith)

pub ready-length : (text : List ℕ) (n m : ℕ) (s : Step) → n ≡ m → IsReady text n s → IsReady text m s
ready-length text n m s e h = subst (λ k. IsReady text k s) e h

pub trees-take : (text : List ℕ) (steps : List Step) (i : ℕ) (d : Step) → i < length steps → trees_of text (take (i + 1) steps) ≡ act text (get_or steps i d) (trees_of text (take i steps))
trees-take text steps i d h = trees-more text (take i steps) (take (i + 1) steps) (get_or steps i d) (take_more steps i d h)
