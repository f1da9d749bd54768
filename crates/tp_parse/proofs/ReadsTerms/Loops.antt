-- One turn of the reader's loops, and what its exits give.
use Rattle.std.proofs.Common.{nat_le, ◌≡◌, ◌≢◌, ℕ, zero, suc, ◌-◌, ◌<◌, ◌≤◌, IsTrue, Bool, true, false, List, [], ◌∷◌, ◌++◌, length, ◌⊎◌, inl, inr, Option, Some, None, Result, Ok, Err, codes, refl, sym, ap, subst, ◌∙◌, arith, if◌then◌else◌}
use Rattle.std.proofs.lemmas.Bool.{lt-leb, le-leb}
use Rattle.std.specs.Option.{option_map}
use Rattle.tp_terms.specs.Term.{Name}
use Rattle.tp_lex.specs.Form.{has_name}
use Rattle.tp_lex.specs.Next.{token_name}
use Rattle.tp_lex.specs.Tokens.{Lexed}
use Rattle.tp_lex.specs.declared.token.TokenKind.{TokenKind}
use Rattle.tp_lex.specs.declared.token.TokenKind.TheVariants as kind
use Rattle.tp_parse.specs.declared.fault.ReadCause.TheVariants as cause
use Rattle.tp_parse.specs.declared.words.Word.{Word}
use Rattle.tp_parse.specs.declared.steps.Label.{Label}
use Rattle.tp_parse.specs.declared.steps.Label.TheVariants as label
use Rattle.tp_parse.specs.declared.steps.Step.{Step}
use Rattle.tp_parse.specs.declared.steps.Step.TheVariants as step
use Rattle.tp_parse.specs.declared.stop.Stop.{Stop}
use Rattle.tp_parse.specs.declared.stop.Stop.TheVariants.{At, NoMemory}
use Rattle.tp_parse.specs.declared.stop.Follows.{Follows}
use Rattle.tp_parse.specs.declared.stop.Follows.TheVariants.{More, Nothing}
use Rattle.tp_parse.specs.Tree.{Tree, Atom, Compound, Trees, none, first_of, unary, binary, list_cell}
use Rattle.tp_parse.specs.Table.{Op, Table, right_bound}
use Rattle.tp_parse.specs.Ahead.{after_first, first_kind, infix_ahead}
use Rattle.tp_parse.specs.Reading.{Read, Term, Inner, ◌>>=◌, primary, primary_by, infix_part, infix_parts, is_taken, args, after_arg, elements, after_element, reading, too_deep, behind, braced, prefixed, prefixed_by, named, closes_by}
use Rattle.tp_parse.specs.Words.{lexed_of, ahead, AreKnown, IsKnown, first_word, after_word, kind_of, atom_before, prefix_by, infix_by}
use Rattle.tp_parse.specs.Steps.{act, trees_of, label_name, top_of, under, onto, count, list_of, linked, infix_word, taken_of, operator_of, operator_by, is_named, IsLabel, label_by, labelled}
use Rattle.tp_parse.specs.Gives.{Fails, IsRead, GivesTerm, IsRow, IsArg, IsLastArg, GivesArg, IsElement, IsLastElement, GivesElement, IsList, IsNoPart, IsPart, FollowsArg, simple, operand, compound}
use Rattle.tp_parse.proofs.ReadsTerms.Words.{ahead-after, ahead-kind, ahead-infix, ahead-atom}
use Rattle.tp_parse.proofs.ReadsTerms.Steps.{trees-more, joined, onto-joined, count-joined, act-onto, linked-list, length-onto}

-- ---- stops

pub Fails-then : {A B : Type 0} (left : List Lexed) (e : Stop) (r : Read A) (f : A → Read B) (whole : Read B) → whole ≡ (r >>= f) → Fails left e r → Fails left e whole
Fails-then left NoMemory r f whole w h = tt
Fails-then left (At c) r f whole w h = w ∙ ap (λ x. x >>= f) h

pub Fails-same : {A : Type 0} (left : List Lexed) (e : Stop) (r whole : Read A) → whole ≡ r → Fails left e r → Fails left e whole
Fails-same left NoMemory r whole w h = tt
Fails-same left (At c) r whole w h = w ∙ h

-- ---- levels

pub reading-zero : (ops : Table) (m p : ℕ) (ts : List Lexed) → m ≡ 0 → reading ops m p ts ≡ too_deep ts
unfolding reading
reading-zero ops zero p ts e = refl
reading-zero ops (suc m) p ts e = cc

pub reading-step : (ops : Table) (m p : ℕ) (ts : List Lexed) → m ≢ 0 → reading ops m p ts ≡ (primary ops (reading ops (m - 1)) p ts >>= λ r. infix_parts ops (reading ops (m - 1)) (length r.2) p r.0 r.1 r.2)
unfolding reading
reading-step ops zero p ts h = absurd (h refl)
reading-step ops (suc m) p ts h = let e : suc m - 1 ≡ m = omega arith in rw e refl

-- what was read is the whole, where the rest gives what it gives behind it
pub read-then : (start mid after : List Tree) (left behind_it : List Lexed) (p : ℕ) (result : Result ℕ Stop) (r : Read Term) (f : Term → Read Term) (whole : Read Term) → whole ≡ (r >>= f) → IsRead start mid left p r →
    GivesTerm (under mid) after behind_it result (f (top_of mid, p, left)) → GivesTerm start after behind_it result whole
read-then start mid after left behind_it p result r f whole w h g =
    let made : mid ≡ h.tree ∷ start = h.made in
    let same : whole ≡ f (top_of mid, p, left) = w ∙ ap (λ x. x >>= f) h.read ∙ ap (λ t. f (t, p, left)) (sym (ap top_of made)) in
    subst (GivesTerm start after behind_it result) (sym same) (subst (λ s. GivesTerm s after behind_it result (f (top_of mid, p, left))) (ap under made) g)

pub read-some : (start mid : List Tree) (left : List Lexed) (p : ℕ) (r : Read Term) → IsRead start mid left p r → 0 < length mid
read-some start mid left p r h = omega (arith, ap length h.made)

-- ---- a first part

pub primary-none : (ops : Table) (inner : Inner) (p : ℕ) (text : List ℕ) (ws : List Word) → first_word ws ≡ None → primary ops inner p (ahead text ws) ≡ Err (cause.Syntax, ahead text ws)
unfolding primary
primary-none ops inner p text [] e = refl
primary-none ops inner p text (w ∷ ws) e = cc

pub primary-some : (ops : Table) (inner : Inner) (p : ℕ) (text : List ℕ) (ws : List Word) (w : Word) → first_word ws ≡ Some w → primary ops inner p (ahead text ws) ≡ primary_by ops inner p (lexed_of text w) (ahead text (after_word ws)) w.token.kind
unfolding primary
primary-some ops inner p text [] w e = cc
primary-some ops inner p text (v ∷ ws) w e = let same : v ≡ w = cc in ap (λ x. primary_by ops inner p (lexed_of text x) (ahead text ws) x.token.kind) same

-- where the first word's kind is one that has terms in it
pub primary-at : (ops : Table) (inner : Inner) (p : ℕ) (text : List ℕ) (ws left : List Word) (w : Word) (k : TokenKind) → first_word ws ≡ Some w → w.token.kind ≡ k → left ≡ after_word ws → primary ops inner p (ahead text ws) ≡ primary_by ops inner p (lexed_of text w) (ahead text left) k
primary-at ops inner p text ws left w k e f l =
    primary-some ops inner p text ws w e ∙ ap (primary_by ops inner p (lexed_of text w) (ahead text (after_word ws))) f ∙ ap (λ x. primary_by ops inner p (lexed_of text w) (ahead text x) k) (sym l)

pub primary-named : (ops : Table) (inner : Inner) (p : ℕ) (text : List ℕ) (ws left : List Word) (w : Word) → first_word ws ≡ Some w → IsTrue (is_named w.token.kind) → left ≡ after_word ws → primary ops inner p (ahead text ws) ≡ named ops inner p (lexed_of text w) (ahead text left)
primary-named ops inner p text ws left w e n l =
    primary-some ops inner p text ws w e ∙ by w.token.kind n ∙ ap (λ x. named ops inner p (lexed_of text w) (ahead text x)) (sym l)
  where
    by : (k : TokenKind) → IsTrue (is_named k) → primary_by ops inner p (lexed_of text w) (ahead text (after_word ws)) k ≡ named ops inner p (lexed_of text w) (ahead text (after_word ws))
    by kind.Name h = refl
    by kind.Quoted h = refl
    by kind.Variable h = cc
    by kind.Integer h = cc
    by kind.Codes h = cc
    by kind.Open h = cc
    by kind.Close h = cc
    by kind.OpenList h = cc
    by kind.CloseList h = cc
    by kind.OpenCurly h = cc
    by kind.CloseCurly h = cc
    by kind.Comma h = cc
    by kind.Bar h = cc
    by kind.End h = cc

pub primary-simple : (ops : Table) (inner : Inner) (p : ℕ) (text : List ℕ) (ws : List Word) (w : Word) → first_word ws ≡ Some w → w.token.kind ≢ kind.Name → w.token.kind ≢ kind.Quoted → w.token.kind ≢ kind.Open → w.token.kind ≢ kind.OpenList → w.token.kind ≢ kind.OpenCurly → primary ops inner p (ahead text ws) ≡ simple (lexed_of text w) (ahead text (after_word ws)) w.token.kind
primary-simple ops inner p text ws w e a b c d f = primary-some ops inner p text ws w e ∙ by w.token.kind a b c d f
  where
    by : (k : TokenKind) → k ≢ kind.Name → k ≢ kind.Quoted → k ≢ kind.Open → k ≢ kind.OpenList → k ≢ kind.OpenCurly → primary_by ops inner p (lexed_of text w) (ahead text (after_word ws)) k ≡ simple (lexed_of text w) (ahead text (after_word ws)) k
    by kind.Name a b c d f = absurd (a refl)
    by kind.Quoted a b c d f = absurd (b refl)
    by kind.Open a b c d f = absurd (c refl)
    by kind.OpenList a b c d f = absurd (d refl)
    by kind.OpenCurly a b c d f = absurd (f refl)
    by kind.Variable a b c d f = refl
    by kind.Integer a b c d f = refl
    by kind.Codes a b c d f = refl
    by kind.Close a b c d f = refl
    by kind.CloseList a b c d f = refl
    by kind.CloseCurly a b c d f = refl
    by kind.Comma a b c d f = refl
    by kind.Bar a b c d f = refl
    by kind.End a b c d f = refl

-- ---- arguments

abbrev pub with_front : Trees → Read (Trees × List Lexed) → Read (Trees × List Lexed)
with_front front r = r >>= λ x. Ok (joined front x.0, x.1)

pub joined-assoc : (ts us vs : Trees) → joined (joined ts us) vs ≡ joined ts (joined us vs)
joined-assoc none us vs = refl
joined-assoc (first_of t ts) us vs = ap (first_of t) (joined-assoc ts us vs)

with_front-arg : (front : Trees) (t : Tree) (r : Read (Trees × List Lexed)) → with_front front (r >>= λ x. Ok (first_of t x.0, x.1)) ≡ with_front (joined front (first_of t none)) r
with_front-arg front t (Ok x) = ap (λ ts. Ok (ts, x.1)) (sym (joined-assoc front (first_of t none) x.0))
with_front-arg front t (Err e) = refl

with_front-none : (r : Read (Trees × List Lexed)) → r ≡ with_front none r
with_front-none (Ok x) = refl
with_front-none (Err e) = refl

-- so many arguments were read, and so many may come
pub record ArgsSoFar (inner : Inner) (whole : Read (Trees × List Lexed)) (n done : ℕ) (start made : List Tree) (ts : List Lexed) : Type 0 where
  pub front : Trees
  pub same : whole ≡ with_front front (args inner n ts)
  pub made_is : made ≡ onto front start
  pub counted : count front ≡ done

pub args-start : (inner : Inner) (n : ℕ) (start : List Tree) (ts : List Lexed) → ArgsSoFar inner (args inner n ts) n 0 start start ts
args-start inner n start ts = record { front = none; same = with_front-none (args inner n ts); made_is = refl; counted = refl }

pub args-more : (inner : Inner) (whole : Read (Trees × List Lexed)) (n m k done next : ℕ) (start made after : List Tree) (ts left : List Lexed) → n ≡ suc m → m ≡ k → next ≡ suc done → ArgsSoFar inner whole n done start made ts → IsArg inner m made after left (args inner (suc m) ts) → ArgsSoFar inner whole k next start after left
args-more inner whole n m k done next start made after ts left e g f s a = record {
  front = joined s.front (first_of a.tree none);
  same = s.same ∙ ap (λ k. with_front s.front (args inner k ts)) e ∙ ap (with_front s.front) a.read ∙ with_front-arg s.front a.tree (args inner m left) ∙ ap (λ k. with_front (joined s.front (first_of a.tree none)) (args inner k left)) g;
  made_is = a.made ∙ ap (λ l. a.tree ∷ l) s.made_is ∙ sym (onto-joined s.front (first_of a.tree none) start);
  counted = let k = s.counted in let l = count-joined s.front (first_of a.tree none) in omega arith;
}

pub args-last : (inner : Inner) (whole : Read (Trees × List Lexed)) (n m done next : ℕ) (start made after : List Tree) (ts left : List Lexed) → n ≡ suc m → next ≡ suc done → ArgsSoFar inner whole n done start made ts → IsLastArg made after left (args inner (suc m) ts) → IsRow start after left next whole
args-last inner whole n m done next start made after ts left e f s a = record {
  trees = joined s.front (first_of a.tree none);
  read = s.same ∙ ap (λ k. with_front s.front (args inner k ts)) e ∙ ap (with_front s.front) a.read;
  made = a.made ∙ ap (λ l. a.tree ∷ l) s.made_is ∙ sym (onto-joined s.front (first_of a.tree none) start);
  counted = let k = s.counted in let l = count-joined s.front (first_of a.tree none) in omega arith;
  some = omega arith;
}

pub args-fails : (inner : Inner) (whole : Read (Trees × List Lexed)) (n m done : ℕ) (start made : List Tree) (ts left : List Lexed) (stop : Stop) → n ≡ suc m → ArgsSoFar inner whole n done start made ts → Fails left stop (args inner (suc m) ts) → Fails left stop whole
args-fails inner whole n m done start made ts left stop e s h =
    Fails-then left stop (args inner (suc m) ts) (λ x. Ok (joined s.front x.0, x.1)) whole (s.same ∙ ap (λ k. with_front s.front (args inner k ts)) e) h

pub args-end : (inner : Inner) (whole : Read (Trees × List Lexed)) (n done : ℕ) (start made : List Tree) (ts : List Lexed) → n ≡ 0 → ArgsSoFar inner whole n done start made ts → whole ≡ Err (cause.Arity, ts)
unfolding args
args-end inner whole n done start made ts e s = s.same ∙ ap (λ k. with_front s.front (args inner k ts)) e

args-step : (inner : Inner) (n : ℕ) (ts : List Lexed) → args inner (suc n) ts ≡ (inner 999 ts >>= λ r. after_arg (args inner n) n r.0 r.2 (first_kind r.2))
unfolding args
args-step inner n ts = refl

-- an argument, by what follows it
pub arg-then : (inner : Inner) (n : ℕ) (start mid : List Tree) (ts us left : List Lexed) (p : ℕ) (result : Result Follows Stop) → IsRead start mid us p (inner 999 ts) →
    FollowsArg (args inner n) n (top_of mid) left result (after_arg (args inner n) n (top_of mid) us (first_kind us)) → GivesArg inner n start mid left result (args inner (suc n) ts)
arg-then inner n start mid ts us left p result h f = by result f
  where
    whole : args inner (suc n) ts ≡ after_arg (args inner n) n (top_of mid) us (first_kind us)
    whole = args-step inner n ts ∙ ap (λ x. x >>= λ r. after_arg (args inner n) n r.0 r.2 (first_kind r.2)) h.read ∙ ap (λ t. after_arg (args inner n) n t us (first_kind us)) (sym (ap top_of h.made))

    made : mid ≡ top_of mid ∷ start
    made = h.made ∙ ap (λ t. t ∷ start) (sym (ap top_of h.made))

    by : (r : Result Follows Stop) → FollowsArg (args inner n) n (top_of mid) left r (after_arg (args inner n) n (top_of mid) us (first_kind us)) → GivesArg inner n start mid left r (args inner (suc n) ts)
    by (Ok Nothing) f = record { tree = top_of mid; read = whole ∙ f; made = made }
    by (Ok More) f = record { tree = top_of mid; read = whole ∙ f.0; made = made; some = f.1 }
    by (Err stop) f = Fails-same left stop _ _ whole f

pub arg-fails : (inner : Inner) (n : ℕ) (ts left : List Lexed) (stop : Stop) → Fails left stop (inner 999 ts) → Fails left stop (args inner (suc n) ts)
arg-fails inner n ts left stop h = Fails-then left stop (inner 999 ts) _ _ (args-step inner n ts) h

-- ---- elements

abbrev pub with_list : Trees → Read (Tree × List Lexed) → Read (Tree × List Lexed)
with_list front r = r >>= λ x. Ok (list_of front x.0, x.1)

list_of-joined : (front : Trees) (t u : Tree) → list_of (joined front (first_of t none)) u ≡ list_of front (list_cell t u)
list_of-joined none t u = refl
list_of-joined (first_of s front) t u = ap (list_cell s) (list_of-joined front t u)

with_list-element : (front : Trees) (t : Tree) (r : Read (Tree × List Lexed)) → with_list front (r >>= λ x. Ok (list_cell t x.0, x.1)) ≡ with_list (joined front (first_of t none)) r
with_list-element front t (Ok x) = ap (λ u. Ok (u, x.1)) (sym (list_of-joined front t x.0))
with_list-element front t (Err e) = refl

with_list-none : (r : Read (Tree × List Lexed)) → r ≡ with_list none r
with_list-none (Ok x) = refl
with_list-none (Err e) = refl

pub record ElementsSoFar (inner : Inner) (whole : Read (Tree × List Lexed)) (n done : ℕ) (start made : List Tree) (ts : List Lexed) : Type 0 where
  pub front : Trees
  pub same : whole ≡ with_list front (elements inner n ts)
  pub made_is : made ≡ onto front start
  pub counted : count front ≡ done

pub elements-start : (inner : Inner) (n m : ℕ) (start : List Tree) (ts : List Lexed) → n ≡ m → ElementsSoFar inner (elements inner n ts) m 0 start start ts
elements-start inner n m start ts e = record { front = none; same = ap (λ k. elements inner k ts) e ∙ with_list-none (elements inner m ts); made_is = refl; counted = refl }

pub elements-more : (inner : Inner) (whole : Read (Tree × List Lexed)) (n m done next : ℕ) (start made after : List Tree) (ts left : List Lexed) → n ≡ suc m → next ≡ suc done → ElementsSoFar inner whole n done start made ts → IsElement inner m made after left (elements inner (suc m) ts) → ElementsSoFar inner whole m next start after left
elements-more inner whole n m done next start made after ts left e f s a = record {
  front = joined s.front (first_of a.tree none);
  same = s.same ∙ ap (λ k. with_list s.front (elements inner k ts)) e ∙ ap (with_list s.front) a.read ∙ with_list-element s.front a.tree (elements inner m left);
  made_is = a.made ∙ ap (λ l. a.tree ∷ l) s.made_is ∙ sym (onto-joined s.front (first_of a.tree none) start);
  counted = let k = s.counted in let l = count-joined s.front (first_of a.tree none) in omega arith;
}

-- the last element, with the list's links
pub elements-last : (inner : Inner) (whole : Read (Tree × List Lexed)) (n m done next : ℕ) (start made mid after : List Tree) (ts left : List Lexed) → n ≡ suc m → next ≡ suc done → ElementsSoFar inner whole n done start made ts → IsLastElement made mid left (elements inner (suc m) ts) → after ≡ linked next mid → IsList start after left whole
elements-last inner whole n m done next start made mid after ts left e f s a l = record {
  tree = list_of (joined s.front (first_of a.tree none)) a.rest;
  read = s.same ∙ ap (λ k. with_list s.front (elements inner k ts)) e ∙ ap (with_list s.front) a.read ∙ ap (λ t. Ok (t, left)) (sym (list_of-joined s.front a.tree a.rest));
  made =
      let k = s.counted in let c = count-joined s.front (first_of a.tree none) in
      l ∙ ap (linked next) (a.made ∙ ap (λ x. a.rest ∷ a.tree ∷ x) s.made_is ∙ ap (λ x. a.rest ∷ x) (sym (onto-joined s.front (first_of a.tree none) start)))
      ∙ linked-list (joined s.front (first_of a.tree none)) next a.rest start (omega arith);
}

pub elements-enough : (inner : Inner) (whole : Read (Tree × List Lexed)) (n done next : ℕ) (start made mid : List Tree) (ts left : List Lexed) (r : Read (Tree × List Lexed)) → next ≡ suc done → ElementsSoFar inner whole n done start made ts → IsLastElement made mid left r → next < length mid
elements-enough inner whole n done next start made mid ts left r f s a =
    let k = s.counted in let a1 = ap length a.made in let b = ap length s.made_is in let c = length-onto s.front start in omega arith

pub elements-fails : (inner : Inner) (whole : Read (Tree × List Lexed)) (n m done : ℕ) (start made : List Tree) (ts left : List Lexed) (stop : Stop) → n ≡ suc m → ElementsSoFar inner whole n done start made ts → Fails left stop (elements inner (suc m) ts) → Fails left stop whole
elements-fails inner whole n m done start made ts left stop e s h =
    Fails-then left stop (elements inner (suc m) ts) (λ x. Ok (list_of s.front x.0, x.1)) whole (s.same ∙ ap (λ k. with_list s.front (elements inner k ts)) e) h

pub elements-end : (inner : Inner) (whole : Read (Tree × List Lexed)) (n done : ℕ) (start made : List Tree) (ts : List Lexed) → n ≡ 0 → ElementsSoFar inner whole n done start made ts → whole ≡ Err (cause.Syntax, ts)
unfolding elements
elements-end inner whole n done start made ts e s = s.same ∙ ap (λ k. with_list s.front (elements inner k ts)) e

elements-step : (inner : Inner) (n : ℕ) (ts : List Lexed) → elements inner (suc n) ts ≡ (inner 999 ts >>= λ r. after_element inner (elements inner n) r.0 r.2 (first_kind r.2))
unfolding elements
elements-step inner n ts = refl

pub element-fails : (inner : Inner) (n : ℕ) (ts left : List Lexed) (stop : Stop) → Fails left stop (inner 999 ts) → Fails left stop (elements inner (suc n) ts)
element-fails inner n ts left stop h = Fails-then left stop (inner 999 ts) _ _ (elements-step inner n ts) h

pub element-then : (inner : Inner) (n : ℕ) (start mid after : List Tree) (ts us left : List Lexed) (p : ℕ) (result : Result Follows Stop) → IsRead start mid us p (inner 999 ts) →
    GivesElement inner n (under mid) after left result (after_element inner (elements inner n) (top_of mid) us (first_kind us)) → GivesElement inner n start after left result (elements inner (suc n) ts)
element-then inner n start mid after ts us left p result h f =
    let made : mid ≡ h.tree ∷ start = h.made in
    let whole : elements inner (suc n) ts ≡ after_element inner (elements inner n) (top_of mid) us (first_kind us) =
    elements-step inner n ts ∙ ap (λ x. x >>= λ r. after_element inner (elements inner n) r.0 r.2 (first_kind r.2)) h.read ∙ ap (λ t. after_element inner (elements inner n) t us (first_kind us)) (sym (ap top_of made)) in
    subst (GivesElement inner n start after left result) (sym whole) (subst (λ s. GivesElement inner n s after left result (after_element inner (elements inner n) (top_of mid) us (first_kind us))) (ap under made) f)

-- ---- infix parts

pub record PartsSoFar (ops : Table) (inner : Inner) (p : ℕ) (whole : Read Term) (n q : ℕ) (start made : List Tree) (ts : List Lexed) : Type 0 where
  pub tree : Tree
  pub same : whole ≡ infix_parts ops inner n p tree q ts
  pub made_is : made ≡ tree ∷ start

pub parts-start : (ops : Table) (inner : Inner) (p n m q : ℕ) (made : List Tree) (ts : List Lexed) → 0 < length made → n ≡ m → PartsSoFar ops inner p (infix_parts ops inner n p (top_of made) q ts) m q (under made) made ts
parts-start ops inner p n m q [] ts h e = absurd (omega arith)
parts-start ops inner p n m q (t ∷ made) ts h e = record { tree = t; same = ap (λ k. infix_parts ops inner k p t q ts) e; made_is = refl }

infix_parts-step : (ops : Table) (inner : Inner) (n p : ℕ) (t : Tree) (q : ℕ) (ts : List Lexed) → infix_parts ops inner (suc n) p t q ts ≡ infix_part inner (infix_parts ops inner n p) p t q ts (infix_ahead ops ts)
unfolding infix_parts
infix_parts-step ops inner n p t q ts = refl

module _ (ops : Table) (inner : Inner) (p : ℕ) (whole : Read Term) (n m q : ℕ) (start made : List Tree) (ts left : List Lexed) (is : n ≡ suc m) (s : PartsSoFar ops inner p whole n q start made ts) where
  this : whole ≡ infix_part inner (infix_parts ops inner m p) p (top_of made) q ts (infix_ahead ops ts)
  this = s.same ∙ ap (λ k. infix_parts ops inner k p s.tree q ts) is ∙ infix_parts-step ops inner m p s.tree q ts ∙ ap (λ t. infix_part inner (infix_parts ops inner m p) p t q ts (infix_ahead ops ts)) (sym (ap top_of s.made_is))

  pub parts-more : (after : List Tree) (r : ℕ) → IsPart (infix_parts ops inner m p) r (under made) after left (infix_part inner (infix_parts ops inner m p) p (top_of made) q ts (infix_ahead ops ts)) → PartsSoFar ops inner p whole m r start after left
  parts-more after r a = record { tree = a.tree; same = this ∙ a.read; made_is = a.made ∙ ap (λ l. a.tree ∷ l) (ap under s.made_is) }

  pub parts-none : (new : List Tree) → IsNoPart (top_of made) q made new ts left (infix_part inner (infix_parts ops inner m p) p (top_of made) q ts (infix_ahead ops ts)) → IsRead start new left q whole
  parts-none new a = record { tree = top_of made; read = this ∙ a.read ∙ ap (λ l. Ok (top_of made, q, l)) (sym a.left_is); made = a.made ∙ s.made_is ∙ ap (λ t. t ∷ start) (sym (ap top_of s.made_is)) }

  pub parts-fails : (stop : Stop) → Fails left stop (infix_part inner (infix_parts ops inner m p) p (top_of made) q ts (infix_ahead ops ts)) → Fails left stop whole
  parts-fails stop h = Fails-same left stop _ whole this h

pub parts-end : (ops : Table) (inner : Inner) (p : ℕ) (whole : Read Term) (n q : ℕ) (start made : List Tree) (ts : List Lexed) → n ≡ 0 → PartsSoFar ops inner p whole n q start made ts → IsRead start made ts q whole
unfolding infix_parts
parts-end ops inner p whole n q start made ts e s = record { tree = s.tree; read = s.same ∙ ap (λ k. infix_parts ops inner k p s.tree q ts) e; made = s.made_is }

-- one infix part, by the operator that is taken
module _ (ops : Table) (inner : Inner) (text : List ℕ) (more : Tree → ℕ → List Lexed → Read Term) (p q : ℕ) (t : Tree) (ws : List Word) (known : AreKnown ops text ws) where
  abbrev taken_part : Option (Label × Op) → Read Term
  taken_part None = Ok (t, q, ahead text ws)
  taken_part (Some o) = inner (right_bound o.1) (after_first (ahead text ws)) >>= λ r. more (binary (label_name text o.0) t r.0) (o.1).0 r.2

  part-taken : (o : Option (Label × Op)) → infix_part inner more p t q (ahead text ws) (option_map (λ (r : Label × Op). (label_name text r.0, r.1)) o) ≡ taken_part (taken_of p q o)
  part-taken None = refl
  part-taken (Some o) = by (is_taken o.1 p q)
    where
      by : (b : Bool) → (if b then (inner (right_bound o.1) (after_first (ahead text ws)) >>= λ r. more (binary (label_name text o.0) t r.0) (o.1).0 r.2) else Ok (t, q, ahead text ws)) ≡ taken_part (if b then Some o else None)
      by true = refl
      by false = refl

  part : infix_part inner more p t q (ahead text ws) (infix_ahead ops (ahead text ws)) ≡ taken_part (taken_of p q (infix_word (first_word ws)))
  part = ap (infix_part inner more p t q (ahead text ws)) (ahead-infix ops text ws known) ∙ part-taken (infix_word (first_word ws))

  pub part-none : taken_of p q (infix_word (first_word ws)) ≡ None → infix_part inner more p t q (ahead text ws) (infix_ahead ops (ahead text ws)) ≡ Ok (t, q, ahead text ws)
  part-none e = part ∙ ap taken_part e

  pub part-some : (o : Label × Op) (left : List Word) → taken_of p q (infix_word (first_word ws)) ≡ Some o → left ≡ after_word ws → infix_part inner more p t q (ahead text ws) (infix_ahead ops (ahead text ws)) ≡ (inner (right_bound o.1) (ahead text left) >>= λ r. more (binary (label_name text o.0) t r.0) (o.1).0 r.2)
  part-some o left e l = part ∙ ap taken_part e ∙ ap (λ x. inner (right_bound o.1) x >>= λ r. more (binary (label_name text o.0) t r.0) (o.1).0 r.2) (sym (ap (ahead text) l ∙ ahead-after text ws))

pub act-binary : (text : List ℕ) (name : Label) (t u : Tree) (made mid : List Tree) → mid ≡ u ∷ made → 0 < length made → act text (step.Compound 2 name) mid ≡ binary (label_name text name) (top_of made) u ∷ under made
act-binary text name t u [] mid e h = absurd (omega arith)
act-binary text name t u (s ∷ made) mid e h = ap (act text (step.Compound 2 name)) e

-- ---- prefix operators

-- a prefix operator with its operand, where its priority is within the bound
abbrev pub within : Inner → ℕ → Name → List Lexed → Op → Read Term
within inner p f ts o = if nat_le o.0 p then operand inner f ts o else Err (cause.Syntax, ts)

abbrev pub by_operator : Inner → ℕ → Name → List Lexed → Option Op → Read Term
by_operator inner p f ts None = Ok (Atom f, 0, ts)
by_operator inner p f ts (Some o) = within inner p f ts o

pub prefixed-is : (ops : Table) (inner : Inner) (text : List ℕ) (p : ℕ) (w : Word) (ws : List Word) (o : Option Op) → AreKnown ops text ws → IsKnown ops text w → IsTrue (is_named w.token.kind) → operator_of w ws ≡ o → prefixed ops inner p (token_name text w.token) (ahead text ws) ≡ by_operator inner p (token_name text w.token) (ahead text ws) o
unfolding prefixed
prefixed-is ops inner text p w ws o k g n e =
    ap (λ x. prefixed_by ops inner p (token_name text w.token) (ahead text ws) x) (sym (kind_is w.token.kind n) ∙ sym g.before)
    ∙ by w.as_prefix ∙ ap (by_operator inner p (token_name text w.token) (ahead text ws)) e
  where
    kind_is : (c : TokenKind) → IsTrue (is_named c) → prefix_by ops c (token_name text w.token) ≡ ops.prefixes (token_name text w.token)
    kind_is kind.Name h = refl
    kind_is kind.Quoted h = refl
    kind_is kind.Variable h = cc
    kind_is kind.Integer h = cc
    kind_is kind.Codes h = cc
    kind_is kind.Open h = cc
    kind_is kind.Close h = cc
    kind_is kind.OpenList h = cc
    kind_is kind.CloseList h = cc
    kind_is kind.OpenCurly h = cc
    kind_is kind.CloseCurly h = cc
    kind_is kind.Comma h = cc
    kind_is kind.Bar h = cc
    kind_is kind.End h = cc

    by : (x : Option Op) → prefixed_by ops inner p (token_name text w.token) (ahead text ws) x ≡ by_operator inner p (token_name text w.token) (ahead text ws) (operator_by x (atom_before (first_word ws) (first_word (after_word ws))))
    by None = choice (atom_before (first_word ws) (first_word (after_word ws)))
      where
        choice : (b : Bool) → Ok (Atom (token_name text w.token), 0, ahead text ws) ≡ by_operator inner p (token_name text w.token) (ahead text ws) (operator_by None b)
        choice true = refl
        choice false = refl
    by (Some x) = ap (λ b. if b then Ok (Atom (token_name text w.token), 0, ahead text ws) else within inner p (token_name text w.token) (ahead text ws) x) (ahead-atom ops text ws k) ∙ choice (atom_before (first_word ws) (first_word (after_word ws)))
      where
        choice : (b : Bool) → (if b then Ok (Atom (token_name text w.token), 0, ahead text ws) else within inner p (token_name text w.token) (ahead text ws) x) ≡ by_operator inner p (token_name text w.token) (ahead text ws) (operator_by (Some x) b)
        choice true = refl
        choice false = refl

pub operand-taken : (inner : Inner) (p : ℕ) (f : Name) (ts : List Lexed) (o : Op) → o.0 ≤ p → within inner p f ts o ≡ operand inner f ts o
operand-taken inner p f ts o h = ap (λ (b : Bool). if b then operand inner f ts o else Err (cause.Syntax, ts)) (le-leb o.0 p h)

pub operand-refused : (inner : Inner) (p : ℕ) (f : Name) (ts : List Lexed) (o : Op) → p < o.0 → within inner p f ts o ≡ Err (cause.Syntax, ts)
operand-refused inner p f ts o h = ap (λ (b : Bool). if b then operand inner f ts o else Err (cause.Syntax, ts)) (lt-leb o.0 p h)

-- ---- steps on what was read

pub compound-read : (inner : Inner) (text : List ℕ) (steps new : List Step) (start : List Tree) (name : Label) (n : ℕ) (ts us left : List Lexed) → new ≡ steps ++ step.Compound n name ∷ [] → us ≡ after_first ts → IsRow start (trees_of text steps) left n (args inner 255 us) → IsRead start (trees_of text new) left 0 (compound inner (label_name text name) ts)
compound-read inner text steps new start name n ts us left e l r = record {
  tree = Compound (label_name text name) r.trees;
  read = ap (λ x. args inner 255 x >>= λ r. Ok (Compound (label_name text name) r.0, 0, r.1)) (sym l) ∙ ap (λ x. x >>= λ r. Ok (Compound (label_name text name) r.0, 0, r.1)) r.read;
  made = trees-more text steps new (step.Compound n name) e ∙ ap (act text (step.Compound n name)) r.made ∙ act-onto text name r.trees n start r.counted;
}

pub operand-read : (inner : Inner) (text : List ℕ) (steps new : List Step) (start : List Tree) (name : Label) (q : ℕ) (ts left : List Lexed) (o : Op) → new ≡ steps ++ step.Compound 1 name ∷ [] → IsRead start (trees_of text steps) left q (inner (right_bound o) ts) → IsRead start (trees_of text new) left o.0 (operand inner (label_name text name) ts o)
operand-read inner text steps new start name q ts left o e r = record {
  tree = unary (label_name text name) r.tree;
  read = ap (λ x. x >>= λ r. Ok (unary (label_name text name) r.0, o.0, r.2)) r.read;
  made = trees-more text steps new (step.Compound 1 name) e ∙ ap (act text (step.Compound 1 name)) r.made;
}

pub part-read : (ops : Table) (inner : Inner) (text : List ℕ) (more : Tree → ℕ → List Lexed → Read Term) (p q r : ℕ) (made : List Tree) (ws passed : List Word) (left : List Lexed) (known : AreKnown ops text ws) (steps new : List Step) (o : Label × Op) → taken_of p q (infix_word (first_word ws)) ≡ Some o → passed ≡ after_word ws → new ≡ steps ++ step.Compound 2 o.0 ∷ [] → 0 < length made →
    IsRead made (trees_of text steps) left r (inner (right_bound o.1) (ahead text passed)) → IsPart more (o.1).0 (under made) (trees_of text new) left (infix_part inner more p (top_of made) q (ahead text ws) (infix_ahead ops (ahead text ws)))
part-read ops inner text more p q r made ws passed left known steps new o e l n h a = record {
  tree = binary (label_name text o.0) (top_of made) a.tree;
  read = part-some ops inner text more p q (top_of made) ws known o passed e l ∙ ap (λ x. x >>= λ r. more (binary (label_name text o.0) (top_of made) r.0) (o.1).0 r.2) a.read;
  made = trees-more text steps new (step.Compound 2 o.0) n ∙ act-binary text o.0 (top_of made) a.tree made (trees_of text steps) a.made h;
}

pub braced-read : (inner : Inner) (text : List ℕ) (steps new : List Step) (start : List Tree) (q : ℕ) (ws : List Word) (us left : List Lexed) → closes_by kind.CloseCurly (kind_of (first_word ws)) ≡ false → new ≡ steps ++ step.Compound 1 label.Braces ∷ [] → IsRead start (trees_of text steps) us q (inner 1200 (ahead text ws)) → behind kind.CloseCurly us ≡ Ok left → IsRead start (trees_of text new) left 0 (braced inner (ahead text ws))
unfolding braced
braced-read inner text steps new start q ws us left c e r b = record {
  tree = unary (codes "{}") r.tree;
  read =
      ap (λ k. if closes_by kind.CloseCurly k then Ok (Atom (codes "{}"), 0, after_first (ahead text ws)) else (inner 1200 (ahead text ws) >>= λ r. behind kind.CloseCurly r.2 >>= λ us. Ok (unary (codes "{}") r.0, 0, us))) (ahead-kind text ws)
      ∙ ap (λ (t : Bool). if t then Ok (Atom (codes "{}"), 0, after_first (ahead text ws)) else (inner 1200 (ahead text ws) >>= λ r. behind kind.CloseCurly r.2 >>= λ us. Ok (unary (codes "{}") r.0, 0, us))) c
      ∙ ap (λ x. x >>= λ r. behind kind.CloseCurly r.2 >>= λ us. Ok (unary (codes "{}") r.0, 0, us)) r.read
      ∙ ap (λ x. x >>= λ us. Ok (unary (codes "{}") r.tree, 0, us)) b;
  made = trees-more text steps new (step.Compound 1 label.Braces) e ∙ ap (act text (step.Compound 1 label.Braces)) r.made;
}

pub named-kind : (k : TokenKind) → (k ≡ kind.Name) ⊎ (k ≡ kind.Quoted) → IsTrue (is_named k)
named-kind k (inl e) = ap is_named e
named-kind k (inr e) = ap is_named e

pub row-enough : (start mid : List Tree) (left : List Lexed) (n : ℕ) (r : Read (Trees × List Lexed)) → IsRow start mid left n r → n ≤ length mid
row-enough start mid left n r h = omega (arith, ap length h.made, length-onto h.trees start, h.counted)

pub part-two : (made mid : List Tree) (left : List Lexed) (q : ℕ) (r : Read Term) → IsRead made mid left q r → 0 < length made → 2 ≤ length mid
part-two made mid left q r h k = omega (arith, ap length h.made)

some_same : (x y : Label × Op) → Some x ≡ Some y → x ≡ y
some_same x y e = ap (λ o. elim o [ None ↦ x | Some z ↦ z ]) e

-- a word that is an infix operator has a name
word-label : (ops : Table) (text : List ℕ) (w : Word) (o : Op) (k : TokenKind) → w.token.kind ≡ k → IsKnown ops text w → infix_by ops k (token_name text w.token) ≡ Some o → IsLabel text (label_by k w.token)
word-label ops text w o kind.Name e g h = (g.given, ap has_name e)
word-label ops text w o kind.Quoted e g h = (g.given, ap has_name e)
word-label ops text w o kind.Comma e g h = tt
word-label ops text w o kind.Variable e g h = cc
word-label ops text w o kind.Integer e g h = cc
word-label ops text w o kind.Codes e g h = cc
word-label ops text w o kind.Open e g h = cc
word-label ops text w o kind.Close e g h = cc
word-label ops text w o kind.OpenList e g h = cc
word-label ops text w o kind.CloseList e g h = cc
word-label ops text w o kind.OpenCurly e g h = cc
word-label ops text w o kind.CloseCurly e g h = cc
word-label ops text w o kind.Bar e g h = cc
word-label ops text w o kind.End e g h = cc

pub infix-label : (ops : Table) (text : List ℕ) (p q : ℕ) (ws : List Word) (o : Label × Op) → AreKnown ops text ws → taken_of p q (infix_word (first_word ws)) ≡ Some o → IsLabel text o.0
infix-label ops text p q [] o g e = cc
infix-label ops text p q (w ∷ ws) o g e = by w.as_infix refl e
  where
    chosen : (x : Op) (b : Bool) → w.as_infix ≡ Some x → (if b then Some (label_by w.token.kind w.token, x) else None) ≡ Some o → IsLabel text o.0
    chosen x true f h =
        let same : (label_by w.token.kind w.token, x) ≡ o = some_same _ _ h in
        subst (λ (l : Label × Op). IsLabel text l.0) same (word-label ops text w x w.token.kind refl g.0 (sym (g.0).between ∙ f))
    chosen x false f h = cc

    by : (x : Option Op) → w.as_infix ≡ x → taken_of p q (labelled w x) ≡ Some o → IsLabel text o.0
    by None f h = cc
    by (Some x) f h = chosen x (is_taken x p q) f h
