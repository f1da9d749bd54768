-- Texts that are added to a text, piece by piece.
use Rattle.std.proofs.Common.{◌≡◌, ℕ, List, [], ◌∷◌, ◌++◌, Result, Ok, Err, IsErrAnd, chars, string_bytes, encode_utf8, refl, sym, ap, subst, ◌∙◌, append_assoc, append-nil}
use Rattle.std.proofs.lemmas.Str.{chars-append, chars-nil, chars_past_char, IsUtf8-encode}
use Rattle.std.specs.Str.{IsUtf8}
use Rattle.std.specs.Char.{IsScalar}
use Rattle.std.specs.declared.alloc.Global.{Global}
use Rattle.std.specs.declared.string.String.{String}
use Rattle.tp_terms.specs.Added.{Progress, AddsPrefix, Adds}

-- ---- characters behind the bytes of a text

pub chars-joined : (old new text : List ℕ) → IsUtf8 old → new ≡ old ++ text → chars new ≡ chars old ++ chars text
chars-joined old new text u e = ap chars e ∙ chars-append old text u

pub chars-pushed : (old new : List ℕ) (c : ℕ) → IsUtf8 old → IsScalar c → new ≡ old ++ encode_utf8 c → chars new ≡ chars old ++ c ∷ []
chars-pushed old new c u s e =
    let one : chars (encode_utf8 c) ≡ c ∷ [] = chars_past_char (encode_utf8 c) [] c (IsUtf8-encode c s) (sym (append-nil (encode_utf8 c))) ∙ ap (λ l. c ∷ l) chars-nil in
    ap chars e ∙ chars-append old (encode_utf8 c) u ∙ ap (λ l. chars old ++ l) one

-- ---- a whole text that is added part by part

pub begins : (old new whole : List ℕ) → new ≡ old → Progress old new whole whole
begins old new whole e = record { more = []; split = refl; added = e ∙ sym (append-nil old) }

-- a part of the rest was added
pub goes : (old now new whole rest part left : List ℕ) → Progress old now whole rest → rest ≡ part ++ left → new ≡ now ++ part → Progress old new whole left
goes old now new whole rest part left p e n = record {
  more = p.more ++ part;
  split = p.split ∙ ap (λ l. p.more ++ l) e ∙ sym (append_assoc p.more part left);
  added = n ∙ ap (λ l. l ++ part) p.added ∙ append_assoc old p.more part;
}

-- nothing is left
pub ends : (old new whole rest : List ℕ) → Progress old new whole rest → rest ≡ [] → new ≡ old ++ whole
ends old new whole rest p e = p.added ∙ ap (λ l. old ++ l) (sym (p.split ∙ ap (λ l. p.more ++ l) e ∙ append-nil p.more))

-- nothing more was added
pub stops : (old now new whole rest : List ℕ) → Progress old now whole rest → new ≡ now → AddsPrefix old new whole
stops old now new whole rest p e = record { rest = rest; progress = record { more = p.more; split = p.split; added = e ∙ p.added } }

-- only a prefix of a part was added
pub stops_within : (old now new whole rest part left : List ℕ) → Progress old now whole rest → rest ≡ part ++ left → AddsPrefix now new part → AddsPrefix old new whole
stops_within old now new whole rest part left p e within =
    let q = within.progress in
    record {
      rest = within.rest ++ left;
      progress = record {
        more = p.more ++ q.more;
        split = p.split ∙ ap (λ l. p.more ++ l) (e ∙ ap (λ l. l ++ left) q.split ∙ append_assoc q.more within.rest left) ∙ sym (append_assoc p.more q.more (within.rest ++ left));
        added = q.added ∙ ap (λ l. l ++ q.more) p.added ∙ append_assoc old p.more q.more;
      };
    }

-- ---- prefixes of a text that has parts

pub nothing_added : (old new text : List ℕ) → new ≡ old → AddsPrefix old new text
nothing_added old new text e = stops old old new text text (begins old old text refl) e

-- of the first part
pub prefix_first : (old new a b : List ℕ) → AddsPrefix old new a → AddsPrefix old new (a ++ b)
prefix_first old new a b = stops_within old old new (a ++ b) (a ++ b) a b (begins old old (a ++ b) refl) refl

-- of the second part, where the first one was added whole
pub prefix_then : (old mid new a b : List ℕ) → mid ≡ old ++ a → AddsPrefix mid new b → AddsPrefix old new (a ++ b)
prefix_then old mid new a b e =
    stops_within old mid new (a ++ b) b b [] (goes old old mid (a ++ b) (a ++ b) a b (begins old old (a ++ b) refl) refl e) (sym (append-nil b))

pub added_both : (old mid new a b : List ℕ) → mid ≡ old ++ a → new ≡ mid ++ b → new ≡ old ++ (a ++ b)
added_both old mid new a b e f = f ∙ ap (λ x. x ++ b) e ∙ append_assoc old a b

-- ---- what a call adds

-- the same text in other words
pub Adds-as : {A E : Type 0} (r : Result A E) (old new : String Global) (a b : List ℕ) → a ≡ b → Adds old new r a → Adds old new r b
Adds-as r old new a b e = subst (Adds old new r) e

-- the exit of a `?`
pub Adds-exit : {A E : Type 0} (Q : E → Type 0) (r : Result A E) (old new : String Global) (text : List ℕ) → IsErrAnd r Q → AddsPrefix (chars (string_bytes old)) (chars (string_bytes new)) text → Adds old new r text
Adds-exit Q (Ok x) old new text is p = absurd is
Adds-exit Q (Err e) old new text is p = p

-- the same where nothing was added
pub Adds-none : {A E : Type 0} (Q : E → Type 0) (r : Result A E) (old new : String Global) (text : List ℕ) → IsErrAnd r Q → chars (string_bytes new) ≡ chars (string_bytes old) → Adds old new r text
Adds-none Q r old new text is e = Adds-exit Q r old new text is (nothing_added (chars (string_bytes old)) (chars (string_bytes new)) text e)

-- a call behind one that added the first part
pub Adds-then : {A E : Type 0} (r : Result A E) (old mid new : String Global) (a b : List ℕ) → chars (string_bytes mid) ≡ chars (string_bytes old) ++ a → Adds mid new r b → Adds old new r (a ++ b)
Adds-then (Ok x) old mid new a b e f = added_both (chars (string_bytes old)) (chars (string_bytes mid)) (chars (string_bytes new)) a b e f
Adds-then (Err x) old mid new a b e p = prefix_then (chars (string_bytes old)) (chars (string_bytes mid)) (chars (string_bytes new)) a b e p

-- the last call of a text whose first parts were added
pub Adds-last : {A E : Type 0} (r : Result A E) (old mid new : String Global) (whole rest : List ℕ) → Progress (chars (string_bytes old)) (chars (string_bytes mid)) whole rest → Adds mid new r rest → Adds old new r whole
Adds-last (Ok x) old mid new whole rest p e =
    let o = chars (string_bytes old) in
    ends o (chars (string_bytes new)) whole [] (goes o (chars (string_bytes mid)) (chars (string_bytes new)) whole rest rest [] p (sym (append-nil rest)) e) refl
Adds-last (Err x) old mid new whole rest p q =
    stops_within (chars (string_bytes old)) (chars (string_bytes mid)) (chars (string_bytes new)) whole rest rest [] p (sym (append-nil rest)) q
