-- Texts that are written in parts, and the answers of a run.
use Rattle.std.proofs.Common.{◌≡◌, ℕ, ◌+◌, ◌<◌, Bool, true, false, map, List, [], ◌∷◌, ◌++◌, length, take, Option, Some, None, Ok, Err, Result, OnOk, IfErr, refl, ap, sym, subst, ◌∙◌, inl, inr, ◌⊎◌, arith, append-nil, append_assoc, length-append, encode_utf8_all}
use Rattle.std.proofs.Math.Seq.{take-append-add, take-append_seam}
use Rattle.std.proofs.lemmas.List.{take-append-le}
use Rattle.std.proofs.lemmas.Str.{encodes-append}
use Rattle.tp_outside.specs.Count.{Rose}
use Rattle.tp_outside.specs.Taken.{added, HasPrefix}
use Rattle.tp_terms.specs.declared.text.Named.{Named}
use Rattle.std.specs.List.{last_or}
use Rattle.tp_meaning.specs.World.{World, Event}
use Rattle.tp_meters.specs.declared.MeterKind.{MeterKind}
use Rattle.tp_parse.specs.Ops.{Entries, table_of}
use Rattle.tp_engine.specs.Answers as engine
use Rattle.tp_engine.specs.Answers.{Took, IsCutShort, numbered}
use Rattle.tp_engine.specs.declared.answers.AnswerFault.{AnswerFault}
use Rattle.tp_engine.specs.declared.answers.AnswerFault.TheVariants as why
use Rattle.tp_top.specs.declared.program.Status.{Status}
use Rattle.tp_top.specs.Expected.{Answer}
use Rattle.tp_top.specs.Metered.{HasCounted, MayCount, printed_kinds}
use Rattle.tp_top.specs.Report.{answers_text, last_history}
use Rattle.tp_top.specs.Told.{shown, shown_bytes}
use Rattle.tp_top.specs.Written.{HasFailed, HasLess, HasWritten, KeepsMeters, WasLeft, Writes, Writing, bytes_by}
use Rattle.tp_top.proofs.Metering.Counted.{counted_later, unprinted}

-- nothing was added
pub added_none : (old : Option (List ℕ)) → added old [] ≡ old
added_none None = refl
added_none (Some t) = ap Some (append-nil t)

pub added_two : (old : Option (List ℕ)) (a b : List ℕ) → added (added old a) b ≡ added old (a ++ b)
added_two None a b = refl
added_two (Some t) a b = ap Some (append_assoc t a b)

-- where nothing was written, a part was, of any text that has bytes
pub less_of_none : (old now : Option (List ℕ)) (text : List ℕ) → now ≡ old → 0 < length text → HasLess old now text
less_of_none old now text same some = (0, some, same ∙ sym (added_none old))

later_prefix : (old now : Option (List ℕ)) (a b : List ℕ) → HasPrefix (added old a) now b → HasPrefix old now (a ++ b)
later_prefix old now a b (n, le, is) =
    (length a + n, omega (arith, le, length-append a b), is ∙ added_two old a (take n b) ∙ ap (added old) (sym (take-append-add a b n)))

later_less : (old now : Option (List ℕ)) (a b : List ℕ) → HasLess (added old a) now b → HasLess old now (a ++ b)
later_less old now a b (n, lt, is) =
    (length a + n, omega (arith, lt, length-append a b), is ∙ added_two old a (take n b) ∙ ap (added old) (sym (take-append-add a b n)))

longer_prefix : (old now : Option (List ℕ)) (a b : List ℕ) → HasPrefix old now a → HasPrefix old now (a ++ b)
longer_prefix old now a b (n, le, is) =
    (n, omega (arith, le, length-append a b), is ∙ ap (added old) (sym (take-append-le n a b le)))

front_is_less : (old now : Option (List ℕ)) (a b : List ℕ) → now ≡ added old a → 0 < length b → HasLess old now (a ++ b)
front_is_less old now a b is some =
    (length a, omega (arith, some, length-append a b), is ∙ ap (added old) (sym (take-append_seam a b)))

-- behind bytes that were written, what is written of the rest is written of the whole
pub later_writes : (a b : Answer) (x : List ℕ) (f0 f1 f2 : ℕ) (w0 w1 w2 : Option (List ℕ)) (res : Result Status AnswerFault)
    → a.0 ≡ b.0 → a.1 ≡ x ++ b.1 → f1 ≡ f0 → w1 ≡ added w0 x → Writes b f1 f2 w1 w2 res → Writes a f0 f2 w0 w2 res
later_writes a b x f0 f1 f2 w0 w1 w2 (Ok s) status bytes f w h =
    (h.0 ∙ sym status, h.1 ∙ ap (λ v. added v b.1) w ∙ added_two w0 x b.1 ∙ ap (added w0) (sym bytes))
later_writes a b x f0 f1 f2 w0 w1 w2 (Err why.Write) status bytes f w h = (
  subst (λ n. Rose n f2) f h.0,
  subst (HasPrefix w0 w2) (sym bytes) (later_prefix w0 w2 x b.1 (subst (λ v. HasPrefix v w2 b.1) w h.1)),
)
later_writes a b x f0 f1 f2 w0 w1 w2 (Err why.NoMemory) status bytes f w h = (
  h.0 ∙ f,
  subst (HasLess w0 w2) (sym bytes) (later_less w0 w2 x b.1 (subst (λ v. HasLess v w2 b.1) w h.1)),
)

-- ---- the answers of a run

shown_bytes-append : (kinds : List MeterKind) (xs ys : List engine.Answer) → shown_bytes kinds (xs ++ ys) ≡ shown_bytes kinds xs ++ shown_bytes kinds ys
shown_bytes-append kinds [] ys = refl
shown_bytes-append kinds (x ∷ xs) ys =
    ap (λ more. encode_utf8_all (shown kinds x) ++ more) (shown_bytes-append kinds xs ys)
    ∙ sym (append_assoc (encode_utf8_all (shown kinds x)) (shown_bytes kinds xs) (shown_bytes kinds ys))

-- the bytes of the lines of answers, and of what is printed behind them
pub shown-answers : (kinds : List MeterKind) (ops : Entries) (named : List Named) (n : ℕ) (answers : List (World × ℕ)) (rest : List ℕ)
    → encode_utf8_all (answers_text (table_of ops) named kinds n answers ++ rest)
    ≡ shown_bytes kinds (numbered named ops n answers) ++ encode_utf8_all rest
shown-answers kinds ops named n [] rest = refl
shown-answers kinds ops named n (a ∷ answers) rest =
    let first = shown kinds (record { world = a.0; number = n + 1; steps = a.1; named = named; ops = ops }) in
    let more = answers_text (table_of ops) named kinds (n + 1) answers in
    ap encode_utf8_all (append_assoc first more rest)
    ∙ encodes-append first (more ++ rest)
    ∙ ap (λ x. encode_utf8_all first ++ x) (shown-answers kinds ops named (n + 1) answers rest)
    ∙ sym (append_assoc (encode_utf8_all first) (shown_bytes kinds (numbered named ops (n + 1) answers)) (encode_utf8_all rest))

-- the histories of answers in their order
abbrev pub histories : List engine.Answer → List (List Event)
histories = map (λ (a : engine.Answer). a.world.history)

pub last-numbered : (named : List Named) (ops : Entries) (n : ℕ) (answers : List (World × ℕ)) → last_or None (histories (numbered named ops n answers)) ≡ last_history answers
last-numbered named ops n answers = ap (last_or None) (each n answers)
  where
    each : (n : ℕ) (answers : List (World × ℕ)) → histories (numbered named ops n answers) ≡ map (λ a. a.0.history) answers
    each n [] = refl
    each n (a ∷ answers) = ap (λ more. a.0.history ∷ more) (each (n + 1) answers)

-- What takes answers, by the sink and the meters that it was lent, and by what is seen of it.
abbrev pub TakesBy : {A N M : Type 0} → (A → N) → (A → M) → (A → Writing) → A → engine.Answer → A → Type 0
TakesBy sink meters see old a new = (sink new ≡ sink old) × (meters new ≡ meters old) × HasWritten (see old) a (see new)

abbrev pub LeavesBy : {A N M : Type 0} → (A → N) → (A → M) → (A → Writing) → A → engine.Answer → AnswerFault → A → Type 0
LeavesBy sink meters see old a fault new = (sink new ≡ sink old) × (meters new ≡ meters old) × HasFailed (see old) a fault (see new)

-- the kinds whose lines are printed
abbrev kinds_in : Writing → List MeterKind
kinds_in w = printed_kinds w.metered w.kinds

-- answers were written, each once
record AllWritten (old : Writing) (answers : List engine.Answer) (new : Writing) : Type 0 where
  keeps : KeepsMeters old new
  faults : new.faults ≡ old.faults
  taken : new.taken ≡ added old.taken (shown_bytes (kinds_in old) answers)
  numbers : HasCounted old.metered old.kinds (last_or None (histories answers)) old.numbers new.numbers

kept_twice : (old mid new : Writing) → KeepsMeters old mid → KeepsMeters mid new → KeepsMeters old new
kept_twice old mid new h k = record { metered = k.metered ∙ h.metered; kinds = k.kinds ∙ h.kinds }

same_kinds : (old new : Writing) → KeepsMeters old new → kinds_in new ≡ kinds_in old
same_kinds old new h = ap (λ b. printed_kinds b new.kinds) h.metered ∙ ap (printed_kinds old.metered) h.kinds

none_written : (old new : Writing) → new ≡ old → AllWritten old [] new
none_written old new e = subst (AllWritten old []) (sym e) (record {
  keeps = record { metered = refl; kinds = refl };
  faults = refl;
  taken = sym (added_none old.taken);
  numbers = by old.metered;
})
  where
    by : (b : Bool) → HasCounted b old.kinds None old.numbers old.numbers
    by true = refl
    by false = refl

-- answers behind one
more_written : (old mid new : Writing) (a : engine.Answer) (answers : List engine.Answer) → HasWritten old a mid → AllWritten mid answers new → AllWritten old (a ∷ answers) new
more_written old mid new a answers h rest = record {
  keeps = kept_twice old mid new h.keeps rest.keeps;
  faults = rest.faults ∙ h.faults;
  taken =
      rest.taken ∙ ap (λ ks. added mid.taken (shown_bytes ks answers)) (same_kinds old mid h.keeps)
      ∙ ap (λ t. added t (shown_bytes (kinds_in old) answers)) h.taken ∙ added_two old.taken (bytes_by old a) (shown_bytes (kinds_in old) answers);
  numbers =
      counted_later old.metered old.kinds a.world.history (histories answers) old.numbers mid.numbers new.numbers h.numbers
      (subst (λ b. HasCounted b old.kinds (last_or None (histories answers)) mid.numbers new.numbers) h.keeps.metered
      (subst (λ ks. HasCounted mid.metered ks (last_or None (histories answers)) mid.numbers new.numbers) h.keeps.kinds rest.numbers));
}

-- answers that were taken were written, to the same sink and with the same meters
took_written : {A N M : Type 0} (before now : A) (sink : A → N) (meters : A → M) (see : A → Writing) (answers : List engine.Answer)
    → Took (TakesBy sink meters see) before answers now
    → (sink now ≡ sink before) × (meters now ≡ meters before) × AllWritten (see before) answers (see now)
took_written before now sink meters see [] is = (ap sink is, ap meters is, none_written (see before) (see now) (ap see is))
took_written before now sink meters see (a ∷ answers) (at, h, rest) =
    let more = took_written at now sink meters see answers rest in
    (more.0 ∙ h.0, more.1 ∙ h.1, more_written (see before) (see at) (see now) a answers h.2 more.2)

-- a run that a fault ended has written a part of an answer
record CutWritten (old : Writing) (whole : Answer) (fault : AnswerFault) (new : Writing) : Type 0 where
  keeps : KeepsMeters old new
  wrote : Writes whole old.faults new.faults old.taken new.taken (Err fault)
  numbers : old.metered ≡ false → new.numbers ≡ old.numbers

abbrev place : AnswerFault → ℕ
place why.Write = 0
place why.NoMemory = 1

write_is_not_memory : why.Write ≡ why.NoMemory → ⊥
write_is_not_memory e = let bad : place why.Write ≡ place why.NoMemory = ap place e in omega (arith, bad)

-- the answers up to a fault, where the whole has all of them and more bytes
module _ (old at new : Writing) (first : List engine.Answer) (whole : Answer) (more : List ℕ) (some : 0 < length more) (h : AllWritten old first at) where
  abbrev front : List ℕ
  front = shown_bytes (kinds_in old) first

  left_less : (rest : List engine.Answer) → whole.1 ≡ front ++ (shown_bytes (kinds_in old) rest ++ more) → new.taken ≡ at.taken → HasLess old.taken new.taken whole.1
  left_less rest is same =
      subst (HasLess old.taken new.taken) (sym is)
      (front_is_less old.taken new.taken front (shown_bytes (kinds_in old) rest ++ more) (same ∙ h.taken) (omega (arith, some, length-append (shown_bytes (kinds_in old) rest) more)))

  stopped : (rest : List engine.Answer) → whole.1 ≡ front ++ (shown_bytes (kinds_in old) rest ++ more) → new ≡ at → CutWritten old whole why.NoMemory new
  stopped rest is e = record {
    keeps = subst (KeepsMeters old) (sym e) h.keeps;
    wrote = (ap (λ w. w.faults) e ∙ h.faults, left_less rest is (ap (λ w. w.taken) e));
    numbers = λ no. ap (λ w. w.numbers) e ∙ unprinted old.metered old.kinds (last_or None (histories first)) old.numbers at.numbers no h.numbers;
  }

  failed : (fault : AnswerFault) (a : engine.Answer) (rest : List engine.Answer) → whole.1 ≡ front ++ (shown_bytes (kinds_in old) (a ∷ rest) ++ more)
      → (fault ≡ why.Write → Rose old.faults new.faults) → HasFailed at a fault new → CutWritten old whole fault new
  failed fault a rest is rose f = record {
    keeps = kept_twice old at new h.keeps f.keeps;
    wrote = by fault rose f.left;
    numbers = λ no. f.numbers (h.keeps.metered ∙ no) ∙ unprinted old.metered old.kinds (last_or None (histories first)) old.numbers at.numbers no h.numbers;
  }
    where
      b : List ℕ
      b = bytes_by old a

      same_bytes : bytes_by at a ≡ b
      same_bytes = ap (λ ks. encode_utf8_all (shown ks a)) (same_kinds old at h.keeps)

      by : (given : AnswerFault) → (given ≡ why.Write → Rose old.faults new.faults) → WasLeft given at.faults new.faults at.taken new.taken (bytes_by at a)
          → Writes whole old.faults new.faults old.taken new.taken (Err given)
      by why.Write rose left = (
        rose refl,
        subst (HasPrefix old.taken new.taken) (sym (is ∙ ap (λ x. front ++ x) (append_assoc b (shown_bytes (kinds_in old) rest) more)))
            (later_prefix old.taken new.taken front (b ++ (shown_bytes (kinds_in old) rest ++ more))
            (longer_prefix (added old.taken front) new.taken b (shown_bytes (kinds_in old) rest ++ more)
            (subst (λ t. HasPrefix t new.taken b) h.taken (subst (HasPrefix at.taken new.taken) same_bytes left)))),
      )
      by why.NoMemory rose left = (left.0 ∙ h.faults, left_less (a ∷ rest) is left.1)

-- a run that a fault ended
cut_written : {A N M : Type 0} (before now : A) (sink : A → N) (meters : A → M) (see : A → Writing) (answers : List engine.Answer)
    (fault : AnswerFault) (whole : Answer) (more : List ℕ)
    → whole.1 ≡ shown_bytes (kinds_in (see before)) answers ++ more → 0 < length more
    → (fault ≡ why.Write → Rose (see before).faults (see now).faults)
    → IsCutShort (TakesBy sink meters see) (LeavesBy sink meters see) answers fault before now
    → (sink now ≡ sink before) × (meters now ≡ meters before) × CutWritten (see before) whole fault (see now)
cut_written {A} before now sink meters see answers fault whole more bytes some rose cut =
    by fault cut.rest rose split cut.cause
  where
    at : A
    at = cut.at

    old : Writing
    old = see before

    took : (sink at ≡ sink before) × (meters at ≡ meters before) × AllWritten old cut.first (see at)
    took = took_written before at sink meters see cut.first cut.took

    Splits : List engine.Answer → Type 0
    Splits rest = whole.1 ≡ shown_bytes (kinds_in old) cut.first ++ (shown_bytes (kinds_in old) rest ++ more)

    split : Splits cut.rest
    split = bytes ∙ ap (λ x. shown_bytes (kinds_in old) x ++ more) cut.is ∙ ap (λ x. x ++ more) (shown_bytes-append (kinds_in old) cut.first cut.rest)
        ∙ append_assoc (shown_bytes (kinds_in old) cut.first) (shown_bytes (kinds_in old) cut.rest) more

    by : (given : AnswerFault) (rest : List engine.Answer) → (given ≡ why.Write → Rose old.faults (see now).faults) → Splits rest
        → ((given ≡ why.NoMemory) × (now ≡ at)) ⊎ engine.WasLeft (LeavesBy sink meters see) at rest given now
        → (sink now ≡ sink before) × (meters now ≡ meters before) × CutWritten old whole given (see now)
    by why.NoMemory rest rose is (inl h) =
        (ap sink h.1 ∙ took.0, ap meters h.1 ∙ took.1, stopped old (see at) (see now) cut.first whole more some took.2 rest is (ap see h.1))
    by why.Write rest rose is (inl h) = absurd (write_is_not_memory h.0)
    by given [] rose is (inr h) = absurd h
    by given (a ∷ rest) rose is (inr h) =
        (h.0 ∙ took.0, h.1 ∙ took.1, failed old (see at) (see now) cut.first whole more some took.2 given a rest is rose h.2)

-- What a run has written, with its end or with a fault, and what its meters hold.
pub record Printed {T : Type 0} (res : Result T AnswerFault) (old : Writing) (answers : List engine.Answer) (whole : Answer) (new : Writing) : Type 0 where
  pub wrote : OnOk res ((new.faults ≡ old.faults) × (new.taken ≡ added old.taken (shown_bytes (printed_kinds old.metered old.kinds) answers)))
  pub cut : IfErr res (λ fault. Writes whole old.faults new.faults old.taken new.taken (Err fault))
  pub kinds : new.kinds ≡ old.kinds
  pub counted : MayCount res old.metered old.kinds (last_or None (histories answers)) old.numbers new.numbers

-- what a run has written, by how its answers were taken
pub printed_parts : {A N M T : Type 0} (res : Result T AnswerFault) (before now : A) (sink : A → N) (meters : A → M) (see : A → Writing) (answers : List engine.Answer)
    (whole : Answer) (more : List ℕ)
    → whole.1 ≡ shown_bytes (printed_kinds (see before).metered (see before).kinds) answers ++ more → 0 < length more
    → OnOk res (Took (TakesBy sink meters see) before answers now)
    → IfErr res (λ fault. IsCutShort (TakesBy sink meters see) (LeavesBy sink meters see) answers fault before now)
    → (res ≡ Err why.Write → Rose (see before).faults (see now).faults)
    → (sink now ≡ sink before) × (meters now ≡ meters before) × Printed res (see before) answers whole (see now)
printed_parts (Ok e) before now sink meters see answers whole more bytes some took cut rose =
    let t = took_written before now sink meters see answers took in
    (t.0, t.1, record { wrote = (t.2.faults, t.2.taken); cut = tt; kinds = t.2.keeps.kinds; counted = t.2.numbers })
printed_parts {A} {N} {M} {T} (Err fault) before now sink meters see answers whole more bytes some took cut rose =
    let c = cut_written before now sink meters see answers fault whole more bytes some (λ e. rose (ap Err e)) cut in
    (c.0, c.1, record { wrote = tt; cut = c.2.wrote; kinds = c.2.keeps.kinds; counted = by (see before).metered c.2.numbers })
  where
    by : (b : Bool) → (b ≡ false → (see now).numbers ≡ (see before).numbers)
        → let res : Result T AnswerFault = Err fault in MayCount res b (see before).kinds (last_or None (histories answers)) (see before).numbers (see now).numbers
    by true h = tt
    by false h = h refl
