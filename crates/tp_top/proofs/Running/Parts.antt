-- How the parts of a run make its clause.
use Rattle.std.proofs.Common.{◌≡◌, ℕ, ◌+◌, ◌<◌, Bool, true, false, true≢false, List, [], length, replicate, Option, Some, None, MatchOption, Result, Ok, Err, IfErr, refl, ap, sym, ◌∙◌, subst, arith, ◌⊎◌, ◌↔◌, inl, inr}
use Rattle.std.specs.Prelude.{IsSome}
use Rattle.std.proofs.lemmas.List.{length-replicate}
use Rattle.tp_outside.specs.Count.{Rose}
use Rattle.tp_outside.specs.Files.{Files, ReadFails, held_under}
use Rattle.tp_outside.specs.Text.{HoldsMore, ReadsAll}
use Rattle.tp_words.specs.declared.Request as given
use Rattle.tp_words.specs.declared.Request.TheVariants.{Run as RunOf, Sample}
use Rattle.tp_words.proofs.ReadsWords.Requests.{answers_in}
use Rattle.tp_engine.specs.declared.answers.AnswerFault.{AnswerFault}
use Rattle.tp_engine.specs.declared.answers.AnswerFault.TheVariants as why
use Rattle.tp_top.specs.declared.program.Status.{Status}
use Rattle.tp_top.specs.declared.program.Status.TheVariants.{Found, No, Raised, Budget, Usage, Model, Goal, Read, Write, Memory}
use Rattle.tp_meters.specs.declared.MeterKind.{MeterKind}
use Rattle.tp_top.specs.Metered.{MayCount}
use Rattle.tp_top.specs.Expected.{Request, alone, asked, request, Answer, expected, expected_of, for_held, for_sample, for_source, for_text, too_long, usage, read_fault}
use Rattle.tp_top.specs.Ended.{Run, IsPlain, OfSource, OfSomeText, OfExpected, CouldFail, CouldFailAt, MayBeThere, IsReadFault, CouldNotRead, DidNothing, MayBeHeld, ReadModel, WasRead, Wrote, WroteLess, WrotePart, IsCutShort, IsUnfinished, GaveExpected, GaveAll, KeptNumbers, CountedExpected, Metered, asks_meters, Ended}
use Rattle.tp_top.specs.Sample.{Source, HeldUnder, SampleOf}
use Rattle.tp_top.specs.Written.{Writes, status_after}
use Rattle.tp_top.proofs.Metering.Counted.{stay_counted, unprinted_stay}
use Rattle.tp_top.proofs.Running.Written.{less_of_none}
use Rattle.tp_top.proofs.Running.Expected.{IsOfText, long_answered, of_sample, of_text, sample_some, text_some, usage_some}

of_some_text : (kinds : List MeterKind) (r : Option Request) (P Q : Option Answer → Type 0) → ((e : Option Answer) → P e → Q e) → OfSomeText kinds r P → OfSomeText kinds r Q
of_some_text kinds None P Q f h = f (Some usage) h
of_some_text kinds (Some r) P Q f h = by r.source h
  where
    by : (source : Source) → OfSource kinds source r P → OfSource kinds source r Q
    by (HeldUnder name) (text, h) = (text, f (Some (for_text kinds text r)) h)
    by (SampleOf n) h = f (Some (for_sample kinds n r)) h

of_expected : (kinds : List MeterKind) (words : List (List ℕ)) (held : Option Files) (P Q : Option Answer → Type 0) → ((e : Option Answer) → P e → Q e) → OfExpected kinds words held P → OfExpected kinds words held Q
of_expected kinds words None P Q f h = of_some_text kinds (request words) P Q f h
of_expected kinds words (Some files) P Q f h = f (expected kinds words files) h

-- what holds where no model is held, for the words that are no request, for every text, and for every sample
all_expected : (kinds : List MeterKind) (words : List (List ℕ)) (held : Option Files) (P : Option Answer → Type 0) → P None → P (Some usage) → ((text : List ℕ) (r : Request) → P (Some (for_text kinds text r))) → ((n : ℕ) (r : Request) → P (Some (for_sample kinds n r))) → OfExpected kinds words held P
all_expected kinds words None P none bare each made = by (request words)
  where
    from : (r : Request) (source : Source) → OfSource kinds source r P
    from r (HeldUnder name) = ([], each [] r)
    from r (SampleOf n) = made n r

    by : (q : Option Request) → OfSomeText kinds q P
    by None = bare
    by (Some r) = from r r.source
all_expected kinds words (Some files) P none bare each made = by (request words)
  where
    held : (r : Request) (o : Option (List ℕ)) → P (for_held kinds o r)
    held r None = none
    held r (Some text) = each text r

    from : (r : Request) (source : Source) → P (for_source kinds source r files)
    from r (HeldUnder name) = held r (held_under files name)
    from r (SampleOf n) = made n r

    by : (q : Option Request) → P (elim q [ None ↦ Some usage | Some x ↦ expected_of kinds x files ])
    by None = bare
    by (Some r) = from r r.source

-- ---- completeness

-- what a run's end says of its status
record Parts (run : Run) (s : Status) : Type 0 where
  plain : IsPlain s → OfExpected run.kinds run.words run.held (GaveExpected run s)
  read : s ≡ Read → CouldNotRead run × Wrote run read_fault
  write : s ≡ Write → Rose run.writes_before run.writes_after × IsCutShort run
  memory :
      s ≡ Memory → (ReadModel run ⊎ DidNothing run) × (run.writes_after ≡ run.writes_before) × IsUnfinished run
  by_words : IsPlain s → (s ≡ Usage) ↔ (request run.words ≡ None)
  meters : Metered run s

-- what a status is
data Kind (s : Status) : Type 0 where
  OfPlain : IsPlain s → Kind s
  OfRead : s ≡ Read → Kind s
  OfWrite : s ≡ Write → Kind s
  OfMemory : s ≡ Memory → Kind s

kind_of : (s : Status) → Kind s
kind_of Found = OfPlain tt
kind_of No = OfPlain tt
kind_of Raised = OfPlain tt
kind_of Budget = OfPlain tt
kind_of Usage = OfPlain tt
kind_of Model = OfPlain tt
kind_of Goal = OfPlain tt
kind_of Read = OfRead refl
kind_of Write = OfWrite refl
kind_of Memory = OfMemory refl

-- a model that couldn't be read, though no count of faults rose, isn't held
not_held : (kinds : List MeterKind) (words : List (List ℕ)) (held : Option Files) (before after : ℕ) (P : Option Answer → Type 0) → IsReadFault (request words) held before after → ¬ Rose before after → P None → OfExpected kinds words held P
not_held kinds words held before after P = go (request words) held refl
  where
    found : (r : Request) (files : Files) (o : Option (List ℕ)) → MatchOption o (Unit {0}) (λ _. Rose before after) → ¬ Rose before after → P None → P (for_held kinds o r)
    found r files None fault same h = h
    found r files (Some text) fault same h = absurd (same fault)

    from : (r : Request) (files : Files) (source : Source) → CouldFailAt source (Some files) before after → ¬ Rose before after → P None → P (for_source kinds source r files)
    from r files (HeldUnder name) fault same h = found r files (held_under files name) fault same h
    from r files (SampleOf n) fault same h = absurd fault

    untold : (source : Source) → CouldFailAt source None before after → ¬ Rose before after → ⊥
    untold (HeldUnder name) fault same = same fault
    untold (SampleOf n) fault same = fault

    go : (r : Option Request) (f : Option Files) → request words ≡ r → IsReadFault r f before after → ¬ Rose before after → P None → OfExpected kinds words f P
    go None f is fault same h = absurd fault
    go (Some r) None is fault same h = absurd (untold r.source fault same)
    go (Some r) (Some files) is fault same h = subst P (sym (ap (λ q. elim q [ None ↦ Some usage | Some x ↦ expected_of kinds x files ]) is)) (from r files r.source fault same h)

-- Where no count of faults rose, all that is expected was given, or memory was refused.
complete : (run : Run) (s : Status) → Parts run s → ¬ Rose run.reads_before run.reads_after → ¬ Rose run.writes_before run.writes_after → OfExpected run.kinds run.words run.held (λ answer. GaveAll run s answer ⊎ (s ≡ Memory))
complete run s h reads writes = by (kind_of s)
  where
    gave : (answer : Option Answer) → GaveExpected run s answer → GaveAll run s answer ⊎ (s ≡ Memory)
    gave None g = absurd g
    gave (Some a) g = inl g

    by : Kind s → OfExpected run.kinds run.words run.held (λ answer. GaveAll run s answer ⊎ (s ≡ Memory))
    by (OfPlain pl) = of_expected run.kinds run.words run.held (GaveExpected run s) (λ answer. GaveAll run s answer ⊎ (s ≡ Memory)) gave (h.plain pl)
    by (OfRead is) = not_held run.kinds run.words run.held run.reads_before run.reads_after (λ answer. GaveAll run s answer ⊎ (s ≡ Memory)) (h.read is).0 reads (inl (is, (h.read is).1))
    by (OfWrite is) = absurd (writes (h.write is).0)
    by (OfMemory is) = all_expected run.kinds run.words run.held (λ answer. GaveAll run s answer ⊎ (s ≡ Memory)) (inr is) (inr is) (λ text r. inr is) (λ n r. inr is)

ended : (run : Run) (s : Status) → Parts run s → Ended run s
ended run s h = record { plain = h.plain; read = h.read; write = h.write; memory = h.memory; by_words = h.by_words; complete = complete run s h; meters = h.meters }

-- ---- the meters of a run

-- no meter changed
kept_metered : (run : Run) (s : Status) → (IsPlain s → ⊥) → KeptNumbers run → Metered run s
kept_metered run s none kept = record { counted = λ asks plain. absurd (none plain); unread = λ e. kept; unasked = λ e. kept }

-- the expected answer was written, and the meters have counted its answers where the words ask for meters
answer_metered : (run : Run) (b : Bool) (a : Answer) (res : Result Status AnswerFault)
    → asks_meters (request run.words) ≡ b → OfExpected run.kinds run.words run.held (λ e. e ≡ Some a) → IsPlain a.0
    → Writes a run.writes_before run.writes_after run.taken_before run.taken_after res
    → MayCount res b run.kinds a.2 run.numbers_before run.numbers_after → Metered run (status_after res)
answer_metered run false a res asks is plain h count =
    let kept = unprinted_stay res run.kinds a.2 run.numbers_before run.numbers_after count in
    record { counted = λ asked p. absurd (true≢false (sym asked ∙ asks)); unread = λ e. kept; unasked = λ e. kept }
answer_metered run true a (Ok s) asks is plain h count = record {
  counted = λ asked p. of_expected run.kinds run.words run.held (λ e. e ≡ Some a) (CountedExpected run s) (λ e same. subst (CountedExpected run s) (sym same) ((h.0, h.1), count)) is;
  unread = λ e. absurd (subst IsPlain (sym h.0 ∙ e) plain);
  unasked = λ no. absurd (true≢false (sym asks ∙ no));
}
answer_metered run true a (Err why.Write) asks is plain h count = record {
  counted = λ asked p. absurd p;
  unread = λ e. absurd (cc);
  unasked = λ no. absurd (true≢false (sym asks ∙ no));
}
answer_metered run true a (Err why.NoMemory) asks is plain h count = record {
  counted = λ asked p. absurd p;
  unread = λ e. absurd (cc);
  unasked = λ no. absurd (true≢false (sym asks ∙ no));
}

-- ---- a run's ends

-- memory was refused before anything was written
pub out_of_memory : (run : Run) → ReadModel run ⊎ DidNothing run → run.writes_after ≡ run.writes_before → run.taken_after ≡ run.taken_before → KeptNumbers run → Ended run Memory
out_of_memory run had writes same kept = ended run Memory (record {
  plain = λ h. absurd h;
  read = λ e. absurd (cc);
  write = λ e. absurd (cc);
  memory = λ e. (
    had,
    writes,
    all_expected run.kinds run.words run.held (WroteLess run) same
        (less_of_none run.taken_before run.taken_after usage.1 same usage_some)
        (λ text r. less_of_none run.taken_before run.taken_after (for_text run.kinds text r).1 same (text_some run.kinds text r))
        (λ n r. less_of_none run.taken_before run.taken_after (for_sample run.kinds n r).1 same (sample_some run.kinds n r)),
  );
  by_words = λ h. absurd h;
  meters = kept_metered run Memory (λ p. p) kept;
})

-- what was written of the answer that is expected
expected_written : (run : Run) (b : Bool) (a : Answer) (res : Result Status AnswerFault)
    → asks_meters (request run.words) ≡ b
    → OfExpected run.kinds run.words run.held (λ e. e ≡ Some a) → IsPlain a.0 → (a.0 ≡ Usage) ↔ (request run.words ≡ None)
    → (res ≡ Err why.NoMemory → ReadModel run)
    → Writes a run.writes_before run.writes_after run.taken_before run.taken_after res
    → MayCount res b run.kinds a.2 run.numbers_before run.numbers_after → Ended run (status_after res)
expected_written run b a (Ok s) asks is plain words had h count = ended run s (record {
  plain = λ _. of_expected run.kinds run.words run.held (λ e. e ≡ Some a) (GaveExpected run s) (λ e same. subst (GaveExpected run s) (sym same) (h.0, h.1)) is;
  read = λ e. absurd (subst IsPlain (sym h.0 ∙ e) plain);
  write = λ e. absurd (subst IsPlain (sym h.0 ∙ e) plain);
  memory = λ e. absurd (subst IsPlain (sym h.0 ∙ e) plain);
  by_words = λ _. (λ e. words.0 (sym h.0 ∙ e), λ e. h.0 ∙ words.1 e);
  meters = answer_metered run b a (Ok s) asks is plain h count;
})
expected_written run b a (Err why.Write) asks is plain words had h count = ended run Write (record {
  plain = λ p. absurd p;
  read = λ e. absurd (cc);
  write = λ e. (h.0, inl (of_expected run.kinds run.words run.held (λ x. x ≡ Some a) (WrotePart run) (λ x same. subst (WrotePart run) (sym same) h.1) is));
  memory = λ e. absurd (cc);
  by_words = λ p. absurd p;
  meters = answer_metered run b a (Err why.Write) asks is plain h count;
})
expected_written run b a (Err why.NoMemory) asks is plain words had h count = ended run Memory (record {
  plain = λ p. absurd p;
  read = λ e. absurd (cc);
  write = λ e. absurd (cc);
  memory = λ e. (inl (had refl), h.0, of_expected run.kinds run.words run.held (λ x. x ≡ Some a) (WroteLess run) (λ x same. subst (WroteLess run) (sym same) h.1) is);
  by_words = λ p. absurd p;
  meters = answer_metered run b a (Err why.NoMemory) asks is plain h count;
})

-- the line of a model that couldn't be read
pub unread_written : (run : Run) (res : Result Status AnswerFault) → CouldNotRead run → KeptNumbers run → IfErr res (λ fault. fault ≡ why.Write)
    → Writes (alone Read read_fault) run.writes_before run.writes_after run.taken_before run.taken_after res → Ended run (status_after res)
unread_written run (Ok s) could kept none h = ended run s (record {
  plain = λ p. absurd (subst IsPlain h.0 p);
  read = λ e. (could, h.1);
  write = λ e. absurd (cc);
  memory = λ e. absurd (cc);
  by_words = λ p. absurd (subst IsPlain h.0 p);
  meters = kept_metered run s (subst IsPlain h.0) kept;
})
unread_written run (Err why.Write) could kept none h = ended run Write (record {
  plain = λ p. absurd p;
  read = λ e. absurd (cc);
  write = λ e. (h.0, inr (could, h.1));
  memory = λ e. absurd (cc);
  by_words = λ p. absurd p;
  meters = kept_metered run Write (λ p. p) kept;
})
unread_written run (Err why.NoMemory) could kept none h = absurd (cc)

-- the answer to words that are no request
pub usage_written : (run : Run) (res : Result Status AnswerFault) → request run.words ≡ None → KeptNumbers run → IfErr res (λ fault. fault ≡ why.Write)
    → Writes usage run.writes_before run.writes_after run.taken_before run.taken_after res → Ended run (status_after res)
usage_written run res none kept write h =
    expected_written run false usage res (ap asks_meters none) (by run.held) tt (λ _. none, λ _. refl) (λ e. absurd (memory res write e)) h
    (stay_counted res false run.kinds run.numbers_before run.numbers_after kept)
  where
    by : (held : Option Files) → OfExpected run.kinds run.words held (λ e. e ≡ Some usage)
    by None = subst (λ q. OfSomeText run.kinds q (λ e. e ≡ Some usage)) (sym none) refl
    by (Some files) = ap (λ q. elim q [ None ↦ Some usage | Some x ↦ expected_of run.kinds x files ]) none

    memory : (x : Result Status AnswerFault) → IfErr x (λ fault. fault ≡ why.Write) → x ≡ Err why.NoMemory → ⊥
    memory (Ok s) h e = cc
    memory (Err why.Write) h e = cc
    memory (Err why.NoMemory) h e = cc

-- the model of a sample needn't be read
pub made_there : (run : Run) (r : Request) (n : ℕ) → request run.words ≡ Some r → r.source ≡ SampleOf n → run.reads_after ≡ run.reads_before → ReadModel run
made_there run r n asked source same = subst (λ q. WasRead q run.held run.reads_before run.reads_after) (sym asked) (subst (λ x. MayBeThere x run.held) (sym source) tt, same)

request_written : (run : Run) (r : Request) (a : Answer) (res : Result Status AnswerFault)
    → request run.words ≡ Some r → IsOfText a.0
    → ((held : Option Files) → held ≡ run.held → OfExpected run.kinds run.words held (λ e. e ≡ Some a))
    → (res ≡ Err why.NoMemory → ReadModel run)
    → Writes a run.writes_before run.writes_after run.taken_before run.taken_after res
    → MayCount res r.meters run.kinds a.2 run.numbers_before run.numbers_after → Ended run (status_after res)
request_written run r a res asked status is had h count =
    expected_written run r.meters a res (ap asks_meters asked) (is run.held refl) (plain a.0 status)
    (λ e. absurd (subst IsOfText e status), λ e. absurd (cc)) had h count
  where
    plain : (s : Status) → IsOfText s → IsPlain s
    plain Found k = tt
    plain No k = tt
    plain Raised k = tt
    plain Budget k = tt
    plain Usage k = tt
    plain Model k = tt
    plain Goal k = tt
    plain Read k = k
    plain Write k = k
    plain Memory k = k

-- the answer to a model's text that was read
pub text_written : (run : Run) (r : Request) (name text : List ℕ) (res : Result Status AnswerFault)
    → request run.words ≡ Some r → r.source ≡ HeldUnder name → ReadsAll run.held name text → run.reads_after ≡ run.reads_before
    → Writes (for_text run.kinds text r) run.writes_before run.writes_after run.taken_before run.taken_after res
    → MayCount res r.meters run.kinds (for_text run.kinds text r).2 run.numbers_before run.numbers_after → Ended run (status_after res)
text_written run r name text res asked source read same h count =
    request_written run r (for_text run.kinds text r) res asked (of_text run.kinds text r) is (λ _. subst (λ q. WasRead q run.held run.reads_before run.reads_after) (sym asked) (subst (λ x. MayBeThere x run.held) (sym source) (may run.held read), same)) h count
  where
    may : (held : Option Files) → ReadsAll held name text → MayBeHeld held name
    may None k = tt
    may (Some files) k = subst IsSome (sym k) refl

    by : (held : Option Files) → ReadsAll held name text → OfExpected run.kinds run.words held (λ e. e ≡ Some (for_text run.kinds text r))
    by None k = subst (λ q. OfSomeText run.kinds q (λ e. e ≡ Some (for_text run.kinds text r))) (sym asked) (subst (λ x. OfSource run.kinds x r (λ e. e ≡ Some (for_text run.kinds text r))) (sym source) (text, refl))
    by (Some files) k = ap (λ q. elim q [ None ↦ Some usage | Some x ↦ expected_of run.kinds x files ]) asked ∙ ap (λ x. for_source run.kinds x r files) source ∙ ap (λ o. for_held run.kinds o r) k

    is : (held : Option Files) → held ≡ run.held → OfExpected run.kinds run.words held (λ e. e ≡ Some (for_text run.kinds text r))
    is held e = by held (subst (λ x. ReadsAll x name text) (sym e) read)

-- the answer to the model of a sample
pub sample_written : (run : Run) (r : Request) (n : ℕ) (res : Result Status AnswerFault)
    → request run.words ≡ Some r → r.source ≡ SampleOf n → run.reads_after ≡ run.reads_before
    → Writes (for_sample run.kinds n r) run.writes_before run.writes_after run.taken_before run.taken_after res
    → MayCount res r.meters run.kinds (for_sample run.kinds n r).2 run.numbers_before run.numbers_after → Ended run (status_after res)
sample_written run r n res asked source same h count =
    request_written run r (for_sample run.kinds n r) res asked (of_sample run.kinds n r) (λ held e. by held) (λ _. made_there run r n asked source same) h count
  where
    by : (held : Option Files) → OfExpected run.kinds run.words held (λ e. e ≡ Some (for_sample run.kinds n r))
    by None = subst (λ q. OfSomeText run.kinds q (λ e. e ≡ Some (for_sample run.kinds n r))) (sym asked) (subst (λ x. OfSource run.kinds x r (λ e. e ≡ Some (for_sample run.kinds n r))) (sym source) refl)
    by (Some files) = ap (λ q. elim q [ None ↦ Some usage | Some x ↦ expected_of run.kinds x files ]) asked ∙ ap (λ x. for_source run.kinds x r files) source

-- there are texts of any length
some_long : (n : ℕ) → (text : List ℕ) × (n < length text)
some_long n = (replicate (n + 1) 32, omega (arith, length-replicate {A = ℕ} (n + 1) 32))

-- the answer to a model that is too long
pub long_written : (run : Run) (r : Request) (name : List ℕ) (res : Result Status AnswerFault)
    → request run.words ≡ Some r → r.source ≡ HeldUnder name → HoldsMore run.held name 16777216 → KeptNumbers run → IfErr res (λ fault. fault ≡ why.Write)
    → Writes too_long run.writes_before run.writes_after run.taken_before run.taken_after res → Ended run (status_after res)
long_written run r name res is_asked source more kept write h =
    request_written run r too_long res is_asked tt is (λ e. absurd (memory res write e)) h
    (stay_counted res r.meters run.kinds run.numbers_before run.numbers_after kept)
  where
    memory : (x : Result Status AnswerFault) → IfErr x (λ fault. fault ≡ why.Write) → x ≡ Err why.NoMemory → ⊥
    memory (Ok s) h e = cc
    memory (Err why.Write) h e = cc
    memory (Err why.NoMemory) h e = cc

    of_held : (o : Option (List ℕ)) → MatchOption o ⊥ (λ bytes. 16777216 < length bytes) → for_held run.kinds o r ≡ Some too_long
    of_held None k = absurd k
    of_held (Some text) k = ap Some (long_answered run.kinds text r k)

    by : (held : Option Files) → HoldsMore held name 16777216 → OfExpected run.kinds run.words held (λ e. e ≡ Some too_long)
    by None k = subst (λ q. OfSomeText run.kinds q (λ e. e ≡ Some too_long)) (sym is_asked) (subst (λ x. OfSource run.kinds x r (λ e. e ≡ Some too_long)) (sym source) (let long = some_long 16777216 in (long.0, ap Some (long_answered run.kinds long.0 r long.1))))
    by (Some files) k = ap (λ q. elim q [ None ↦ Some usage | Some x ↦ expected_of run.kinds x files ]) is_asked ∙ ap (λ x. for_source run.kinds x r files) source ∙ of_held (held_under files name) k

    is : (held : Option Files) → held ≡ run.held → OfExpected run.kinds run.words held (λ e. e ≡ Some too_long)
    is held e = by held (subst (λ x. HoldsMore x name 16777216) (sym e) more)

-- the number of answers that a request asks for
pub asked_answers : (r : given.Request) → (asked r).answers ≡ answers_in r
asked_answers (RunOf model goal steps answers meters) = refl
asked_answers (Sample n steps) = refl

-- a read that failed
pub could_fail : (run : Run) (r : Request) (name : List ℕ) → request run.words ≡ Some r → r.source ≡ HeldUnder name → ReadFails run.held name run.reads_before run.reads_after → CouldNotRead run
could_fail run r name asked source fails = subst (λ q. IsReadFault q run.held run.reads_before run.reads_after) (sym asked) (subst (λ x. CouldFailAt x run.held run.reads_before run.reads_after) (sym source) (by run.held fails))
  where
    of_held : (o : Option (List ℕ)) → MatchOption o (run.reads_after ≡ run.reads_before) (λ _. Rose run.reads_before run.reads_after) → MatchOption o (Unit {0}) (λ _. Rose run.reads_before run.reads_after)
    of_held None k = tt
    of_held (Some text) k = k

    by : (held : Option Files) → ReadFails held name run.reads_before run.reads_after → CouldFail held name run.reads_before run.reads_after
    by None k = k
    by (Some files) k = of_held (held_under files name) k

-- a model that was read in part
pub part_read : (run : Run) (r : Request) (name : List ℕ) → request run.words ≡ Some r → r.source ≡ HeldUnder name → HoldsMore run.held name 0 → run.reads_after ≡ run.reads_before → ReadModel run
part_read run r name asked source more same = subst (λ q. WasRead q run.held run.reads_before run.reads_after) (sym asked) (subst (λ x. MayBeThere x run.held) (sym source) (by run.held more), same)
  where
    of_held : (o : Option (List ℕ)) → MatchOption o ⊥ (λ bytes. 0 < length bytes) → IsSome o
    of_held None k = absurd k
    of_held (Some text) k = refl

    by : (held : Option Files) → HoldsMore held name 0 → MayBeHeld held name
    by None k = tt
    by (Some files) k = of_held (held_under files name) k
