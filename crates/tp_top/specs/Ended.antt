-- What a run does, with every shelf and every sink.
use Rattle.std.specs.Prelude.{◌≡◌, ℕ, Bool, true, false, List, Option, Some, None}
use Rattle.std.specs.Prelude.{MatchOption, IsSome, IsSomeAnd, ◌⊎◌, ◌↔◌}
use Rattle.tp_outside.specs.Count.{Rose}
use Rattle.tp_outside.specs.Files.{Files, held_under}
use Rattle.tp_outside.specs.Taken.{added, HasPrefix}
use Rattle.tp_meters.specs.declared.MeterKind.{MeterKind}
use Rattle.tp_top.specs.Metered.{numbers_over}
use Rattle.tp_top.specs.Written.{HasLess}
use Rattle.tp_top.specs.declared.program.Status.{Status}
use Rattle.tp_top.specs.declared.program.Status.TheVariants.{Found, No, Raised}
use Rattle.tp_top.specs.declared.program.Status.TheVariants.{Budget, Usage, Model, Goal}
use Rattle.tp_top.specs.declared.program.Status.TheVariants.{Read, Write, Memory}
use Rattle.tp_top.specs.Expected.{Request, request, Answer, expected, for_text}
use Rattle.tp_top.specs.Expected.{for_sample, usage, read_fault}
use Rattle.tp_top.specs.Sample.{Source, HeldUnder, SampleOf}

-- the number of a status
abbrev pub number_of : Status → ℕ
number_of Found = 0
number_of No = 1
number_of Raised = 2
number_of Budget = 3
number_of Usage = 4
number_of Model = 5
number_of Goal = 6
number_of Read = 7
number_of Write = 8
number_of Memory = 9

-- What a run is about: what the shelf tells, the words, the counts of faults of reading and of
-- writing before and after, what the sink tells before and after, the kinds of the meters, and the
-- numbers that they hold before and after.
pub record Run : Type 0 where
  pub held : Option Files
  pub words : List (List ℕ)
  pub reads_before : ℕ
  pub reads_after : ℕ
  pub writes_before : ℕ
  pub writes_after : ℕ
  pub taken_before : Option (List ℕ)
  pub taken_after : Option (List ℕ)
  pub kinds : List MeterKind
  pub numbers_before : List (List ℕ)
  pub numbers_after : List (List ℕ)

-- ---- what is expected

-- the model is that of a sample, or there is a text of it whose answer is expected
abbrev pub OfSource : List MeterKind → Source → Request → (Option Answer → Type 0) → Type 0
OfSource kinds (HeldUnder name) r P = (text : List ℕ) × P (Some (for_text kinds text r))
OfSource kinds (SampleOf n) r P = P (Some (for_sample kinds n r))

-- the words are no request, or that holds of their request
abbrev pub OfSomeText : List MeterKind → Option Request → (Option Answer → Type 0) → Type 0
OfSomeText kinds None P = P (Some usage)
OfSomeText kinds (Some r) P = OfSource kinds r.source r P

-- What holds of the expected answer, with meters of these kinds. Where the shelf doesn't tell its
-- files, it is the answer for the text of some model, or for that of a sample.
abbrev pub OfExpected :
    List MeterKind → List (List ℕ) → Option Files → (Option Answer → Type 0) → Type 0
OfExpected kinds words None P = OfSomeText kinds (request words) P
OfExpected kinds words (Some files) P = P (expected kinds words files)

-- a status that is none of a read fault, a write fault and want of memory
abbrev pub IsPlain : Status → Type 0
IsPlain Read = ⊥
IsPlain Write = ⊥
IsPlain Memory = ⊥
IsPlain _ = Unit {0}

-- the count of faults rose or, where the shelf tells, the name isn't held
abbrev pub CouldFail : Option Files → List ℕ → ℕ → ℕ → Type 0
CouldFail None name before after = Rose before after
CouldFail (Some files) name before after =
    MatchOption (held_under files name) (Unit {0}) (λ _. Rose before after)

-- a model that is held couldn't be read
abbrev pub CouldFailAt : Source → Option Files → ℕ → ℕ → Type 0
CouldFailAt (HeldUnder name) held before after = CouldFail held name before after
CouldFailAt (SampleOf n) held before after = ⊥

-- the words are a request whose model couldn't be read
abbrev pub IsReadFault : Option Request → Option Files → ℕ → ℕ → Type 0
IsReadFault None held before after = ⊥
IsReadFault (Some r) held before after = CouldFailAt r.source held before after

abbrev pub CouldNotRead : Run → Type 0
CouldNotRead run = IsReadFault (request run.words) run.held run.reads_before run.reads_after

-- the name is held, where the shelf tells
abbrev pub MayBeHeld : Option Files → List ℕ → Type 0
MayBeHeld None name = Unit {0}
MayBeHeld (Some files) name = IsSome (held_under files name)

-- the same of a model that needn't be read
abbrev pub MayBeThere : Source → Option Files → Type 0
MayBeThere (HeldUnder name) held = MayBeHeld held name
MayBeThere (SampleOf n) held = Unit {0}

-- the words are a request whose model was read, whole or in part, or is that of a sample, and no
-- read failed
abbrev pub WasRead : Option Request → Option Files → ℕ → ℕ → Type 0
WasRead None held before after = ⊥
WasRead (Some r) held before after = MayBeThere r.source held × (after ≡ before)

abbrev pub ReadModel : Run → Type 0
ReadModel run = WasRead (request run.words) run.held run.reads_before run.reads_after

-- nothing was read and nothing written: the words themselves took more memory than there is
abbrev pub DidNothing : Run → Type 0
DidNothing run =
    (run.reads_after ≡ run.reads_before)
    × (run.writes_after ≡ run.writes_before)
    × (run.taken_after ≡ run.taken_before)

-- ---- what is written

-- a whole text was added
abbrev pub Wrote : Run → List ℕ → Type 0
Wrote run text = run.taken_after ≡ added run.taken_before text

-- a prefix of an answer's text was added, and nothing where there is no answer
abbrev pub WrotePart : Run → Option Answer → Type 0
WrotePart run None = run.taken_after ≡ run.taken_before
WrotePart run (Some answer) = HasPrefix run.taken_before run.taken_after answer.1

-- a prefix of the expected text was added, or of the line of a model that couldn't be read
abbrev pub IsCutShort : Run → Type 0
IsCutShort run =
    OfExpected run.kinds run.words run.held (WrotePart run)
    ⊎ (CouldNotRead run × HasPrefix run.taken_before run.taken_after read_fault)

-- a part of the expected text was added and not all of it, and nothing where there is no answer
abbrev pub WroteLess : Run → Option Answer → Type 0
WroteLess run None = run.taken_after ≡ run.taken_before
WroteLess run (Some answer) = HasLess run.taken_before run.taken_after answer.1

-- the same of what is expected
abbrev pub IsUnfinished : Run → Type 0
IsUnfinished run = OfExpected run.kinds run.words run.held (WroteLess run)

-- the expected answer, whole
abbrev pub GaveAnswer : Run → Status → Answer → Type 0
GaveAnswer run status answer = (status ≡ answer.0) × Wrote run answer.1

-- there is an expected answer, and it was given, whole
abbrev pub GaveExpected : Run → Status → Option Answer → Type 0
GaveExpected run status answer = IsSomeAnd answer (GaveAnswer run status)

-- the line of a model that couldn't be read
abbrev pub GaveReadFault : Run → Status → Type 0
GaveReadFault run status = (status ≡ Read) × Wrote run read_fault

-- what is given where no fault comes and memory suffices
abbrev pub GaveAll : Run → Status → Option Answer → Type 0
GaveAll run status None = GaveReadFault run status
GaveAll run status (Some answer) = GaveAnswer run status answer

-- ---- samples

-- whether the words are a request for a sample
abbrev pub is_sample : Source → Bool
is_sample (HeldUnder name) = false
is_sample (SampleOf n) = true

abbrev pub asks_sample : Option Request → Bool
asks_sample None = false
asks_sample (Some r) = is_sample r.source

-- ---- meters

-- whether the words are a request that asks for meters
abbrev pub asks_meters : Option Request → Bool
asks_meters None = false
asks_meters (Some r) = r.meters

-- the numbers of the meters stay
abbrev pub KeptNumbers : Run → Type 0
KeptNumbers run = run.numbers_after ≡ run.numbers_before

-- The expected answer was given, whole. Each meter holds the numbers over the history of its last
-- answer, and the numbers stay where none was printed.
abbrev pub GaveCounted : Run → Status → Answer → Type 0
GaveCounted run status answer =
    GaveAnswer run status answer
    × (run.numbers_after ≡ numbers_over run.kinds answer.2 run.numbers_before)

abbrev pub CountedExpected : Run → Status → Option Answer → Type 0
CountedExpected run status answer = IsSomeAnd answer (GaveCounted run status)

-- What becomes of the numbers of the meters.
pub record Metered (run : Run) (status : Status) : Type 0 where
  -- Where the words ask for meters, and the status is no read fault, write fault or want of memory,
  -- they hold the numbers over the history of the last answer that was printed, if one was.
  pub counted :
      asks_meters (request run.words) ≡ true → IsPlain status →
      OfExpected run.kinds run.words run.held (CountedExpected run status)
  -- Where the model couldn't be read they stay.
  pub unread : status ≡ Read → KeptNumbers run
  -- Where the words don't ask for meters they stay.
  pub unasked : asks_meters (request run.words) ≡ false → KeptNumbers run

-- ---- the whole clause

-- A run ends with a status:
pub record Ended (run : Run) (status : Status) : Type 0 where
  -- Where it is no read fault, write fault or want of memory, an answer is expected, and it was
  -- given, whole.
  pub plain : IsPlain status → OfExpected run.kinds run.words run.held (GaveExpected run status)
  -- Where it is a read fault, the words are a request, the count of faults of reading rose or the
  -- model isn't held, and the line of a read fault was written.
  pub read : status ≡ Read → CouldNotRead run × Wrote run read_fault
  -- Where it is a write fault, the count of faults of writing rose, and a prefix was written.
  pub write : status ≡ Write → Rose run.writes_before run.writes_after × IsCutShort run
  -- Where memory was refused, the model was read or made without a fault, or nothing was done. No
  -- write failed, and the expected text wasn't all written.
  pub memory :
      status ≡ Memory →
      (ReadModel run ⊎ DidNothing run)
      × (run.writes_after ≡ run.writes_before)
      × IsUnfinished run
  -- Where it is none of these three, it says that the words are no request exactly where they
  -- are none.
  pub by_words : IsPlain status → (status ≡ Usage) ↔ (request run.words ≡ None)
  -- Where no count of faults rose, the expected answer was given, whole, or the line of a read
  -- fault where none is expected, or memory was refused.
  pub complete :
      ¬ Rose run.reads_before run.reads_after → ¬ Rose run.writes_before run.writes_after →
      OfExpected run.kinds run.words run.held
      (λ answer. GaveAll run status answer ⊎ (status ≡ Memory))
  -- The meters hold their numbers of the last answer that was printed.
  pub meters : Metered run status
