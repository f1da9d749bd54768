-- What is written of an answer, and how its writing ends.
use Rattle.std.specs.Prelude.{◌≡◌, ℕ, ◌<◌, Bool, false, List, length, take, Option, Some}
use Rattle.std.specs.Prelude.{Result, Ok, Err, encode_utf8_all}
use Rattle.tp_outside.specs.Count.{Rose}
use Rattle.tp_outside.specs.Taken.{added, HasPrefix}
use Rattle.tp_engine.specs.Answers as engine
use Rattle.tp_engine.specs.declared.answers.AnswerFault.{AnswerFault}
use Rattle.tp_engine.specs.declared.answers.AnswerFault.TheVariants as why
use Rattle.tp_meters.specs.declared.MeterKind.{MeterKind}
use Rattle.tp_top.specs.declared.program.Status.{Status}
use Rattle.tp_top.specs.declared.program.Status.TheVariants as status
use Rattle.tp_top.specs.Expected.{Answer}
use Rattle.tp_top.specs.Metered.{HasCounted, printed_kinds}
use Rattle.tp_top.specs.Told.{shown}

-- a prefix of these bytes was added, and not all of them
abbrev pub HasLess : Option (List ℕ) → Option (List ℕ) → List ℕ → Type 0
HasLess before now bytes = (n : ℕ) × (n < length bytes) × (now ≡ added before (take n bytes))

-- The count of faults of a sink before and after, and what it tells before and after. An answer's
-- text was written whole and its status given; or a write failed behind a prefix; or memory was
-- refused before all was written, and no write failed.
abbrev pub Writes :
    Answer → ℕ → ℕ → Option (List ℕ) → Option (List ℕ) → Result Status AnswerFault → Type 0
Writes a before after was now (Ok s) = (s ≡ a.0) × (now ≡ added was a.1)
Writes a before after was now (Err why.Write) = Rose before after × HasPrefix was now a.1
Writes a before after was now (Err why.NoMemory) = (after ≡ before) × HasLess was now a.1

-- the status of what was written
abbrev pub status_after : Result Status AnswerFault → Status
status_after (Ok s) = s
status_after (Err why.Write) = status.Write
status_after (Err why.NoMemory) = status.Memory

-- a write of these bytes failed behind a prefix, or memory was refused before any was written
abbrev pub WasLeft :
    AnswerFault → ℕ → ℕ → Option (List ℕ) → Option (List ℕ) → List ℕ → Type 0
WasLeft why.Write before after was now bytes = HasPrefix was now bytes
WasLeft why.NoMemory before after was now bytes = (after ≡ before) × (now ≡ was)

-- What is seen of what writes answers: the count of faults of its sink and what that tells, whether
-- meters are printed, and their kinds and numbers.
pub record Writing : Type 0 where
  pub faults : ℕ
  pub taken : Option (List ℕ)
  pub metered : Bool
  pub kinds : List MeterKind
  pub numbers : List (List ℕ)

abbrev pub writing : ℕ → Option (List ℕ) → Bool → List MeterKind → List (List ℕ) → Writing
writing faults taken metered kinds numbers = record {
  faults = faults;
  taken = taken;
  metered = metered;
  kinds = kinds;
  numbers = numbers;
}

-- the bytes of the lines of an answer, with those of the meters where these are printed
abbrev pub bytes_by : Writing → engine.Answer → List ℕ
bytes_by w a = encode_utf8_all (shown (printed_kinds w.metered w.kinds) a)

-- the meters stay the same ones
pub record KeepsMeters (old new : Writing) : Type 0 where
  pub metered : new.metered ≡ old.metered
  pub kinds : new.kinds ≡ old.kinds

-- an answer was written, and the meters have counted its history where they are printed
pub record HasWritten (old : Writing) (a : engine.Answer) (new : Writing) : Type 0 where
  pub keeps : KeepsMeters old new
  pub faults : new.faults ≡ old.faults
  pub taken : new.taken ≡ added old.taken (bytes_by old a)
  pub numbers : HasCounted old.metered old.kinds (Some a.world.history) old.numbers new.numbers

-- an answer met a fault, and the numbers of the meters stay where they aren't printed
pub record HasFailed
    (old : Writing) (a : engine.Answer) (why : AnswerFault) (new : Writing) : Type 0 where
  pub keeps : KeepsMeters old new
  pub left : WasLeft why old.faults new.faults old.taken new.taken (bytes_by old a)
  pub numbers : old.metered ≡ false → new.numbers ≡ old.numbers
