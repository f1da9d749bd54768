-- A shelf and a sink in memory: what a call answers, and what it leaves.
use Rattle.std.specs.Prelude.{ℕ, ◌-◌, Bool, ◌||◌, ◌==◌, nat_le, min, List, [], ◌++◌, length, map}
use Rattle.std.specs.Prelude.{take, Option, Some, None, Vec, string_bytes, if◌then◌else◌}
use Rattle.std.specs.List.{list_any}
use Rattle.std.specs.declared.alloc.Global.{Global}
use Rattle.std.specs.declared.string.String.{String}
use Rattle.tp_outside.specs.Count.{given_more, next_count}
use Rattle.tp_outside.specs.Files.{Files, held_under}

-- files with names and bytes of the program
abbrev pub files_of : List (String Global × Vec ℕ Global) → Files
files_of = map (λ file. (string_bytes file.0, file.1.items))

-- a call with this number fails
abbrev pub is_failing : List ℕ → ℕ → Bool
is_failing fails call = list_any (λ f. f == call) fails

-- a shelf: the files, the most bytes that one read gives, the numbers of the calls that fail, and
-- the counts of calls, of faults and of bytes given
pub record ShelfState : Type 0 where
  pub files : Files
  pub piece : ℕ
  pub fails : List ℕ
  pub calls : ℕ
  pub faults : ℕ
  pub given : ℕ

-- a shelf that nobody has read
abbrev pub unread : Files → ℕ → List ℕ → ShelfState
unread files piece fails =
    record { files = files; piece = piece; fails = fails; calls = 0; faults = 0; given = 0 }

-- a read of bytes that are held, by the call that the shelf has counted
abbrev pub read_of_held : ShelfState → List ℕ → ℕ → ℕ → Option ℕ × ShelfState
read_of_held shelf bytes at room =
    let n = min (min shelf.piece room) (length bytes - at) in
    if is_failing shelf.fails shelf.calls
    then (None, record shelf { faults = next_count shelf.faults })
    else (Some n, record shelf { given = given_more shelf.given n })

-- the same of what is held under a name; a name that isn't held fails without a fault
abbrev pub read_of_counted : ShelfState → Option (List ℕ) → ℕ → ℕ → Option ℕ × ShelfState
read_of_counted shelf None at room = (None, shelf)
read_of_counted shelf (Some bytes) at room = read_of_held shelf bytes at room

-- how many bytes a read from a place on gives to a buffer with this room, or none where it fails,
-- and the shelf after it; each call is counted
abbrev pub read_of : ShelfState → List ℕ → ℕ → ℕ → Option ℕ × ShelfState
read_of shelf name at room =
    let counted = record shelf { calls = next_count shelf.calls } in
    read_of_counted counted (held_under shelf.files name) at room

-- a sink: the bytes taken, how many it has room for, the most that one write takes, the numbers of
-- the calls that fail, and the counts of calls and of faults
pub record SinkState : Type 0 where
  pub taken : List ℕ
  pub room : ℕ
  pub piece : ℕ
  pub fails : List ℕ
  pub calls : ℕ
  pub faults : ℕ

-- a sink that has taken nothing
abbrev pub empty_sink : ℕ → ℕ → List ℕ → SinkState
empty_sink room piece fails =
    record { taken = []; room = room; piece = piece; fails = fails; calls = 0; faults = 0 }

-- a write by the call that the sink has counted
abbrev pub write_of_counted : SinkState → List ℕ → Option ℕ × SinkState
write_of_counted sink bytes =
    let n = min (min sink.piece (length bytes)) (sink.room - length sink.taken) in
    if is_failing sink.fails sink.calls || nat_le sink.room (length sink.taken)
    then (None, record sink { faults = next_count sink.faults })
    else (Some n, record sink { taken = sink.taken ++ take n bytes })

-- how many bytes a write takes, or none where it fails, and the sink after it; each call is counted
abbrev pub write_of : SinkState → List ℕ → Option ℕ × SinkState
write_of sink bytes = write_of_counted (record sink { calls = next_count sink.calls }) bytes
