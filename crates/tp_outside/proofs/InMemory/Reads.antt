-- A read of a shelf in memory, case by case.
use Rattle.std.proofs.Common.{◌≡◌, ℕ, ◌-◌, true, false, min, List, length, Some, None}
use Rattle.tp_outside.specs.Count.{given_more, next_count}
use Rattle.tp_outside.specs.Files.{held_under}
use Rattle.tp_outside.specs.Memory.{ShelfState, is_failing, read_of}

-- a call for a held name that fails
pub failed_read : (shelf : ShelfState) (name bytes : List ℕ) (at room call faults : ℕ) → held_under shelf.files name ≡ Some bytes → call ≡ next_count shelf.calls → faults ≡ next_count shelf.faults
    → is_failing shelf.fails call ≡ true → (None, record shelf { calls = call; faults = faults }) ≡ read_of shelf name at room
failed_read shelf name bytes at room call faults held is_call is_faults fails =
    let by_count = rw is_call at fails in rw (is_call, is_faults, held, by_count)

-- a call for a held name that doesn't
pub given_read : (shelf : ShelfState) (name bytes : List ℕ) (at room call n given : ℕ) → held_under shelf.files name ≡ Some bytes → call ≡ next_count shelf.calls → is_failing shelf.fails call ≡ false
    → n ≡ min (min shelf.piece room) (length bytes - at) → given ≡ given_more shelf.given n → (Some n, record shelf { calls = call; given = given }) ≡ read_of shelf name at room
given_read shelf name bytes at room call n given held is_call fails is_n is_given =
    let by_count = rw is_call at fails in rw (is_given, is_n, is_call, held, by_count)
