-- What clap states of a parse, at this command.
use Rattle.std.proofs.Common.{rules, tests, false, inl, inr, ◌≡◌, ◌∙◌, true, List, [], ◌∷◌, Option, Some, None, Result, Ok, Err, arith, ap, sym, refl}
use Rattle.std.specs.Prelude.{ℕ, if◌then◌else◌}
use Rattle.clap.specs.Words.{App, FailsBy, HasKind, HasMatchesOf, Kinds, fault_of, found_of, is_simple, is_simple_and_free, kind_of, matches_of, rows_of, with_rule, new_rule}
use Rattle.clap.specs.Walk.{is_empty}
use Rattle.clap.specs.declared.error.Error.{Error}
use Rattle.clap.specs.declared.error.kind.ErrorKind.{ErrorKind}
use Rattle.clap.specs.declared.error.kind.ErrorKind.TheVariants.{OutOfMemory}
use Rattle.clap.specs.declared.parser.matches.ArgMatches.{ArgMatches}
use Rattle.clap.specs.declared.builder.action.ArgAction.TheVariants.{SetTrue}
use Rattle.clap.proofs.OnLiterals.{clap_on_literals}
use Rattle.std.specs.Prelude.{codes}
use Rattle.tp_words.specs.Command.{bare, command, fault_by, matches, named, texts_added}
use Rattle.tp_words.specs.declared.fault.WordsFault.{WordsFault}
use Rattle.tp_words.specs.declared.fault.WordsFault.TheVariants.{NoMemory, Usage}

-- the arguments, added in turn
pub added_in_turn : with_rule (with_rule (with_rule (with_rule texts_added (named (codes "steps"))) (named (codes "answers"))) (named (codes "sample"))) (record (named (codes "meters")) { action = Some SetTrue }) ≡ command
unfolding command
added_in_turn = refl

command_is_simple : is_simple command ≡ true
unfolding command clap_on_literals
command_is_simple = refl

command_is_free : is_simple_and_free command ≡ true
unfolding command clap_on_literals
command_is_free = refl

-- where the parse succeeds, its matches are those of the words
pub parsed : (a : App) (words : List (List ℕ)) (m : ArgMatches) → a ≡ command
    → (is_simple_and_free a ≡ true → FailsBy {T = ArgMatches} (fault_of a words) (Ok m)) → HasMatchesOf a words m
    → matches words ≡ Some (rows_of (found_of m))
unfolding matches
parsed a words m is fails has =
    let empty = fails (ap is_simple_and_free is ∙ command_is_free) in
    let rows = has (ap is_simple is ∙ command_is_simple) in
    ap (λ kinds. if is_empty kinds then Some (matches_of command words) else None)
    (sym (ap (λ x. fault_of x words) is) ∙ empty)
    ∙ ap Some (sym (ap (λ x. matches_of x words) is) ∙ sym rows.0)

none_of : {A : Type 0} (x : Option A) (k : ErrorKind) (ks : Kinds) → (if is_empty (k ∷ ks) then x else None) ≡ None
none_of x k ks =
    let some : is_empty (k ∷ ks) ≡ false = search (rules, tests) in
    ap (λ empty. if empty then x else None) some

-- where it fails for another cause than memory, there are none
pub refused : (a : App) (words : List (List ℕ)) (e : Error) → a ≡ command
    → (is_simple_and_free a ≡ true → FailsBy {T = ArgMatches} (fault_of a words) (Err e))
    → fault_by (kind_of e) ≡ Usage → matches words ≡ None
unfolding matches
refused a words e is fails usage =
    let kind = fails (ap is_simple_and_free is ∙ command_is_free) in
    ap (λ kinds. if is_empty kinds then Some (matches_of command words) else None)
    (sym (ap (λ x. fault_of x words) is))
    ∙ go (fault_of a words) kind
  where
    place : WordsFault → ℕ
    place Usage = 0
    place NoMemory = 1

    memory : fault_by OutOfMemory ≡ Usage → ⊥
    memory e = let bad : place NoMemory ≡ place Usage = ap place e in omega (arith, bad)

    go : (kinds : Kinds) → HasKind kinds e
        → (if is_empty kinds then Some (matches_of command words) else None) ≡ None
    go [] (inl k) = absurd (memory (sym (ap fault_by k) ∙ usage))
    go [] (inr none) = absurd none
    go (k ∷ ks) _ = none_of (Some (matches_of command words)) k ks

abbrev fault_in : {T : Type 0} → Result T WordsFault → WordsFault
fault_in (Ok x) = NoMemory
fault_in (Err e) = e

-- an exit that answers Usage has that fault
pub usage_only : {T : Type 0} (r : Result T WordsFault) (y e : WordsFault)
    → r ≡ Err y → y ≡ e → r ≡ Err Usage → e ≡ Usage
usage_only r y e is same usage = sym same ∙ ap fault_in (sym is ∙ usage)
