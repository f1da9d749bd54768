-- The kinds of errors that goals raise.
use Rattle.std.specs.Prelude.{◌<◌, List, length, codes}
use Rattle.tp_terms.specs.declared.cells.Cell.{Cell}
use Rattle.tp_terms.specs.Term.{Name, Term, Int, Atom, Comp, NoMore, More, atom}
use Rattle.tp_terms.specs.Shown.{name_at, shows}
use Rattle.tp_meaning.specs.Checks.{unbound, type_error, domain_error, evaluation_error}
use Rattle.tp_meaning.specs.Checks.{existence_error, permission_error, representation_error}
use Rattle.tp_meaning.specs.Checks.{indicator}
use Rattle.tp_meaning.specs.Subst.{apply}
use Rattle.tp_store.specs.Contents.{Contents, subst_of}
use Rattle.tp_machine.specs.declared.errors.Domain.{Domain}
use Rattle.tp_machine.specs.declared.errors.Domain.TheVariants.{Duration, StartTime, EndTime}
use Rattle.tp_machine.specs.declared.errors.Cause.{Cause}
use Rattle.tp_machine.specs.declared.errors.Cause.TheVariants.{Unbound, Number, Unknown}
use Rattle.tp_machine.specs.declared.errors.Cause.TheVariants.{NotCallable, NotInteger}
use Rattle.tp_machine.specs.declared.errors.Cause.TheVariants.{TooManyArguments, NotAtom, NotList}
use Rattle.tp_machine.specs.declared.errors.Cause.TheVariants.{NoProcess, EmptyName, NameTaken}
use Rattle.tp_machine.specs.declared.errors.Cause.TheVariants.{OutOfDomain, Overflow, Kind}

-- a kind of error with what is wanted and a term that isn't so, and one with a word alone
abbrev pub kind_with : Name → Name → Term → Term
kind_with error wanted culprit = Comp error (More (Atom wanted) (More culprit NoMore))

abbrev pub kind_of_word : Name → Name → Term
kind_of_word error word = Comp error (More (Atom word) NoMore)

-- a term isn't of the domain of this name
abbrev pub wrong_domain : Name → Term → Term
wrong_domain = kind_with (codes "domain_error")

abbrev pub domain_word : Domain → Name
domain_word Duration = codes "not_less_than_zero"
domain_word StartTime = codes "start_time"
domain_word EndTime = codes "end_time"

abbrev pub kind_term : List Name → List Cell → Cause → Term
kind_term names cells Unbound = unbound
kind_term names cells (Number value) = type_error "callable" (Int value)
kind_term names cells (Unknown name count) =
    existence_error "procedure" (indicator (name_at names name.at) count)
kind_term names cells (NotCallable goal) = type_error "callable" (shows names cells goal.at)
kind_term names cells (NotInteger term) = type_error "integer" (shows names cells term.at)
kind_term names cells TooManyArguments = representation_error "max_arity"
kind_term names cells (NotAtom term) = type_error "atom" (shows names cells term.at)
kind_term names cells (NotList term) = type_error "list" (shows names cells term.at)
kind_term names cells (NoProcess name) = existence_error "process" (shows names cells name.at)
kind_term names cells EmptyName = domain_error "process_name" (atom "[]")
kind_term names cells (NameTaken name) =
    permission_error "create" "process" (shows names cells name.at)
kind_term names cells (OutOfDomain domain value) = wrong_domain (domain_word domain) (Int value)
kind_term names cells Overflow = evaluation_error "int_overflow"
kind_term names cells (Kind kind) = shows names cells kind.at

-- the kind under the bindings
abbrev pub kind_seen : List Name → Contents → Cause → Term
kind_seen names c cause = apply (subst_of names c) (kind_term names c.cells cause)

-- the name that it speaks of, where there is one, is of the table
abbrev pub CauseStands : List Name → Cause → Type 0
CauseStands names (Unknown name count) = name.at < length names
CauseStands names _ = Unit {0}

-- the term that it speaks of, where there is one, stands at a place
abbrev pub HasCulprit : List Cell → Cause → Type 0
HasCulprit cells (NotCallable goal) = goal.at < length cells
HasCulprit cells (NotInteger term) = term.at < length cells
HasCulprit cells (NotAtom term) = term.at < length cells
HasCulprit cells (NotList term) = term.at < length cells
HasCulprit cells (NoProcess name) = name.at < length cells
HasCulprit cells (NameTaken name) = name.at < length cells
HasCulprit cells (Kind kind) = kind.at < length cells
HasCulprit cells _ = Unit {0}
