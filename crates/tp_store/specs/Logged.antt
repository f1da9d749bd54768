-- What further bindings leave in a log, and what is left when one is taken back.
use Rattle.std.specs.Prelude.{◌≡◌, ℕ, ◌<◌, Bool, true, nat_eq, is_some, if◌then◌else◌, List, []}
use Rattle.std.specs.Prelude.{◌∷◌, ◌++◌, length, Some, None}
use Rattle.tp_terms.specs.declared.cells.Cell.{Cell}
use Rattle.tp_terms.specs.declared.cells.Ref.{Ref}
use Rattle.tp_terms.specs.Term.{Name}
use Rattle.tp_terms.specs.Shown.{shows, AreNamed}
use Rattle.tp_terms.specs.Binds.{Bindings, bound_in}
use Rattle.tp_log.specs.declared.entry.Entry.{Entry}
pub use Rattle.tp_meaning.specs.Trail.{bindings_logged}
use Rattle.tp_meaning.specs.Clauses.{renamed}
use Rattle.tp_meaning.specs.Subst.{mgu}
use Rattle.tp_store.specs.Contents.{Contents, Names, subst_of}

-- The new store has further bindings, and the log their entries.
pub record Logs (old new : Contents) (before after : List Entry) : Type 0 where
  pub more : Bindings
  pub pairs : new.pairs ≡ more ++ old.pairs
  pub cells : new.cells ≡ old.cells
  pub vars : new.vars ≡ old.vars
  pub log : after ≡ before ++ bindings_logged more

-- The new store has further cells and bindings, and the log the entries of the bindings.
pub record LogsHead (old new : Contents) (before after : List Entry) : Type 0 where
  pub more_cells : List Cell
  pub more : Bindings
  pub cells : new.cells ≡ old.cells ++ more_cells
  pub pairs : new.pairs ≡ more ++ old.pairs
  pub vars : new.vars ≡ old.vars
  pub log : after ≡ before ++ bindings_logged more

-- the variable of this number is bound
abbrev pub IsBound : Bindings → ℕ → Type 0
IsBound pairs v = is_some (bound_in pairs v) ≡ true

-- the bindings without the newest one of a variable
abbrev pub without_pair : ℕ → Bindings → Bindings
without_pair v [] = []
without_pair v (p ∷ pairs) = if nat_eq p.0 v then pairs else p ∷ without_pair v pairs

-- the contents without the newest binding of a variable
abbrev pub unbound : ℕ → Contents → Contents
unbound v c = record { cells = c.cells; pairs = without_pair v c.pairs; vars = c.vars }

-- The term of a place of the store, and that of a place of other cells, its variables numbered on
-- from the base, have the most general unifier that the new bindings are, or none.
abbrev pub FindsHead : Contents → Contents → Ref → List Cell → Ref → ℕ → Bool → Type 0
FindsHead old new goal from head base found =
    (names : List Name) → Names names old.cells → AreNamed (length names) from →
    mgu (subst_of names old) (shows names old.cells goal.at)
    (renamed base (shows names from head.at))
    ≡ (if found then Some (subst_of names new) else None)

-- whether those two terms have a unifier
abbrev pub HeadIsUnifiable : Contents → Ref → List Cell → Ref → ℕ → Bool → Type 0
HeadIsUnifiable old goal from head base found =
    (names : List Name) → Names names old.cells → AreNamed (length names) from →
    found ≡ is_some (mgu (subst_of names old) (shows names old.cells goal.at)
    (renamed base (shows names from head.at)))

-- the places of the old cells show the same terms in the new ones
abbrev pub KeepsTerms : List Cell → List Cell → Type 0
KeepsTerms old new = (names : List Name) (at : ℕ) → at < length old →
    shows names new at ≡ shows names old at
