-- The answers of the unification with a term of other cells, and what is taken back.
use Rattle.std.proofs.Common.{◌≡◌, ℕ, Bool, true, false, List, [], ◌++◌, length, take, drop, reverse, is_some, Result, Ok, Err, IfOk, sym, ap, ◌∙◌, arith}
use Rattle.tp_terms.specs.declared.NoMemory.{NoMemory}
use Rattle.tp_terms.specs.declared.cells.Cell.{Cell}
use Rattle.tp_terms.specs.declared.cells.Ref.{Ref}
use Rattle.tp_terms.specs.declared.world.StoreMark.{StoreMark}
use Rattle.tp_terms.specs.Shown.{shows}
use Rattle.tp_log.specs.declared.entry.Entry.{Entry}
use Rattle.tp_meaning.specs.Clauses.{renamed}
use Rattle.tp_store.specs.declared.chains.Chains.{Chains}
use Rattle.tp_store.specs.Contents.{Contents, CanGoBack, IsStore, cut_to_mark, subst_of}
use Rattle.tp_store.specs.Chain.{IsChains, contents_of}
use Rattle.tp_store.specs.Logged.{FindsHead, HeadIsUnifiable, LogsHead}
use Rattle.tp_store.specs.Meeting.{AddsBoth, Meets, with_oldest}
use Rattle.tp_store.proofs.Standing.Facts.{IsSubst-store, can_go_back, went_back}
use Rattle.tp_store.proofs.Logging.Entries.{drop_pairs, entries_of}
use Rattle.tp_store.proofs.Unifier.General.{mgu-found, mgu-none, undone_pairs}
use Rattle.tp_store.proofs.HeadsMeet.Equations.{comes_general}

module _ (old now : Contents) (goal head : Ref) (from : List Cell) (base : ℕ) (ok : IsStore old) (ok2 : IsStore now) where
  abbrev Found : Bool → Type 0
  Found = Meets old now from (λ names. shows names old.cells goal.at) (λ names. renamed base (shows names from head.at)) (λ names. [])

  pub met_finds : (found : Bool) → Found found → FindsHead old now goal from head base found
  met_finds true m = λ names n o.
      mgu-found (subst_of names old) (shows names old.cells goal.at) (renamed base (shows names from head.at)) (subst_of names now) (IsSubst-store names old ok) (IsSubst-store names now ok2)
      (comes_general (subst_of names old) (shows names old.cells goal.at) (renamed base (shows names from head.at)) (subst_of names now) (IsSubst-store names now ok2) (m names))
  met_finds false m = λ names n o. mgu-none (subst_of names old) (shows names old.cells goal.at) (renamed base (shows names from head.at)) (IsSubst-store names old ok) (m names n o)

  pub met_tells : (r : Result Bool NoMemory) → IfOk r Found → IfOk r (HeadIsUnifiable old goal from head base)
  met_tells (Ok true) m = λ names n o. sym (ap is_some (met_finds true m names n o))
  met_tells (Ok false) m = λ names n o. sym (ap is_some (met_finds false m names n o))
  met_tells (Err e) m = tt

-- where nothing solves the equation, this holds of any store
pub missed : (old now new : Contents) (goal head : Ref) (from : List Cell) (base : ℕ) → IsStore old → IsStore now → Meets old now from (λ names. shows names old.cells goal.at) (λ names. renamed base (shows names from head.at)) (λ names. []) false → FindsHead old new goal from head base false
missed old now new goal head from base ok ok2 m = λ names n o. met_finds old now goal head from base ok ok2 false m names n o

-- ---- what is taken back

module _ (old now : Chains) (kept : ℕ) (mark : StoreMark) (ok : IsChains old) (a : AddsBoth (contents_of old) (contents_of now)) (k : kept ≡ length old.trail.pairs) (cells : mark.cells ≡ length old.cells.items) (vars : mark.vars ≡ length old.trail.bound) where
  oldest : reverse (take kept now.trail.pairs) ≡ reverse old.trail.pairs
  oldest = ap (λ n. reverse (take n now.trail.pairs)) k ∙ undone_pairs old.trail.pairs now.trail.pairs a.more a.pairs

  pub can_take_back : CanGoBack (with_oldest kept now) mark
  can_take_back = can_go_back (contents_of old) (with_oldest kept now) mark a.more_cells ok.store a.cells oldest (let v = a.vars in omega arith) cells vars

  pub took_back : (new : Contents) → new ≡ cut_to_mark (with_oldest kept now) mark → new ≡ contents_of old
  took_back new e = e ∙ went_back (contents_of old) (with_oldest kept now) mark a.more_cells ok.store a.cells oldest (let v = a.vars in omega arith) cells vars

-- the entries of the new bindings
pub logs_both : (old now : Chains) (kept : ℕ) (before after : List Entry) → AddsBoth (contents_of old) (contents_of now) → kept ≡ length old.trail.pairs → after ≡ before ++ entries_of (drop kept now.trail.pairs) → LogsHead (contents_of old) (contents_of now) before after
logs_both old now kept before after a k e = record {
  more_cells = a.more_cells;
  more = a.more;
  cells = a.cells;
  pairs = a.pairs;
  vars = a.vars;
  log = e ∙ ap (λ n. before ++ entries_of (drop n now.trail.pairs)) k ∙ ap (λ l. before ++ entries_of l) (drop_pairs old.trail.pairs now.trail.pairs a.more a.pairs);
}
