-- The unification of a term of the store with one of other cells, with a log.
use Rattle.std.proofs.Common.{◌≡◌, Bool, List, [], Result, Ok, Err, OnOk, ap, sym, ◌∙◌, append-nil}
use Rattle.tp_terms.specs.declared.NoMemory.{NoMemory}
use Rattle.tp_terms.specs.Shown.{shows}
use Rattle.tp_terms.proofs.Places.Shown.{shows-append}
use Rattle.tp_log.specs.declared.entry.Entry.{Entry}
use Rattle.tp_store.specs.Contents.{Contents}
use Rattle.tp_store.specs.Logged.{KeepsTerms, LogsHead}

-- nothing is added, bound or logged
pub head_none : (old new : Contents) (before after : List Entry) → new ≡ old → after ≡ before → LogsHead old new before after
head_none old new before after e l = record {
  more_cells = [];
  more = [];
  cells = ap (λ (x : Contents). x.cells) e ∙ sym (append-nil old.cells);
  pairs = ap (λ (x : Contents). x.pairs) e;
  vars = ap (λ (x : Contents). x.vars) e;
  log = l ∙ sym (append-nil before);
}

-- what stood shows what it showed
pub head_keeps : (r : Result Bool NoMemory) (old new : Contents) (before after : List Entry) → LogsHead old new before after → OnOk r (KeepsTerms old.cells new.cells)
head_keeps (Ok found) old new before after l = λ names at lt. ap (λ cs. shows names cs at) l.cells ∙ shows-append names old.cells l.more_cells at lt
head_keeps (Err refused) old new before after l = tt
