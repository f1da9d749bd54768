-- Bindings that are taken back.
use Rattle.std.proofs.Common.{◌≡◌, ℕ, List, [], ◌∷◌, ◌++◌, map, reverse, refl, ap, sym, subst, ◌∙◌, arith}
use Rattle.std.proofs.lemmas.List.{append-nil, reverse-append, map-append}
use Rattle.std.proofs.lemmas.Bool.Decides.{nat_tests}
use Rattle.tp_terms.specs.declared.cells.Ref.{Ref}
use Rattle.tp_terms.specs.Binds.{Bindings}
use Rattle.tp_log.specs.declared.entry.Entry.{Entry}
use Rattle.tp_log.specs.declared.entry.Entry.TheVariants as entry
use Rattle.tp_store.specs.Contents.{Contents}
use Rattle.tp_store.specs.Logged.{Logs, bindings_logged, without_pair, IsBound}
use Rattle.tp_state.specs.Acts.{with_store}
use Rattle.tp_state.specs.Undo.{Parts, Rooms, CanUndo, undone, rooms_undone}
use Rattle.tp_state.specs.Going.{Held, Follows, StoreGrows, parts_of}
use Rattle.tp_state.proofs.GoingBack.Logs.{undone-append, rooms-append, can-append}
use Rattle.tp_state.proofs.GoingBack.Follows.{prolongs-same}

-- the entry of the newest binding is the last one
logged-newest : (q : ℕ × Ref) (more : Bindings) → bindings_logged (q ∷ more) ≡ bindings_logged more ++ entry.Bind q.0 ∷ []
logged-newest q more =
    ap (map (λ (p : ℕ × Ref). entry.Bind p.0)) (reverse-append (q ∷ []) more)
    ∙ map-append (λ (p : ℕ × Ref). entry.Bind p.0) (reverse more) (q ∷ [])

newest-goes : (q : ℕ × Ref) (pairs : Bindings) → without_pair q.0 (q ∷ pairs) ≡ pairs
newest-goes q pairs = grind (arith, nat_tests)

newest-bound : (q : ℕ × Ref) (pairs : Bindings) → IsBound (q ∷ pairs) q.0
newest-bound q pairs = grind (arith, nat_tests)

-- what bindings change is taken back by their entries
pub bindings-undone : (more old : Bindings) (p : Parts) → undone (bindings_logged more) (record p { pairs = more ++ old }) ≡ record p { pairs = old }
bindings-undone [] old p = refl
bindings-undone (q ∷ more) old p =
    ap (λ es. undone es (record p { pairs = q ∷ more ++ old })) (logged-newest q more)
    ∙ undone-append (bindings_logged more) (entry.Bind q.0 ∷ []) (record p { pairs = q ∷ more ++ old })
    ∙ ap (λ ps. undone (bindings_logged more) (record p { pairs = ps })) (newest-goes q (more ++ old))
    ∙ bindings-undone more old p

-- and each can be
pub bindings-can : (more old : Bindings) (p : Parts) (r : Rooms) → CanUndo (bindings_logged more) (record p { pairs = more ++ old }) r
bindings-can [] old p r = tt
bindings-can (q ∷ more) old p r =
    subst (λ es. CanUndo es (record p { pairs = q ∷ more ++ old }) r) (sym (logged-newest q more))
    (can-append (bindings_logged more) (entry.Bind q.0 ∷ []) (record p { pairs = q ∷ more ++ old }) r
    (subst (λ ps. CanUndo (bindings_logged more) (record p { pairs = ps }) r) (sym (newest-goes q (more ++ old))) (bindings-can more old p r))
    (newest-bound q (more ++ old), tt))

-- they leave the memory
rooms-same : (more : Bindings) (r : Rooms) → rooms_undone (bindings_logged more) r ≡ r
rooms-same [] r = refl
rooms-same (q ∷ more) r =
    ap (λ es. rooms_undone es r) (logged-newest q more) ∙ rooms-append (bindings_logged more) (entry.Bind q.0 ∷ []) r ∙ rooms-same more r

-- A store that has further bindings grew.
pub logs-grow : (old new : Contents) (before after : List Entry) → Logs old new before after → StoreGrows old new before after
logs-grow old new before after l = record {
  more_cells = [];
  more = l.more;
  cells = l.cells ∙ sym (append-nil old.cells);
  pairs = l.pairs;
  vars = omega (arith, l.vars);
  log = l.log;
}

-- A store that grew follows.
pub store-follows : (h : Held) (c : Contents) (log : List Entry) → StoreGrows h.plain.store c h.log log → Follows h (record { plain = with_store c h.plain; log = log; rooms = h.rooms })
store-follows h c log g = record {
  entries = bindings_logged g.more;
  log = g.log;
  back = ap (λ ps. undone (bindings_logged g.more) (record (parts_of h.plain) { pairs = ps })) g.pairs ∙ bindings-undone g.more h.plain.store.pairs (parts_of h.plain);
  cells = (g.more_cells, g.cells);
  vars = g.vars;
  frames = prolongs-same h.plain.frames;
  events = prolongs-same h.plain.events;
  safe = λ s. subst (λ es. CanUndo es (parts_of (with_store c h.plain)) h.rooms) (sym g.log)
      (subst (λ ps. CanUndo (h.log ++ bindings_logged g.more) (record (parts_of h.plain) { pairs = ps }) h.rooms) (sym g.pairs)
      (can-append h.log (bindings_logged g.more) (record (parts_of h.plain) { pairs = g.more ++ h.plain.store.pairs }) h.rooms
      (subst (λ p. CanUndo h.log p (rooms_undone (bindings_logged g.more) h.rooms)) (sym (bindings-undone g.more h.plain.store.pairs (parts_of h.plain)))
      (subst (CanUndo h.log (parts_of h.plain)) (sym (rooms-same g.more h.rooms)) s))
      (bindings-can g.more h.plain.store.pairs (parts_of h.plain) h.rooms)));
}
