-- Trails that grow.
use Rattle.std.proofs.Common.{◌≡◌, [], ◌++◌, map, reverse, sym, ap, ◌∙◌, append_assoc, append-nil}
use Rattle.std.proofs.lemmas.List.{reverse-append, map-append}
use Rattle.tp_terms.specs.Binds.{Bindings}
use Rattle.tp_log.specs.declared.entry.Entry.TheVariants.{Bind}
use Rattle.tp_meaning.specs.Trail.{Trail, TrailGrows, bindings_logged}

-- the entries of older and then newer bindings
pub logged-append : (new old : Bindings) → bindings_logged (new ++ old) ≡ bindings_logged old ++ bindings_logged new
logged-append new old = ap (map (λ p. Bind p.0)) (reverse-append new old) ∙ map-append (λ p. Bind p.0) (reverse old) (reverse new)

-- nothing is bound
pub trail-same : (old new : Trail) → new ≡ old → TrailGrows old new
trail-same old new e = record {
  bound = [];
  pairs = ap (λ (t : Trail). t.pairs) e;
  log = ap (λ (t : Trail). t.log) e ∙ sym (append-nil old.log);
}

-- further bindings after others
pub trail-trans : (a b c : Trail) → TrailGrows a b → TrailGrows b c → TrailGrows a c
trail-trans a b c h k = record {
  bound = k.bound ++ h.bound;
  pairs = k.pairs ∙ ap (λ ps. k.bound ++ ps) h.pairs ∙ sym (append_assoc k.bound h.bound a.pairs);
  log =
      k.log ∙ ap (λ es. es ++ bindings_logged k.bound) h.log
      ∙ append_assoc a.log (bindings_logged h.bound) (bindings_logged k.bound)
      ∙ ap (λ es. a.log ++ es) (sym (logged-append k.bound h.bound));
}
