use Rattle.std.proofs.Common.{◌≡◌, ◌<◌, ◌++◌, ◌∷◌, [], List, length, IfSome, ap, sym, subst, ◌∙◌}
use Rattle.tp_log.specs.declared.entry.Entry.{Entry}
use Rattle.tp_state.specs.State.{held_of}
use Rattle.tp_state.proofs.GoingBack.Undoing.{last-allowed, undone-more}
use Rattle.tp_state.proofs.state.State.undo_above.Goals as goal

pub undo-requires : goal.undo-requires
undo-requires c =
    last-allowed (held_of c.entries.self) c.pop_above.new.self c.in-Some.entry
    (subst (λ r. IfSome r (λ (e : Entry). c.entries.self.log ≡ c.pop_above.new.self ++ e ∷ [])) c.in-Some.is c.pop_above.ensures.taken) c.entries.invariant.safe

pub entries-preserved : goal.entries-preserved
entries-preserved c =
    undone-more c.args.kept (held_of c.args.self.now) (held_of c.entries.self) (held_of c.undo.new.self) c.in-Some.entry
    (subst (λ r. IfSome r (λ (e : Entry). c.entries.self.log ≡ c.pop_above.new.self ++ e ∷ [])) c.in-Some.is c.pop_above.ensures.taken ∙ ap (λ (l : List Entry). l ++ c.in-Some.entry ∷ []) (sym c.undo.ensures.log))
    (subst (λ r. IfSome r (λ (e : Entry). c.args.kept < length c.entries.self.log)) c.in-Some.is c.pop_above.ensures.above)
    c.undo.ensures.plain c.undo.ensures.rooms c.entries.invariant
