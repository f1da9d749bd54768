use Rattle.std.proofs.Common.{List, [], get_or, slice_get, sym, ap, subst, ◌∙◌, if◌then◌else◌}
use Rattle.std.proofs.lemmas.Option.{slice_get-get_or}
use Rattle.tp_clauses.specs.Candidates.{HasLists}
use Rattle.tp_clauses.specs.Contents.{Contents, places_of}
use Rattle.tp_clauses.specs.First.{may_match}
use Rattle.tp_clauses.specs.declared.base.ClauseId.{ClauseId}
use Rattle.tp_clauses.proofs.Lists.Chosen.{chosen_any, chosen_first, key_with}
use Rattle.tp_clauses.proofs.Lists.Merged.{first_within}
use Rattle.tp_clauses.proofs.base.Base.without_list.Goals as goal

pub returns-in-Some : goal.returns-in-Some
returns-in-Some c =
    let lists = subst (λ (b : Contents). HasLists b c.self.inside.candidates) c.self.view_is c.self.invariant.1 in
    chosen_any c.args.self.now c.self.inside.candidates lists c.args.key c.args.first c.requires.first c.in-Some.list.now
    (lists.kept (key_with c.args.key c.args.first) ∙ c.requires.own) (sym c.in-Some.ensures)

pub first_arg-requires : goal.first_arg-requires
first_arg-requires c =
    first_within c.args.key.name c.args.key.arity c.args.self.now.cells c.args.self.now.clauses (get_or c.args.all.now 0 (record { at = 0 }))
    (ap (λ (l : List ClauseId). slice_get l 0) (sym c.requires.all) ∙ slice_get-get_or c.args.all.now 0 (record { at = 0 }) c.requires.some)

pub returns-then-may_match : goal.returns-then-may_match
returns-then-may_match c =
    let lists = subst (λ (b : Contents). HasLists b c.self.inside.candidates) c.self.view_is c.self.invariant.1 in
    c.requires.all
    ∙ ap (λ b. if b then places_of c.args.key.name c.args.key.arity c.args.self.now else []) (sym c.if-may_match.true ∙ c.may_match.ensures ∙ ap (may_match c.args.first) c.first_arg.ensures)
    ∙ chosen_first c.args.self.now c.self.inside.candidates lists c.args.key c.args.first c.requires.first (get_or c.args.all.now 0 (record { at = 0 }))
    (ap (λ (l : List ClauseId). slice_get l 0) (sym c.requires.all) ∙ slice_get-get_or c.args.all.now 0 (record { at = 0 }) c.requires.some)
    (lists.kept (key_with c.args.key c.args.first) ∙ c.requires.own) (sym c.in_default.ensures)

pub returns-else-may_match : goal.returns-else-may_match
returns-else-may_match c =
    let lists = subst (λ (b : Contents). HasLists b c.self.inside.candidates) c.self.view_is c.self.invariant.1 in
    ap (λ b. if b then places_of c.args.key.name c.args.key.arity c.args.self.now else []) (sym c.if-may_match.false ∙ c.may_match.ensures ∙ ap (may_match c.args.first) c.first_arg.ensures)
    ∙ chosen_first c.args.self.now c.self.inside.candidates lists c.args.key c.args.first c.requires.first (get_or c.args.all.now 0 (record { at = 0 }))
    (ap (λ (l : List ClauseId). slice_get l 0) (sym c.requires.all) ∙ slice_get-get_or c.args.all.now 0 (record { at = 0 }) c.requires.some)
    (lists.kept (key_with c.args.key c.args.first) ∙ c.requires.own) (sym c.in_default.ensures)
