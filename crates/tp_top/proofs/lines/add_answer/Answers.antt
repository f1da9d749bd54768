use Rattle.std.proofs.Common.{◌≡◌, ◌∙◌, refl, rules, w64, to_z, of_z}
use Rattle.std.proofs.lemmas.Int.{to_z-of_z}
use Rattle.tp_terms.proofs.Texts.Added.{Adds-as, Adds-none}
use Rattle.tp_report.specs.Lines.{lines_seen}
use Rattle.tp_report.specs.Seen.{seen_in}
use Rattle.tp_engine.specs.Answers.{answer_in}
use Rattle.tp_top.specs.Told.{lines_of}
use Rattle.tp_top.proofs.Running.StoreUnder.{processes-named, events-stand, answer-shown}
use Rattle.tp_top.proofs.lines.add_answer.Goals as goal

pub answer_text-requires-clause-named_processes : goal.answer_text-requires-clause-named_processes
answer_text-requires-clause-named_processes c =
    processes-named c.args.view.now c.atoms.result.now c.deref.result.now c.requires c.atoms.ensures (c.deref.ensures.value ∙ c.in_ok-names.ensures)

pub answer_text-requires-clause-events : goal.answer_text-requires-clause-events
answer_text-requires-clause-events c =
    events-stand c.args.view.now c.atoms.result.now c.cells.result.now.items c.deref.result.now c.events.result.now
    c.requires c.atoms.ensures c.cells.ensures (c.deref.ensures.value ∙ c.in_ok-names.ensures) c.events.ensures

pub returns : goal.returns
returns c =
    let store = c.store.result.now in
    let cells = c.cells.result.now.items in
    let clock = to_z w64 (of_z w64 c.clock.result) in
    let z : to_z w64 (of_z w64 c.clock.result) ≡ c.clock.result = search (rules, to_z-of_z) in
    let seen = seen_in c.atoms.result.now store.pairs cells c.deref.result.now c.ops.result.now in
    let lines = lines_seen seen c.number.result c.named.result.now c.events.result.now clock c.steps.result in
    record {
      added = Adds-as c.answer_text.result c.args.text.now c.answer_text.new.out lines (lines_of (answer_in c.args.view.now))
          (answer-shown c.args.view.now c.ops.result.now c.atoms.result.now store cells c.deref.result.now c.events.result.now clock c.number.result c.steps.result c.named.result.now lines
          c.requires c.atoms.ensures c.store.ensures c.cells.ensures (c.deref.ensures.value ∙ c.in_ok-names.ensures) c.events.ensures (z ∙ c.clock.ensures) c.number.ensures c.steps.ensures c.named.ensures c.ops.ensures (λ w stands. c.answer_text.ensures.world w stands))
          c.answer_text.ensures.added;
    }

pub returns-in_err-names : goal.returns-in_err-names
returns-in_err-names c = record {
  added = Adds-none _ _ c.args.text.now c.args.text.now (lines_of (answer_in c.args.view.now)) c.from_residual.ensures.1 refl;
}
