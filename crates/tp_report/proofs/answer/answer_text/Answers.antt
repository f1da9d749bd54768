use Rattle.std.proofs.Common.{◌≡◌, ◌++◌, ap, ◌∙◌, refl, w64, to_z, of_z}
use Rattle.std.proofs.lemmas.Int.{to_z-of_z}
use Rattle.tp_terms.proofs.Texts.Added.{Adds-as, Adds-then}
use Rattle.tp_report.specs.Report.{number_line, clock_line}
use Rattle.tp_report.specs.Seen.{seen_in}
use Rattle.tp_report.specs.Lines.{variables_text, events_text}
use Rattle.tp_report.proofs.Parts.Calls.{first_stops, second_stops, part_stops, second_goes}
use Rattle.tp_report.proofs.AnswerLines.Lines.{lines-parts}
use Rattle.tp_report.proofs.WorldLines.Worlds.{world-lines}
use Rattle.tp_report.proofs.answer.answer_text.Goals as goal

pub returns-in_err-add_number-clause-world : goal.returns-in_err-add_number-clause-world
returns-in_err-add_number-clause-world g c w stands =
    let s = seen_in c.args.atoms.now (g.B.Binds.bindings c.args.binds.now) c.args.cells.now.items c.args.names.now c.args.ops.now in
    world-lines s c.requires.fits c.args.events.now c.args.clock w stands c.args.number c.args.named.now c.args.steps

pub returns-in_err-add_variables-clause-world : goal.returns-in_err-add_variables-clause-world
returns-in_err-add_variables-clause-world g c w stands =
    let s = seen_in c.args.atoms.now (g.B.Binds.bindings c.args.binds.now) c.args.cells.now.items c.args.names.now c.args.ops.now in
    world-lines s c.requires.fits c.args.events.now c.args.clock w stands c.args.number c.args.named.now c.args.steps

pub returns-in_err-add_events-clause-world : goal.returns-in_err-add_events-clause-world
returns-in_err-add_events-clause-world g c w stands =
    let s = seen_in c.args.atoms.now (g.B.Binds.bindings c.args.binds.now) c.args.cells.now.items c.args.names.now c.args.ops.now in
    world-lines s c.requires.fits c.args.events.now c.args.clock w stands c.args.number c.args.named.now c.args.steps

pub returns-clause-world : goal.returns-clause-world
returns-clause-world g c w stands =
    let s = seen_in c.args.atoms.now (g.B.Binds.bindings c.args.binds.now) c.args.cells.now.items c.args.names.now c.args.ops.now in
    world-lines s c.requires.fits c.args.events.now c.args.clock w stands c.args.number c.args.named.now c.args.steps

pub returns-in_err-add_number-clause-added : goal.returns-in_err-add_number-clause-added
returns-in_err-add_number-clause-added g c =
    let s = seen_in c.args.atoms.now (g.B.Binds.bindings c.args.binds.now) c.args.cells.now.items c.args.names.now c.args.ops.now in
    let rest = variables_text s c.args.named.now ++ (events_text s c.args.events.now ++ clock_line c.args.clock c.args.steps) in
    first_stops _ _ c.args.out.now c.add_number.new.out _ (number_line c.args.number) rest
    (lines-parts s c.args.number c.args.named.now c.args.events.now c.args.clock c.args.steps) c.from_residual.ensures.1 c.in_err-add_number.ensures.added

pub returns-in_err-add_variables-clause-added : goal.returns-in_err-add_variables-clause-added
returns-in_err-add_variables-clause-added g c =
    let s = seen_in c.args.atoms.now (g.B.Binds.bindings c.args.binds.now) c.args.cells.now.items c.args.names.now c.args.ops.now in
    let rest = events_text s c.args.events.now ++ clock_line c.args.clock c.args.steps in
    second_stops _ _ c.args.out.now c.add_number.new.out c.add_variables.new.out _ (number_line c.args.number) (variables_text s c.args.named.now) rest
    (lines-parts s c.args.number c.args.named.now c.args.events.now c.args.clock c.args.steps)
    c.from_residual-in_err-add_variables.ensures.1 c.in_ok-add_number.ensures.added c.in_err-add_variables.ensures.added

pub returns-in_err-add_events-clause-added : goal.returns-in_err-add_events-clause-added
returns-in_err-add_events-clause-added g c =
    let s = seen_in c.args.atoms.now (g.B.Binds.bindings c.args.binds.now) c.args.cells.now.items c.args.names.now c.args.ops.now in
    let events = events_text s c.args.events.now in
    let clock = clock_line c.args.clock c.args.steps in
    part_stops _ _ c.args.out.now c.add_variables.new.out c.add_events.new.out _ (events ++ clock) events clock
    (second_goes _ _ _ _ (number_line c.args.number) (variables_text s c.args.named.now) (events ++ clock)
    (lines-parts s c.args.number c.args.named.now c.args.events.now c.args.clock c.args.steps) c.in_ok-add_number.ensures.added c.in_ok-add_variables.ensures.added)
    refl c.from_residual-in_err-add_events.ensures.1 c.in_err-add_events.ensures.added

pub returns-clause-added : goal.returns-clause-added
returns-clause-added g c =
    let s = seen_in c.args.atoms.now (g.B.Binds.bindings c.args.binds.now) c.args.cells.now.items c.args.names.now c.args.ops.now in
    let z : to_z w64 (of_z w64 c.args.clock) ≡ c.args.clock = to_z-of_z w64 c.args.clock c.ranges.clock in
    let number = number_line c.args.number in
    let variables = variables_text s c.args.named.now in
    let events = events_text s c.args.events.now in
    let clock = clock_line (to_z w64 (of_z w64 c.args.clock)) c.args.steps in
    let one = c.add_number.new.out in
    let two = c.add_variables.new.out in
    let three = c.add_events.new.out in
    Adds-as c.add_clock.result c.args.out.now c.add_clock.new.out (number ++ (variables ++ (events ++ clock))) _
    (ap (λ t. number ++ (variables ++ (events ++ clock_line t c.args.steps))) z ∙ lines-parts s c.args.number c.args.named.now c.args.events.now c.args.clock c.args.steps)
    (Adds-then c.add_clock.result c.args.out.now one c.add_clock.new.out number (variables ++ (events ++ clock)) c.in_ok-add_number.ensures.added
    (Adds-then c.add_clock.result one two c.add_clock.new.out variables (events ++ clock) c.in_ok-add_variables.ensures.added
    (Adds-then c.add_clock.result two three c.add_clock.new.out events clock c.in_ok-add_events.ensures.added c.add_clock.ensures.added)))
