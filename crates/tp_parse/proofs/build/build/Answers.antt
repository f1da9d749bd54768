use Rattle.std.proofs.Common.{◌≡◌, ap, sym, ◌∙◌, arith, subst, take}
use Rattle.std.proofs.lemmas.List.{take_all}
use Rattle.tp_terms.proofs.Naming.Tables.{Grows-same, Grows-trans}
use Rattle.tp_parse.specs.Numbers.{Numbers}
use Rattle.tp_parse.specs.Steps.{trees_of}
use Rattle.tp_parse.specs.Making.{IsMade}
use Rattle.tp_parse.specs.NewNames.{AddsOnly, writes_any}
use Rattle.tp_parse.proofs.Numbered.NewNames.{AddsOnly-same, names-step}
use Rattle.tp_parse.proofs.Numbered.Cells.{ready-at, ready-length, trees-take, made-start, built}
use Rattle.tp_parse.proofs.build.build.Goals as goal

pub take_step-requires-clause-ready : goal.take_step-requires-clause-ready
take_step-requires-clause-ready c = ready-length c.args.text.now _ _ _ (sym c.loop-step.invariant.made.counted) (ready-at c.args.text.now _ c.args.steps.now c.loop-step.step-index _ c.requires.ready c.loop-step-test.true)

pub returns-in_err-take_step-clause-grows : goal.returns-in_err-take_step-clause-grows
returns-in_err-take_step-clause-grows c = Grows-trans _ _ _ c.loop-step.invariant.grows c.in_err-take_step.ensures.grows

pub loop-step-preserved : goal.loop-step-preserved
loop-step-preserved c =
    let i = c.loop-step.invariant in
    let r = c.in_ok-take_step.ensures in
    let room = r.room in
    let before = i.room in
    record {
      made = subst (IsMade c.take_step.new.atoms c.take_step.new.making) (sym (trees-take c.args.text.now c.args.steps.now c.loop-step.step-index _ c.loop-step-test.true)) (r.made _ i.made);
      room = omega arith;
      grows = Grows-trans _ _ _ i.grows r.grows;
      names = names-step c.args.text.now _ (trees_of c.args.text.now (take c.loop-step.step-index c.args.steps.now)) _ _ _ _ (trees-take c.args.text.now c.args.steps.now c.loop-step.step-index _ c.loop-step-test.true) i.names (r.names _);
    }

pub returns-clause-names : goal.returns-clause-names
returns-clause-names c =
    let all : take c.loop-step.step-index c.args.steps.now ≡ c.args.steps.now = take_all c.loop-step.step-index c.args.steps.now c.loop-step-test.false in
    subst (λ s. AddsOnly (λ name. writes_any name (trees_of c.args.text.now s)) c.args.atoms.now c.loop-step.atoms) all c.loop-step.invariant.names

pub returns-clause-built : goal.returns-clause-built
returns-clause-built c = λ tree e.
    let all : take c.loop-step.step-index c.args.steps.now ≡ c.args.steps.now = take_all c.loop-step.step-index c.args.steps.now c.loop-step-test.false in
    built c.loop-step.atoms c.loop-step.making _ tree c.push.new.self.items c.in_ok-root.root.at _ c.loop-step.invariant.made (ap (trees_of c.args.text.now) all ∙ e) c.index-last.ensures c.in_ok-root.ensures.place c.in_ok-root.ensures.items

pub loop-step-init : goal.loop-step-init
loop-step-init c = record {
  made = made-start _ _ c.in_ok-making.ensures.cells c.in_ok-making.ensures.made c.in_ok-making.ensures.variables;
  room = let none = ap (λ (n : Numbers). n.vars) c.in_ok-making.ensures.variables in omega arith;
  grows = Grows-same _;
  names = AddsOnly-same _ _;
}
