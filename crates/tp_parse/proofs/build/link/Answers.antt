use Rattle.std.proofs.Common.{◌≡◌, ◌+◌, ◌≤◌, ◌<◌, length, ◌∙◌, subst, arith}
use Rattle.tp_parse.proofs.Numbered.Cells.{gathered-stands, gathered-left, made-link}
use Rattle.tp_parse.specs.Making.{IsMade}
use Rattle.tp_parse.specs.Steps.{linked}
use Rattle.tp_parse.proofs.build.link.Goals as goal

pub returns-clause-made : goal.returns-clause-made
returns-clause-made c = λ names trees there m.
    let within = c.links.invariant.within in
    let all : c.links.counter ≡ c.args.count = omega (arith, c.links-test.false) in
    subst (λ n. IsMade names c.links.making (linked n trees)) all (c.links.invariant.made names trees there m)

pub links-preserved : goal.links-preserved
links-preserved c =
    let i = c.links.invariant in
    let before = i.enough in
    let g = c.in_ok-gather.ensures in
    let two : 2 ≤ length c.links.making.made.items = omega (arith, c.links-test.true) in
    record {
      made = λ names trees there m.
          let enough : c.links.counter + 1 < length trees = omega (arith, c.links-test.true, m.counted, c.requires.enough) in
          made-link names c.links.making c.gather.new.making trees c.args.cell c.links.counter (c.links.counter + 1) there (i.made names trees there m) g two (omega arith) enough;
      within = omega (arith, c.links-test.true);
      enough = omega (arith, c.links-test.true, gathered-left c.links.making c.gather.new.making c.args.cell 2 g two);
      stands = gathered-stands c.links.making c.gather.new.making c.args.cell 2 g (omega arith) two i.stands;
      variables = g.variables ∙ i.variables;
    }
