use Rattle.std.proofs.Common.{arith}
use Rattle.tp_store.specs.Chain.{contents_of}
use Rattle.tp_store.proofs.Arguments.Joined.{goal_cell, parts_room, parts_stand, joined_more, joined_atoms}
use Rattle.tp_store.proofs.join.push_joined.Goals as goal

pub parts_of-parts-requires : goal.parts_of-parts-requires
parts_of-parts-requires c = goal_cell (contents_of c.args.chains.now) c.requires.chains.store c.args.goal c.end.result c.end.ensures.end c.end.ensures.same c.requires.callable

pub overflow_add-parts : goal.overflow_add-parts
overflow_add-parts c =
    let h = parts_room (contents_of c.args.chains.now) c.requires.chains.store c.args.goal c.end.result c.end.ensures.end c.end.ensures.same c.parts_of-parts.result c.args.count c.parts_of-parts.ensures c.requires.room in
    omega (arith, h)

pub returns-clause-shown : goal.returns-clause-shown
returns-clause-shown c =
    let old = contents_of c.args.chains.now in
    let parts = c.parts_of-parts.result in
    let le = parts_stand old c.requires.chains.store c.args.goal c.end.result c.end.ensures.end c.end.ensures.same parts c.parts_of-parts.ensures in
    joined_more old (contents_of c.push_row.new.chains) (contents_of c.push_row-2.new.chains) (contents_of c.place.new.self) c.requires.chains.store c.in_ok-push_row-2.ensures.chains.store
    c.args.goal c.args.first c.args.count c.end.result.place c.end.result.cell c.end.ensures.same parts c.parts_of-parts.ensures (omega (arith, le, c.end.ensures.end.place))
    c.requires.args c.requires.some _ c.len.ensures.value c.in_ok-push_row.ensures.row c.in_ok-push_row-2.ensures.row c.place.result c.place.ensures.place c.place.ensures.value

pub returns-clause-named : goal.returns-clause-named
returns-clause-named c =
    let old = contents_of c.args.chains.now in
    let parts = c.parts_of-parts.result in
    let le = parts_stand old c.requires.chains.store c.args.goal c.end.result c.end.ensures.end c.end.ensures.same parts c.parts_of-parts.ensures in
    joined_atoms old (contents_of c.push_row.new.chains) (contents_of c.push_row-2.new.chains) (contents_of c.place.new.self) c.requires.chains.store c.in_ok-push_row-2.ensures.chains.store
    c.args.goal c.args.first c.args.count c.end.result.place c.end.result.cell c.end.ensures.same parts c.parts_of-parts.ensures (omega (arith, le, c.end.ensures.end.place))
    c.requires.args c.requires.some _ c.len.ensures.value c.in_ok-push_row.ensures.row c.in_ok-push_row-2.ensures.row c.place.result c.end.ensures.end.cell c.place.ensures.value
