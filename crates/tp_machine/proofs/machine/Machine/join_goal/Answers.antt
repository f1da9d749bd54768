use Rattle.tp_machine.proofs.Enters.Calling.{further_there, goal_callable, has_room, joins, least, more_there, second_there}
use Rattle.tp_machine.proofs.Grows.Grown.{rests}
use Rattle.tp_machine.proofs.machine.Machine.join_goal.Goals as goal

pub argument-more-requires : goal.argument-more-requires
argument-more-requires c = second_there c.args.self.now c.args._task c.args.call c.requires.call c.requires.more

pub overflow_sub-call : goal.overflow_sub-call
overflow_sub-call c = least c.args.self.now c.args._task c.args.call c.requires.call

pub join-requires : goal.join-requires
join-requires c =
    let m = c.args.self.now in
    let further = further_there m c.args._task c.args.call c.requires.call c.argument-more.result c.requires.more c.argument-more.ensures in
    record {
      goal = more_there m c.args._task c.args.call c.requires.call;
      callable = goal_callable m c.args._task c.args.call c.requires.call c.args._goal c.requires.more c.requires.goal;
      args = further.0;
      some = further.1;
      room = has_room m c.args._task c.args.call c.requires.call c.args._goal c.requires.more c.requires.goal c.requires.few;
    }

pub returns-clause-rests : goal.returns-clause-rests
returns-clause-rests c =
    let m = c.args.self.now in
    rests m c.join.new.self c.requires.machine c.join.ensures.adds c.join.ensures.keeps c.join.ensures.store (c.in_ok-place.ensures.named _ c.requires.machine.stands.atoms)

pub returns-clause-calls : goal.returns-clause-calls
returns-clause-calls c =
    let m = c.args.self.now in
    joins m c.args._task c.args.call c.requires.call c.args._goal c.requires.more c.requires.goal c.join.new.self c.argument-more.result c.in_ok-place.place
    c.requires.machine c.join.ensures.adds c.join.ensures.keeps c.join.ensures.store (c.in_ok-place.ensures.named _ c.requires.machine.stands.atoms) c.requires.few c.argument-more.ensures c.in_ok-place.ensures.place c.in_ok-place.ensures.shown
