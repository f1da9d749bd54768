use Rattle.tp_store.proofs.HeadsMeet.Splitting.{split_rows, split_names, split_counts, split_constant}
use Rattle.tp_store.proofs.meet.split.Goals as goal
use Rattle.tp_store.proofs.meet.split.Goals.{then-name-second-via-then-name-second, then-name-second-via-else-name-second+then-count-arity}

pub returns-in_default : goal.returns-in_default
returns-in_default c = λ cells from base bx by. split_constant cells from base c.args.goal c.args.head c.same_constant.result c.args.work.now.items c.requires.bound c.in_default.not-Comp c.requires.other c.same_constant.ensures

pub returns-then-name-second : goal.returns-then-name-second
returns-then-name-second c = λ cells from base bx by names d nx ny f h.
    elim c.then-name-second.branch [
      | then-name-second-via-then-name-second w ↦
          split_names cells from base c.in-Comp.name c.in-Comp-head.second c.in-Comp.first c.in-Comp-head.other c.in-Comp.count c.in-Comp-head.arity c.args.goal c.args.head c.in-Comp.is c.in-Comp-head.is w.if-name-second.true names d nx ny f h
      | then-name-second-via-else-name-second+then-count-arity w ↦
          split_counts cells from base c.in-Comp.name c.in-Comp-head.second c.in-Comp.first c.in-Comp-head.other c.in-Comp.count c.in-Comp-head.arity c.args.goal c.args.head c.in-Comp.is c.in-Comp-head.is w.if-count-arity.true names f h
    ]

pub returns : goal.returns
returns c = λ cells from base bx by.
    split_rows cells from base c.in-Comp.name c.in-Comp-head.second c.in-Comp.first c.in-Comp-head.other c.in-Comp.count c.in-Comp-head.arity c.args.goal c.args.head c.args.work.now.items _ c.in-Comp.is c.in-Comp-head.is bx by
    c.if-name-second.false c.if-count-arity.false c.in_ok-push_rows.ensures
