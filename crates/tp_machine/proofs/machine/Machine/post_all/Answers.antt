use Rattle.std.proofs.Common.{◌+◌, List, ℕ, drop, refl, sym, subst, ap, arith}
use Rattle.tp_machine.specs.declared.machine.Machine.{Machine}
use Rattle.tp_machine.specs.declared.stepped.Stepped.TheVariants.{Went}
use Rattle.tp_machine.specs.Machine.{Steps}
use Rattle.tp_machine.specs.Sending.{Posts}
use Rattle.tp_machine.proofs.Step.Sending.{post_box, post_few, post_free, post_there, posts_more, posts_none, sends}
use Rattle.tp_machine.proofs.Step.Taking.{drop_here, drop_none}
use Rattle.tp_machine.proofs.machine.Machine.post_all.Goals as goal

pub loop-k-init : goal.loop-k-init
loop-k-init c = record { same = refl; posts = posts_none c.args.self.now c.args.task c.args.call c.args.all.now c.requires.machine c.requires.sends }

pub post-requires-clause-to : goal.post-requires-clause-to
post-requires-clause-to c =
    post_there c.args.self.now c.args.task c.args.call c.args.all.now c.requires.machine c.requires.sends c.loop-k.self.state (drop c.loop-k.k c.args.all.now) c.loop-k.invariant.posts c.loop-k.k c.number_at-to.result c.number_at-to.ensures

pub post-requires-clause-its_box : goal.post-requires-clause-its_box
post-requires-clause-its_box c =
    post_box c.args.self.now c.args.task c.args.call c.args.all.now c.requires.machine c.requires.sends c.loop-k.self.state (drop c.loop-k.k c.args.all.now) c.loop-k.invariant.posts c.loop-k.k c.number_at-to.result c.number_at-to.ensures

pub post-requires-clause-free : goal.post-requires-clause-free
post-requires-clause-free c =
    post_free c.args.self.now c.args.task c.args.call c.args.all.now c.requires.machine c.requires.sends c.loop-k.self.state (drop c.loop-k.k c.args.all.now) c.loop-k.invariant.posts c.number_at-to.result

pub post-requires-clause-few : goal.post-requires-clause-few
post-requires-clause-few c =
    post_few c.args.self.now c.args.task c.args.call c.args.all.now c.requires.machine c.requires.sends c.loop-k.self.state (drop c.loop-k.k c.args.all.now) c.loop-k.invariant.posts

pub loop-k-preserved : goal.loop-k-preserved
loop-k-preserved c =
    let m = c.args.self.now in
    let all = c.args.all.now in
    let k = c.loop-k.k in
    let to = c.number_at-to.result in
    let here = drop_here all k to c.number_at-to.ensures in
    let before = subst (λ (left : List ℕ). Posts m c.args.task c.args.call all left c.loop-k.self.state) here c.loop-k.invariant.posts in
    record {
      same = ap (λ (x : Machine). record x { state = c.post.new.self }) c.loop-k.invariant.same;
      posts = posts_more m c.args.task c.args.call all c.requires.machine c.requires.sends c.loop-k.self.state c.post.new.self k to (drop (k + 1) all) c.number_at-to.ensures before c.in_ok-post.ensures.plain c.in_ok-post.ensures.follows;
    }

pub returns-clause-done : goal.returns-clause-done
returns-clause-done c =
    let m = c.args.self.now in
    let all = c.args.all.now in
    let s = c.loop-k.self.state in
    let none = drop_none all c.loop-k.k (omega arith) in
    subst (λ (x : Machine). Steps m (record x { state = record s { items = c.args.task.rest }; stamp = x.stamp + 1 }) Went) (sym c.loop-k.invariant.same)
    (sends m c.args.task c.args.call all c.requires.machine c.requires.sends s (subst (λ (left : List ℕ). Posts m c.args.task c.args.call all left s) none c.loop-k.invariant.posts))
