use Rattle.std.proofs.Common.{◌<◌, [], ◌∷◌, ◌++◌, sym, ap, subst, ◌∙◌}
use Rattle.tp_store.specs.Contents.{Names}
use Rattle.tp_store.specs.Chain.{contents_of}
use Rattle.tp_store.specs.Work.{WorkStep, Reduces, unbound_count}
use Rattle.tp_store.proofs.Unifier.Solutions.{IsSolving, solving_start, solving_bind, solving_ends, never, may_add, unbound_count-bind}
use Rattle.tp_store.proofs.solve.bind_each.Goals as goal

pub bindings-init : goal.bindings-init
bindings-init c =
    let old = contents_of c.args.chains.now in
    record {
      chains = c.requires.chains;
      solving = subst (IsSolving old old c.args.left.at c.args.right.at) (sym (c.in_ok-push.ensures.items ∙ ap (λ l. l ++ (c.args.left, c.args.right) ∷ []) c.clear.ensures.items)) (solving_start old c.args.left c.args.right c.requires.left c.requires.right);
    }

pub returns-in-Same-clause-yes : goal.returns-in-Same-clause-yes
returns-in-Same-clause-yes c =
    let i = c.bindings.invariant in
    let now = contents_of c.bindings.chains in
    let each = subst (WorkStep now c.bindings.work.items c.next_binding.new.work.items) c.in-Same.is c.in_ok-next_binding.ensures in
    λ _. solving_ends (contents_of c.args.chains.now) now c.args.left.at c.args.right.at c.bindings.work.items i.chains.store i.solving each

pub returns-in-Clash-clause-no : goal.returns-in-Clash-clause-no
returns-in-Clash-clause-no c =
    let i = c.bindings.invariant in
    let now = contents_of c.bindings.chains in
    let none = subst (WorkStep now c.bindings.work.items c.next_binding.new.work.items) c.in-Clash.is c.in_ok-next_binding.ensures in
    λ _ names t f e h.
    let k = (i.solving.same names f).0 (e, h) in
    none names (subst (Names names) (sym i.solving.adds.cells) t) f k.0 k.1

pub bind-requires-clause-adds : goal.bind-requires-clause-adds
bind-requires-clause-adds c =
    let now = contents_of c.bindings.chains in
    let red : Reduces now c.bindings.work.items c.next_binding.new.work.items c.in-Bind.number c.in-Bind.place = subst (WorkStep now c.bindings.work.items c.next_binding.new.work.items) c.in-Bind.is c.in_ok-next_binding.ensures in
    λ names. may_add now c.in-Bind.number c.in-Bind.place c.bindings.invariant.chains.store red.may names (sym (c.in_ok-occurs_at-in-Bind.ensures names) ∙ c.if-branch.false)

pub returns-then-branch-clause-no : goal.returns-then-branch-clause-no
returns-then-branch-clause-no c =
    let i = c.bindings.invariant in
    let now = contents_of c.bindings.chains in
    let red : Reduces now c.bindings.work.items c.next_binding.new.work.items c.in-Bind.number c.in-Bind.place = subst (WorkStep now c.bindings.work.items c.next_binding.new.work.items) c.in-Bind.is c.in_ok-next_binding.ensures in
    λ _ names t f e h.
    let k = (i.solving.same names f).0 (e, h) in
    never now c.in-Bind.number c.in-Bind.place i.chains.store red.may names (sym (c.in_ok-occurs_at-in-Bind.ensures names) ∙ c.if-branch.true) f k.0 ((red.same names f k.0).0 k.1).0

pub bindings-smaller : goal.bindings-smaller
bindings-smaller c =
    let i = c.bindings.invariant in
    let now = contents_of c.bindings.chains in
    let red : Reduces now c.bindings.work.items c.next_binding.new.work.items c.in-Bind.number c.in-Bind.place = subst (WorkStep now c.bindings.work.items c.next_binding.new.work.items) c.in-Bind.is c.in_ok-next_binding.ensures in
    let less = unbound_count-bind c.bindings.chains.trail.bound now.pairs c.in-Bind.number c.in-Bind.place i.chains.table red.may.claimed red.may.unbound in
    subst (λ os. unbound_count os < unbound_count c.bindings.chains.trail.bound) (sym c.in_ok-bind-in-Bind.ensures.table) less

pub bindings-preserved : goal.bindings-preserved
bindings-preserved c =
    let i = c.bindings.invariant in
    let now = contents_of c.bindings.chains in
    let red : Reduces now c.bindings.work.items c.next_binding.new.work.items c.in-Bind.number c.in-Bind.place = subst (WorkStep now c.bindings.work.items c.next_binding.new.work.items) c.in-Bind.is c.in_ok-next_binding.ensures in
    record {
      chains = c.in_ok-bind-in-Bind.ensures.chains;
      solving = solving_bind (contents_of c.args.chains.now) now (contents_of c.bind.new.self) c.args.left.at c.args.right.at c.bindings.work.items c.next_binding.new.work.items c.in-Bind.number c.in-Bind.place i.chains.store i.solving red c.in_ok-bind-in-Bind.ensures.value;
    }
