use Rattle.std.proofs.Common.{◌≡◌, Some, length, reverse, get_or, ap, sym, subst, ◌∙◌, arith}
use Rattle.std.specs.Prelude.{vec_len}
use Rattle.tp_store.specs.declared.copy.Task.TheVariants.{Copy, Build}
use Rattle.tp_store.specs.Chain.{contents_of}
use Rattle.tp_store.specs.Copy.{IsCopiedAs, on_from}
use Rattle.tp_store.proofs.Copies.Rows.{is_some_not, zero_unless, only_one}
use Rattle.tp_store.proofs.Copies.Sources.{claimed-below, copied_on, last_on}
use Rattle.tp_store.proofs.Copies.Tasks.{copy_begins, look_turn, look_less, copy_build, top_task, popped, all_done, copied_shown, copied_last, copied_named}
use Rattle.tp_store.proofs.copy.copy.Goals as goal

pub tasks-init : goal.tasks-init
tasks-init c =
    let from = c.args.from.now.items in
    record {
      chains = c.requires.chains;
      copying = copy_begins from (on_from from c.args.base) c.args.root (contents_of c.args.chains.now) c.push.new.self.items c.clear.new.self.items c.clear-2.new.self.items c.requires.root
          (claimed-below c.args.base from c.args.root.at (length c.args.chains.now.trail.bound) c.requires.claimed) c.in_ok-push.ensures.items c.clear.ensures.items c.clear-2.ensures.items;
    }

pub tasks-smaller-in-Continue-branch-2 : goal.tasks-smaller-in-Continue-branch-2
tasks-smaller-in-Continue-branch-2 c =
    let from = c.args.from.now.items in
    let t = on_from from c.args.base in
    let h = c.tasks.invariant.copying in
    let top = popped c.tasks.work.tasks.items c.pop.new.self.items c.pop.result (Copy c.in-Copy.at) c.pop.ensures.items (c.in-Some.is ∙ ap Some c.in-Copy.is) in
    let within = (top_task from t c.args.root.at (contents_of c.args.chains.now) (contents_of c.tasks.chains) c.tasks.work.tasks.items c.pop.new.self.items c.tasks.work.made.items h (Copy c.in-Copy.at) top).can.0 in
    look_less from t c.args.root.at (contents_of c.args.chains.now) (contents_of c.tasks.chains) c.tasks.work.tasks.items c.pop.new.self.items c.tasks.work.made.items h c.in-Copy.at top
    c.numbered_on-cell.result (subst (IsCopiedAs from t c.in-Copy.at.at) (sym c.numbered_on-cell.ensures) (copied_on c.args.base from c.in-Copy.at.at c.get.result within c.get.ensures.value c.get.ensures.before))
    c.look_at.new.tasks.items c.look_at.new.made.items c.in_ok-look_at-in-Copy.ensures

pub tasks-preserved-in-Continue-branch-2 : goal.tasks-preserved-in-Continue-branch-2
tasks-preserved-in-Continue-branch-2 c =
    let from = c.args.from.now.items in
    let t = on_from from c.args.base in
    let h = c.tasks.invariant.copying in
    let top = popped c.tasks.work.tasks.items c.pop.new.self.items c.pop.result (Copy c.in-Copy.at) c.pop.ensures.items (c.in-Some.is ∙ ap Some c.in-Copy.is) in
    let within = (top_task from t c.args.root.at (contents_of c.args.chains.now) (contents_of c.tasks.chains) c.tasks.work.tasks.items c.pop.new.self.items c.tasks.work.made.items h (Copy c.in-Copy.at) top).can.0 in
    record {
      chains = c.tasks.invariant.chains;
      copying = look_turn from t c.args.root.at (contents_of c.args.chains.now) (contents_of c.tasks.chains) c.tasks.work.tasks.items c.pop.new.self.items c.tasks.work.made.items h c.in-Copy.at top
          c.numbered_on-cell.result (subst (IsCopiedAs from t c.in-Copy.at.at) (sym c.numbered_on-cell.ensures) (copied_on c.args.base from c.in-Copy.at.at c.get.result within c.get.ensures.value c.get.ensures.before))
          c.look_at.new.tasks.items c.look_at.new.made.items c.in_ok-look_at-in-Copy.ensures;
    }

pub tasks-preserved : goal.tasks-preserved
tasks-preserved c =
    let old = contents_of c.args.chains.now in
    let now = contents_of c.tasks.chains in
    let from = c.args.from.now.items in
    let task = Build c.in-Build.name c.in-Build.count in
    let top = popped c.tasks.work.tasks.items c.pop.new.self.items c.pop.result task c.pop.ensures.items (c.in-Some.is ∙ ap Some c.in-Build.is) in
    let h = top_task from (on_from from c.args.base) c.args.root.at old now c.tasks.work.tasks.items c.pop.new.self.items c.tasks.work.made.items c.tasks.invariant.copying task top in
    let b = c.in_ok-build-in-Build.ensures in
    record {
      chains = b.chains;
      copying = copy_build from (on_from from c.args.base) c.args.root.at old now (contents_of c.build.new.chains) c.in-Build.name c.in-Build.count (reverse c.pop.new.self.items) (reverse c.tasks.work.made.items) (reverse c.build.new.made.items) h b.adds b.cells b.made;
    }

pub returns-clause-shown : goal.returns-clause-shown
returns-clause-shown c =
    let none : length c.tasks.work.tasks.items ≡ 0 = let z = zero_unless (vec_len c.tasks.work.tasks) (λ lt. is_some_not c.pop.result (c.pop.ensures.variant.1 lt) c.in_default.not-Some) in omega (arith, z) in
    let from = c.args.from.now.items in
    let t = on_from from c.args.base in
    let e = all_done from t c.args.root.at (contents_of c.args.chains.now) (contents_of c.tasks.chains) c.tasks.work.tasks.items c.tasks.work.tasks.items c.tasks.work.made.items c.tasks.invariant.copying none in
    copied_shown from t c.args.root.at (contents_of c.args.chains.now) (contents_of c.tasks.chains) (reverse c.tasks.work.made.items) e c.index.result.now (contents_of c.place.new.self)
    (c.index.ensures ∙ ap (λ xs. get_or xs 0 c.index.result.now) (only_one c.tasks.work.made.items e.cell e.only)) c.in_ok-at.ensures.value c.in_ok-at.at.at c.in_ok-at.ensures.place

pub returns-clause-last : goal.returns-clause-last
returns-clause-last c =
    let none : length c.tasks.work.tasks.items ≡ 0 = let z = zero_unless (vec_len c.tasks.work.tasks) (λ lt. is_some_not c.pop.result (c.pop.ensures.variant.1 lt) c.in_default.not-Some) in omega (arith, z) in
    let from = c.args.from.now.items in
    let t = on_from from c.args.base in
    let e = all_done from t c.args.root.at (contents_of c.args.chains.now) (contents_of c.tasks.chains) c.tasks.work.tasks.items c.tasks.work.tasks.items c.tasks.work.made.items c.tasks.invariant.copying none in
    last_on c.args.base from c.args.chains.now.cells.items c.place.new.self.cells.items c.args.root.at c.in_ok-at.at.at
    (copied_last from t c.args.root.at (contents_of c.args.chains.now) (contents_of c.tasks.chains) (reverse c.tasks.work.made.items) e c.index.result.now (contents_of c.place.new.self)
    (c.index.ensures ∙ ap (λ xs. get_or xs 0 c.index.result.now) (only_one c.tasks.work.made.items e.cell e.only)) c.in_ok-at.ensures.value c.in_ok-at.at.at c.in_ok-at.ensures.place)

pub returns-clause-named : goal.returns-clause-named
returns-clause-named c =
    let none : length c.tasks.work.tasks.items ≡ 0 = let z = zero_unless (vec_len c.tasks.work.tasks) (λ lt. is_some_not c.pop.result (c.pop.ensures.variant.1 lt) c.in_default.not-Some) in omega (arith, z) in
    let from = c.args.from.now.items in
    let t = on_from from c.args.base in
    let e = all_done from t c.args.root.at (contents_of c.args.chains.now) (contents_of c.tasks.chains) c.tasks.work.tasks.items c.tasks.work.tasks.items c.tasks.work.made.items c.tasks.invariant.copying none in
    copied_named from t c.args.root.at (contents_of c.args.chains.now) (contents_of c.tasks.chains) (reverse c.tasks.work.made.items) e c.index.result.now (contents_of c.place.new.self)
    (c.index.ensures ∙ ap (λ xs. get_or xs 0 c.index.result.now) (only_one c.tasks.work.made.items e.cell e.only)) c.in_ok-at.ensures.value
