use Rattle.std.proofs.Common.{◌≡◌, Some, length, reverse, get_or, ap, sym, subst, ◌∙◌, arith}
use Rattle.std.specs.Prelude.{vec_len}
use Rattle.tp_store.specs.declared.copy.Task.TheVariants.{Copy, Build}
use Rattle.tp_store.specs.Chain.{contents_of}
use Rattle.tp_store.specs.Copy.{IsCopiedAs}
use Rattle.tp_store.specs.Renamed.{renaming}
use Rattle.tp_store.proofs.Copies.Fresh.{renamed_as, renamed_known}
use Rattle.tp_store.proofs.Copies.Rows.{is_some_not, zero_unless, only_one}
use Rattle.tp_store.proofs.Copies.Tasks.{look_turn, look_less, copy_build, top_task, popped, all_done, copied_shown, copied_named}
use Rattle.tp_store.proofs.rename.copy_renamed.Goals as goal

pub renamed-cell-requires-clause-known : goal.renamed-cell-requires-clause-known
renamed-cell-requires-clause-known c =
    let old = contents_of c.args.chains.now in
    let now = contents_of c.tasks.chains in
    let t = renaming old c.args.base c.args.variables.now.keys in
    let h = c.tasks.invariant.copying in
    let top = popped c.tasks.tasks.items c.pop.new.self.items c.pop.result (Copy c.in-Copy.at) c.pop.ensures.items (c.in-Some.is ∙ ap Some c.in-Copy.is) in
    let can = (top_task old.cells t c.args.root.at old now c.tasks.tasks.items c.pop.new.self.items c.tasks.made.items h (Copy c.in-Copy.at) top).can in
    renamed_known old now c.requires.chains.store h.adds c.in-Copy.at can.0 c.end.result c.end.ensures.end c.end.ensures.met c.end.ensures.same c.args.base c.args.variables.now.keys
    (c.requires.claimed ∙ sym h.adds.vars) can.1

pub tasks-smaller-in-Continue-branch-2 : goal.tasks-smaller-in-Continue-branch-2
tasks-smaller-in-Continue-branch-2 c =
    let old = contents_of c.args.chains.now in
    let now = contents_of c.tasks.chains in
    let vs = c.args.variables.now.keys in
    let t = renaming old c.args.base vs in
    let h = c.tasks.invariant.copying in
    let top = popped c.tasks.tasks.items c.pop.new.self.items c.pop.result (Copy c.in-Copy.at) c.pop.ensures.items (c.in-Some.is ∙ ap Some c.in-Copy.is) in
    let can = (top_task old.cells t c.args.root.at old now c.tasks.tasks.items c.pop.new.self.items c.tasks.made.items h (Copy c.in-Copy.at) top).can in
    let is = renamed_as old now c.requires.chains.store h.adds c.in-Copy.at can.0 c.end.result c.end.ensures.end c.end.ensures.met c.end.ensures.same c.args.base vs in
    look_less old.cells t c.args.root.at old now c.tasks.tasks.items c.pop.new.self.items c.tasks.made.items h c.in-Copy.at top
    c.renamed-cell.result (subst (IsCopiedAs old.cells t c.in-Copy.at.at) (sym c.renamed-cell.ensures) is) c.look_at.new.tasks.items c.look_at.new.made.items c.in_ok-look_at-in-Copy.ensures

pub tasks-preserved-in-Continue-branch-2 : goal.tasks-preserved-in-Continue-branch-2
tasks-preserved-in-Continue-branch-2 c =
    let old = contents_of c.args.chains.now in
    let now = contents_of c.tasks.chains in
    let vs = c.args.variables.now.keys in
    let t = renaming old c.args.base vs in
    let h = c.tasks.invariant.copying in
    let top = popped c.tasks.tasks.items c.pop.new.self.items c.pop.result (Copy c.in-Copy.at) c.pop.ensures.items (c.in-Some.is ∙ ap Some c.in-Copy.is) in
    let can = (top_task old.cells t c.args.root.at old now c.tasks.tasks.items c.pop.new.self.items c.tasks.made.items h (Copy c.in-Copy.at) top).can in
    let is = renamed_as old now c.requires.chains.store h.adds c.in-Copy.at can.0 c.end.result c.end.ensures.end c.end.ensures.met c.end.ensures.same c.args.base vs in
    record {
      chains = c.tasks.invariant.chains;
      copying = look_turn old.cells t c.args.root.at old now c.tasks.tasks.items c.pop.new.self.items c.tasks.made.items h c.in-Copy.at top
          c.renamed-cell.result (subst (IsCopiedAs old.cells t c.in-Copy.at.at) (sym c.renamed-cell.ensures) is) c.look_at.new.tasks.items c.look_at.new.made.items c.in_ok-look_at-in-Copy.ensures;
    }

pub tasks-preserved : goal.tasks-preserved
tasks-preserved c =
    let old = contents_of c.args.chains.now in
    let now = contents_of c.tasks.chains in
    let t = renaming old c.args.base c.args.variables.now.keys in
    let task = Build c.in-Build.name c.in-Build.count in
    let top = popped c.tasks.tasks.items c.pop.new.self.items c.pop.result task c.pop.ensures.items (c.in-Some.is ∙ ap Some c.in-Build.is) in
    let h = top_task old.cells t c.args.root.at old now c.tasks.tasks.items c.pop.new.self.items c.tasks.made.items c.tasks.invariant.copying task top in
    let b = c.in_ok-build-in-Build.ensures in
    record {
      chains = b.chains;
      copying = copy_build old.cells t c.args.root.at old now (contents_of c.build.new.chains) c.in-Build.name c.in-Build.count (reverse c.pop.new.self.items) (reverse c.tasks.made.items) (reverse c.build.new.made.items) h b.adds b.cells b.made;
    }

pub returns-clause-shown : goal.returns-clause-shown
returns-clause-shown c =
    let none : length c.tasks.tasks.items ≡ 0 = let z = zero_unless (vec_len c.tasks.tasks) (λ lt. is_some_not c.pop.result (c.pop.ensures.variant.1 lt) c.in_default.not-Some) in omega (arith, z) in
    let old = contents_of c.args.chains.now in
    let now = contents_of c.tasks.chains in
    let t = renaming old c.args.base c.args.variables.now.keys in
    let e = all_done old.cells t c.args.root.at old now c.tasks.tasks.items c.tasks.tasks.items c.tasks.made.items c.tasks.invariant.copying none in
    copied_shown old.cells t c.args.root.at old now (reverse c.tasks.made.items) e c.index.result.now (contents_of c.place.new.self)
    (c.index.ensures ∙ ap (λ xs. get_or xs 0 c.index.result.now) (only_one c.tasks.made.items e.cell e.only)) c.in_ok-at.ensures.value c.in_ok-at.at.at c.in_ok-at.ensures.place

pub returns-clause-named : goal.returns-clause-named
returns-clause-named c =
    let none : length c.tasks.tasks.items ≡ 0 = let z = zero_unless (vec_len c.tasks.tasks) (λ lt. is_some_not c.pop.result (c.pop.ensures.variant.1 lt) c.in_default.not-Some) in omega (arith, z) in
    let old = contents_of c.args.chains.now in
    let now = contents_of c.tasks.chains in
    let t = renaming old c.args.base c.args.variables.now.keys in
    let e = all_done old.cells t c.args.root.at old now c.tasks.tasks.items c.tasks.tasks.items c.tasks.made.items c.tasks.invariant.copying none in
    λ n h.
    copied_named old.cells t c.args.root.at old now (reverse c.tasks.made.items) e c.index.result.now (contents_of c.place.new.self)
    (c.index.ensures ∙ ap (λ xs. get_or xs 0 c.index.result.now) (only_one c.tasks.made.items e.cell e.only)) c.in_ok-at.ensures.value n h h
