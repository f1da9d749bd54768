use Rattle.std.proofs.Common.{◌≡◌, Bool, true, false, Ok, Result, length, refl, sym, subst}
use Rattle.tp_terms.specs.declared.NoMemory.{NoMemory}
use Rattle.tp_store.specs.Contents.{Contents, CanGoBack}
use Rattle.tp_state.specs.State.{held_of}
use Rattle.tp_state.proofs.GoingBack.Bindings.{store-follows}
use Rattle.tp_machine.proofs.Meets.HeadsMet.{claimed_can, head_names, claimed_names, entered_none, entered_some, grows_none, grows_some}
use Rattle.tp_machine.proofs.heads.try_head.Goals as goal

was-not : (r : Result Bool NoMemory) (met : Bool) → r ≡ Ok met → met ≡ false → r ≡ Ok true → ⊥
was-not r true e n f = cc
was-not r false e n f = cc

pub back_to-requires : goal.back_to-requires
back_to-requires c =
    subst (λ (s : Contents). CanGoBack s c.mark-mark.result) (sym (c.in_ok-met.ensures.unchanged (was-not _ c.in_ok-met.met refl c.if-not-met.true)))
    (claimed_can c.args.state.now.store c.claim.new.self c.args.clause.vars c.in_ok-base.ensures.value c.mark-mark.result c.mark-mark.ensures.store c.mark-mark.ensures.cells c.mark-mark.ensures.vars)

pub returns-in_default-clause-tried : goal.returns-in_default-clause-tried
returns-in_default-clause-tried c = record {
  enters = λ names h named.
      let old = c.args.state.now.store in
      let t = c.args.clause in
      let vars = c.in_ok-base.ensures.value in
      let new = c.unify_head.new.self in
      let new_named = head_names names c.args.cells.now.items old c.claim.new.self new t.vars vars named h c.in_ok-met.ensures.named in
      entered_none names c.args.goal.at c.args.cells.now.items t old c.claim.new.self new _ _ vars c.in_ok-base.base c.in_ok-met.met
      c.in_ok-base.ensures.first (c.in_ok-met.ensures.found names (claimed_names names old c.claim.new.self t.vars vars h) named)
      c.unify_head.ensures.logged (c.in_ok-met.ensures.terms names) new_named c.in_default.is;
  plain = refl;
  follows = store-follows (held_of c.args.state.now) c.unify_head.new.self _
      (grows_none c.args.state.now.store c.claim.new.self c.unify_head.new.self _ _ c.args.clause.vars c.in_ok-base.ensures.value c.unify_head.ensures.logged);
  store = c.unify_head.ensures.store;
  same = refl;
}

pub returns-clause-tried : goal.returns-clause-tried
returns-clause-tried c = record {
  enters = λ names h named.
      let old = c.args.state.now.store in
      let t = c.args.clause in
      let vars = c.in_ok-base.ensures.value in
      let new = c.unify_head.new.self in
      let new_named = head_names names c.args.cells.now.items old c.claim.new.self new t.vars vars named h c.in_ok-met.ensures.named in
      entered_some names c.args.goal.at c.args.cells.now.items t old c.claim.new.self new _ _ vars c.in_ok-base.base c.in_ok-met.met
      c.in_ok-base.ensures.first (c.in_ok-met.ensures.found names (claimed_names names old c.claim.new.self t.vars vars h) named)
      c.unify_head.ensures.logged (c.in_ok-met.ensures.terms names) new_named
      c.block.new.self c.in-Some.body c.in_ok-body.body c.in_ok-body.ensures.adds c.in_ok-body.ensures.keeps c.in-Some.is (c.in_ok-body.ensures.shown names) c.in_ok-body.ensures.place (c.in_ok-body.ensures.named (length names) named new_named);
  plain = refl;
  follows = store-follows (held_of c.args.state.now) c.block.new.self _
      (grows_some c.args.state.now.store c.claim.new.self c.unify_head.new.self c.block.new.self _ _ c.args.clause.vars c.in_ok-base.ensures.value c.unify_head.ensures.logged c.in_ok-body.ensures.adds);
  store = c.block.ensures.store;
  same = refl;
}
