use Rattle.std.proofs.Common.{map, arith, refl, ap, sym, subst, append-nil, string_bytes, ◌∙◌, ◌+◌, ◌++◌, ◌≡◌, flat_map}
use Rattle.std.specs.List.{range_with_len}
use Rattle.tp_top.specs.Sample.{process_clause}
use Rattle.tp_top.proofs.Running.Samples.{clause_more}
use Rattle.tp_top.proofs.sample.add_processes.Goals as goal

pub processes-init : goal.processes-init
processes-init c = (omega arith, sym (append-nil (string_bytes c.args.text.now)))

pub processes-preserved : goal.processes-preserved
processes-preserved c = (
  omega (arith, c.processes-test.true),
  clause_more _ _ _ c.processes.before (c.processes.before + 1) refl c.processes.invariant.1 c.in_ok-add_process.ensures,
)

pub returns : goal.returns
returns c =
    let same : c.processes.before ≡ c.args.followed = omega (arith, c.processes-test.false, c.processes.invariant.0) in
    c.processes.invariant.1 ∙ ap (λ n. string_bytes c.args.text.now ++ flat_map process_clause (range_with_len 1 n)) same
