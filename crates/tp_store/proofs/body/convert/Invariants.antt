use Rattle.std.proofs.Common.{[], ◌∷◌, reverse}
use Rattle.tp_store.specs.declared.body.Job.TheVariants.{Convert}
use Rattle.tp_store.specs.Bodies.{Goes, jobs_size}
use Rattle.tp_store.specs.Chain.{IsChains, contents_of}
use Rattle.tp_store.proofs.body.convert.Given as goal

abbrev pub invariant-jobs : goal.invariant-jobs
invariant-jobs l = record {
  chains : IsChains l.chains;
  goes : Goes (contents_of l.fn.chains) (Convert l.fn.goal ∷ []) [] (contents_of l.chains) (reverse l.jobs.items) (reverse l.made.items);
}

abbrev pub decreases-jobs : goal.decreases-jobs
decreases-jobs l = jobs_size (contents_of l.chains) (reverse l.jobs.items)
