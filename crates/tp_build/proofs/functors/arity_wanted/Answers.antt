use Rattle.std.proofs.Common.{sym, subst}
use Rattle.tp_build.specs.Errors.{Finds, itself}
use Rattle.tp_build.proofs.RowAnswers.Functor.{wanted-is}
use Rattle.tp_meaning.specs.Heap.{seen}
use Rattle.tp_build.proofs.functors.arity_wanted.Goals as goal

pub returns : goal.returns
returns c h n a top_n top_a =
    subst (λ m. Finds h m itself c.arity.result) (sym (wanted-is (seen h n) (seen h a) c.in_ok-integer.field-0 c.in_ok-wanted.wanted (c.in_ok-bound.ensures h n top_n) (c.in_ok-bound-2.ensures h a top_a) (c.in_ok-integer.ensures h a top_a) (c.in_ok-atomic.ensures h n top_n) (c.in_ok-wanted.ensures h a top_a)))
    (c.arity.ensures h)
