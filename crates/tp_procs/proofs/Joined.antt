-- The best of several is the same in whatever order they are joined.
use Rattle.std.proofs.Common.{◌≡◌, refl, ℕ, ℤ, Option, Some, None, arith}
use Rattle.std.proofs.lemmas.Int.{ints}
use Rattle.std.proofs.lemmas.Bool.Decides.{nat_tests}
use Rattle.tp_procs.specs.declared.tree.Node.{Node}
use Rattle.tp_procs.specs.Processes.{sooner}
use Rattle.tp_procs.specs.Tree.{lower, nothing, joined}

lower-none : (a : Option ℕ) → lower a None ≡ a
lower-none None = refl
lower-none (Some x) = refl

lower-comm : (a b : Option ℕ) → lower a b ≡ lower b a
lower-comm None None = refl
lower-comm None (Some y) = refl
lower-comm (Some x) None = refl
lower-comm (Some x) (Some y) = grind (arith, nat_tests)

lower-assoc : (a b c : Option ℕ) → lower (lower a b) c ≡ lower a (lower b c)
lower-assoc None b c = refl
lower-assoc (Some x) None c = refl
lower-assoc (Some x) (Some y) None = lower-none (lower (Some x) (Some y))
lower-assoc (Some x) (Some y) (Some z) = grind (arith, nat_tests)

sooner-none : (a : Option ℤ) → sooner a None ≡ a
sooner-none None = refl
sooner-none (Some x) = refl

sooner-comm : (a b : Option ℤ) → sooner a b ≡ sooner b a
sooner-comm None None = refl
sooner-comm None (Some y) = refl
sooner-comm (Some x) None = refl
sooner-comm (Some x) (Some y) = grind (arith, ints, nat_tests)

sooner-assoc : (a b c : Option ℤ) → sooner (sooner a b) c ≡ sooner a (sooner b c)
sooner-assoc None b c = refl
sooner-assoc (Some x) None c = refl
sooner-assoc (Some x) (Some y) None = sooner-none (sooner (Some x) (Some y))
sooner-assoc (Some x) (Some y) (Some z) = grind (arith, ints, nat_tests)

pub joined-nothing : (a : Node) → joined a nothing ≡ a
joined-nothing a = λ i. record { marked = lower-none a.marked i; end = sooner-none a.end i }

pub joined-comm : (a b : Node) → joined a b ≡ joined b a
joined-comm a b = λ i. record { marked = lower-comm a.marked b.marked i; end = sooner-comm a.end b.end i }

pub joined-assoc : (a b c : Node) → joined (joined a b) c ≡ joined a (joined b c)
joined-assoc a b c = λ i. record { marked = lower-assoc a.marked b.marked c.marked i; end = sooner-assoc a.end b.end c.end i }
