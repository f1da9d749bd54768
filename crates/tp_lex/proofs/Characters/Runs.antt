-- Runs of characters, one character at a time.
use Rattle.std.proofs.Common.{◌≡◌, ℕ, true, false, List, [], ◌∷◌}
use Rattle.tp_lex.specs.Characters.{after_run, is_in_class}
use Rattle.tp_lex.specs.declared.chars.Class.{Class}

pub after_run-goes : (class : Class) (c : ℕ) (cs all : List ℕ) → all ≡ c ∷ cs → is_in_class class c ≡ true → after_run class all ≡ after_run class cs
unfolding after_run
after_run-goes class c cs all e p = rw (e, p)

pub after_run-stops : (class : Class) (c : ℕ) (cs all : List ℕ) → all ≡ c ∷ cs → is_in_class class c ≡ false → after_run class all ≡ all
unfolding after_run
after_run-stops class c cs all e p = rw (e, p)

pub after_run-none : (class : Class) (all : List ℕ) → all ≡ [] → after_run class all ≡ all
unfolding after_run
after_run-none class all e = rw e
