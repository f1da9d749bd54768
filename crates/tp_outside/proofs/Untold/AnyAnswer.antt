-- What holds of every value holds of an answer.
use Rattle.std.proofs.Common.{Result, Ok, Err, IfOk, OnErr}

pub IfOk-from_all : {T E : Type 0} (P : T → Type 0) → ((x : T) → P x) → (r : Result T E) → IfOk r P
IfOk-from_all P all (Ok x) = all x
IfOk-from_all P all (Err e) = tt

pub OnErr-from_fact : {T E : Type 0} (P : Type 0) → P → (r : Result T E) → OnErr r P
OnErr-from_fact P fact (Ok x) = tt
OnErr-from_fact P fact (Err e) = fact
