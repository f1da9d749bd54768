-- What is left of a list when its last element goes.
use Rattle.std.specs.Prelude.{◌-◌, List, length, take}

-- a list without its last element
abbrev pub front : {X : Type 0} → List X → List X
front xs = take (length xs - 1) xs
