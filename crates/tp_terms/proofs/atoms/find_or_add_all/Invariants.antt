use Rattle.std.proofs.Common.{◌≡◌, map, drop, chars}
use Rattle.tp_terms.specs.Names.{names_of, with_names, HasFew}
use Rattle.tp_terms.proofs.atoms.find_or_add_all.Given as goal

-- the names so far are few, and with those that are left they are the names with all
abbrev pub invariant-loop-name : goal.invariant-loop-name
invariant-loop-name l = HasFew l.names.keys × (with_names (names_of l.names.keys) (map (λ text. chars text.now) (drop l.name-index l.more)) ≡ with_names (names_of l.fn.names.keys) (map (λ text. chars text.now) l.more))
