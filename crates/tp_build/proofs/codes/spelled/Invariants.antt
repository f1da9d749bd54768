use Rattle.std.proofs.Common.{◌≡◌, ◌-◌, ◌≤◌, ◌++◌, Ok, drop, length, map}
use Rattle.tp_meaning.specs.Checks.{◌>>=◌}
use Rattle.tp_build.specs.Codes.{all_characters, text_chars}
use Rattle.tp_build.specs.Lists.{place_seen}
use Rattle.tp_build.proofs.codes.spelled.Given as goal

abbrev pub invariant-loop-read : goal.invariant-loop-read
invariant-loop-read g l = record {
  most : l.read ≤ length l.places;
  spelled : all_characters (map (place_seen (g.T.Terms.heap l.terms)) l.places) ≡ (all_characters (map (place_seen (g.T.Terms.heap l.terms)) (drop l.read l.places)) >>= (λ cs. Ok (text_chars l.text ++ cs)));
}

abbrev pub decreases-loop-read : goal.decreases-loop-read
decreases-loop-read g l = length l.places - l.read
