use Rattle.std.proofs.Common.{◌≡◌, map, take}
use Rattle.cert_value.specs.Kept.{kept_distance}
use Rattle.pdb.proofs.kept.as_numbers.Given as goal

abbrev pub invariant-loop-state : goal.invariant-loop-state
invariant-loop-state l = map kept_distance l.numbers.items ≡ take l.state l.distances
