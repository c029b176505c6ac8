use Rattle.std.proofs.Common.{◌≡◌, map, take}
use Rattle.cert_value.specs.Kept.{kept_distance}
use Rattle.pdb.proofs.kept.as_distances.Given as goal

abbrev pub invariant-loop-number : goal.invariant-loop-number
invariant-loop-number l = l.distances ≡ map kept_distance (take l.number-index l.numbers)
