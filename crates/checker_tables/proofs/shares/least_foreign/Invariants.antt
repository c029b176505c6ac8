use Rattle.std.proofs.Common.{◌≡◌, drop, map}
use Rattle.cost.specs.Distances.{distance_of, lesser, least}
use Rattle.checker_tables.specs.ShareSums as spec
use Rattle.checker_tables.proofs.shares.least_foreign.Given as goal

abbrev pub invariant-loop-share : goal.invariant-loop-share
invariant-loop-share l =
    lesser (distance_of l.least) (least (map (spec.foreign l.count) (drop l.share-index l.shares)))
    ≡ lesser (distance_of l.fn.before) (spec.least_foreign l.count l.shares)
