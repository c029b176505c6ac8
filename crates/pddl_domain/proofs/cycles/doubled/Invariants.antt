use Rattle.std.proofs.Common.{◌≡◌, map, take, slice_index}
use Rattle.pddl_domain.proofs.cycles.doubled.Given as goal

abbrev pub invariant-loop-ancestor : goal.invariant-loop-ancestor
invariant-loop-ancestor l = l.twice.items ≡ map (slice_index l.ancestors) (take l.ancestor-index l.ancestors)
