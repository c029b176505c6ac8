use Rattle.std.proofs.Common.{◌≡◌, take, map}
use Rattle.std.specs.Prelude.{slice_index}
use Rattle.reduction.proofs.ordering.numbers_at.Given as goal

abbrev pub invariant-loop-index : goal.invariant-loop-index
invariant-loop-index l = l.chosen.items ≡ map (slice_index l.numbers) (take l.index-index l.indices)
