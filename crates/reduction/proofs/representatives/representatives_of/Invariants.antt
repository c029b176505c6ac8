use Rattle.std.proofs.Common.{◌≡◌, map, take}
use Rattle.std.specs.Prelude.{option_map, slice_index}
use Rattle.reduction.proofs.representatives.representatives_of.Given as goal

abbrev pub invariant-loop-group : goal.invariant-loop-group
invariant-loop-group l = l.representatives.items ≡ map (option_map (λ g. slice_index l.places (slice_index l.best g))) (take l.group-index l.groups)
