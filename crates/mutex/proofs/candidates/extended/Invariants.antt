use Rattle.std.proofs.Common.{◌≡◌, take}
use Rattle.std.specs.List.{flat_map}
use Rattle.mutex.specs.Steps.{extensions}
use Rattle.mutex.proofs.candidates.extended.Given as goal

abbrev pub invariant-loop-candidate : goal.invariant-loop-candidate
invariant-loop-candidate l = l.longer.items ≡ take l.room (flat_map (extensions l.parts) (take l.candidate-index l.candidates))
