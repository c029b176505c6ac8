use Rattle.std.proofs.Common.{◌≡◌, ◌++◌, take}
use Rattle.mutex.specs.Steps.{extensions}
use Rattle.mutex.proofs.candidates.extend_one.Given as goal

abbrev pub invariant-loop-part : goal.invariant-loop-part
invariant-loop-part l = l.longer.items ≡ take l.room (l.fn.longer.items ++ extensions (take l.part-index l.parts) l.candidate)
