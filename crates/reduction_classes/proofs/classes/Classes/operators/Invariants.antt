use Rattle.std.proofs.Common.{◌≡◌, take, map}
use Rattle.reduction_classes.specs.Reduced.{reduced_operator, chosen}
use Rattle.reduction_classes.proofs.classes.Classes.operators.Given as goal

abbrev pub invariant-loop-number : goal.invariant-loop-number
invariant-loop-number l = l.images.items ≡ map (reduced_operator l.self) (chosen l.task.operators (take l.number-index l.numbers))
