use Rattle.std.proofs.Common.{◌≡◌, take, map}
use Rattle.std.specs.Prelude.{slice_index}
use Rattle.reduction_classes.specs.Classes.{class_of}
use Rattle.reduction_classes.proofs.classes.Classes.state.Given as goal

abbrev pub invariant-loop-variable : goal.invariant-loop-variable
invariant-loop-variable l = l.image.items ≡ map (λ v. class_of l.self v (slice_index l.state v)) (take l.variable-index l.staying)
