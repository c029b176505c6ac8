use Rattle.std.proofs.Common.{◌≡◌, ℕ, List, [], take, map, replicate}
use Rattle.fdr.specs.Tasks.{names_in}
use Rattle.abstraction_domain.specs.Rows.{class_count}
use Rattle.reduction_classes.specs.Classes.{row_of}
use Rattle.reduction_classes.proofs.classes.Classes.value_names.Given as goal

abbrev pub invariant-loop-variable : goal.invariant-loop-variable
invariant-loop-variable l =
    names_in l.names.items ≡ map (λ v. replicate {A = List ℕ} (class_count (row_of l.self v)) []) (take l.variable-index l.staying)
