use Rattle.std.proofs.Common.{◌≡◌, map}
use Rattle.std.specs.List.{range_with_len}
use Rattle.abstraction_domain.specs.Rows.{classes_in}
use Rattle.reduction_classes.specs.Classes.{staying_below, number_of}
use Rattle.reduction_classes.proofs.classes.numbering.Given as goal

abbrev pub invariant-loop-variable : goal.invariant-loop-variable
invariant-loop-variable l =
    record {
      staying : l.staying.items ≡ staying_below (classes_in l.rows) l.variable;
      numbers : l.numbers.items ≡ map (number_of (classes_in l.rows)) (range_with_len 0 l.variable);
    }
