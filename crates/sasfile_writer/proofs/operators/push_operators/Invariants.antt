use Rattle.std.proofs.Common.{◌≡◌, ◌++◌, take}
use Rattle.std.specs.List.{flat_map}
use Rattle.sasfile_writer.specs.Written.{text_of_lines, operator_lines}
use Rattle.sasfile_writer.proofs.operators.push_operators.Given as goal

abbrev pub invariant-loop-operator : goal.invariant-loop-operator
invariant-loop-operator l = l.out.items ≡ l.fn.out.items ++ text_of_lines (flat_map operator_lines (take l.operator-index l.operators))
