use Rattle.std.proofs.Common.{◌≡◌, ◌++◌, take}
use Rattle.std.specs.List.{flat_map, enumerate_from}
use Rattle.fdr.specs.Tasks.{names_in}
use Rattle.sasfile_writer.specs.Written.{text_of_lines, variable_lines}
use Rattle.sasfile_writer.proofs.variables.push_variables.Given as goal

abbrev pub invariant-loop-number : goal.invariant-loop-number
invariant-loop-number l =
    l.out.items ≡ l.fn.out.items ++ text_of_lines (flat_map (λ e. variable_lines e.0 e.1) (enumerate_from 0 (names_in (take l.number l.value_names))))
