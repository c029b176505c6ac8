use Rattle.std.proofs.Common.{◌≡◌, ◌++◌, map}
use Rattle.std.specs.List.{range_with_len}
use Rattle.sasfile_writer.specs.Written.{text_of_lines, pair_line}
use Rattle.sasfile_writer.proofs.groups.push_atoms.Given as goal

abbrev pub invariant-loop-value : goal.invariant-loop-value
invariant-loop-value l = l.out.items ≡ l.fn.out.items ++ text_of_lines (map (pair_line l.variable) (range_with_len 0 l.value))
