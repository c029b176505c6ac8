use Rattle.std.proofs.Common.{◌≡◌, ◌++◌, map, take}
use Rattle.std.specs.Prelude.{decimal}
use Rattle.sasfile_writer.specs.Written.{text_of_lines}
use Rattle.sasfile_writer.proofs.facts.push_values.Given as goal

abbrev pub invariant-loop-value : goal.invariant-loop-value
invariant-loop-value l = l.out.items ≡ l.fn.out.items ++ text_of_lines (map decimal (take l.value-index l.values))
