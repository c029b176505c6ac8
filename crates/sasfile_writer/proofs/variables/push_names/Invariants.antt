use Rattle.std.proofs.Common.{◌≡◌, ◌++◌, map, take}
use Rattle.std.specs.String.{string_bytes}
use Rattle.sasfile_writer.specs.Written.{text_of_lines}
use Rattle.sasfile_writer.proofs.variables.push_names.Given as goal

abbrev pub invariant-loop-name : goal.invariant-loop-name
invariant-loop-name l = l.out.items ≡ l.fn.out.items ++ text_of_lines (map string_bytes (take l.name-index l.names))
