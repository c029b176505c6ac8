use Rattle.std.proofs.Common.{◌≡◌, ◌++◌, take}
use Rattle.std.specs.List.{flat_map}
use Rattle.sasfile_writer.specs.Written.{text_of_lines, group_lines, groups_of}
use Rattle.sasfile_writer.proofs.groups.push_groups.Given as goal

abbrev pub invariant-loop-variable : goal.invariant-loop-variable
invariant-loop-variable l = l.out.items ≡ l.fn.out.items ++ text_of_lines (flat_map (λ e. group_lines e.0 e.1) (groups_of (take l.variable l.sizes)))
