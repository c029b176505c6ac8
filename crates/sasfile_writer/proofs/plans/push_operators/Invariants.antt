use Rattle.std.proofs.Common.{◌≡◌, ◌++◌, drop}
use Rattle.std.specs.String.{string_bytes}
use Rattle.std.specs.List.{flat_map}
use Rattle.sasfile_writer.specs.Plans.{operator_line}
use Rattle.sasfile_writer.proofs.plans.push_operators.Given as goal

abbrev pub invariant-loop-operator : goal.invariant-loop-operator
invariant-loop-operator l = string_bytes l.text ++ flat_map (operator_line l.task) (drop l.operator-index l.plan) ≡ string_bytes l.fn.text ++ flat_map (operator_line l.task) l.plan
