use Rattle.std.proofs.Common.{◌≡◌, ◌++◌, drop}
use Rattle.std.specs.List.{filter_map}
use Rattle.pddl_task.specs.Planning.{literal_of}
use Rattle.pddl_task.proofs.schema.literals_of.Given as goal

abbrev pub invariant-loop-condition : goal.invariant-loop-condition
invariant-loop-condition l =
    l.literals.items ++ filter_map (literal_of l.objects) (drop l.condition-index l.conditions) ≡ filter_map (literal_of l.objects) l.conditions
