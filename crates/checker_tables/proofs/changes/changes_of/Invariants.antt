use Rattle.std.proofs.Common.{◌≡◌, ◌++◌, drop, map, not}
use Rattle.checker_tables.specs.Changes.{leaves_states}
use Rattle.checker_tables.proofs.changes.changes_of.Given as goal

abbrev pub invariant-loop-operator : goal.invariant-loop-operator
invariant-loop-operator l =
    l.changes.items ++ map (λ op. not (leaves_states op)) (drop l.operator-index l.task.operators) ≡ map (λ op. not (leaves_states op)) l.task.operators
