use Rattle.std.proofs.Common.{◌≡◌, drop}
use Rattle.std.specs.Prelude.{not}
use Rattle.std.specs.List.{find}
use Rattle.checker_states.specs.Places.{passes_successor}
use Rattle.checker_states.proofs.coverage.Coverage.first_uncovered.Given as goal

abbrev pub invariant-loop-operator : goal.invariant-loop-operator
invariant-loop-operator l =
    find (λ o. not (passes_successor l.self.task l.self.certificate l.place o)) (drop l.operator-index l.operators)
    ≡ find (λ o. not (passes_successor l.self.task l.self.certificate l.place o)) l.operators
