use Rattle.std.proofs.Common.{◌≡◌, drop, not}
use Rattle.std.specs.Prelude.{find}
use Rattle.pddl_task.specs.Atoms.{contains}
use Rattle.ground.specs.Rounds.{wanted_atoms}
use Rattle.translate_vars.proofs.closing.first_missing.Given as goal

abbrev pub invariant-loop-literal : goal.invariant-loop-literal
invariant-loop-literal l =
    find (λ q. not (contains l.atoms q)) (wanted_atoms (drop l.literal-index l.literals)) ≡ find (λ q. not (contains l.atoms q)) (wanted_atoms l.literals)
