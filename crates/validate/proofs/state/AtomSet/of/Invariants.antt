use Rattle.std.proofs.Common.{◌≡◌, [], drop}
use Rattle.pddl_task.specs.Atoms.{contains}
use Rattle.validate.specs.States.{holds_in}
use Rattle.validate.specs.Validation.{with_all}
use Rattle.validate.proofs.state.AtomSet.of.Given as goal

abbrev pub invariant-loop-atom : goal.invariant-loop-atom
invariant-loop-atom l = with_all (holds_in l.set) (drop l.atom-index l.atoms) ≡ with_all (contains []) l.atoms
