use Rattle.std.proofs.Common.{◌≡◌, drop}
use Rattle.validate.specs.States.{holds_in}
use Rattle.validate.specs.Validation.{without_all}
use Rattle.validate.proofs.state.AtomSet.remove_all.Given as goal

abbrev pub invariant-loop-atom : goal.invariant-loop-atom
invariant-loop-atom l = without_all (holds_in l.self) (drop l.atom-index l.atoms) ≡ without_all (holds_in l.fn.self) l.atoms
