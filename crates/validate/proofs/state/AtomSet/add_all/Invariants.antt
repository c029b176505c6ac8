use Rattle.std.proofs.Common.{◌≡◌}
use Rattle.validate.specs.States.{holds_in}
use Rattle.validate.specs.Validation.{with_all}
use Rattle.validate.proofs.state.AtomSet.add_all.Given as goal

abbrev pub invariant-loop-atom : goal.invariant-loop-atom
invariant-loop-atom l = holds_in l.self ≡ with_all (holds_in l.fn.self) l.yielded
