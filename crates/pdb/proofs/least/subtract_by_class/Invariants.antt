use Rattle.std.proofs.Common.{◌≡◌, ℕ, ◌-◌, slice_index}
use Rattle.pdb.specs.Classes.{share_below}
use Rattle.pdb.proofs.least.subtract_by_class.Given as goal

abbrev pub invariant-loop-class : goal.invariant-loop-class
invariant-loop-class g l = (o : ℕ) → slice_index l.left o ≡ slice_index l.initial.left o - share_below (g.T.BackwardTransitions.classes l.transitions) l.numbers l.class o
