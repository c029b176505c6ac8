use Rattle.pdb.specs.Saturations.{AreFull}
use Rattle.pdb.proofs.saturation.first_below.Given as goal

abbrev pub invariant-loop-class : goal.invariant-loop-class
invariant-loop-class l = AreFull l.class l.least l.greatest
