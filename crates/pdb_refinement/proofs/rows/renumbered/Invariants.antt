use Rattle.pdb_refinement.proofs.Renumbered.{AreRenumbered}
use Rattle.pdb_refinement.proofs.rows.renumbered.Given as goal

abbrev pub invariant-loop-class : goal.invariant-loop-class
invariant-loop-class l = AreRenumbered l.classes l.class-index l.olds.items l.renumbered.items
