use Rattle.std.proofs.Common.{take}
use Rattle.pdb_refinement.specs.Refinements.{AllowsConsidered}
use Rattle.pdb_refinement.proofs.choice.allow.Given as goal

abbrev pub invariant-loop-position : goal.invariant-loop-position
invariant-loop-position l = AllowsConsidered (take l.position l.goal) l.considered l.banned
