use Rattle.std.specs.Prelude.{All}
use Rattle.pdb_refinement.specs.Classes.{IsRowOf}
use Rattle.pdb_refinement.proofs.run.split_all.Given as goal

abbrev pub invariant-loop-flaw : goal.invariant-loop-flaw
invariant-loop-flaw l = All (IsRowOf l.problem.task.now l.problem.banned.now) l.rows.items
