use Rattle.std.specs.Prelude.{◌≡◌, true, All, IfSome}
use Rattle.abstraction_mapping.specs.Views.{mapping_of}
use Rattle.pdb_refinement.specs.Refinements.{IsRefinedWithin, is_of_kind}
use Rattle.pdb_refinement.specs.Classes.{IsRowOf}
use Rattle.pdb_refinement.proofs.run.rounds.Given as goal

abbrev pub invariant-loop : goal.invariant-loop
invariant-loop l = record {
  rows : All (IsRowOf l.problem.task.now l.problem.banned.now) l.progress.rows.items;
  fitted : IfSome l.progress.fitted (λ m. IsRefinedWithin l.problem.task.now l.problem.limits.now.states l.problem.banned.now (mapping_of m));
  kind : IfSome l.progress.fitted (λ m. is_of_kind l.problem.kind (mapping_of m) ≡ true);
}
