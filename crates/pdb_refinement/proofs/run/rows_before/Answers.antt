use Rattle.abstraction_mapping.specs.Views.{mapping_of}
use Rattle.pdb_refinement.proofs.MappingRows.{rows_allowed}
use Rattle.pdb_refinement.proofs.run.rows_before.Goals as goal

pub returns-in_ok-rows-in-Some : goal.returns-in_ok-rows-in-Some
returns-in_ok-rows-in-Some c =
    let problem = c.args.problem.now in
    rw c.in_ok-rows-in-Some.ensures
    (rows_allowed problem.task.now problem.banned.now problem.limits.now.states (mapping_of c.in-Some.mapping) (rw c.in-Some.is at c.requires))
