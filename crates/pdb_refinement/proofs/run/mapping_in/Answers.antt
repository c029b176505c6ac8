use Rattle.pdb_refinement.proofs.Avoiding.{refined_found}
use Rattle.pdb_refinement.proofs.run.mapping_in.Goals as goal

pub returns-clause-within : goal.returns-clause-within
returns-clause-within c =
    refined_found c.args.problem.now.task.now c.args.problem.now.limits.now.states c.args.problem.now.banned.now c.args.rows.now c.in_ok-mapping.mapping c.requires.rows
    c.in_ok-mapping.ensures.within c.in_ok-mapping.ensures.among
