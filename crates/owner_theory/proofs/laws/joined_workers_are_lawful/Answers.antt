use Rattle.owner_theory.proofs.Joins.{joined_lawful, no_misfits}
use Rattle.owner_theory.proofs.laws.joined_workers_are_lawful.Goals as goal

pub returns-clause-lawful : goal.returns-clause-lawful
returns-clause-lawful c = joined_lawful

pub returns-clause-fit : goal.returns-clause-fit
returns-clause-fit c = no_misfits
