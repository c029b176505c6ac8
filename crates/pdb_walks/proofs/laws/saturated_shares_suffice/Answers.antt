use Rattle.pdb_walks.proofs.Saturation.{saturated_consistent, saturated_below}
use Rattle.pdb_walks.proofs.laws.saturated_shares_suffice.Goals as goal

pub returns-clause-kept : goal.returns-clause-kept
returns-clause-kept c = saturated_consistent

pub returns-clause-at_most : goal.returns-clause-at_most
returns-clause-at_most c = saturated_below
