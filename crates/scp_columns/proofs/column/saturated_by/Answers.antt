use Rattle.scp_columns.proofs.column.saturated_by.Goals as goal

pub returns-clause-needed : goal.returns-clause-needed
returns-clause-needed g c o = c.in_ok-needed.ensures.greatest o
