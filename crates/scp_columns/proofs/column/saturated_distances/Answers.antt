use Rattle.scp_columns.proofs.column.saturated_distances.Goals as goal

pub returns-in_ok-backward-in-Projection-clause-distances : goal.returns-in_ok-backward-in-Projection-clause-distances
returns-in_ok-backward-in-Projection-clause-distances c = rw c.in-Projection.is (rw c.in_ok-backward-in-Projection.ensures at c.saturated_by.ensures.distances)

pub returns-in_ok-backward-in-Projection-clause-needed : goal.returns-in_ok-backward-in-Projection-clause-needed
returns-in_ok-backward-in-Projection-clause-needed c = rw c.in-Projection.is (rw c.in_ok-backward-in-Projection.ensures at c.saturated_by.ensures.needed)
