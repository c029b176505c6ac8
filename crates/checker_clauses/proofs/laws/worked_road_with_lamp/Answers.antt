use Rattle.checker_clauses.proofs.Worked.{lamp_left_out, locations_merged, merged_goal, row_missing, variable_missing, another_range, not_reduced}
use Rattle.checker_clauses.proofs.laws.worked_road_with_lamp.Goals as goal

pub returns-clause-lamp_left_out : goal.returns-clause-lamp_left_out
returns-clause-lamp_left_out c = lamp_left_out

pub returns-clause-locations_merged : goal.returns-clause-locations_merged
returns-clause-locations_merged c = locations_merged

pub returns-clause-merged_goal : goal.returns-clause-merged_goal
returns-clause-merged_goal c = merged_goal

pub returns-clause-row_missing : goal.returns-clause-row_missing
returns-clause-row_missing c = row_missing

pub returns-clause-variable_missing : goal.returns-clause-variable_missing
returns-clause-variable_missing c = variable_missing

pub returns-clause-another_range : goal.returns-clause-another_range
returns-clause-another_range c = another_range

pub returns-clause-not_reduced : goal.returns-clause-not_reduced
returns-clause-not_reduced c = not_reduced
