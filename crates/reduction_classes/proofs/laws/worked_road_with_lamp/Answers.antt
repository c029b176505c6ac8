use Rattle.std.proofs.Common.{refl}
use Rattle.reduction_classes.proofs.laws.worked_road_with_lamp.Goals as goal

pub returns-clause-lamp_left_out : goal.returns-clause-lamp_left_out
returns-clause-lamp_left_out c = refl

pub returns-clause-locations_merged : goal.returns-clause-locations_merged
returns-clause-locations_merged c = refl

pub returns-clause-all_apart : goal.returns-clause-all_apart
returns-clause-all_apart c = refl

pub returns-clause-single_value_stays : goal.returns-clause-single_value_stays
returns-clause-single_value_stays c = refl

pub returns-clause-single_value_left_out : goal.returns-clause-single_value_left_out
returns-clause-single_value_left_out c = refl
