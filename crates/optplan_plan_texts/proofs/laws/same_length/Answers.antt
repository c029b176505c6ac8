use Rattle.optplan_plan_texts.proofs.Lengths.{plain_length}
use Rattle.optplan_plan_texts.proofs.laws.same_length.Goals as goal

pub returns : goal.returns
returns c = plain_length
