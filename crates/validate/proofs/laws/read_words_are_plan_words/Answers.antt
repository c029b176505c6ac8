use Rattle.validate.proofs.ReadPlans.{plan_words_is}
use Rattle.validate.proofs.laws.read_words_are_plan_words.Goals as goal

pub returns : goal.returns
returns c = plan_words_is
