use Rattle.optplan_optimal.proofs.OneAnswer.{one_answer}
use Rattle.optplan_optimal.proofs.laws.one_answer.Goals as goal

pub returns-clause-line : goal.returns-clause-line
returns-clause-line c = λ domain problem plan cert v w h k. (one_answer domain problem plan cert v w h k).0

pub returns-clause-status : goal.returns-clause-status
returns-clause-status c = λ domain problem plan cert v w h k. (one_answer domain problem plan cert v w h k).1
