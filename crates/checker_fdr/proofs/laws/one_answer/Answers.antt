use Rattle.checker_fdr.proofs.OneAnswer.{one_answer}
use Rattle.checker_fdr.proofs.laws.one_answer.Goals as goal

pub returns : goal.returns
returns c = one_answer
