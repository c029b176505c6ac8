use Rattle.cert.proofs.StateOrder.{rising}
use Rattle.cert.proofs.laws.sorted_once_rises.Goals as goal

pub returns : goal.returns
returns c closed order once = rising closed order once
