use Rattle.cert.proofs.Shuffles.{finished_again, once_again}
use Rattle.cert.proofs.laws.order_does_not_matter.Goals as goal

pub returns-clause-finished : goal.returns-clause-finished
returns-clause-finished c task h bound closed again moved finished = finished_again task h bound closed again moved finished

pub returns-clause-once : goal.returns-clause-once
returns-clause-once c closed again moved once = once_again closed again moved once
