use Rattle.worker.specs.Turns.{is_congested}
use Rattle.worker.proofs.Opening.{expands_told}
use Rattle.worker.proofs.laws.expansions_are_told.Goals as goal

pub returns : goal.returns
returns g c = λ looked expanded posted e. expands_told g.S.Spread.owner looked expanded posted (is_congested looked.owner.outboxes) e
