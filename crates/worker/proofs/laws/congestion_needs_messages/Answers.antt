use Rattle.worker.proofs.Congesting.{uncongested, congested_by_some}
use Rattle.worker.proofs.laws.congestion_needs_messages.Goals as goal

pub returns-clause-few : goal.returns-clause-few
returns-clause-few c = uncongested

pub returns-clause-some : goal.returns-clause-some
returns-clause-some c = congested_by_some
