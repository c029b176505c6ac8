use Rattle.owner_theory.proofs.Plans.{settled_finished, settled_once}
use Rattle.owner_theory.proofs.laws.settled_family_is_closed.Goals as goal

pub returns-clause-finished : goal.returns-clause-finished
returns-clause-finished c = settled_finished

pub returns-clause-once : goal.returns-clause-once
returns-clause-once c = settled_once
