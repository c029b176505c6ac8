use Rattle.owner_theory.proofs.Closed.{finished, listed_once}
use Rattle.owner_theory.proofs.laws.bounded_family_is_closed.Goals as goal

pub returns-clause-finished : goal.returns-clause-finished
returns-clause-finished c = finished

pub returns-clause-once : goal.returns-clause-once
returns-clause-once c space family bound ok law best pending = listed_once space family bound ok law best pending
