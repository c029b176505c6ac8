use Rattle.pddl_layout.proofs.Exchange.{neighbours_exchanged}
use Rattle.pddl_layout.proofs.laws.neighbours_may_be_exchanged.Goals as goal

pub returns : goal.returns
returns c = neighbours_exchanged
