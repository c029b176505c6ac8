use Rattle.optplan_pddl.proofs.KindLaws.{held_accepted}
use Rattle.optplan_pddl.proofs.certificate_laws.held_certificate_is_accepted.Goals as goal

pub returns : goal.returns
returns c = held_accepted
