use Rattle.pddl_layout.proofs.Layouts.{sections_free}
use Rattle.pddl_layout.proofs.laws.sections_commute.Goals as goal

pub returns : goal.returns
returns c = sections_free
