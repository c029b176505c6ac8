use Rattle.pddl_layout.proofs.Layouts.{places_free}
use Rattle.pddl_layout.proofs.laws.places_do_not_matter.Goals as goal

pub returns : goal.returns
returns c = places_free
