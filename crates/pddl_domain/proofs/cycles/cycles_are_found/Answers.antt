use Rattle.pddl_domain.proofs.Ancestors.{lies, found_on_cycle}
use Rattle.pddl_domain.proofs.cycles.cycles_are_found.Goals as goal

pub returns : goal.returns
returns c = λ supertypes n all lt. (lies supertypes all n, found_on_cycle supertypes all n lt)
