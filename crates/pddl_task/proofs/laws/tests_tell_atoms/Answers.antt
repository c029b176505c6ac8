use Rattle.pddl_task.proofs.AtomLaws.{contains_mem, mem_contains}
use Rattle.pddl_task.proofs.Lists.{contains_from_mem, mem_from_contains}
use Rattle.pddl_task.proofs.laws.tests_tell_atoms.Goals as goal

pub returns-clause-members : goal.returns-clause-members
returns-clause-members c =
    λ atoms p. (λ e. contains_from_mem atoms p (contains_mem atoms p e), λ m. mem_contains atoms p (mem_from_contains atoms p m))
