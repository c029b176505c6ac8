-- The tasks of abstractions.
use Rattle.fdr.specs.Tasks.{FiniteDomainTask}
use Rattle.scp_samples.specs.declared.listed.ListedAbstraction.{ListedAbstraction}
use Rattle.scp_samples.specs.declared.listed.ListedAbstraction.TheVariants as listed

-- the task of an abstraction with lists of its transitions
abbrev pub task_of : ListedAbstraction → FiniteDomainTask
task_of (listed.Projection l) = l.task
task_of (listed.Domain l) = l.task
