-- Faults of readers and of the checker, as faults of a judgement.
use Rattle.pddl.specs.declared.fault.PddlFault.{PddlFault}
use Rattle.pddl.specs.declared.fault.PddlFault.TheVariants as task_fault
use Rattle.validate.specs.declared.plan.PlanFault.{PlanFault}
use Rattle.validate.specs.declared.plan.PlanFault.TheVariants as plan_fault
use Rattle.checker.specs.declared.fault.PlanningCheckFault.{PlanningCheckFault}
use Rattle.checker.specs.declared.fault.PlanningCheckFault.TheVariants as check
use Rattle.optplan_optimal.specs.declared.fault.OptimalityFault.{OptimalityFault}
use Rattle.optplan_optimal.specs.declared.fault.OptimalityFault.TheVariants.{OutOfMemory, Task, Plan, Cert, GroundLimit, Limit}

abbrev pub fault_of_task : PddlFault → OptimalityFault
fault_of_task task_fault.OutOfMemory = OutOfMemory
fault_of_task (task_fault.Tree file e) = Task (task_fault.Tree file e)
fault_of_task (task_fault.Section file e) = Task (task_fault.Section file e)

abbrev pub fault_of_plan : PlanFault → OptimalityFault
fault_of_plan plan_fault.OutOfMemory = OutOfMemory
fault_of_plan (plan_fault.Tree e) = Plan (plan_fault.Tree e)
fault_of_plan (plan_fault.PlanShape at) = Plan (plan_fault.PlanShape at)
fault_of_plan plan_fault.PlanLimit = Plan plan_fault.PlanLimit

abbrev pub fault_of_check : PlanningCheckFault → OptimalityFault
fault_of_check check.OutOfMemory = OutOfMemory
fault_of_check (check.Task e) = Task e
fault_of_check (check.Cert e) = Cert e
fault_of_check check.GroundLimit = GroundLimit
fault_of_check (check.Limit l) = Limit l
