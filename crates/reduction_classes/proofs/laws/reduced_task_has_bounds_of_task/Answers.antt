use Rattle.reduction_classes.proofs.Runs.{image_plan, image_bound, image_none}
use Rattle.reduction_classes.proofs.laws.reduced_task_has_bounds_of_task.Goals as goal

pub returns-clause-plans : goal.returns-clause-plans
returns-clause-plans c task classes well fit plan leads = image_plan task classes fit well plan leads

pub returns-clause-bound : goal.returns-clause-bound
returns-clause-bound c task classes well fit bound all = image_bound task classes fit well bound all

pub returns-clause-none : goal.returns-clause-none
returns-clause-none c task classes well fit none = image_none task classes fit well none
