use Rattle.std.proofs.Common.{◌≡◌, Some}
use Rattle.fdr.specs.Tasks.{step}
use Rattle.abstraction.specs.Steps.{at_some}
use Rattle.reduction_classes.specs.Reduced.{reduced_state, reduced_task}
use Rattle.reduction_classes.proofs.Runs.{image_step, image_goal}
use Rattle.reduction_classes.proofs.laws.images_follow_steps.Goals as goal

pub returns-clause-steps : goal.returns-clause-steps
returns-clause-steps c task classes well fit state next o is e =
    at_some (λ t. step (reduced_task classes task) (reduced_state classes state) o ≡ Some (reduced_state classes t)) (step task state o) next e (image_step task classes fit well state o is)

pub returns-clause-goals : goal.returns-clause-goals
returns-clause-goals c task classes well fit state h = image_goal task classes fit well state h
