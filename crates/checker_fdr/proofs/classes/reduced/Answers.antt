use Rattle.std.proofs.Common.{◌≡◌, ◌∙◌, ℕ, List, length, map, ap, sym, subst}
use Rattle.std.specs.Prelude.{IfOk}
use Rattle.fdr.specs.Tasks.{FiniteDomainTask, ranges}
use Rattle.abstraction_domain.specs.Rows.{classes_in}
use Rattle.reduction_classes.specs.Reduced.{reduced_task}
use Rattle.checker_fdr.proofs.ClassRows.{met_classes, judged_reduced}
use Rattle.checker_fdr.proofs.classes.reduced.Goals as goal

pub task-requires : goal.task-requires
task-requires c =
    let known : c.in_ok-classes.classes ≡ c.args.certificate.now.classes = c.in_ok-classes.ensures ∙ ap classes_in c.in_ok-rows.ensures ∙ c.classes.ensures.classes in
    subst (λ (rows : List (List ℕ)). map length rows ≡ ranges c.args.task.now) (sym known)
    (met_classes c.args.task.now c.args.certificate.now c.requires.some c.requires.fit)

pub returns : goal.returns
returns c =
    let known : c.in_ok-classes.classes ≡ c.args.certificate.now.classes = c.in_ok-classes.ensures ∙ ap classes_in c.in_ok-rows.ensures ∙ c.classes.ensures.classes in
    subst (λ (t : FiniteDomainTask). IfOk c.task.result (λ u. u ≡ t))
    (ap (λ (rows : List (List ℕ)). reduced_task rows c.args.task.now) known ∙ judged_reduced c.args.task.now c.args.certificate.now.classes c.requires.some)
    c.task.ensures
