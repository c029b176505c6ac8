use Rattle.std.proofs.Common.{◌++◌, ◌+◌, drop, sym, ap, subst, ◌∙◌}
use Rattle.sexp.specs.Forms.{Forms, views}
use Rattle.sexp.proofs.Walking.{views_at}
use Rattle.validate.specs.PlanTexts.{steps_of}
use Rattle.validate.specs.PlanWords.{IsPlanWord, AreAll}
use Rattle.validate.proofs.SpelledPlans.{all_behind}
use Rattle.validate.proofs.reading.steps.Goals as goal

pub loop-tree-preserved : goal.loop-tree-preserved
loop-tree-preserved c =
    let rest = views (drop (c.loop-tree.tree-index + 1) c.args.trees.now) in
    let at = views_at c.args.trees.now c.loop-tree.tree-index c.tree-item.result c.loop-tree-test.true c.tree-item.is in (
      sym (c.in_ok-push_step.ensures rest) ∙ ap (λ (f : Forms). c.loop-tree.steps.items ++ steps_of f) (sym at) ∙ c.loop-tree.invariant.0,
      all_behind IsPlanWord c.tree-item.result rest (subst (λ (f : Forms). AreAll IsPlanWord f) at c.loop-tree.invariant.1),
    )
