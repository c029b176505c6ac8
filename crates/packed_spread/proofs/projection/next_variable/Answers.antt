use Rattle.std.proofs.Common.{ℕ, Option, None, ap, sym, ◌∙◌}
use Rattle.fdr.specs.Tasks.{ranges}
use Rattle.packed_spread.specs.Projections.{better_of}
use Rattle.packed_spread.proofs.Projecting.{fold_to}
use Rattle.packed_spread.proofs.projection.next_variable.Goals as goal

pub loop-variable-preserved : goal.loop-variable-preserved
loop-variable-preserved c =
    let step = better_of (ranges c.args.task.now) c.args.changes.now c.args.chosen.now in
    record {
      best =
          c.better_of-best.ensures.better
          ∙ ap (λ (best : Option ℕ). step best c.loop-variable.variable) c.loop-variable.invariant.best
          ∙ sym (fold_to step None c.loop-variable.variable);
      below = c.better_of-best.ensures.below;
    }
