use Rattle.std.proofs.Common.{◌≡◌}
use Rattle.std.proofs.lemmas.List.Elements.{All-push}
use Rattle.abstraction_mapping.specs.Views.{task_in}
use Rattle.scp_samples.proofs.pool.abstractions_by.Goals as goal

pub loop-mapping-preserved : goal.loop-mapping-preserved
loop-mapping-preserved c =
    let made = rw c.in-Some.is at c.in_ok-abstraction.ensures in
    rw c.in_ok-push.ensures.items (All-push (λ a. task_in a ≡ c.args.task.now) c.loop-mapping.made.items c.in-Some.abstraction c.loop-mapping.invariant made.1)
