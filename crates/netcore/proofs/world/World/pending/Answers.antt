use Rattle.std.proofs.Common.{◌-◌, ◌^◌}
use Rattle.fdr.specs.Tasks.{ranges}
use Rattle.netcore.proofs.Ending.{joined_same}
use Rattle.netcore.proofs.Counting.{sum_of}
use Rattle.netcore.proofs.world.World.pending.Goals as goal

pub returns : goal.returns
returns g c =
    let values = (g.F.StateForm.values (ranges c.self.inside.space.now.task)) in
    rw (← c.self.view_is)
    (sum_of _ _ _ (2 ^ 128 - 1) c.underway_count.result c.waiting_count.result c.awake_count.result c.saturating_add-messages.result
    c.saturating_add.result
    (rw (joined_same values c.self.inside.underway.items) (rw c.deref.ensures.value at (c.underway_count.ensures values)))
    (rw c.deref-2.ensures.value at c.waiting_count.ensures)
    (rw c.deref-3.ensures.value at c.awake_count.ensures)
    c.saturating_add-messages.ensures c.saturating_add.ensures)
