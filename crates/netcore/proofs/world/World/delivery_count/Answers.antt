use Rattle.std.proofs.Common.{◌≡◌, ◌-◌, ◌^◌, ◌∙◌, ap, sym, min, length, map}
use Rattle.fdr.specs.Tasks.{ranges}
use Rattle.extract.specs.Views.{packets_in, all_packets}
use Rattle.netcore.specs.Possible.{deliveries}
use Rattle.netcore.proofs.Ending.{joined_same}
use Rattle.netcore.proofs.Choosing.{deliveries_length}
use Rattle.netcore.proofs.world.World.delivery_count.Goals as goal

pub returns : goal.returns
returns g c =
    let values = (g.F.StateForm.values (ranges c.self.inside.space.now.task)) in
    let qs = c.self.inside.underway.items in
    let same : length (all_packets values qs) ≡ length (deliveries 0 (map (packets_in values) qs)) =
    ap length (sym (joined_same values qs)) ∙ sym (deliveries_length 0 (map (packets_in values) qs)) in
    rw (← c.self.view_is) ((rw c.deref.ensures.value at (c.underway_count.ensures values)) ∙ ap (λ n. min n (2 ^ 128 - 1)) same)
