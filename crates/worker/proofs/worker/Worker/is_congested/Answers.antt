use Rattle.std.proofs.Common.{sym, ◌≤◌, ◌<◌, arith}
use Rattle.owner_theory.specs.Worlds.{waiting}
use Rattle.worker.specs.Turns.{congestion, link_congestion}
use Rattle.worker.proofs.Congesting.{few_waiting, many_waiting, by_links}
use Rattle.worker.proofs.worker.Worker.is_congested.Goals as goal

pub returns-then-messages : goal.returns-then-messages
returns-then-messages g c =
    let few : waiting c.self.inside.owner.outboxes < link_congestion = omega (arith, c.messages-messages.ensures) in
    rw (← c.self.view_is) (sym (few_waiting c.self.inside.owner.outboxes few))
