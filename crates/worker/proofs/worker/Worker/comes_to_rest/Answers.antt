use Rattle.std.proofs.Common.{◌∙◌, sym}
use Rattle.worker.proofs.Steps.{rests_if_idle}
use Rattle.worker.proofs.worker.Worker.comes_to_rest.Goals as goal

pub returns-then-counts : goal.returns-then-counts
returns-then-counts g c =
    rests_if_idle g.S.Spread.owner c.args.self.now c.is_idle.result (sym c.counts.ensures ∙ c.if-counts.true)
    (rw (← c.self.view_is) c.is_idle.ensures)
