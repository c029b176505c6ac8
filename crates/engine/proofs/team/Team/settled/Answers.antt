use Rattle.std.proofs.Common.{◌∙◌, List, map, sym, ap}
use Rattle.cost.specs.Distances.{least}
use Rattle.extract.specs.Pending.{least_held}
use Rattle.worker.specs.Workers.{WorkerOf}
use Rattle.engine.specs.Teams.{TeamOf}
use Rattle.engine.proofs.Joining.{form_of}
use Rattle.engine.proofs.Settling.{team_settled, team_unsettled}
use Rattle.engine.proofs.team.Team.settled.Goals as goal

pub least_pending-requires-clause-buffer : goal.least_pending-requires-clause-buffer
least_pending-requires-clause-buffer g c =
    let names = rw c.task.ensures at c.variable_count.ensures in
    c.deref_mut.ensures.len ∙ (c.in_ok-state.ensures.len ∙ names)

pub returns-then-le : goal.returns-then-le
returns-then-le g c =
    rw (← c.self.view_is)
    (let t : TeamOf g.row.S.Denot g.row.F.Denot = record { space = c.self.inside.space.now; workers = c.self.inside.workers.items; best = c.self.inside.best } in
    team_settled g.S.Spread.owner t (form_of g.S.Spread.owner g.F.StateForm.values t c.self.invariant c.recall_each.ensures) c.best_goal-best.result c.least_pending.result
    (c.best_goal-best.ensures ∙ ap (λ (ws : List (WorkerOf g.row.S.Denot g.row.F.Denot)). least (map (λ w. w.owner.best) ws)) c.deref.ensures.value)
    (c.least_pending.ensures ∙ ap (λ (ws : List (WorkerOf g.row.S.Denot g.row.F.Denot)). least (map (λ w. least_held g.S.Spread.owner w.owner) ws)) c.deref-2.ensures.value) (sym c.le.ensures ∙ c.if-le.true))

pub returns : goal.returns
returns g c =
    rw (← c.self.view_is)
    (let t : TeamOf g.row.S.Denot g.row.F.Denot = record { space = c.self.inside.space.now; workers = c.self.inside.workers.items; best = c.self.inside.best } in
    team_unsettled g.S.Spread.owner t (form_of g.S.Spread.owner g.F.StateForm.values t c.self.invariant c.recall_each.ensures) c.best_goal-best.result c.least_pending.result
    (c.best_goal-best.ensures ∙ ap (λ (ws : List (WorkerOf g.row.S.Denot g.row.F.Denot)). least (map (λ w. w.owner.best) ws)) c.deref.ensures.value)
    (c.least_pending.ensures ∙ ap (λ (ws : List (WorkerOf g.row.S.Denot g.row.F.Denot)). least (map (λ w. least_held g.S.Spread.owner w.owner) ws)) c.deref-2.ensures.value) (sym c.le.ensures ∙ c.if-le.false))
