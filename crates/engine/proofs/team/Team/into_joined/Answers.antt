use Rattle.std.proofs.Common.{◌≡◌, rules, [], sym, subst}
use Rattle.fdr.specs.Tasks.{ranges}
use Rattle.extract.specs.Views.{all_packets}
use Rattle.engine.specs.Teams.{AreEmpty}
use Rattle.engine.proofs.Joining.{lawful_as, form_as, team_space}
use Rattle.engine.proofs.team.Team.into_joined.Goals as goal

pub new-requires-2-clause-lawful : goal.new-requires-2-clause-lawful
new-requires-2-clause-lawful g c =
    let none : all_packets (g.F.StateForm.values (ranges c.self.inside.space.now.task)) c.new.result.items ≡ [] = search rules in
    lawful_as g.S.Spread.owner g.F.StateForm.values (record { space = c.self.inside.space.now; workers = c.self.inside.workers.items; best = c.self.inside.best }) c.self.invariant
    c.recall_each.ensures (subst (AreEmpty g.F.StateForm.values) (sym c.self.view_is) c.requires)
    (team_space g.S.Spread.owner g.F.StateForm.values (record { space = c.self.inside.space.now; workers = c.self.inside.workers.items; best = c.self.inside.best }) c.self.invariant
    c.recall_each.ensures c.index.result.now c.index.ensures c.owner.result.now c.owner.ensures c.recall.ensures.space)
    c.in_ok-owners.owners.items _ c.in_ok-owners.ensures none

pub new-requires-2-clause-form : goal.new-requires-2-clause-form
new-requires-2-clause-form g c =
    let none : all_packets (g.F.StateForm.values (ranges c.self.inside.space.now.task)) c.new.result.items ≡ [] = search rules in
    form_as g.S.Spread.owner g.F.StateForm.values (record { space = c.self.inside.space.now; workers = c.self.inside.workers.items; best = c.self.inside.best }) c.self.invariant
    c.recall_each.ensures (subst (AreEmpty g.F.StateForm.values) (sym c.self.view_is) c.requires)
    (team_space g.S.Spread.owner g.F.StateForm.values (record { space = c.self.inside.space.now; workers = c.self.inside.workers.items; best = c.self.inside.best }) c.self.invariant
    c.recall_each.ensures c.index.result.now c.index.ensures c.owner.result.now c.owner.ensures c.recall.ensures.space)
    c.in_ok-owners.owners.items _ c.in_ok-owners.ensures none
