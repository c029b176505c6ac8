use Rattle.std.proofs.Common.{subst}
use Rattle.owner_theory.specs.Families.{Family, IsSearchSpace, IsLowerBound}
use Rattle.fdr.specs.Tasks.{ranges}
use Rattle.extract.specs.Ends.{EndOf, IsEndOf}
use Rattle.extract.specs.Views.{all_packets}
use Rattle.extract.proofs.Pending.{told_by_first}
use Rattle.extract.proofs.joined.Joined.recall.Goals as goal

pub returns-clause-lawful : goal.returns-clause-lawful
returns-clause-lawful g c =
    subst (λ (e : EndOf _). ∥ ((family : Family) × IsEndOf g.S.Spread.owner e family) ∥₁) c.self.view_is c.self.inside.lawful

pub returns-clause-space : goal.returns-clause-space
returns-clause-space g c =
    told_by_first g.S.Spread.owner
    (record { space = c.self.inside.space.now; owners = c.self.inside.owners.items; left = all_packets (g.F.StateForm.values (ranges c.self.inside.space.now.task)) c.self.inside.left.items })
    c.self.inside.form IsSearchSpace c.args.self.now c.index.result.now c.self.view_is c.index.ensures c.recall.ensures.space

pub returns-clause-lower : goal.returns-clause-lower
returns-clause-lower g c =
    told_by_first g.S.Spread.owner
    (record { space = c.self.inside.space.now; owners = c.self.inside.owners.items; left = all_packets (g.F.StateForm.values (ranges c.self.inside.space.now.task)) c.self.inside.left.items })
    c.self.inside.form (λ s. IsLowerBound s.task s.heuristic) c.args.self.now c.index.result.now c.self.view_is c.index.ensures
    c.recall.ensures.lower
