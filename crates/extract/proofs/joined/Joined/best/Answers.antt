use Rattle.fdr.specs.Tasks.{ranges}
use Rattle.extract.specs.Views.{all_packets}
use Rattle.extract.proofs.Pending.{owners_have_space}
use Rattle.extract.proofs.BestGoals.{first_in_view}
use Rattle.extract.proofs.joined.Joined.best.Goals as goal

pub first_best-requires : goal.first_best-requires
first_best-requires g c = owners_have_space g.S.Spread.owner _ c.self.inside.form c.deref.result.now c.deref.ensures.value

pub returns : goal.returns
returns g c =
    first_in_view g.S.Spread.owner c.args.self.now c.recall.ensures.lawful c.recall.ensures.space
    (record { space = c.self.inside.space.now; owners = c.self.inside.owners.items; left = all_packets (g.F.StateForm.values (ranges c.self.inside.space.now.task)) c.self.inside.left.items })
    c.deref.result.now c.first_best.result c.self.view_is c.deref.ensures.value c.first_best.ensures
