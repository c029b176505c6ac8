use Rattle.std.proofs.Common.{length, subst}
use Rattle.std.specs.Prelude.{IfOk}
use Rattle.owner.specs.Spaces.{searched}
use Rattle.fdr.specs.Tasks.{ranges}
use Rattle.extract.specs.Ends.{EndOf, IsSettledAnswer, space_at}
use Rattle.extract.specs.Views.{all_packets}
use Rattle.extract.proofs.joined.Joined.settled.Goals as goal

pub returns : goal.returns
returns g c =
    subst (λ (e : EndOf _). IfOk c.settled_bound.result (IsSettledAnswer (space_at g.S.Spread.owner e) e.owners e.left)) c.self.view_is
    (subst (λ queues. IfOk c.settled_bound.result (IsSettledAnswer
    (searched g.S.Spread.owner c.self.inside.space.now (length c.self.inside.owners.items)) c.self.inside.owners.items
    (all_packets (g.F.StateForm.values (ranges c.self.inside.space.now.task)) queues))) c.deref-2.ensures.value
    (subst (λ owners. IfOk c.settled_bound.result (IsSettledAnswer
    (searched g.S.Spread.owner c.self.inside.space.now (length owners)) owners
    (all_packets (g.F.StateForm.values (ranges c.self.inside.space.now.task)) c.deref-2.result.now))) c.deref.ensures.value c.settled_bound.ensures))
