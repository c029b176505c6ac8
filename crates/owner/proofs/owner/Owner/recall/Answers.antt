use Rattle.std.proofs.Common.{All, subst}
use Rattle.owner.specs.Owned.{OwnerOf, space_of, IsKept}
use Rattle.owner.proofs.Owning.{all_from_at}
use Rattle.owner.proofs.owner.Owner.recall.Goals as goal

pub returns-clause-nodes : goal.returns-clause-nodes
returns-clause-nodes g c =
    subst (λ (o : OwnerOf g.row.S.Denot). All (IsKept (space_of g.S.Spread.owner o) o.worker) o.nodes) c.self.view_is
    (all_from_at (IsKept (space_of g.S.Spread.owner c.self.inside.holdings) c.self.inside.holdings.worker) c.self.inside.holdings.nodes
    c.recall.ensures.owner.nodes)
