use Rattle.std.proofs.Common.{◌≡◌, subst}
use Rattle.owner_theory.specs.Worlds.{idle}
use Rattle.owner.specs.Owned.{OwnerOf, space_of, under}
use Rattle.owner.proofs.owner.Owner.is_idle.Goals as goal

pub returns : goal.returns
returns g c =
    subst (λ (o : OwnerOf g.row.S.Denot). c.is_idle.result ≡ idle (space_of g.S.Spread.owner o) (under o c.args.bound)) c.self.view_is
    c.is_idle.ensures
