use Rattle.std.proofs.Common.{arith}
use Rattle.abstraction_listed.proofs.listed.ListedBackwardTransitions.stored.Goals as goal

pub get-requires : goal.get-requires
get-requires g c =
    let l = rw (← c.self.view_is) at c.requires in
    omega (arith, l, c.self.invariant.1.as_long)

pub returns : goal.returns
returns g c =
    let l = rw (← c.self.view_is) at c.requires in
    rw (c.get.ensures, ← c.self.view_is) (c.self.invariant.1.entering c.args.abstract_state l)
