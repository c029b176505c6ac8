use Rattle.std.proofs.Common.{◌<◌, length}
use Rattle.abstraction_groups.proofs.groups.Groups.operators_of.Goals as goal

pub get-requires : goal.get-requires
get-requires g c = rw c.self.invariant.1.as_long (rw (← c.self.view_is) at c.requires)

pub returns-clause-increasing : goal.returns-clause-increasing
returns-clause-increasing g c =
    let l : c.args.group < length c.self.inside.operators = rw c.self.invariant.1.as_long (rw (← c.self.view_is) at c.requires) in
    rw c.get.ensures (c.self.invariant.1.increasing c.args.group l)

pub returns-clause-operators : goal.returns-clause-operators
returns-clause-operators g c o =
    let l : c.args.group < length c.self.inside.operators = rw c.self.invariant.1.as_long (rw (← c.self.view_is) at c.requires) in
    rw (c.get.ensures, ← c.self.view_is) (c.self.invariant.1.operators c.args.group o l)
