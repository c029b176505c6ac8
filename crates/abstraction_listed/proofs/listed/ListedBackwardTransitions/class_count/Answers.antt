use Rattle.std.proofs.Common.{length, ap, arith}
use Rattle.abstraction_listed.proofs.listed.ListedBackwardTransitions.class_count.Goals as goal

pub returns : goal.returns
returns g c =
    let all = ap length c.self.invariant.0 in
    rw (← c.self.view_is) (omega (arith, all, c.len.ensures, c.self.inside.operators.ok.0))
