use Rattle.std.proofs.Common.{◌<◌, ◌≤◌, length, subst, arith}
use Rattle.std.specs.Prelude.{IfNone}
use Rattle.fdr.specs.Limits.{max_operators}
use Rattle.fdr.specs.Tasks.{FiniteDomainTask}
use Rattle.abstraction_groups.specs.Factors.{transition_count}
use Rattle.abstraction_groups.proofs.CountLaws.{groups_count}
use Rattle.abstraction_groups.proofs.groups.Groups.new.Goals as goal

pub unreachable-requires : goal.unreachable-requires
unreachable-requires g c =
    let task = g.A.Abstraction.task c.args.abstraction.now in
    let f = g.A.FactoredAbstraction.factors c.args.abstraction.now in
    let is = g.met.A.FactoredAbstraction.factored c.args.abstraction.now in
    let most = groups_count task f (g.A.Abstraction.abstraction c.args.abstraction.now) is in
    let limit : length task.operators ≤ max_operators = subst (λ (t : FiniteDomainTask). length t.operators ≤ max_operators) c.task.ensures c.recall.ensures.limits.operators in
    let past : 18446744073709551615 < transition_count task f =
    subst (λ r. IfNone r (18446744073709551615 < transition_count task f)) c.in-None.is c.in_ok-groups.ensures.none in
    omega arith
