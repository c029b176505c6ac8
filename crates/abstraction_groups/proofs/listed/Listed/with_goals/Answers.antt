use Rattle.std.proofs.Common.{subst}
use Rattle.abstraction_groups.specs.Lists.{AreGoals}
use Rattle.abstraction_groups.proofs.listed.Listed.with_goals.Goals as goal

pub invariant_of-result : goal.invariant_of-result
invariant_of-result g c =
    (c.in_ok-lists.ensures, subst (λ x. AreGoals (g.A.Abstraction.abstraction x) c.in_ok-goals.goals.items) c.abstraction.ensures c.in_ok-goals.ensures)
