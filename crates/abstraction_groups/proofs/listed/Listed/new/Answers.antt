use Rattle.abstraction_groups.proofs.ListLaws.{no_goals}
use Rattle.abstraction_groups.proofs.listed.Listed.new.Goals as goal

pub invariant_of-result : goal.invariant_of-result
invariant_of-result g c = (c.in_ok-lists.ensures, rw c.new.ensures.items (no_goals (g.A.Abstraction.abstraction c.args.groups)))
