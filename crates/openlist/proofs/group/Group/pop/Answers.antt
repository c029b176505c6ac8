use Rattle.openlist.proofs.Ascending.{first-at_most}
use Rattle.openlist.proofs.GroupOrder.{IsBefore-in}
use Rattle.openlist.proofs.group.Group.pop.Goals as goal

pub returns-clause-first : goal.returns-clause-first
returns-clause-first c =
    rw (c.entry.ensures, ← c.self.view_is)
    (IsBefore-in _ _ _ (first-at_most _ _ c.in_ok-lower.ensures.lookup c.self.invariant))
