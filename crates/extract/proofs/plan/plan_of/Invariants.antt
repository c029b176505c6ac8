use Rattle.std.proofs.Common.{ℕ, List, ◌+◌, ◌*◌, ◌++◌}
use Rattle.extract.proofs.Following.{IsEntryOf, FollowsParent, parent_in}
use Rattle.extract.proofs.plan.plan_of.Given as goal

abbrev pub invariant-loop-entry : goal.invariant-loop-entry
invariant-loop-entry g l = record {
  there : IsEntryOf l.joined l.entry;
  leads : (back : List ℕ) → FollowsParent l.joined (parent_in l.entry) back
      → FollowsParent l.joined (parent_in l.initial.entry) (l.plan.items ++ back);
}

abbrev pub decreases-loop-entry : goal.decreases-loop-entry
decreases-loop-entry g l = l.entry.rank.cost * 18446744073709551616 + l.entry.rank.steps
