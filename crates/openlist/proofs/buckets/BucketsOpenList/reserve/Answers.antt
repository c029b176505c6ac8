use Rattle.openlist.proofs.FirstEntries.{IsFirstOf-permutation}
use Rattle.openlist.proofs.buckets.BucketsOpenList.reserve.Goals as goal

pub invariant_of-self : goal.invariant_of-self
invariant_of-self c = IsFirstOf-permutation c.self.inside.first _ _ c.reserve.ensures.entries c.self.invariant
