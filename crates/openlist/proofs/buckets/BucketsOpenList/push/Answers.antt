use Rattle.std.specs.Prelude.{Some}
use Rattle.openlist.proofs.FirstEntries.{IsFirstOf-permutation}
use Rattle.openlist.proofs.buckets.BucketsOpenList.push.Goals as goal

pub invariant_of-self : goal.invariant_of-self
invariant_of-self c = IsFirstOf-permutation c.self.inside.first _ _ c.in_err-push.ensures.unchanged c.self.invariant

pub invariant_of-self-2 : goal.invariant_of-self-2
invariant_of-self-2 c =
    IsFirstOf-permutation (Some c.earlier.result) _ _ c.in_ok-push.ensures.pushed (c.earlier.ensures _ c.self.invariant)

pub returns-clause-room : goal.returns-clause-room
returns-clause-room c = rw (← c.self.view_is) c.push.ensures.room
