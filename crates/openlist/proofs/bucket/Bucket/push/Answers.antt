use Rattle.std.proofs.Common.{refl}
use Rattle.std.proofs.lemmas.List.Sorted.{IsPermutation-append_left, IsPermutation-map}
use Rattle.openlist.specs.BucketLists.{with_f}
use Rattle.openlist.proofs.BucketOrder.{IsPermutation-pushed_beside}
use Rattle.openlist.proofs.bucket.Bucket.push.Goals as goal

pub returns-then-push-clause-pushed : goal.returns-then-push-clause-pushed
returns-then-push-clause-pushed c =
    rw (← c.self.view_is)
    (IsPermutation-map (with_f c.args.entry.f) _ _
    (IsPermutation-append_left _ _ _ (c.if-push.ensures.pushed refl)))

pub returns-in_ok-push-clause-pushed : goal.returns-in_ok-push-clause-pushed
returns-in_ok-push-clause-pushed c =
    rw (← c.self.view_is, (c.if-push.ensures.unchanged refl))
    (IsPermutation-map (with_f c.args.entry.f) _ _
    (IsPermutation-pushed_beside _ _ _ _ (IsPermutation-map (λ r. r.0) _ _ c.in_ok-push.ensures.permutation)))
