use Rattle.std.proofs.Common.{refl, ◌∙◌}
use Rattle.openlist.proofs.BucketLaws.{entries_beside-same}
use Rattle.openlist.proofs.bucket_array.BucketArrayOpenList.reserve.Goals as goal

pub returns-in_err-begin_reserve-clause-entries : goal.returns-in_err-begin_reserve-clause-entries
returns-in_err-begin_reserve-clause-entries c =
    rw (← c.self.view_is) (entries_beside-same _ _ _ _ c.in_err-begin_reserve.ensures.entries refl)

pub returns-in_err-reserve_near-clause-entries : goal.returns-in_err-reserve_near-clause-entries
returns-in_err-reserve_near-clause-entries c =
    rw (← c.self.view_is)
    (entries_beside-same _ _ _ _
    (λ f. c.in_err-reserve_near.ensures.entries f ∙ c.in_ok-begin_reserve.ensures.entries f) refl)

pub returns-clause-entries : goal.returns-clause-entries
returns-clause-entries c =
    rw (← c.self.view_is)
    (entries_beside-same _ _ _ _
    (λ f. c.in_ok-reserve_near.ensures.entries f ∙ c.in_ok-begin_reserve.ensures.entries f) c.reserve_more.ensures.entries)
