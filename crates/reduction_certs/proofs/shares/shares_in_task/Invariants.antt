use Rattle.std.proofs.Common.{◌≡◌, map, filter, ltb}
use Rattle.std.specs.List.{range_with_len}
use Rattle.reduction_certs.specs.InTask.{share_in_task}
use Rattle.reduction_certs.proofs.shares.shares_in_task.Given as goal

abbrev pub invariant-loop-operator : goal.invariant-loop-operator
invariant-loop-operator l =
    l.made.items ≡ map (λ o. record { operator = o; amount = share_in_task l.representatives l.shares o })
    (filter (λ o. ltb 0 (share_in_task l.representatives l.shares o)) (range_with_len 0 l.operator))
