use Rattle.std.proofs.Common.{◌≡◌, ℕ, ◌<◌, length, map, sym, ap, subst, ◌∙◌}
use Rattle.std.specs.Prelude.{All, Vec, slice_index}
use Rattle.std.specs.Global.{Global}
use Rattle.std.specs.List.{range_with_len}
use Rattle.std.specs.List.Sorted.{IsPermutation}
use Rattle.std.proofs.lemmas.Result.{IfOk-weaker}
use Rattle.fdr.specs.Tasks.{FiniteDomainTask}
use Rattle.reduction.proofs.Permutations.{read_in_order, places_exist, retained_count}
use Rattle.reduction.proofs.ordering.in_walk_order.Goals as goal

pub numbers_at-requires : goal.numbers_at-requires
numbers_at-requires c =
    let many = ap (λ (t : FiniteDomainTask). length t.operators) c.in_ok-reduced.ensures ∙ retained_count c.args.task.now c.args.classes.now c.args.numbers.now c.requires.exist in
    let moved = subst (λ (n : ℕ). IsPermutation (range_with_len 0 n) c.in_ok-order.order.items) many c.in_ok-order.ensures in
    subst (All (λ k. k < length c.args.numbers.now)) (sym c.deref.ensures.value) (places_exist (length c.args.numbers.now) c.in_ok-order.order.items moved)

pub returns : goal.returns
returns c =
    let many = ap (λ (t : FiniteDomainTask). length t.operators) c.in_ok-reduced.ensures ∙ retained_count c.args.task.now c.args.classes.now c.args.numbers.now c.requires.exist in
    let moved = subst (λ (n : ℕ). IsPermutation (range_with_len 0 n) c.in_ok-order.order.items) many c.in_ok-order.ensures in
    IfOk-weaker c.numbers_at.result
    (λ (chosen : Vec ℕ Global). chosen.items ≡ map (slice_index c.args.numbers.now) c.deref.result.now)
    (λ (ordered : Vec ℕ Global). IsPermutation c.args.numbers.now ordered.items)
    (λ chosen e. read_in_order c.args.numbers.now c.in_ok-order.order.items chosen.items moved (e ∙ ap (map (slice_index c.args.numbers.now)) c.deref.ensures.value))
    c.numbers_at.ensures
