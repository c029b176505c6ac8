use Rattle.std.proofs.Common.{List, ℕ, length, subst, true}
use Rattle.std.proofs.lemmas.List.Sorted.{non_decreasing_from_is_sorted}
use Rattle.std.specs.List.Sorted.{IsNonDecreasing}
use Rattle.fdr.specs.Tasks.{applies_at}
use Rattle.fdr_successors.specs.Applicable.{applicable_operators}
use Rattle.fdr_successors.proofs.Increasing.{sorted_is, same_from_numbers, rising_from_places, rising_from_climbing, climbing_filter}
use Rattle.fdr_successors.proofs.generator.SuccessorGenerator.applicable.Goals as goal

-- what was gathered has the right numbers, and it was sorted
pub returns-then-not-is_sorted-clause-found : goal.returns-then-not-is_sorted-clause-found
returns-then-not-is_sorted-clause-found c =
    let task = c.args.self.now in let state = c.args.state.now in
    sorted_is c.gather.new.found.items c.sort_unstable.new.self.items (applicable_operators task state)
    c.sort_unstable.ensures.permutation c.sort_unstable.ensures.sorted c.in-Ok.ensures
    (climbing_filter (λ o. applies_at task o state) 0 (length task.operators))

-- what was gathered has the right numbers, and it is in order
pub returns-else-not-is_sorted-clause-found : goal.returns-else-not-is_sorted-clause-found
returns-else-not-is_sorted-clause-found c =
    let task = c.args.self.now in let state = c.args.state.now in let found = c.gather.new.found.items in
    let ordered = subst (λ (xs : List ℕ). IsNonDecreasing xs) c.deref.ensures.value
    (non_decreasing_from_is_sorted c.deref.result.now true c.if-not-is_sorted.ensures.cases) in
    same_from_numbers found (applicable_operators task state) (rising_from_places found ordered)
    (rising_from_climbing (applicable_operators task state) (climbing_filter (λ o. applies_at task o state) 0 (length task.operators))) c.in-Ok.ensures
