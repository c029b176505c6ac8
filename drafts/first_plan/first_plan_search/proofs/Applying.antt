-- The operators that apply in a state.
use Rattle.std.proofs.Common.{◌≡◌, refl, ℕ, ◌<◌, Bool, true, false, List, length, Option, Some, None, All, sym, ap, ◌∙◌, subst, true≢false, arith}
use Rattle.std.specs.Prelude.{slice_get, IfSome}
use Rattle.std.specs.Option.{option_map_or}
use Rattle.std.specs.List.{range_with_len}
use Rattle.std.proofs.lemmas.List.Elements.{filter_passes}
use Rattle.std.proofs.lemmas.Option.{slice_get_within}
use Rattle.fdr.specs.Tasks.{FiniteDomainTask, Operator, applies, applies_at}
use Rattle.fdr_successors.specs.Applicable.{applicable_operators}
use Rattle.scp.specs.Places.{PlacesOf}
use Rattle.first_plan_search.specs.Expanding.{IsExpanding}

all_apply : (task : FiniteDomainTask) (s os : List ℕ) → os ≡ applicable_operators task s → All (λ o. applies_at task o s ≡ true) os
all_apply task s os is =
    subst (λ (l : List ℕ). All (λ o. applies_at task o s ≡ true) l) (sym is)
    (filter_passes (λ o. applies_at task o s) (range_with_len 0 (length task.operators)))

-- after a state was entered and its operators were found
pub expanding : (task : FiniteDomainTask) (before after : PlacesOf) (buffer found state : List ℕ) → before.task ≡ task → after ≡ record before { state = state }
    → length buffer ≡ length task.value_names → found ≡ applicable_operators task state → IsExpanding task after buffer found
expanding task before after buffer found state of_task is long are =
    record {
      of_task = ap (λ (p : PlacesOf). p.task) is ∙ of_task;
      as_long = long;
      apply = subst (λ (s : List ℕ). All (λ o. applies_at task o s ≡ true) found) (sym (ap (λ (p : PlacesOf). p.state) is)) (all_apply task state found are);
    }

-- an operator that applies is one of the task's
pub is_operator : (task : FiniteDomainTask) (o : ℕ) (s : List ℕ) → applies_at task o s ≡ true → o < length task.operators
is_operator task o s h = go (slice_get task.operators o) refl h
  where
    go : (r : Option Operator) → slice_get task.operators o ≡ r → option_map_or (λ op. applies op s) r false ≡ true → o < length task.operators
    go None e k = absurd (true≢false (sym k))
    go (Some op) e k = slice_get_within task.operators o op e
