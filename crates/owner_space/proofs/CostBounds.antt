-- The costs of operators lie between the least and the greatest.
use Rattle.std.proofs.Common.{◌≡◌, ℕ, zero, suc, ◌<◌, ◌≤◌, length, ⊎_elim, arith, subst}
use Rattle.std.proofs.lemmas.Bool.{cases_lt}
use Rattle.fdr.specs.Tasks.{FiniteDomainTask, cost_of}
use Rattle.owner_space.specs.Costs.{least_of, greatest_of, least_cost, greatest_cost}

least_below : (task : FiniteDomainTask) (n o : ℕ) → o < n → least_of task n ≤ cost_of task o
least_below task zero o lt = absurd (omega arith)
least_below task (suc n) o lt =
    ⊎_elim (λ (p : o < n). let rest = least_below task n o p in let k : least_of task (suc n) ≤ cost_of task o = omega arith in k)
    (λ (p : n ≤ o). let same : n ≡ o = omega arith in subst (λ (k : ℕ). least_of task (suc n) ≤ cost_of task k) same (omega arith))
    (cases_lt o n)

greatest_below : (task : FiniteDomainTask) (n o : ℕ) → o < n → cost_of task o ≤ greatest_of task n
greatest_below task zero o lt = absurd (omega arith)
greatest_below task (suc n) o lt =
    ⊎_elim (λ (p : o < n). let rest = greatest_below task n o p in let k : cost_of task o ≤ greatest_of task (suc n) = omega arith in k)
    (λ (p : n ≤ o). let same : n ≡ o = omega arith in subst (λ (k : ℕ). cost_of task k ≤ greatest_of task (suc n)) same (omega arith))
    (cases_lt o n)

pub least_at_most : (task : FiniteDomainTask) (o : ℕ) → o < length task.operators → least_cost task ≤ cost_of task o
least_at_most task o lt = least_below task (length task.operators) o lt

pub at_most_greatest : (task : FiniteDomainTask) (o : ℕ) → o < length task.operators → cost_of task o ≤ greatest_cost task
at_most_greatest task o lt = greatest_below task (length task.operators) o lt
