use Rattle.std.proofs.Common.{◌≡◌, ◌<◌, ℕ, List, length, All, ap, sym, subst, ◌∙◌, arith}
use Rattle.std.specs.Prelude.{IfOk}
use Rattle.std.specs.List.{range_with_len}
use Rattle.std.proofs.lemmas.List.FromFn.{length-range_with_len}
use Rattle.fdr.specs.Tasks.{FiniteDomainTask, Operator}
use Rattle.reduction_classes.specs.Reduced.{reduced_with, chosen}
use Rattle.reduction_classes.proofs.Limits.{below_all, chosen_all}
use Rattle.reduction_classes.proofs.classes.Classes.task.Goals as goal

pub task_with-requires-clause-exist : goal.task_with-requires-clause-exist
task_with-requires-clause-exist c =
    let n : ℕ = length c.args.task.now.operators in
    let known : c.deref.result.now ≡ range_with_len 0 n = c.deref.ensures.value ∙ c.in_ok-numbers.ensures ∙ ap (range_with_len 0) c.operator_count.ensures in
    subst (All (λ (o : ℕ). o < n)) (sym known) (below_all n)

pub task_with-requires-clause-few : goal.task_with-requires-clause-few
task_with-requires-clause-few c =
    let n : ℕ = length c.args.task.now.operators in
    let known : c.deref.result.now ≡ range_with_len 0 n = c.deref.ensures.value ∙ c.in_ok-numbers.ensures ∙ ap (range_with_len 0) c.operator_count.ensures in
    let long = ap length known in
    omega (arith, long, length-range_with_len 0 n, c.recall.ensures.limits.operators)

pub returns : goal.returns
returns c =
    let task : FiniteDomainTask = c.args.task.now in
    let classes : List (List ℕ) = c.args.self.now in
    let known : c.deref.result.now ≡ range_with_len 0 (length task.operators) = c.deref.ensures.value ∙ c.in_ok-numbers.ensures ∙ ap (range_with_len 0) c.operator_count.ensures in
    let all : chosen task.operators c.deref.result.now ≡ task.operators = ap (chosen task.operators) known ∙ chosen_all task.operators in
    subst (λ (os : List Operator). IfOk c.task_with.result (λ t. t ≡ reduced_with classes task os)) all c.task_with.ensures
