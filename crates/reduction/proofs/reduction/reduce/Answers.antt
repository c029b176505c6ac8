use Rattle.std.proofs.Common.{◌≡◌, ℕ, ◌<◌, Bool, true, List, length, sym, ap, subst, ◌∙◌, arith}
use Rattle.std.specs.Prelude.{◌↔◌, All}
use Rattle.fdr.specs.Tasks.{FiniteDomainTask}
use Rattle.reduction.specs.Facts.{is_in}
use Rattle.reduction.specs.Asked.{ChangesClass}
use Rattle.reduction.specs.Closing.{is_marked}
use Rattle.reduction.specs.Reductions.{IsExact, retained_task}
use Rattle.reduction.proofs.GroupLaws.{retained_exist}
use Rattle.reduction.proofs.Permutations.{once_few}
use Rattle.reduction.proofs.Exact.{reduction_exact}
use Rattle.reduction.proofs.reduction.reduce.Goals as goal

pub task_with-requires-clause-exist : goal.task_with-requires-clause-exist
task_with-requires-clause-exist c =
    let marked = subst (λ (bs : List Bool). (o : ℕ) → (is_marked bs o ≡ true) ↔ ChangesClass c.args.task.now (is_in c.in_ok-asked.asked.facts) o) (sym c.deref.ensures.value) c.in_ok-asked.ensures.changing in
    subst (All (λ o. o < length c.args.task.now.operators)) (sym c.deref-2.ensures.value)
    (retained_exist c.args.task.now (is_in c.in_ok-asked.asked.facts) c.in_ok-classes.classes c.in_ok-retained.retained.items (c.in_ok-retained.ensures.retained (is_in c.in_ok-asked.asked.facts) marked))

pub task_with-requires-clause-few : goal.task_with-requires-clause-few
task_with-requires-clause-few c =
    let marked = subst (λ (bs : List Bool). (o : ℕ) → (is_marked bs o ≡ true) ↔ ChangesClass c.args.task.now (is_in c.in_ok-asked.asked.facts) o) (sym c.deref.ensures.value) c.in_ok-asked.ensures.changing in
    let few = once_few c.in_ok-retained.retained.items (length c.args.task.now.operators) c.in_ok-retained.ensures.once
    (retained_exist c.args.task.now (is_in c.in_ok-asked.asked.facts) c.in_ok-classes.classes c.in_ok-retained.retained.items (c.in_ok-retained.ensures.retained (is_in c.in_ok-asked.asked.facts) marked)) in
    omega (arith, few, ap (λ (ns : List ℕ). length ns) c.deref-2.ensures.value, c.recall.ensures.limits.operators)

pub returns-clause-reduction : goal.returns-clause-reduction
returns-clause-reduction c =
    let marked = subst (λ (bs : List Bool). (o : ℕ) → (is_marked bs o ≡ true) ↔ ChangesClass c.args.task.now (is_in c.in_ok-asked.asked.facts) o) (sym c.deref.ensures.value) c.in_ok-asked.ensures.changing in
    record {
      asked = is_in c.in_ok-asked.asked.facts;
      are_asked = c.in_ok-asked.ensures.asked;
      classes_by = c.in_ok-classes.ensures;
      are_retained = c.in_ok-retained.ensures.retained (is_in c.in_ok-asked.asked.facts) marked;
      covers = c.in_ok-retained.ensures.covers (is_in c.in_ok-asked.asked.facts) marked;
    }

pub returns-clause-task : goal.returns-clause-task
returns-clause-task c = c.in_ok-reduced.ensures ∙ ap (retained_task c.args.task.now c.in_ok-classes.classes) c.deref-2.ensures.value

pub returns-clause-exact : goal.returns-clause-exact
returns-clause-exact c =
    subst (λ (t : FiniteDomainTask). IsExact c.args.task.now t c.in_ok-retained.retained.items)
    (sym (c.in_ok-reduced.ensures ∙ ap (retained_task c.args.task.now c.in_ok-classes.classes) c.deref-2.ensures.value))
    (reduction_exact c.args.task.now c.in_ok-classes.classes c.in_ok-retained.retained.items c.recall.ensures.task (returns-clause-reduction c))

pub returns-clause-represented : goal.returns-clause-represented
returns-clause-represented c =
    let marked = subst (λ (bs : List Bool). (o : ℕ) → (is_marked bs o ≡ true) ↔ ChangesClass c.args.task.now (is_in c.in_ok-asked.asked.facts) o) (sym c.deref.ensures.value) c.in_ok-asked.ensures.changing in
    c.in_ok-retained.ensures.represented (is_in c.in_ok-asked.asked.facts) c.in_ok-classes.ensures marked
