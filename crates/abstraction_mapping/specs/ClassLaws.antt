-- The abstraction by a mapping is a projection to its variables, with classes for values and numbers of classes for
-- ranges.
use Rattle.std.proofs.Common.{◌≡◌, ℕ, Bool, true, false, List, [], ◌∷◌, Option, Some, None, refl, ap, cond}
use Rattle.std.specs.Prelude.{nat_eq, option_and_then, option_map, slice_get}
use Rattle.std.specs.List.{find, list_all}
use Rattle.std.specs.List.Sorted.{IsStrictlyIncreasing}
use Rattle.fdr.specs.declared.fact.Fact.{Fact}
use Rattle.fdr.specs.Tasks.{FiniteDomainTask, Operator, ranges, IsTask, IsAssignment}
use Rattle.abstraction.specs.Facts.{value_in}
use Rattle.abstraction.specs.Projections.{size_of, agrees, index_after, transition_of}
use Rattle.abstraction_domain.specs.Domains.{variables, class_counts, class_fact, class_facts, class_operator}
use Rattle.abstraction_domain.specs.DomainLaws.{class_assignment}
use Rattle.abstraction_mapping.specs.declared.table.TableAbstraction.{TableAbstraction}
use Rattle.abstraction_mapping.specs.declared.table.TableAbstraction.TheVariants as table
use Rattle.abstraction_mapping.specs.Mappings.{Mapping, Pattern, Domains, variables_of, abstraction_by, counts_by, fact_by, facts_by}
use Rattle.abstraction_mapping.specs.Views.{task_in, mapping_in, counts_in}

-- the number of abstract states
pub size_by : (task : FiniteDomainTask) (mapping : Mapping) → (abstraction_by task mapping).size ≡ size_of (counts_by mapping (ranges task)) (variables_of mapping)
size_by task (Pattern pattern) = refl
size_by task (Domains rows) = refl

-- the abstract goals
pub goal_by : (task : FiniteDomainTask) (mapping : Mapping) (i : ℕ)
    → (abstraction_by task mapping).is_goal i ≡ list_all (agrees (counts_by mapping (ranges task)) (variables_of mapping) i) (facts_by mapping task.goal)
goal_by task (Pattern pattern) i = refl
goal_by task (Domains rows) i = refl

-- the transition of an operator
pub transition_by : (task : FiniteDomainTask) (mapping : Mapping) (i o : ℕ) (op : Operator) → slice_get task.operators o ≡ Some op
    → (abstraction_by task mapping).transition i o
    ≡ cond (list_all (agrees (counts_by mapping (ranges task)) (variables_of mapping) i) (facts_by mapping op.precondition))
    (Some (index_after (counts_by mapping (ranges task)) (variables_of mapping) i (facts_by mapping op.effect))) None
transition_by task (Pattern pattern) i o op e = ap (λ (r : Option Operator). option_and_then (transition_of (ranges task) pattern i) r) e
transition_by task (Domains rows) i o op e =
    ap (λ (r : Option Operator). option_and_then (λ x. transition_of (class_counts rows (ranges task)) (variables rows) i (class_operator rows x)) r) e

-- the class in a fact of a list is the class of its value
pub value_by : (mapping : Mapping) (facts : List Fact) (v : ℕ) → value_in (facts_by mapping facts) v ≡ option_map (λ f. (fact_by mapping f).value) (find (λ f. nat_eq f.variable v) facts)
value_by (Pattern pattern) facts v = refl
value_by (Domains rows) facts v = classes_found facts
  where
    classes_found : (fs : List Fact) → value_in (class_facts rows fs) v ≡ option_map (λ f. (class_fact rows f).value) (find (λ f. nat_eq f.variable v) fs)
    classes_found [] = refl
    classes_found (f ∷ fs) = go (nat_eq f.variable v) (classes_found fs)
      where
        go : (b : Bool) → value_in (class_facts rows fs) v ≡ option_map (λ x. (class_fact rows x).value) (find (λ x. nat_eq x.variable v) fs)
            → option_map (λ x. x.value) (cond b (Some (class_fact rows f)) (find (λ x. nat_eq x.variable v) (class_facts rows fs)))
            ≡ option_map (λ x. (class_fact rows x).value) (cond b (Some f) (find (λ x. nat_eq x.variable v) fs))
        go true e = refl
        go false e = e

pub is_task_in : (a : TableAbstraction) → IsTask (task_in a)
is_task_in (table.Projection p) = p.is_task
is_task_in (table.Domain d) = d.is_task

-- the variables are strictly increasing
pub increasing_in : (a : TableAbstraction) → IsStrictlyIncreasing (variables_of (mapping_in a))
increasing_in (table.Projection p) = p.increasing
increasing_in (table.Domain d) = d.increasing

-- an assignment with classes for values is an assignment
pub classes_assigned : (a : TableAbstraction) (facts : List Fact) → IsAssignment (ranges (task_in a)) facts → IsAssignment (counts_in a) (facts_by (mapping_in a) facts)
classes_assigned (table.Projection p) facts ok = ok
classes_assigned (table.Domain d) facts ok = class_assignment (ranges d.task) d.rows d.fit facts ok
