-- What a translation promises of plans, and what is wrong first where it is refused.
use Rattle.std.proofs.Common.{◌≡◌, ℕ, List, refl, sym, subst}
use Rattle.std.specs.Prelude.{◌↔◌, ◌≤◌, All, Some, slice_get, length, Result, Ok, Err, IfOk}
use Rattle.std.specs.List.{AllZip}
use Rattle.std.specs.List.Sorted.{IsNonDecreasingBy}
use Rattle.fdr.specs.Tasks.{FiniteDomainTask, IsWithinLimits, IsPastLimit, IsPlan, plan_cost}
use Rattle.fdr.specs.declared.task.TaskLimit.{TaskLimit}
use Rattle.pddl_task.specs.Atoms.{Atom, contains}
use Rattle.pddl_task.specs.Planning.{PlanningTask, IsPlanningTask, Action}
use Rattle.pddl_task.specs.Plans.{IsValidPlan, total_cost}
use Rattle.ground_theory.specs.Grounding.{AreListedAtoms, AreListedActions, IsLeastClosedSet, actions_over}
use Rattle.ground_atoms.specs.Order.{IsAscending}
use Rattle.mutex_index.specs.Places.{Indexed}
use Rattle.mutex.specs.Candidates.{proposed_groups}
use Rattle.translate_choice.specs.Choices.{least_place}
use Rattle.translate_choice.specs.Greedy.{AreChosen}
use Rattle.ground.specs.Search.{max_actions}
use Rattle.ground.specs.Rounds.{max_atoms, IsPastLimits}
use Rattle.ground.specs.declared.fault.GroundFault.{GroundFault}
use Rattle.ground.specs.declared.fault.GroundFault.TheVariants as ground_fault
use Rattle.ground_theory.proofs.Binding.{over_listed}
use Rattle.translate_theory.specs.Translations.{AreVariables, translation, carried}
use Rattle.translate_theory.proofs.Bounding.{same_plans, bound_forth, bound_back, none_forth, none_back}
use Rattle.translate_theory.proofs.SamePlans.{plan_listed}
use Rattle.translate_theory.specs.Variables.{PlacedVariable, IsPlaced, variables_at}
use Rattle.translate_assembly.specs.Carried.{AreCarriedAt}
use Rattle.translate_assembly.proofs.OperatorLists.{listed_at}
use Rattle.translate_vars.specs.Parts.{AreFit}
use Rattle.translate_vars.specs.Faults.{IsFirstFault}
use Rattle.translate_assembly.specs.declared.assembly.AssemblyFault.{AssemblyFault}
use Rattle.translate_assembly.specs.declared.assembly.AssemblyFault.TheVariants as assembly
use Rattle.translate.specs.Translated.{TranslatedTask, IsTranslation, HasSamePlans, AreChosenParts, IsTooLarge, IsUntranslated, actions_of, parts_fault_of, fault_of_ground, fault_of_assembly, indexed}
use Rattle.translate.proofs.Limits.{fits, within_from}

pub listed_actions : (task : PlanningTask) (atoms : List Atom) (actions : List Action) → actions ≡ actions_over task (contains atoms) → AreListedActions task atoms actions
listed_actions task atoms actions e = subst (AreListedActions task atoms) (sym e) (over_listed task atoms)

-- a task is the translation over atoms and variables, given the actions over the atoms
module _ (task : PlanningTask) (t : TranslatedTask) (placed : All (IsPlaced (length t.atoms)) t.variables) (listed : AreListedAtoms task t.atoms)
    (few : length t.atoms ≤ max_atoms) where
  translation_over : length (actions_of task t) ≤ max_actions → AreVariables task t.atoms (actions_of task t) (variables_at t.atoms t.variables)
      → t.task ≡ translation task (variables_at t.atoms t.variables) (actions_of task t)
      → AreCarriedAt (variables_at t.atoms t.variables) (actions_of task t) t.places → IsWithinLimits t.task → IsTranslation task t
  translation_over few_actions chosen is at limits =
      record {
        placed = placed;
        fit = record {
          within = within_from task t.atoms (actions_of task t) t.variables placed few (subst IsWithinLimits is limits);
          listed = listed;
          few_actions = few_actions;
          chosen = chosen;
        };
        task_is = is;
        carried_at = at;
        actions_are = listed_at (actions_of task t) t.places (carried (variables_at t.atoms t.variables) (actions_of task t)) at.count at.same;
      }

  pub translation_from : (actions : List Action) → actions ≡ actions_of task t → length actions ≤ max_actions
      → AreVariables task t.atoms actions (variables_at t.atoms t.variables) → t.task ≡ translation task (variables_at t.atoms t.variables) actions
      → AreCarriedAt (variables_at t.atoms t.variables) actions t.places → IsWithinLimits t.task → IsTranslation task t
  translation_from actions same few_actions chosen is at limits =
      translation_over
      (subst (λ (listed_ : List Action). length listed_ ≤ max_actions) same few_actions)
      (subst (λ (listed_ : List Action). AreVariables task t.atoms listed_ (variables_at t.atoms t.variables)) same chosen)
      (subst (λ (listed_ : List Action). t.task ≡ translation task (variables_at t.atoms t.variables) listed_) same is)
      (subst (λ (listed_ : List Action). AreCarriedAt (variables_at t.atoms t.variables) listed_ t.places) same at)
      limits

module _ (task : PlanningTask) (t : TranslatedTask) (well : IsPlanningTask task) (made : IsTranslation task t) where
  abbrev actions : List Action
  actions = actions_of task t

  listed : AreListedActions task t.atoms actions
  listed = over_listed task t.atoms

  pub same_plans_are : HasSamePlans task t
  same_plans_are =
      subst (λ (f : FiniteDomainTask). HasSamePlans task (record t { task = f })) (sym made.task_is)
      (record {
        listed = plan_listed task t.atoms actions (variables_at t.atoms t.variables) well made.fit.listed listed made.fit.chosen;
        plans = λ plan cost.
            subst (λ (listed_ : List Action). (IsValidPlan task plan × (total_cost plan ≡ cost))
            ↔ ((os : List ℕ) × AllZip (λ a o. slice_get listed_ o ≡ Some a) plan os
            × IsPlan (translation task (variables_at t.atoms t.variables) actions) os
            × (plan_cost (translation task (variables_at t.atoms t.variables) actions) os ≡ cost)))
            (sym made.actions_are)
            (same_plans task t.atoms actions (variables_at t.atoms t.variables) well made.fit.listed listed made.fit.chosen plan cost);
        bounds = λ bound. (
          bound_forth task t.atoms actions (variables_at t.atoms t.variables) well made.fit.listed listed made.fit.chosen bound,
          bound_back task t.atoms actions (variables_at t.atoms t.variables) well made.fit.listed listed made.fit.chosen bound,
        );
        none = (
          none_forth task t.atoms actions (variables_at t.atoms t.variables) well made.fit.listed listed made.fit.chosen,
          none_back task t.atoms actions (variables_at t.atoms t.variables) well made.fit.listed listed made.fit.chosen,
        );
      })

-- a task that is not grounded has no translation
pub ungrounded_is_untranslated : (task : PlanningTask) (e : GroundFault) → (e ≡ ground_fault.GroundLimit → IsPastLimits task) → IsUntranslated task (fault_of_ground e)
ungrounded_is_untranslated task ground_fault.OutOfMemory h = tt
ungrounded_is_untranslated task ground_fault.GroundLimit h = h refl

-- the fault of an assembly tells which limit is exceeded
pub assembly_is_too_large : (task : PlanningTask) (atoms : List Atom) (variables : List PlacedVariable) (ground_actions : List Action) (e : AssemblyFault)
    → ground_actions ≡ actions_over task (contains atoms)
    → ((l : TaskLimit) → e ≡ assembly.Limit l → IsPastLimit (translation task (variables_at atoms variables) ground_actions) l) → IsTooLarge task atoms variables e
assembly_is_too_large task atoms variables ground_actions assembly.OutOfMemory same h = tt
assembly_is_too_large task atoms variables ground_actions (assembly.Limit l) same h =
    subst (λ (listed_ : List Action). IsPastLimit (translation task (variables_at atoms variables) listed_) l) same (h l refl)

-- what is fit is refused for memory alone
pub large_is_first : (task : PlanningTask) (atoms : List Atom) (variables : List PlacedVariable) (e : AssemblyFault) → All (IsPlaced (length atoms)) variables
    → AreFit task atoms variables → IsTooLarge task atoms variables e → IsFirstFault task atoms variables (parts_fault_of e)
large_is_first task atoms variables assembly.OutOfMemory placed fit h = tt
large_is_first task atoms variables (assembly.Limit l) placed fit h = absurd (fits task atoms variables l placed fit h)

pub large_is_untranslated : (task : PlanningTask) (atoms : List Atom) (variables : List PlacedVariable) (e : AssemblyFault) → AreChosenParts task atoms variables
    → IsTooLarge task atoms variables e → IsUntranslated task (fault_of_assembly e)
large_is_untranslated task atoms variables assembly.OutOfMemory parts h = tt
large_is_untranslated task atoms variables (assembly.Limit l) parts h = (atoms, variables, parts, h)

-- the variables that are chosen from the proposed groups, over the index of the atoms and their actions
pub chosen_parts_are : (task : PlanningTask) (atoms : List Atom) (ground_actions : List Action) (index : Indexed) (groups : List (List ℕ)) (variables : List PlacedVariable)
    → IsLeastClosedSet task (contains atoms) → IsAscending atoms → ground_actions ≡ actions_over task (contains atoms)
    → index ≡ record { task = task; atoms = atoms; actions = ground_actions } → groups ≡ proposed_groups index → AreChosen index groups variables
    → AreVariables index.task index.atoms index.actions (variables_at index.atoms variables) → IsNonDecreasingBy least_place variables
    → AreChosenParts task atoms variables
chosen_parts_are task atoms ground_actions index groups variables least ascending over is proposed chosen fit ordered =
    let same : index ≡ indexed task atoms =
    subst (λ (listed_ : List Action). index ≡ record { task = task; atoms = atoms; actions = listed_ }) over is in
    record {
      least = least;
      ascending = ascending;
      chosen =
          subst (λ (i : Indexed). AreChosen i (proposed_groups i) variables) same
          (subst (λ (gs : List (List ℕ)). AreChosen index gs variables) proposed chosen);
      fit = subst (λ (i : Indexed). AreVariables i.task i.atoms i.actions (variables_at i.atoms variables)) same fit;
      ordered = ordered;
    }

pub if_ok_by_three : {X E : Type 0} (P Q R S : X → Type 0) (r : Result X E) → ((x : X) → P x → Q x → R x → S x) → IfOk r P → IfOk r Q → IfOk r R → IfOk r S
if_ok_by_three P Q R S (Ok x) f p q r = f x p q r
if_ok_by_three P Q R S (Err e) f p q r = tt
