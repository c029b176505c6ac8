-- The limits of a task, and those of the variables that it is made of.
use Rattle.std.proofs.Common.{◌≡◌, ℕ, zero, suc, ◌+◌, ◌<◌, ◌≤◌, Bool, true, false, cond, List, [], ◌∷◌, Option, Some, refl, sym, ap, ◌∙◌, arith, true≢false}
use Rattle.std.specs.Prelude.{All, length, map, slice_get, nat_lt}
use Rattle.std.specs.List.{list_any, filter_map, cons_option}
use Rattle.std.proofs.lemmas.List.{length-map}
use Rattle.std.proofs.lemmas.List.Elements.{All-head, All-tail}
use Rattle.fdr.specs.Tasks.{IsWithinLimits, IsPastLimit}
use Rattle.fdr.specs.Tasks as finite
use Rattle.fdr.specs.declared.task.TaskLimit.{TaskLimit}
use Rattle.fdr.specs.declared.task.TaskLimit.TheVariants as limit
use Rattle.pddl_task.specs.Atoms.{Atom, contains}
use Rattle.pddl_task.specs.Planning.{PlanningTask, Vocabulary, Action}
use Rattle.ground_theory.specs.Grounding.{actions_over}
use Rattle.ground.specs.Rounds.{max_atoms}
use Rattle.mutex_index.specs.Places.{atoms_at}
use Rattle.translate_theory.specs.Translations.{Variable, translation, value_names_of, range_of, carried, has_operator}
use Rattle.translate_theory.proofs.Ranges.{ranges_are}
use Rattle.translate_theory.specs.Variables.{PlacedVariable, IsPlaced, variable_at, variables_at}
use Rattle.translate_vars.specs.Parts.{value_count, has_long_range, AreWithinLimits, AreFit}

there : {X : Type 0} (xs : List X) (k : ℕ) → k < length xs → (x : X) × (slice_get xs k ≡ Some x)
there [] k l = absurd (omega (arith, l))
there (x ∷ xs) zero l = (x, refl)
there (x ∷ xs) (suc k) l = there xs k (omega (arith, l))

-- as many atoms as places
pub as_many : (atoms : List Atom) (places : List ℕ) → All (λ p. p < length atoms) places → length (atoms_at atoms places) ≡ length places
as_many atoms [] h = refl
as_many atoms (p ∷ places) h = go (there atoms p (All-head (λ q. q < length atoms) p places h)) (as_many atoms places (All-tail (λ q. q < length atoms) p places h))
  where
    go : ((a : Atom) × (slice_get atoms p ≡ Some a)) → length (atoms_at atoms places) ≡ length places → length (atoms_at atoms (p ∷ places)) ≡ suc (length places)
    go (a, e) rest = ap (λ (o : Option Atom). length (cons_option o (atoms_at atoms places))) e ∙ ap suc rest

first_number : List ℕ → ℕ
first_number [] = 0
first_number (n ∷ ns) = n

names_as_values : (names : Vocabulary) (v : Variable) → length (value_names_of names v) ≡ range_of v
unfolding first_number
names_as_values names v = ap first_number (ranges_are names (v ∷ []))

values_as_places : (names : Vocabulary) (atoms : List Atom) (v : PlacedVariable) → IsPlaced (length atoms) v → length (value_names_of names (variable_at atoms v)) ≡ value_count v
values_as_places names atoms v placed =
    names_as_values names (variable_at atoms v) ∙ ap (λ n. cond v.has_none (n + 1) n) (as_many atoms v.places placed.within)

-- a range is too long exactly where a variable has too many values
pub same_ranges : (names : Vocabulary) (atoms : List Atom) (variables : List PlacedVariable) → All (IsPlaced (length atoms)) variables
    → finite.has_long_range (map (value_names_of names) (variables_at atoms variables)) ≡ has_long_range variables
same_ranges names atoms [] h = refl
same_ranges names atoms (v ∷ variables) h =
    rw (values_as_places names atoms v (All-head (IsPlaced (length atoms)) v variables h), same_ranges names atoms variables (All-tail (IsPlaced (length atoms)) v variables h))
    refl

pub same_count : (names : Vocabulary) (atoms : List Atom) (variables : List PlacedVariable) → length (map (value_names_of names) (variables_at atoms variables)) ≡ length variables
same_count names atoms variables = length-map (variables_at atoms variables) (value_names_of names) ∙ length-map variables (variable_at atoms)

module _ (task : PlanningTask) (atoms : List Atom) (actions : List Action) (variables : List PlacedVariable) (placed : All (IsPlaced (length atoms)) variables) where
  pub within_from : length atoms ≤ max_atoms → IsWithinLimits (translation task (variables_at atoms variables) actions) → AreWithinLimits atoms variables
  within_from few limits =
      record {
        few_atoms = few;
        few_variables = let same = same_count task.vocabulary atoms variables in let most = limits.variables in omega (arith, same, most);
        few_values = sym (same_ranges task.vocabulary atoms variables placed) ∙ limits.values;
      }

filter_shorter : {X : Type 0} (f : X → Bool) (xs : List X) → length (Rattle.std.specs.Prelude.filter f xs) ≤ length xs
filter_shorter f [] = omega arith
filter_shorter f (x ∷ xs) = go (f x) (filter_shorter f xs)
  where
    go : (b : Bool) → length (Rattle.std.specs.Prelude.filter f xs) ≤ length xs → length (cond b (x ∷ Rattle.std.specs.Prelude.filter f xs) (Rattle.std.specs.Prelude.filter f xs)) ≤ suc (length xs)
    go true h = omega (arith, h)
    go false h = omega (arith, h)

-- what is fit makes no task that is too large
pub fits : (task : PlanningTask) (atoms : List Atom) (variables : List PlacedVariable) (l : TaskLimit) → All (IsPlaced (length atoms)) variables → AreFit task atoms variables
    → IsPastLimit (translation task (variables_at atoms variables) (actions_over task (contains atoms))) l → ⊥
fits task atoms variables limit.Variables placed fit past =
    let same = same_count task.vocabulary atoms variables in let few = fit.within.few_variables in absurd (omega (arith, same, few, past))
fits task atoms variables limit.Values placed fit past =
    true≢false (sym past.1 ∙ same_ranges task.vocabulary atoms variables placed ∙ fit.within.few_values)
fits task atoms variables limit.Operators placed fit past =
    let fewer = filter_shorter (has_operator (variables_at atoms variables)) (actions_over task (contains atoms)) in
    let few = fit.few_actions in
    let same = length-map (carried (variables_at atoms variables) (actions_over task (contains atoms))) (Rattle.translate_theory.specs.Translations.operator_of task.vocabulary (variables_at atoms variables)) in
    absurd (omega (arith, fewer, few, same, past.1))
