-- The translation of a spelled task can be written.
use Rattle.std.proofs.Common.{◌≡◌, ℕ, ◌<◌, ◌≤◌, List, [], ◌∷◌, ◌++◌, Option, Some, None, refl, sym, ap, subst, ◌∙◌, arith}
use Rattle.std.specs.Prelude.{All, length, map, codes, slice_get, option_map, if◌then◌else◌}
use Rattle.std.proofs.lemmas.List.{length-append, length-map}
use Rattle.std.proofs.lemmas.List.Elements.{All-weaker, All-map, All-filter}
use Rattle.std.proofs.lemmas.Option.{slice_get-map}
use Rattle.fdr.specs.Tasks.{FiniteDomainTask, Operator, IsTask, IsWithinLimits}
use Rattle.pddl_task.specs.Atoms.{Atom}
use Rattle.pddl_task.specs.Planning.{PlanningTask, Vocabulary, Action, IsActionOf}
use Rattle.pddl_task.proofs.Lists.{mem_get, all_mem}
use Rattle.ground_theory.proofs.Binding.{over_listed}
use Rattle.pddl.specs.Texts.{SpellTask}
use Rattle.sasfile_writer.specs.TextOrder.{IsName, CanBeWritten}
use Rattle.pddl_laws.proofs.Counts.{spelled_objects, spelled_schemas}
use Rattle.pddl_laws.proofs.WordNames.{spelled_words}
use Rattle.translate_theory.specs.Names.{atom_text, atom_names, none_name}
use Rattle.translate_theory.specs.Translations.{Variable, carried, has_operator, operator_of, value_names_of}
use Rattle.translate_theory.specs.Variables.{PlacedVariable, IsPlaced, variable_at, variables_at}
use Rattle.translate.specs.Translated.{TranslatedTask, IsTranslation, actions_of}
use Rattle.translate.proofs.Limits.{as_many, same_count}
use Rattle.optplan_pddl.proofs.NamedActions.{action_numbers}
use Rattle.optplan_pddl.proofs.PrintedNames.{all_values_are_names, action_is_name}

-- ---- sizes

-- a variable has no fewer values than atoms
enough_values : (names : Vocabulary) (v : Variable) → length v.atoms ≤ length (value_names_of names v)
enough_values names v =
    omega (
      arith,
      length-append (atom_names names v.atoms) (if v.has_none then none_name names v.atoms ∷ [] else []),
      length-map v.atoms (λ (p : Atom). codes "Atom " ++ atom_text names p),
    )

size_within : (names : Vocabulary) (atoms : List Atom) (v : PlacedVariable) → IsPlaced (length atoms) v → length v.places ≤ length (value_names_of names (variable_at atoms v))
size_within names atoms v placed = omega (arith, as_many atoms v.places placed.within, enough_values names (variable_at atoms v))

sizes_within : (names : Vocabulary) (atoms : List Atom) (variables : List PlacedVariable) → All (IsPlaced (length atoms)) variables
    → (v size : ℕ) (ns : List (List ℕ)) → slice_get (map (λ (x : PlacedVariable). length x.places) variables) v ≡ Some size
    → slice_get (map (value_names_of names) (variables_at atoms variables)) v ≡ Some ns → size ≤ length ns
sizes_within names atoms variables placed v size ns e f =
    go (slice_get variables v) refl
    (sym (slice_get-map (λ (x : PlacedVariable). length x.places) variables v) ∙ e)
    (sym (slice_get-map (value_names_of names) (variables_at atoms variables) v ∙ ap (option_map (value_names_of names)) (slice_get-map (variable_at atoms) variables v)) ∙ f)
  where
    go : (r : Option PlacedVariable) → slice_get variables v ≡ r → option_map (λ (x : PlacedVariable). length x.places) r ≡ Some size
        → option_map (value_names_of names) (option_map (variable_at atoms) r) ≡ Some ns → size ≤ length ns
    go None at p q = absurd cc
    go (Some x) at p q =
        let s : length x.places ≡ size = cc in
        let n : value_names_of names (variable_at atoms x) ≡ ns = cc in
        let within = size_within names atoms x (all_mem (IsPlaced (length atoms)) variables x placed (mem_get variables v x at)) in
        omega (arith, s, ap length n, within)

module _ (domain problem : List ℕ) (task : PlanningTask) (t : TranslatedTask) (spelled : SpellTask domain problem task) (made : IsTranslation task t) where
  -- ---- operators

  carried_grounded : All (IsActionOf task) (carried (variables_at t.atoms t.variables) (actions_of task t))
  carried_grounded = All-filter (has_operator (variables_at t.atoms t.variables)) (IsActionOf task) (actions_of task t) (over_listed task t.atoms).grounded

  pub all_operators : (P : Operator → Type 0) → ((a : Action) → IsActionOf task a → P (operator_of task.vocabulary (variables_at t.atoms t.variables) a)) → All P t.task.operators
  all_operators P h =
      subst (λ (f : FiniteDomainTask). All P f.operators) (sym made.task_is)
      (All-map P (operator_of task.vocabulary (variables_at t.atoms t.variables)) (carried (variables_at t.atoms t.variables) (actions_of task t))
      (All-weaker (IsActionOf task) (λ a. P (operator_of task.vocabulary (variables_at t.atoms t.variables) a)) h (carried (variables_at t.atoms t.variables) (actions_of task t)) carried_grounded))

  operator_is_name : (a : Action) → IsActionOf task a → IsName (operator_of task.vocabulary (variables_at t.atoms t.variables) a).name
  operator_is_name a is =
      let numbers = action_numbers task a is in
      action_is_name task.vocabulary (spelled_words domain problem task spelled) a
      (subst (λ (n : ℕ). a.schema < n) (spelled_schemas domain problem task spelled) numbers.0)
      (subst (λ (n : ℕ). All (λ o. o < n) a.objects) (spelled_objects domain problem task spelled) numbers.1)

  -- ---- the task

  pub can_be_written : IsTask t.task → IsWithinLimits t.task → ((a : Action) → IsActionOf task a → a.cost ≤ 2147483647)
      → CanBeWritten t.task (map (λ (v : PlacedVariable). length v.places) t.variables)
  can_be_written ok within costs = record {
    task_ok = ok;
    within = within;
    values = subst (λ (f : FiniteDomainTask). All (λ ns. All IsName ns) f.value_names) (sym made.task_is)
        (all_values_are_names task.vocabulary (spelled_words domain problem task spelled) (variables_at t.atoms t.variables));
    operators = all_operators (λ (op : Operator). IsName op.name) operator_is_name;
    costs = all_operators (λ (op : Operator). op.cost ≤ 2147483647) costs;
    as_many = subst (λ (f : FiniteDomainTask). length (map (λ (v : PlacedVariable). length v.places) t.variables) ≡ length f.value_names) (sym made.task_is)
        (length-map t.variables (λ (v : PlacedVariable). length v.places) ∙ sym (same_count task.vocabulary t.atoms t.variables));
    in_range = subst (λ (f : FiniteDomainTask). (v size : ℕ) (ns : List (List ℕ)) → slice_get (map (λ (x : PlacedVariable). length x.places) t.variables) v ≡ Some size
        → slice_get f.value_names v ≡ Some ns → size ≤ length ns) (sym made.task_is)
        (sizes_within task.vocabulary t.atoms t.variables made.placed);
  }
