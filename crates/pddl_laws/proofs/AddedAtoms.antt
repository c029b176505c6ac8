-- The atoms that ground actions add name what is there.
use Rattle.std.proofs.Common.{◌≡◌, ◌≤◌, ◌<◌, ◌+◌, ℕ, Bool, true, false, ◌&&◌, List, [], ◌∷◌, ◌++◌, length, refl, subst, arith, if◌then◌else◌}
use Rattle.std.specs.Prelude.{Option, Some, None, slice_get, option_to_list, All}
use Rattle.std.specs.List.{list_all, filter_map}
use Rattle.std.specs.Option.{option_map, option_map_or, IfSome}
use Rattle.std.proofs.lemmas.Bool.{and_parts}
use Rattle.std.proofs.lemmas.List.{length-append, length-map}
use Rattle.std.proofs.lemmas.List.Elements.{All-nil, All-cons, All-head, All-tail, All-append, All-weaker}
use Rattle.std.proofs.lemmas.Option.{slice_get_within, cond_some, option_and_then_some}
use Rattle.sexp.specs.Forms.{Forms, none, word, group}
use Rattle.pddl_names.specs.Names.{with_name, is_there}
use Rattle.pddl_task.specs.Atoms.{Atom}
use Rattle.pddl_task.specs.Lifted.{Lifted}
use Rattle.pddl_task.specs.Planning.{PlanningTask, Schema, Effect, Action, IsActionOf, IsAtomOf, is_of_type, is_below, fits, ground_atom, literal_of, atoms_of, cost_of_schema, equality_holds, has_values, has_instance}
use Rattle.pddl_task.proofs.Lists.{mem_get, all_mem}
use Rattle.pddl_syntax.specs.Typed.{Declared, declared}
use Rattle.pddl_syntax.specs.Parameters.{names_with, type_number, parameter_names}
use Rattle.pddl_syntax.specs.Sections.{Part, behind}
use Rattle.pddl_terms.specs.declared.beginning.Beginning.{Beginning}
use Rattle.pddl_terms.specs.declared.beginning.Beginning.TheVariants.{Conjunction, Negation, Equality, GoalEquality, Increasing, Unread, NoName, Atom as PredicateHead}
use Rattle.pddl_terms.specs.declared.beginning.Setting.TheVariants.{InEffect}
use Rattle.pddl_terms.specs.Beginnings.{beginning}
use Rattle.pddl_terms.specs.Terms.{Scope, lifted}
use Rattle.pddl_effect.specs.Effects as effect
use Rattle.pddl_effect.specs.Effects.{effects, group_effects, effect_of}
use Rattle.pddl_action.specs.declared.keyword.Keyword.TheVariants.{Effect as EffectKeyword}
use Rattle.pddl_action.specs.Keywords.{parts, value_of}
use Rattle.pddl_action.specs.Domains.{Declarations}
use Rattle.pddl_action.specs.Actions.{scope_of, parameters_of, schema_behind, schema_of}
use Rattle.pddl_laws.proofs.LiftedAtoms.{IsLifted, is_lifted, is_atom}

-- ---- the effects of a schema

module _ (scope : Scope) where
  abbrev IsRead : Effect → Type 0
  IsRead e = IsLifted scope.predicates.arities (length scope.variables) (length scope.objects) e.atom

  effect_read : (positive : Bool) (t : List ℕ) (f : Forms) → All IsRead (option_to_list (option_map (effect_of positive) (lifted scope.predicates scope t f)))
  effect_read positive t f = by (lifted scope.predicates scope t f) (is_lifted scope scope.predicates t f) where
    by : (o : Option Lifted) → IfSome o (IsLifted scope.predicates.arities (length scope.variables) (length scope.objects)) → All IsRead (option_to_list (option_map (effect_of positive) o))
    by None h = All-nil IsRead
    by (Some a) h = All-cons IsRead (effect_of positive a) [] h (All-nil IsRead)

  negated_read : (t : List ℕ) (f : Forms) (b : Beginning) → All IsRead (effect.negated_effect scope t f b)
  negated_read t f PredicateHead = effect_read false t f
  negated_read t f Conjunction = All-nil IsRead
  negated_read t f Negation = All-nil IsRead
  negated_read t f Equality = All-nil IsRead
  negated_read t f GoalEquality = All-nil IsRead
  negated_read t f Increasing = All-nil IsRead
  negated_read t f Unread = All-nil IsRead
  negated_read t f NoName = All-nil IsRead

  negated_inside_read : (i : Forms) → All IsRead (effect.negated_inside scope i)
  negated_inside_read none = All-nil IsRead
  negated_inside_read (word s e t f) = negated_read t f (beginning InEffect t)
  negated_inside_read (group s e i f) = All-nil IsRead

  negated_effects_read : (f : Forms) → All IsRead (effect.negated_effects scope f)
  negated_effects_read none = All-nil IsRead
  negated_effects_read (word s e t f) = All-nil IsRead
  negated_effects_read (group s e i f) = negated_inside_read i

  group_read : (t : List ℕ) (f : Forms) (b : Beginning) (inner : List Effect) → All IsRead inner → All IsRead (group_effects scope t f b inner)
  group_read t f Conjunction inner h = h
  group_read t f Negation inner h = negated_effects_read f
  group_read t f PredicateHead inner h = effect_read true t f
  group_read t f Equality inner h = All-nil IsRead
  group_read t f GoalEquality inner h = All-nil IsRead
  group_read t f Increasing inner h = All-nil IsRead
  group_read t f Unread inner h = All-nil IsRead
  group_read t f NoName inner h = All-nil IsRead

  effects_read : (f : Forms) → All IsRead (effects scope f)
  effects_read none = All-nil IsRead
  effects_read (word s e t f) = effects_read f
  effects_read (group s e none f) = effects_read f
  effects_read (group s e (group hs he h i) f) = effects_read f
  effects_read (group s e (word hs he t i) f) =
      All-append IsRead (group_effects scope t i (beginning InEffect t) (effects scope i)) (effects scope f)
      (group_read t i (beginning InEffect t) (effects scope i) (effects_read i)) (effects_read f)

-- names that are counted once are no more than their declarations
few_names : (names : List (List ℕ)) (ds : List Declared) → length (names_with names ds) ≤ length names + length ds
few_names names [] = omega arith
few_names names (d ∷ ds) =
    let here = by (is_there names d.name) refl in
    let later = few_names (with_name names d.name) ds in
    omega (arith, here, later)
  where
    by : (b : Bool) → is_there names d.name ≡ b → length (if b then names else names ++ d.name ∷ []) ≤ length names + 1
    by true e = omega arith
    by false e = omega (arith, length-append names (d.name ∷ []))

-- the effects of a schema name predicates, its parameters, and some of this many objects
pub record IsSchema (arities : List ℕ) (objects : ℕ) (schema : Schema) : Type 0 where
  pub variables : ℕ
  pub few : variables ≤ length schema.parameters
  pub effects : All (λ (e : Effect). IsLifted arities variables objects e.atom) schema.effect

pub schema_read : (d : Declarations) (a : Part) → IsSchema d.predicates.arities (length d.objects) (schema_of d a)
unfolding schema_behind
schema_read d a =
    let ps = parts None (behind a.inside) in
    let list = parameters_of ps in
    record {
      variables = length (parameter_names list);
      few = omega (arith, few_names [] (declared true list), length-map (declared true list) (type_number d.types));
      effects = effects_read (scope_of d (parameter_names list)) (value_of EffectKeyword ps);
    }

-- ---- ground actions

pub fits_there : (task : PlanningTask) (types os : List ℕ) → fits task types os ≡ true → (length types ≡ length os) × All (λ o. o < length task.object_types) os
fits_there task [] [] h = (refl, All-nil (λ (o : ℕ). o < length task.object_types))
fits_there task [] (o ∷ os) h = absurd cc
fits_there task (t ∷ types) [] h = absurd cc
fits_there task (t ∷ types) (o ∷ os) h =
    let both = and_parts (is_of_type task t o) (fits task types os) h in
    let later = fits_there task types os both.1 in
    (omega (arith, later.0), All-cons (λ (n : ℕ). n < length task.object_types) o os (by (slice_get task.object_types o) refl both.0) later.1)
  where
    by : (own : Option ℕ) → slice_get task.object_types o ≡ own → option_map_or (λ n. is_below task.supertypes n t (length task.supertypes)) own false ≡ true → o < length task.object_types
    by (Some n) e k = slice_get_within task.object_types o n e
    by None e k = absurd cc

added_known : (P : Atom → Type 0) (os : List ℕ) (es : List Effect) → All (λ (e : Effect). P (ground_atom os e.atom)) es → All P (atoms_of os true es)
added_known P os [] h = All-nil P
added_known P os (e ∷ es) h = by e.positive (added_known P os es (All-tail (λ (e : Effect). P (ground_atom os e.atom)) e es h))
  where
    by : (b : Bool) → All P (atoms_of os true es) → All P (atoms_of os true (record { atom = e.atom; positive = b } ∷ es))
    by true later = All-cons P (ground_atom os e.atom) (atoms_of os true es) (All-head (λ (e : Effect). P (ground_atom os e.atom)) e es h) later
    by false later = later

-- the action that a schema gives for these objects
abbrev pub instance : PlanningTask → ℕ → List ℕ → Schema → Action
instance task number os schema = record {
  schema = number;
  objects = os;
  precondition = filter_map (literal_of os) schema.precondition;
  adds = atoms_of os true schema.effect;
  deletes = atoms_of os false schema.effect;
  cost = cost_of_schema task os schema.increases;
}

instance_known : (task : PlanningTask) (objects : ℕ) (schema : Schema) (os : List ℕ) → objects ≤ length task.object_types → IsSchema task.arities objects schema → has_instance task schema os ≡ true
    → All (IsAtomOf task) (atoms_of os true schema.effect)
instance_known task objects schema os fewer read has =
    let first = and_parts (fits task schema.parameters os && list_all (equality_holds os) schema.precondition) (if task.metric then has_values task os schema.increases else true) has in
    let fit = fits_there task schema.parameters os (and_parts (fits task schema.parameters os) (list_all (equality_holds os) schema.precondition) first.0).0 in
    let enough : read.variables ≤ length os = omega (arith, read.few, fit.0) in
    added_known (IsAtomOf task) os schema.effect
    (All-weaker (λ (e : Effect). IsLifted task.arities read.variables objects e.atom) (λ (e : Effect). IsAtomOf task (ground_atom os e.atom))
    (λ (e : Effect) h. is_atom task read.variables objects os e.atom enough fewer fit.1 h) schema.effect read.effects)

pub action_known : (task : PlanningTask) (objects : ℕ) → objects ≤ length task.object_types → All (IsSchema task.arities objects) task.schemas → (a : Action) → IsActionOf task a → All (IsAtomOf task) a.adds
action_known task objects fewer read a is =
    option_and_then_some (λ (schema : Schema). if has_instance task schema a.objects then Some (instance task a.schema a.objects schema) else None) (slice_get task.schemas a.schema) a is
    (λ (schema : Schema) at made. by schema at (cond_some (has_instance task schema a.objects) (instance task a.schema a.objects schema) a made))
  where
    by : (schema : Schema) → slice_get task.schemas a.schema ≡ Some schema → (has_instance task schema a.objects ≡ true) × (instance task a.schema a.objects schema ≡ a) → All (IsAtomOf task) a.adds
    by schema at made =
        let here : IsSchema task.arities objects schema = all_mem (IsSchema task.arities objects) task.schemas schema read (mem_get task.schemas a.schema schema at) in
        subst (λ (b : Action). All (IsAtomOf task) b.adds) made.1 (instance_known task objects schema a.objects fewer here made.0)
