-- Values of functions, and small costs.
use Rattle.std.proofs.Common.{◌≡◌, ℕ, zero, suc, ◌^◌, ◌<◌, ◌≤◌, Bool, true, false, cond, List, [], ◌∷◌, length, Option, Some, refl, arith}
use Rattle.std.specs.Prelude.{nat_lt, map, find, unwrap_or, slice_get, sum_by, All}
use Rattle.std.specs.List.{list_all}
use Rattle.std.specs.Option.{option_map}
use Rattle.std.specs.Map.{lookup}
use Rattle.std.proofs.lemmas.Bool.{and_parts, cond_both}
use Rattle.std.proofs.lemmas.List.Elements.{All-nil, All-cons}
use Rattle.std.proofs.lemmas.List.Sums.{sum_by-le}
use borrow.Author.Tests.{ltb-true}
use Rattle.pddl_task.specs.declared.schema.Increase.{Increase}
use Rattle.pddl_task.specs.declared.schema.Increase.TheVariants.{Amount, Value}
use Rattle.pddl_task.specs.Atoms.{Atom, same_atom}
use Rattle.pddl_task.specs.Planning.{PlanningTask, Schema, FunctionValue, value_of, ground_atom, cost_of_schema, is_small_increase, has_small_increases, has_small_values, has_small_costs}

-- an entry of a map of values, as the task states it
abbrev pub stated : Atom × ℕ → FunctionValue
stated e = record { function = e.0; value = e.1 }

-- a look-up in the map finds the stated value
pub value-lookup : (p : Atom) (entries : List (Atom × ℕ)) → option_map (λ (v : FunctionValue). v.value) (find (λ (v : FunctionValue). same_atom p v.function) (map stated entries)) ≡ lookup (same_atom p) entries
value-lookup p [] = refl
value-lookup p (e ∷ entries) = go (same_atom p e.0) (value-lookup p entries)
  where
    rest : Option FunctionValue
    rest = find (λ (v : FunctionValue). same_atom p v.function) (map stated entries)

    go : (b : Bool) → option_map (λ (v : FunctionValue). v.value) rest ≡ lookup (same_atom p) entries
        → option_map (λ (v : FunctionValue). v.value) (cond b (Some (stated e)) rest) ≡ cond b (Some e.1) (lookup (same_atom p) entries)
    go true ih = refl
    go false ih = ih

-- the values of the list being small, so is the one that is found
found_small : (p : Atom) (values : List FunctionValue) → list_all (λ (v : FunctionValue). nat_lt v.value (2 ^ 32)) values ≡ true
    → unwrap_or (option_map (λ (v : FunctionValue). v.value) (find (λ (v : FunctionValue). same_atom p v.function) values)) 0 ≤ 2 ^ 32
found_small p [] h = omega arith
found_small p (v ∷ values) h =
    let parts = and_parts (nat_lt v.value (2 ^ 32)) (list_all (λ (v : FunctionValue). nat_lt v.value (2 ^ 32)) values) h in
    go (same_atom p v.function) (ltb-true v.value (2 ^ 32) parts.0) (found_small p values parts.1)
  where
    rest : Option FunctionValue
    rest = find (λ (v : FunctionValue). same_atom p v.function) values

    go : (b : Bool) → v.value < 2 ^ 32 → unwrap_or (option_map (λ (v : FunctionValue). v.value) rest) 0 ≤ 2 ^ 32
        → unwrap_or (option_map (λ (v : FunctionValue). v.value) (cond b (Some v) rest)) 0 ≤ 2 ^ 32
    go true small ih = omega arith
    go false small ih = ih

value_small : (task : PlanningTask) (objects : List ℕ) (i : Increase) → has_small_values task ≡ true → is_small_increase i ≡ true
    → unwrap_or (value_of task objects i) 0 ≤ 2 ^ 32
value_small task objects (Amount n) h e = let l = ltb-true n (2 ^ 32) e in omega arith
value_small task objects (Value atom) h e = found_small (ground_atom objects atom) task.values h

all_small : (task : PlanningTask) (objects : List ℕ) (is : List Increase) → has_small_values task ≡ true → list_all is_small_increase is ≡ true
    → All (λ i. unwrap_or (value_of task objects i) 0 ≤ 2 ^ 32) is
all_small task objects [] h e = All-nil (λ i. unwrap_or (value_of task objects i) 0 ≤ 2 ^ 32)
all_small task objects (i ∷ is) h e =
    let parts = and_parts (is_small_increase i) (list_all is_small_increase is) e in
    All-cons (λ i. unwrap_or (value_of task objects i) 0 ≤ 2 ^ 32) i is (value_small task objects i h parts.0) (all_small task objects is h parts.1)

-- small increases come to a small cost
schema_small : (task : PlanningTask) (objects : List ℕ) (schema : Schema) → has_small_values task ≡ true → has_small_increases schema ≡ true
    → cost_of_schema task objects schema.increases < 2 ^ 64
schema_small task objects schema h e =
    let parts = and_parts (nat_lt (length schema.increases) (2 ^ 31)) (list_all is_small_increase schema.increases) e in
    let few = ltb-true (length schema.increases) (2 ^ 31) parts.0 in
    let sum = sum_by-le (λ i. unwrap_or (value_of task objects i) 0) (2 ^ 32) schema.increases (all_small task objects schema.increases h parts.1) in
    cond_both task.metric (sum_by (λ i. unwrap_or (value_of task objects i) 0) schema.increases) 1 (λ n. n < 2 ^ 64) (λ e. omega arith) (λ e. omega arith)

schemas_small : (task : PlanningTask) (objects : List ℕ) (schemas : List Schema) (n : ℕ) (schema : Schema) → has_small_values task ≡ true
    → list_all has_small_increases schemas ≡ true → slice_get schemas n ≡ Some schema → cost_of_schema task objects schema.increases < 2 ^ 64
schemas_small task objects [] n schema h e at_n = cc at_n
schemas_small task objects (s ∷ schemas) zero schema h e at_n =
    let same : s ≡ schema = cc at_n in
    let parts = and_parts (has_small_increases s) (list_all has_small_increases schemas) e in
    schema_small task objects schema h (rw same at parts.0)
schemas_small task objects (s ∷ schemas) (suc n) schema h e at_n =
    schemas_small task objects schemas n schema h (and_parts (has_small_increases s) (list_all has_small_increases schemas) e).1 at_n

-- where costs are small, the cost of each action of a schema of the task is
pub cost_small : (task : PlanningTask) (objects : List ℕ) (n : ℕ) (schema : Schema) → has_small_costs task ≡ true → slice_get task.schemas n ≡ Some schema
    → cost_of_schema task objects schema.increases < 2 ^ 64
cost_small task objects n schema h at_n =
    let parts = and_parts (has_small_values task) (list_all has_small_increases task.schemas) h in
    schemas_small task objects task.schemas n schema parts.0 parts.1 at_n
