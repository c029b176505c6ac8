-- Planning tasks, and the ground actions of their schemas.
use Rattle.pddl_task.specs.declared.schema.Term.{Term}
use Rattle.pddl_task.specs.declared.schema.Term.TheVariants.{Parameter, Object}
use Rattle.pddl_task.specs.declared.schema.Condition.{Condition}
use Rattle.pddl_task.specs.declared.schema.Condition.TheVariants.{Positive, Negative, Equal, Different}
use Rattle.pddl_task.specs.declared.schema.Increase.{Increase}
use Rattle.pddl_task.specs.declared.schema.Increase.TheVariants.{Amount, Value}
pub use Rattle.pddl_task.specs.Lifted.{Lifted}
use Rattle.std.specs.Prelude.{◌≡◌, ℕ, zero, suc, ◌<◌, ◌^◌, Bool, true, false, ◌&&◌, ◌||◌, ◌==◌, nat_lt, not, if◌then◌else◌, List, [], ◌∷◌, length, map, Option, Some, None, is_some, unwrap_or, option_and_then, slice_get, slice_index, find, sum_by, All}
use Rattle.std.specs.List.{list_all, filter_map}
use Rattle.std.specs.Option.{option_map, option_map_or}
use Rattle.pddl_task.specs.Atoms.{Atom, Literal, same_atom, is_contradictory}

-- the atom becomes true, or false if the effect is not positive
pub record Effect : Type 0 where
  pub atom : Lifted
  pub positive : Bool

-- an action schema; each parameter is represented by its type, and conditions and effects are in the order of the text
pub record Schema : Type 0 where
  pub parameters : List ℕ
  pub precondition : List Condition
  pub effect : List Effect
  pub increases : List Increase

-- the initial value of a function at objects
pub record FunctionValue : Type 0 where
  pub function : Atom
  pub value : ℕ

-- the names, as bytes, each list in the order of their numbers
pub record Vocabulary : Type 0 where
  pub objects : List (List ℕ)
  pub predicates : List (List ℕ)
  pub functions : List (List ℕ)
  pub schemas : List (List ℕ)

-- The numbers of types, objects, predicates and schemas are their indices in these lists. Type 0 is `object`, its own
-- supertype.
pub record PlanningTask : Type 0 where
  pub supertypes : List ℕ
  pub object_types : List ℕ
  pub arities : List ℕ
  pub schemas : List Schema
  pub initial : List Atom
  pub goal : List Literal
  pub values : List FunctionValue
  pub metric : Bool
  pub vocabulary : Vocabulary

-- the goal does not contain both an atom and its negation
pub record IsPlanningTask (task : PlanningTask) : Type 0 where
  pub goal : is_contradictory task.goal ≡ false

-- a ground action; the number of its schema and its objects identify it, and the rest follows from them
pub record Action : Type 0 where
  pub schema : ℕ
  pub objects : List ℕ
  pub precondition : List Literal
  pub adds : List Atom
  pub deletes : List Atom
  pub cost : ℕ

-- the type is the other one, or reaches it in at most n steps to the supertype
abbrev pub is_below : List ℕ → ℕ → ℕ → ℕ → Bool
is_below supertypes type other zero = type == other
is_below supertypes type other (suc n) = type == other || is_below supertypes (slice_index supertypes type) other n

-- the object exists and belongs to this type
abbrev pub is_of_type : PlanningTask → ℕ → ℕ → Bool
is_of_type task type object =
    option_map_or (λ own. is_below task.supertypes own type (length task.supertypes)) (slice_get task.object_types object) false

-- there are as many objects as parameters, each of the type of its parameter
abbrev pub fits : PlanningTask → List ℕ → List ℕ → Bool
fits task [] [] = true
fits task [] (o ∷ objects) = false
fits task (t ∷ types) [] = false
fits task (t ∷ types) (o ∷ objects) = is_of_type task t o && fits task types objects

-- the object of a term, with these objects for the parameters
abbrev pub object_of : List ℕ → Term → ℕ
object_of objects (Parameter i) = slice_index objects i
object_of objects (Object o) = o

-- the ground atom, with these objects for the parameters
abbrev pub ground_atom : List ℕ → Lifted → Atom
ground_atom objects atom = record { predicate = atom.predicate; objects = map (object_of objects) atom.terms }

-- the ground literal of a condition; an equality condition has none
abbrev pub literal_of : List ℕ → Condition → Option Literal
literal_of objects (Positive atom) = Some (record { atom = ground_atom objects atom; positive = true })
literal_of objects (Negative atom) = Some (record { atom = ground_atom objects atom; positive = false })
literal_of objects (Equal s t) = None
literal_of objects (Different s t) = None

-- the condition holds, if it is an equality condition
abbrev pub equality_holds : List ℕ → Condition → Bool
equality_holds objects (Positive atom) = true
equality_holds objects (Negative atom) = true
equality_holds objects (Equal s t) = object_of objects s == object_of objects t
equality_holds objects (Different s t) = not (object_of objects s == object_of objects t)

-- the ground atoms of the effects with this sign
abbrev pub atoms_of : List ℕ → Bool → List Effect → List Atom
atoms_of objects sign effect =
    filter_map (λ e. if (if e.positive then sign else not sign) then Some (ground_atom objects e.atom) else None) effect

-- the amount of an increase: a number, or the initial value of the function at these objects if it has one
abbrev pub value_of : PlanningTask → List ℕ → Increase → Option ℕ
value_of task objects (Amount n) = Some n
value_of task objects (Value atom) =
    option_map (λ v. v.value) (find (λ v. same_atom (ground_atom objects atom) v.function) task.values)

-- the sum of the increases, counting one without an amount as 0
abbrev pub sum_of_increases : PlanningTask → List ℕ → List Increase → ℕ
sum_of_increases task objects increases = sum_by (λ i. unwrap_or (value_of task objects i) 0) increases

-- the sum of the increases under the metric, and 1 without it
abbrev pub cost_of_schema : PlanningTask → List ℕ → List Increase → ℕ
cost_of_schema task objects increases = if task.metric then sum_of_increases task objects increases else 1

-- each of the increases has an amount
abbrev pub has_values : PlanningTask → List ℕ → List Increase → Bool
has_values task objects increases = list_all (λ i. is_some (value_of task objects i)) increases

-- the objects fit the parameters, the equality conditions hold and, under the metric, each increase has an amount
abbrev pub has_instance : PlanningTask → Schema → List ℕ → Bool
has_instance task schema objects =
    fits task schema.parameters objects && list_all (equality_holds objects) schema.precondition
    && (if task.metric then has_values task objects schema.increases else true)

-- the ground action of the schema with this number for these objects, if it exists
abbrev pub action_of : PlanningTask → ℕ → List ℕ → Option Action
action_of task number objects =
    option_and_then
    (λ schema. if has_instance task schema objects then Some (record {
      schema = number;
      objects = objects;
      precondition = filter_map (literal_of objects) schema.precondition;
      adds = atoms_of objects true schema.effect;
      deletes = atoms_of objects false schema.effect;
      cost = cost_of_schema task objects schema.increases;
    }) else None)
    (slice_get task.schemas number)

-- a ground action of the task
abbrev pub IsActionOf : PlanningTask → Action → Type 0
IsActionOf task a = action_of task a.schema a.objects ≡ Some a

-- an atom of the task: its predicate takes as many objects, and these exist
pub record IsAtomOf (task : PlanningTask) (p : Atom) : Type 0 where
  pub places : slice_get task.arities p.predicate ≡ Some (length p.objects)
  pub objects : All (λ o. o < length task.object_types) p.objects

-- the increase is a number below 2^32, or the value of a function
abbrev pub is_small_increase : Increase → Bool
is_small_increase (Amount n) = nat_lt n (2 ^ 32)
is_small_increase (Value atom) = true

-- there are fewer than 2^31 increases, and each is small
abbrev pub has_small_increases : Schema → Bool
has_small_increases schema = nat_lt (length schema.increases) (2 ^ 31) && list_all is_small_increase schema.increases

-- every initial value is below 2^32
abbrev pub has_small_values : PlanningTask → Bool
has_small_values task = list_all (λ v. nat_lt v.value (2 ^ 32)) task.values

-- every initial value is below 2^32, and every schema has small increases; then every action costs less than 2^63
abbrev pub has_small_costs : PlanningTask → Bool
has_small_costs task = has_small_values task && list_all has_small_increases task.schemas
