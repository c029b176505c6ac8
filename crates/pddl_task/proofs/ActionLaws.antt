-- The action that a schema and objects name.
use Rattle.std.proofs.Common.{◌≡◌, ℕ, true, false, List, Some, refl}
use Rattle.std.specs.Prelude.{slice_get}
use Rattle.std.specs.List.{filter_map}
use Rattle.pddl_task.specs.Atoms.{Atom, Literal}
use Rattle.pddl_task.specs.Planning.{PlanningTask, Schema, has_instance, literal_of, atoms_of, cost_of_schema, action_of}

-- an action put together from the parts that the schema gives is the one that it names
pub action_of-made : (task : PlanningTask) (number : ℕ) (objects : List ℕ) (schema : Schema) (named : List ℕ) (precondition : List Literal) (adds deletes : List Atom) (cost : ℕ)
    → slice_get task.schemas number ≡ Some schema → has_instance task schema objects ≡ true
    → named ≡ objects
    → precondition ≡ filter_map (literal_of objects) schema.precondition
    → adds ≡ atoms_of objects true schema.effect
    → deletes ≡ atoms_of objects false schema.effect
    → cost ≡ cost_of_schema task objects schema.increases
    → Some (record { schema = number; objects = named; precondition = precondition; adds = adds; deletes = deletes; cost = cost }) ≡ action_of task number objects
action_of-made task number objects schema named precondition adds deletes cost at_number has e p a d k = rw (at_number, has, e, p, a, d, k) refl
