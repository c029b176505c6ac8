-- Ground actions have the numbers of schemas and objects that are there.
use Rattle.std.proofs.Common.{◌≡◌, ◌<◌, true, ◌&&◌, Some, None, if◌then◌else◌}
use Rattle.std.specs.Prelude.{All, length, slice_get}
use Rattle.std.specs.List.{list_all}
use Rattle.std.proofs.lemmas.Bool.{and_parts}
use Rattle.std.proofs.lemmas.Option.{slice_get_within, cond_some, option_and_then_some}
use Rattle.pddl_laws.proofs.AddedAtoms.{fits_there, instance}
use Rattle.pddl_task.specs.Planning.{PlanningTask, Schema, Action, IsActionOf, fits, equality_holds, has_values, has_instance}

pub action_numbers : (task : PlanningTask) (a : Action) → IsActionOf task a → (a.schema < length task.schemas) × All (λ o. o < length task.object_types) a.objects
action_numbers task a is =
    option_and_then_some (λ (schema : Schema). if has_instance task schema a.objects then Some (instance task a.schema a.objects schema) else None) (slice_get task.schemas a.schema) a is
    (λ (schema : Schema) at made. by schema at (cond_some (has_instance task schema a.objects) (instance task a.schema a.objects schema) a made).0)
  where
    by : (schema : Schema) → slice_get task.schemas a.schema ≡ Some schema → has_instance task schema a.objects ≡ true
        → (a.schema < length task.schemas) × All (λ o. o < length task.object_types) a.objects
    by schema at has =
        let first = and_parts (fits task schema.parameters a.objects && list_all (equality_holds a.objects) schema.precondition) (if task.metric then has_values task a.objects schema.increases else true) has in
        (slice_get_within task.schemas a.schema schema at, (fits_there task schema.parameters a.objects (and_parts (fits task schema.parameters a.objects) (list_all (equality_holds a.objects) schema.precondition) first.0).0).1)
