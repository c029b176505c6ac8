use Rattle.std.proofs.Common.{◌∙◌, sym, ap}
use Rattle.std.specs.Map.{lookup}
use Rattle.pddl_task.specs.Atoms.{Atom, same_atom}
use Rattle.pddl_task.specs.Planning.{ground_atom}
use Rattle.pddl_task.proofs.CostLaws.{value-lookup}
use Rattle.pddl_task.proofs.task.Task.value_of.Goals as goal

pub returns-in_ok-atom-in-Value : goal.returns-in_ok-atom-in-Value
returns-in_ok-atom-in-Value c =
    rw (c.in-Value.is, ← c.self.view_is)
    (c.copied.ensures ∙ c.get.ensures.value ∙ ap (λ (p : Atom). lookup (same_atom p) c.self.inside.values.entries) c.in_ok-atom-in-Value.ensures
    ∙ sym (value-lookup (ground_atom c.args.objects.now c.in-Value.atom) c.self.inside.values.entries))
