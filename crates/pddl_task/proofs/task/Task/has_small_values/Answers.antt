use Rattle.std.proofs.Common.{◌^◌, ◌∙◌, sym}
use Rattle.std.specs.Prelude.{nat_lt}
use Rattle.std.proofs.lemmas.List.Folds.{list_all-map}
use Rattle.pddl_task.specs.Planning.{FunctionValue}
use Rattle.pddl_task.proofs.CostLaws.{stated}
use Rattle.pddl_task.proofs.task.Task.has_small_values.Goals as goal

pub returns : goal.returns
returns c =
    rw (← c.self.view_is)
    (c.are_small.ensures ∙ list_all-map (λ v. nat_lt v (2 ^ 32)) (λ e. e.1) c.self.inside.values.entries
    ∙ sym (list_all-map (λ (v : FunctionValue). nat_lt v.value (2 ^ 32)) stated c.self.inside.values.entries))
