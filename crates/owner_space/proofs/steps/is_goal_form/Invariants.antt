use Rattle.std.proofs.Common.{◌≡◌, drop}
use Rattle.std.specs.List.{list_all}
use Rattle.fdr.specs.Tasks.{ranges, holds, is_goal_state}
use Rattle.owner_space.proofs.steps.is_goal_form.Given as goal

abbrev pub invariant-loop-fact : goal.invariant-loop-fact
invariant-loop-fact g l =
    let state = g.F.StateForm.values (ranges l.task) l.form in
    list_all (holds state) (drop l.fact-index l.fact-items) ≡ is_goal_state l.task state
