use Rattle.std.proofs.Common.{List, [], ap, ◌∙◌, subst}
use Rattle.fdr.specs.declared.fact.Fact.{Fact}
use Rattle.fdr.specs.Tasks.{FiniteDomainTask}
use Rattle.abstraction_mapping.specs.Mappings.{variables_of, facts_by}
use Rattle.abstraction_mapping.specs.Views.{task_in, mapping_in, abstraction_in, counts_in}
use Rattle.checker_tables.specs.Moves.{AreMoves, AreGoals, IsGathered}
use Rattle.checker_tables.proofs.OperatorFalls.{goals_are, ok_through}
use Rattle.checker_tables.proofs.transitions.goal_moves.Goals as goal

pub returns : goal.returns
returns c =
    let a = c.args.abstraction.now in
    let m = c.in_ok-goals.goals in
    let are = c.goal.ensures.value ∙ ap (λ (t : FiniteDomainTask). t.goal) c.task.ensures in
    let made = subst (λ (fs : List Fact). AreMoves (counts_in a) (variables_of (mapping_in a)) 1 (facts_by (mapping_in a) fs) (facts_by (mapping_in a) []) m) are c.in_ok-goals.ensures in
    ok_through (IsGathered m) (AreGoals (abstraction_in a)) c.gathered.result (λ n g. goals_are (task_in a) (mapping_in a) (facts_by (mapping_in a) []) m n made g) c.gathered.ensures
