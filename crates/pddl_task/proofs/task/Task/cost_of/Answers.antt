use Rattle.std.proofs.Common.{◌≡◌, ◌∙◌, true, sym, ap, rules}
use Rattle.pddl_task.specs.Planning.{PlanningTask}
use Rattle.pddl_task.proofs.task.Task.cost_of.Goals as goal

pub returns : goal.returns
returns c =
    let metric : c.args.self.now.metric ≡ true = sym (ap (λ (t : PlanningTask). t.metric) c.self.view_is) ∙ c.if-not-self.false in
    let items : c.deref.result.now ≡ c.args.schema.now.increases = search rules in
    rw metric (rw items at c.sum_of.ensures)
