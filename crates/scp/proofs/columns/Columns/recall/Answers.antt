use Rattle.scp.proofs.SameColumns.{lower_bound}
use Rattle.scp.proofs.CostPartitioned.{partitioned, small}
use Rattle.scp.proofs.columns.Columns.recall.Goals as goal

pub returns-clause-partitioned : goal.returns-clause-partitioned
returns-clause-partitioned c =
    let kept = c.self.inside in
    partitioned kept.task.now kept.columns.items kept.of_task kept.few_columns kept.none_empty kept.few kept.divided c.args.self.now c.self.view_is

pub returns-clause-bound : goal.returns-clause-bound
returns-clause-bound c plan state ok leads =
    let kept = c.self.inside in
    lower_bound kept.task.now kept.columns.items kept.of_task c.recall.ensures.task kept.divided c.args.self.now c.self.view_is state plan ok leads

pub returns-clause-small : goal.returns-clause-small
returns-clause-small c state ok =
    let kept = c.self.inside in
    small kept.task.now kept.columns.items kept.of_task kept.few_columns kept.none_empty kept.few c.args.self.now c.self.view_is state
