use Rattle.std.proofs.Common.{◌^◌, ◌∙◌, sym, ap, subst}
use Rattle.std.proofs.lemmas.Simd.{map-map}
use Rattle.fdr.specs.Tasks.{ranges, IsState, plan_cost}
use Rattle.cost.specs.Distances.{Finite, ◌≤ᵈ◌, IsWithin, greatest}
use Rattle.abstraction.specs.Columns.{column_value}
use Rattle.scp.specs.Partitions.{ColumnsOf}
use Rattle.scp.proofs.SameColumns.{column_in, same_heuristic, lower_bound}
use Rattle.scp.proofs.CostPartitioned.{small}
use Rattle.scp.proofs.columns.Columns.h.Goals as goal

pub returns-clause-value : goal.returns-clause-value
returns-clause-value c =
    let kept = c.self.inside in
    let state = c.args.state.now in
    let ok = subst (λ (v : ColumnsOf). IsState (ranges v.task) state) (sym c.self.view_is) c.requires in
    c.flat_value.ensures ∙ kept.flat_value state ok ∙ ap greatest (sym (map-map (column_value state) column_in kept.columns.items))
    ∙ (rw (← c.self.view_is) (same_heuristic kept.task.now kept.columns.items kept.of_task state))

pub returns-clause-bound : goal.returns-clause-bound
returns-clause-bound c plan leads =
    subst (λ d. d ≤ᵈ Finite (plan_cost c.args.self.now.task plan)) (sym (returns-clause-value c))
    (lower_bound c.self.inside.task.now c.self.inside.columns.items c.self.inside.of_task c.recall.ensures.task c.self.inside.divided c.args.self.now c.self.view_is c.args.state.now plan c.requires leads)

pub returns-clause-small : goal.returns-clause-small
returns-clause-small c =
    let kept = c.self.inside in
    subst (IsWithin (2 ^ 61)) (sym (returns-clause-value c))
    (small kept.task.now kept.columns.items kept.of_task kept.few_columns kept.none_empty kept.few c.args.self.now c.self.view_is c.args.state.now)
