use Rattle.std.proofs.Common.{◌∙◌, sym, ap, subst}
use Rattle.std.proofs.lemmas.Simd.{map-map}
use Rattle.fdr.specs.Tasks.{ranges, IsState}
use Rattle.cost.specs.Distances.{greatest}
use Rattle.abstraction.specs.Columns.{column_value}
use Rattle.scp.specs.Partitions.{ColumnsOf}
use Rattle.scp.proofs.SameColumns.{column_in, same_heuristic}
use Rattle.scp.proofs.columns.Columns.places.Goals as goal

pub new-requires-clause-value : goal.new-requires-clause-value
new-requires-clause-value c state ok =
    let kept = c.self.inside in
    let own = subst (λ (v : ColumnsOf). IsState (ranges v.task) state) (sym c.self.view_is) ok in
    kept.flat_value state own ∙ ap greatest (sym (map-map (column_value state) column_in kept.columns.items))
    ∙ (rw (← c.self.view_is) (same_heuristic kept.task.now kept.columns.items kept.of_task state))
