use Rattle.std.proofs.Common.{◌≡◌, sym, ap, ◌∙◌, List, map}
use Rattle.std.specs.Prelude.{Vec}
use Rattle.std.proofs.lemmas.List.{at_drop_all}
use Rattle.std.specs.Global.{Global}
use Rattle.cost.specs.Distances.{Distance, Finite, distance_of, is_at_most}
use Rattle.abstraction.specs.Columns.{column_value, heuristic}
use Rattle.checker_tables.specs.MappedTables.{MappedTable, on_abstraction, column_of}
use Rattle.checker_tables.specs.Rests.{rest_of}
use Rattle.checker_tables.proofs.BoundLaws.{something_left}
use Rattle.checker_tables.proofs.ColumnLaws.{reached_at, whole_bound}
use Rattle.checker_tables.proofs.heuristic.Heuristic.reaches.Goals as goal

pub returns-then-column_reaches : goal.returns-then-column_reaches
returns-then-column_reaches c =
    let inside = c.self.inside in
    let cs = c.deref-column-items.result.now in
    let rest = distance_of c.rest_of-rest.result in
    let left : rest ≡ rest_of c.args.bound (Finite c.args.cost) = c.rest_of-rest.ensures ∙ ap (λ (b : Distance). rest_of b (Finite c.args.cost)) (sym c.get.ensures.value) in
    rw (← c.self.view_is)
    (sym (whole_bound c.args.bound c.args.cost rest inside.task.now inside.columns.items c.args.state.now left inside.of_task
    ∙ ap (λ (xs : List (Vec MappedTable Global)). is_at_most rest (heuristic (map column_of xs) c.args.state.now)) (sym c.deref-column-items.ensures.value)
    ∙ sym c.loop-column.invariant
    ∙ reached_at cs c.args.state.now rest c.loop-column.column-index c.column-item.result c.loop-column-test.true c.column-item.is
    (sym c.if-column_reaches.true ∙ c.column_reaches.ensures
    ∙ ap (λ (ts : List MappedTable). is_at_most rest (column_value c.args.state.now (map on_abstraction ts))) c.deref.ensures.value)))

pub returns : goal.returns
returns c =
    let inside = c.self.inside in
    let cs = c.deref-column-items.result.now in
    let rest = distance_of c.rest_of-rest.result in
    let left : rest ≡ rest_of c.args.bound (Finite c.args.cost) = c.rest_of-rest.ensures ∙ ap (λ (b : Distance). rest_of b (Finite c.args.cost)) (sym c.get.ensures.value) in
    rw (← c.self.view_is)
    (sym (whole_bound c.args.bound c.args.cost rest inside.task.now inside.columns.items c.args.state.now left inside.of_task
    ∙ ap (λ (xs : List (Vec MappedTable Global)). is_at_most rest (heuristic (map column_of xs) c.args.state.now)) (sym c.deref-column-items.ensures.value)
    ∙ sym c.loop-column.invariant
    ∙ at_drop_all (λ (xs : List (Vec MappedTable Global)). is_at_most rest (heuristic (map column_of xs) c.args.state.now)) cs c.loop-column.column-index c.loop-column-test.false
    ∙ something_left c.rest_of-rest.result (sym c.eq.ensures ∙ c.if-eq.false)))
