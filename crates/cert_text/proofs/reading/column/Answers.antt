use Rattle.std.proofs.Common.{◌≡◌, ◌++◌, ◌∷◌, [], map}
use Rattle.std.proofs.lemmas.Result.{err_from_is_err_and}
use Rattle.std.proofs.lemmas.List.{map_push}
use Rattle.std.specs.Prelude.{Ok}
use Rattle.cert_text.specs.Reading.{behind, table_at}
use Rattle.cert_text.specs.Cursors.{remaining}
use Rattle.cert_value.specs.Views as view
use Rattle.cert_text.proofs.Repeating.{fails_first, then_is, goes_on, stops}
use Rattle.cert_text.proofs.reading.column.Goals as goal

pub returns-in_err-table : goal.returns-in_err-table
returns-in_err-table c =
    let p = err_from_is_err_and c.from_residual-in_err-table.result c.from_residual-in_err-table.ensures.1 in
    let e = c.in_err-table.field-0.0 in
    let r = remaining c.loop.next in
    rw (p.1, p.2) (stops (behind (table_at c.args.version)) e c.in_ok-count.count c.loop.counter (map view.table_of c.loop.tables.items) r _ c.loop-test.true
    (fails_first e (table_at c.args.version r) (λ x. Ok (map view.table_of c.loop.tables.items ++ x.0 ∷ [], x.1)) c.in_err-table.ensures) c.loop.invariant)

pub loop-preserved : goal.loop-preserved
loop-preserved c =
    let r = remaining c.loop.next in
    let made = view.table_of c.in_ok-table.table in
    let e : map view.table_of c.push.new.self.items ≡ map view.table_of c.loop.tables.items ++ made ∷ [] = rw c.in_ok-push.ensures.items (map_push _ c.loop.tables.items c.in_ok-table.table) in
    rw e (goes_on (behind (table_at c.args.version)) c.in_ok-count.count c.loop.counter (map view.table_of c.loop.tables.items) (map view.table_of c.loop.tables.items ++ made ∷ []) r (remaining c.in_ok-table.rest) _ c.loop-test.true
    (then_is (table_at c.args.version r) (λ x. Ok (map view.table_of c.loop.tables.items ++ x.0 ∷ [], x.1)) (made, remaining c.in_ok-table.rest) c.in_ok-table.ensures) c.loop.invariant)
