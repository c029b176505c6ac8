use Rattle.std.proofs.Common.{◌≡◌, ◌++◌, ◌∷◌, [], map}
use Rattle.std.proofs.lemmas.Result.{err_from_is_err_and}
use Rattle.std.proofs.lemmas.List.{map_push}
use Rattle.std.specs.Prelude.{Ok}
use Rattle.cert_text.specs.Reading.{behind, column_at}
use Rattle.cert_text.specs.Cursors.{remaining}
use Rattle.cert_value.specs.Views as view
use Rattle.cert_text.proofs.Repeating.{fails_first, then_is, goes_on, stops}
use Rattle.cert_text.proofs.reading.columns.Goals as goal

pub returns-in_err-column : goal.returns-in_err-column
returns-in_err-column c =
    let p = err_from_is_err_and c.from_residual-in_err-column.result c.from_residual-in_err-column.ensures.1 in
    let e = c.in_err-column.field-0.0 in
    let r = remaining c.loop.next in
    rw (p.1, p.2) (stops (behind (column_at c.args.version)) e c.in_ok-count.count c.loop.counter (map view.column_of c.loop.columns.items) r _ c.loop-test.true
    (fails_first e (column_at c.args.version r) (λ x. Ok (map view.column_of c.loop.columns.items ++ x.0 ∷ [], x.1)) c.in_err-column.ensures) c.loop.invariant)

pub loop-preserved : goal.loop-preserved
loop-preserved c =
    let r = remaining c.loop.next in
    let made = view.column_of c.in_ok-column.column in
    let e : map view.column_of c.push.new.self.items ≡ map view.column_of c.loop.columns.items ++ made ∷ [] = rw c.in_ok-push.ensures.items (map_push _ c.loop.columns.items c.in_ok-column.column) in
    rw e (goes_on (behind (column_at c.args.version)) c.in_ok-count.count c.loop.counter (map view.column_of c.loop.columns.items) (map view.column_of c.loop.columns.items ++ made ∷ []) r (remaining c.in_ok-column.rest) _ c.loop-test.true
    (then_is (column_at c.args.version r) (λ x. Ok (map view.column_of c.loop.columns.items ++ x.0 ∷ [], x.1)) (made, remaining c.in_ok-column.rest) c.in_ok-column.ensures) c.loop.invariant)
