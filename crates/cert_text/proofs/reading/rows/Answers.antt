use Rattle.std.proofs.Common.{◌≡◌, ◌++◌, ◌∷◌, [], List, ℕ, sym, ◌∙◌, ap, ◌+◌}
use Rattle.std.proofs.lemmas.Result.{err_from_is_err_and}
use Rattle.std.specs.Prelude.{Ok}
use Rattle.abstraction_domain.specs.Rows.{Row}
use Rattle.cert_text.specs.Pieces.{pieces}
use Rattle.cert_text.specs.Reading.{◌>>=◌, Remaining, line_at, next_variable, row_of, row_at, row_step}
use Rattle.cert_text.specs.Cursors.{remaining}
use Rattle.cert_text.proofs.Repeating.{fails_first, fails_second, then_is, goes_on, stops}
use Rattle.cert_text.proofs.RowLaws.{next_variable-push}
use Rattle.cert_text.proofs.reading.rows.Goals as goal

pub returns-in_err-line : goal.returns-in_err-line
unfolding row_step row_at
returns-in_err-line c =
    let p = err_from_is_err_and c.from_residual-in_err-line.result c.from_residual-in_err-line.ensures.1 in
    let e = c.in_err-line.field-0.0 in
    let r = remaining c.loop.next in
    let least = next_variable c.loop.rows.items in
    rw (p.1, p.2) (stops row_step e c.in-Some.count c.loop.counter c.loop.rows.items r _ c.loop-test.true
    (fails_first e (row_at least r) (λ x. Ok (c.loop.rows.items ++ x.0 ∷ [], x.1)) (fails_first e (line_at r) (λ l. row_of least r.number (pieces 32 l.0) >>= λ x. Ok (x, l.1)) c.in_err-line.ensures)) c.loop.invariant.read)

pub returns-in_err-row : goal.returns-in_err-row
unfolding row_step row_at
returns-in_err-row c =
    let p = err_from_is_err_and c.from_residual-in_err-row.result c.from_residual-in_err-row.ensures.1 in
    let e = c.in_err-row.field-0.0 in
    let r = remaining c.loop.next in
    let least = next_variable c.loop.rows.items in
    let l : List ℕ × Remaining = (c.in_ok-line.line.now, remaining c.in_ok-line.rest) in
    rw (p.1, p.2) (stops row_step e c.in-Some.count c.loop.counter c.loop.rows.items r _ c.loop-test.true
    (fails_first e (row_at least r) (λ x. Ok (c.loop.rows.items ++ x.0 ∷ [], x.1)) (fails_second e (line_at r) (λ l. row_of least r.number (pieces 32 l.0) >>= λ x. Ok (x, l.1)) l c.in_ok-line.ensures
    (fails_first e (row_of least r.number (pieces 32 l.0)) (λ x. Ok (x, l.1)) (rw c.loop.invariant.least at c.in_err-row.ensures.row)))) c.loop.invariant.read)

pub loop-preserved : goal.loop-preserved
unfolding row_step row_at
loop-preserved c =
    let r = remaining c.loop.next in
    let rows = c.loop.rows.items in
    let least = next_variable c.loop.rows.items in
    let l : List ℕ × Remaining = (c.in_ok-line.line.now, remaining c.in_ok-line.rest) in
    let made : Row = c.in_ok-row.row in
    let read = rw c.loop.invariant.least at c.in_ok-row.ensures.row in
    let item : row_at least r ≡ Ok (made, l.1) =
    then_is (line_at r) (λ l. row_of least r.number (pieces 32 l.0) >>= λ x. Ok (x, l.1)) l c.in_ok-line.ensures ∙ then_is (row_of least r.number (pieces 32 l.0)) (λ x. Ok (x, l.1)) made read in
    rw c.in_ok-push.ensures.items (record {
      least = ap (λ (v : ℕ). v + 1) c.variable.ensures ∙ sym (next_variable-push rows made);
      read = goes_on row_step c.in-Some.count c.loop.counter rows (rows ++ made ∷ []) r l.1 _ c.loop-test.true
          (then_is (row_at least r) (λ x. Ok (rows ++ x.0 ∷ [], x.1)) (made, l.1) item) c.loop.invariant.read;
    })
