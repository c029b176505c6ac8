use Rattle.std.proofs.Common.{◌≡◌, ◌++◌, ◌∷◌, [], List, ℕ, ap, ◌∙◌}
use Rattle.std.proofs.lemmas.Result.{err_from_is_err_and}
use Rattle.std.specs.Prelude.{Ok}
use Rattle.cert_value.specs.Certificates.{Entry, width_of}
use Rattle.cert_text.specs.Pieces.{pieces}
use Rattle.cert_text.specs.Reading.{◌>>=◌, Remaining, line_at, entry_of, entry_at, entry_step}
use Rattle.cert_text.specs.Cursors.{remaining}
use Rattle.cert_text.proofs.Repeating.{fails_first, fails_second, then_is, goes_on, stops}
use Rattle.cert_text.proofs.Widths.{next_fits, wide_push}
use Rattle.cert_text.proofs.reading.closed.Goals as goal

pub returns-in_err-line : goal.returns-in_err-line
unfolding entry_step entry_at
returns-in_err-line c =
    let p = err_from_is_err_and c.from_residual-in_err-line.result c.from_residual-in_err-line.ensures.1 in
    let e = c.in_err-line.field-0.0 in
    let r = remaining c.loop.next in
    let w = width_of c.loop.closed in
    rw (p.1, p.2) (stops entry_step e c.in_ok-count.count c.loop.counter c.loop.closed r _ c.loop-test.true
    (fails_first e (entry_at w r) (λ x. Ok (c.loop.closed ++ x.0 ∷ [], x.1)) (fails_first e (line_at r) (λ l. entry_of w r.number (pieces 32 l.0) >>= λ x. Ok (x, l.1)) c.in_err-line.ensures)) c.loop.invariant.1)

pub returns-in_err-cost : goal.returns-in_err-cost
unfolding entry_step entry_at
returns-in_err-cost c =
    let p = err_from_is_err_and c.from_residual-in_err-cost.result c.from_residual-in_err-cost.ensures.1 in
    let e = c.in_err-cost.field-0.0 in
    let r = remaining c.loop.next in
    let w = width_of c.loop.closed in
    let l : List ℕ × Remaining = (c.in_ok-line.line.now, remaining c.in_ok-line.rest) in
    rw (p.1, p.2) (stops entry_step e c.in_ok-count.count c.loop.counter c.loop.closed r _ c.loop-test.true
    (fails_first e (entry_at w r) (λ x. Ok (c.loop.closed ++ x.0 ∷ [], x.1)) (fails_second e (line_at r) (λ l. entry_of w r.number (pieces 32 l.0) >>= λ x. Ok (x, l.1)) l c.in_ok-line.ensures
    (fails_first e (entry_of w r.number (pieces 32 l.0)) (λ x. Ok (x, l.1)) (rw (← c.width.ensures) c.in_err-cost.ensures)))) c.loop.invariant.1)

pub push-requires : goal.push-requires
push-requires c =
    let made : Entry = record { cost = c.in_ok-cost.cost; state = c.entry_line.new.state.items } in
    let read = rw c.width.ensures at c.in_ok-cost.ensures in
    rw c.deref.ensures.value (next_fits c.loop.closed made c.loop.next.number (pieces 32 c.in_ok-line.line.now) c.loop.invariant.0 read)

pub loop-preserved : goal.loop-preserved
unfolding entry_step entry_at
loop-preserved c =
    let r = remaining c.loop.next in
    let w = width_of c.loop.closed in
    let l : List ℕ × Remaining = (c.in_ok-line.line.now, remaining c.in_ok-line.rest) in
    let made : Entry = record { cost = c.in_ok-cost.cost; state = c.entry_line.new.state.items } in
    let read = rw c.width.ensures at c.in_ok-cost.ensures in
    let fits = next_fits c.loop.closed made c.loop.next.number (pieces 32 c.in_ok-line.line.now) c.loop.invariant.0 read in
    let item : entry_at w r ≡ Ok (made, l.1) = then_is (line_at r) (λ l. entry_of w r.number (pieces 32 l.0) >>= λ x. Ok (x, l.1)) l c.in_ok-line.ensures ∙ then_is (entry_of w r.number (pieces 32 l.0)) (λ x. Ok (x, l.1)) made read in
    let pushed : c.push.new.self ≡ c.loop.closed ++ made ∷ [] = rw c.in_ok-push.ensures.ok (ap (λ (xs : List ℕ). c.loop.closed ++ record { cost = c.in_ok-cost.cost; state = xs } ∷ []) c.deref.ensures.value) in
    rw pushed (
      wide_push c.loop.closed made fits,
      goes_on entry_step c.in_ok-count.count c.loop.counter c.loop.closed (c.loop.closed ++ made ∷ []) r l.1 _ c.loop-test.true
          (then_is (entry_at w r) (λ x. Ok (c.loop.closed ++ x.0 ∷ [], x.1)) (made, l.1) item) c.loop.invariant.1,
    )
