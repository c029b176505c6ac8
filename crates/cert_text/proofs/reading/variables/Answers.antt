use Rattle.std.proofs.Common.{◌≡◌, ◌++◌, ◌∷◌, [], map, ◌∙◌, List, ℕ}
use Rattle.std.proofs.lemmas.Result.{err_from_is_err_and}
use Rattle.std.proofs.lemmas.List.{map_push}
use Rattle.std.specs.Prelude.{Ok}
use Rattle.cert_text.specs.Pieces.{pieces}
use Rattle.cert_text.specs.Reading.{◌>>=◌, behind, Remaining, line_at, variable_at, variable_of}
use Rattle.cert_text.specs.Cursors.{remaining}
use Rattle.cert_value.specs.Views as view
use Rattle.cert_text.proofs.Repeating.{fails_first, fails_second, then_is, goes_on, stops}
use Rattle.cert_text.proofs.reading.variables.Goals as goal

pub returns-in_err-line : goal.returns-in_err-line
unfolding variable_at
returns-in_err-line c =
    let p = err_from_is_err_and c.from_residual-in_err-line.result c.from_residual-in_err-line.ensures.1 in
    let e = c.in_err-line.field-0.0 in
    let r = remaining c.loop.next in
    rw (p.1, p.2) (stops (behind (variable_at c.args.atoms)) e c.in_ok-count.count c.loop.counter (map view.variable_of c.loop.variables.items) r _ c.loop-test.true
    (fails_first e ((variable_at c.args.atoms) r) (λ x. Ok (map view.variable_of c.loop.variables.items ++ x.0 ∷ [], x.1)) (fails_first e (line_at r) (λ l. variable_of c.args.atoms r.number (pieces 32 l.0) >>= λ x. Ok (x, l.1)) c.in_err-line.ensures)) c.loop.invariant)

pub returns-in_err-variable_line : goal.returns-in_err-variable_line
unfolding variable_at
returns-in_err-variable_line c =
    let p = err_from_is_err_and c.from_residual-in_err-variable_line.result c.from_residual-in_err-variable_line.ensures.1 in
    let e = c.in_err-variable_line.field-0.0 in
    let r = remaining c.loop.next in
    let l : List ℕ × Remaining = (c.in_ok-line.line.now, remaining c.in_ok-line.rest) in
    rw (p.1, p.2) (stops (behind (variable_at c.args.atoms)) e c.in_ok-count.count c.loop.counter (map view.variable_of c.loop.variables.items) r _ c.loop-test.true
    (fails_first e ((variable_at c.args.atoms) r) (λ x. Ok (map view.variable_of c.loop.variables.items ++ x.0 ∷ [], x.1)) (fails_second e (line_at r) (λ l. variable_of c.args.atoms r.number (pieces 32 l.0) >>= λ x. Ok (x, l.1)) l c.in_ok-line.ensures
    (fails_first e (variable_of c.args.atoms r.number (pieces 32 l.0)) (λ x. Ok (x, l.1)) c.in_err-variable_line.ensures))) c.loop.invariant)

pub loop-preserved : goal.loop-preserved
unfolding variable_at
loop-preserved c =
    let r = remaining c.loop.next in
    let l : List ℕ × Remaining = (c.in_ok-line.line.now, remaining c.in_ok-line.rest) in
    let made = view.variable_of c.in_ok-variable_line.field-0 in
    let e : map view.variable_of c.push.new.self.items ≡ map view.variable_of c.loop.variables.items ++ made ∷ [] = rw c.in_ok-push.ensures.items (map_push _ c.loop.variables.items c.in_ok-variable_line.field-0) in
    let item : (variable_at c.args.atoms) r ≡ Ok (made, l.1) = then_is (line_at r) (λ l. variable_of c.args.atoms r.number (pieces 32 l.0) >>= λ x. Ok (x, l.1)) l c.in_ok-line.ensures ∙ then_is (variable_of c.args.atoms r.number (pieces 32 l.0)) (λ x. Ok (x, l.1)) made c.in_ok-variable_line.ensures in
    rw e (goes_on (behind (variable_at c.args.atoms)) c.in_ok-count.count c.loop.counter (map view.variable_of c.loop.variables.items) (map view.variable_of c.loop.variables.items ++ made ∷ []) r l.1 _ c.loop-test.true
    (then_is ((variable_at c.args.atoms) r) (λ x. Ok (map view.variable_of c.loop.variables.items ++ x.0 ∷ [], x.1)) (made, l.1) item) c.loop.invariant)
