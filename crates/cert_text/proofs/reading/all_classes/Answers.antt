use Rattle.std.proofs.Common.{◌≡◌, ◌++◌, ◌∷◌, [], List, ℕ, refl, sym, ◌∙◌, ◌+◌, ◌^◌, arith}
use Rattle.std.proofs.lemmas.Result.{err_from_is_err_and}
use Rattle.std.proofs.lemmas.List.{map_push, length-append}
use Rattle.std.specs.Prelude.{Ok, codes, not, ◌&&◌, ◌||◌, ◌==◌}
use Rattle.abstraction_domain.specs.Rows.{Row, classes_in, shares_class}
use Rattle.cert_text.specs.Pieces.{pieces}
use Rattle.cert_text.specs.Reading.{◌>>=◌, Remaining, line_at, must_share, sharing_of, sharing_at, classes_step}
use Rattle.cert_text.specs.Cursors.{remaining}
use Rattle.cert_text.proofs.Repeating.{fails_first, fails_second, then_is, goes_on, stops}
use Rattle.cert_text.proofs.ClassLaws.{must_by, shared_by}
use Rattle.cert_text.proofs.RowLaws.{in_order_push}
use Rattle.cert_text.proofs.Found.{count_found}
use Rattle.cert_text.proofs.reading.all_classes.Goals.{then-not-shared, else-not-shared, then-shared, else-shared}
use Rattle.cert_text.proofs.reading.all_classes.Goals as goal

pub returns-in_err-line-clause-classes : goal.returns-in_err-line-clause-classes
unfolding classes_step sharing_at
returns-in_err-line-clause-classes c =
    let p = err_from_is_err_and c.from_residual-in_err-line.result c.from_residual-in_err-line.ensures.1 in
    let e = c.in_err-line.field-0.0 in
    let r = remaining c.loop-variable.next in
    let rows = classes_in c.loop-variable.rows.items in
    let count = c.in_ok-count.count in
    let must = must_share count rows in
    rw (p.1, p.2) (stops (classes_step count) e count c.loop-variable.variable rows r _ c.loop-variable-test.true
    (fails_first e (sharing_at must r) (λ x. Ok (rows ++ x.0 ∷ [], x.1)) (fails_first e (line_at r) (λ l. sharing_of must r.number (pieces 32 l.0) >>= λ x. Ok (x, l.1)) c.in_err-line.ensures)) c.loop-variable.invariant.read)

pub returns-in_err-row-clause-classes : goal.returns-in_err-row-clause-classes
unfolding classes_step sharing_at
returns-in_err-row-clause-classes c =
    let p = err_from_is_err_and c.from_residual-in_err-row.result c.from_residual-in_err-row.ensures.1 in
    let e = c.in_err-row.field-0.0 in
    let r = remaining c.loop-variable.next in
    let rows = classes_in c.loop-variable.rows.items in
    let count = c.in_ok-count.count in
    let must = must_share count rows in
    let flag : c.if-not-shared.must ≡ (not c.loop-variable.shared && (c.loop-variable.variable + 1 == count)) = elim c.if-not-shared.branch [
      | then-not-shared w ↦ rw w.if-not-shared.true w.must-is
      | else-not-shared w ↦ w.must-is ∙ rw w.if-not-shared.false refl
    ] in
    let same = must_by count c.loop-variable.variable c.loop-variable.rows.items c.loop-variable.shared c.if-not-shared.must c.loop-variable.invariant.shared c.loop-variable.invariant.len flag in
    let l : List ℕ × Remaining = (c.in_ok-line.line.now, remaining c.in_ok-line.rest) in
    rw (p.1, p.2) (stops (classes_step count) e count c.loop-variable.variable rows r _ c.loop-variable-test.true
    (fails_first e (sharing_at must r) (λ x. Ok (rows ++ x.0 ∷ [], x.1)) (fails_second e (line_at r) (λ l. sharing_of must r.number (pieces 32 l.0) >>= λ x. Ok (x, l.1)) l c.in_ok-line.ensures
    (fails_first e (sharing_of must r.number (pieces 32 l.0)) (λ x. Ok (x, l.1)) (rw same at c.in_err-row.ensures.classes)))) c.loop-variable.invariant.read)

pub loop-variable-preserved : goal.loop-variable-preserved
unfolding classes_step sharing_at
loop-variable-preserved c =
    let r = remaining c.loop-variable.next in
    let items = c.loop-variable.rows.items in
    let rows = classes_in items in
    let count = c.in_ok-count.count in
    let must = must_share count rows in
    let flag : c.if-not-shared.must ≡ (not c.loop-variable.shared && (c.loop-variable.variable + 1 == count)) = elim c.if-not-shared.branch [
      | then-not-shared w ↦ rw w.if-not-shared.true w.must-is
      | else-not-shared w ↦ w.must-is ∙ rw w.if-not-shared.false refl
    ] in
    let same = must_by count c.loop-variable.variable items c.loop-variable.shared c.if-not-shared.must c.loop-variable.invariant.shared c.loop-variable.invariant.len flag in
    let l : List ℕ × Remaining = (c.in_ok-line.line.now, remaining c.in_ok-line.rest) in
    let made : Row = c.in_ok-row.row in
    let either : c.if-shared.shared ≡ (c.loop-variable.shared || shares_class made.classes) = elim c.if-shared.branch [
      | then-shared w ↦ w.shared-is ∙ rw w.if-shared.true refl
      | else-shared w ↦ rw (w.if-shared.false, sym w.shares_class-shared.ensures) w.shared-is
    ] in
    let item : sharing_at must r ≡ Ok (made.classes, l.1) =
    then_is (line_at r) (λ l. sharing_of must r.number (pieces 32 l.0) >>= λ x. Ok (x, l.1)) l c.in_ok-line.ensures ∙ then_is (sharing_of must r.number (pieces 32 l.0)) (λ x. Ok (x, l.1)) made.classes (rw same at c.in_ok-row.ensures.classes) in
    let pushed : classes_in (items ++ made ∷ []) ≡ rows ++ made.classes ∷ [] = map_push (λ (x : Row). x.classes) items made in
    let long = length-append items (made ∷ []) in
    rw (c.in_ok-push.ensures.items, pushed) (record {
      len = omega (arith, c.loop-variable.invariant.len);
      variables = in_order_push items made c.loop-variable.invariant.variables (c.in_ok-row.ensures.variable ∙ sym c.loop-variable.invariant.len);
      shared = shared_by items made c.loop-variable.shared c.if-shared.shared c.loop-variable.invariant.shared either;
      read = goes_on (classes_step count) count c.loop-variable.variable rows (rows ++ made.classes ∷ []) r l.1 _ c.loop-variable-test.true
          (then_is (sharing_at must r) (λ x. Ok (rows ++ x.0 ∷ [], x.1)) (made.classes, l.1) item) c.loop-variable.invariant.read;
    })

pub returns-clause-some : goal.returns-clause-some
returns-clause-some c =
    let f = count_found (codes "classes") 1 (2 ^ 32) (remaining c.args.lines) (remaining c.in_ok-count.first) c.in_ok-count.count (omega arith) c.in_ok-count.ensures.count in
    omega (arith, f.1, c.loop-variable.invariant.len, c.loop-variable-test.false)
