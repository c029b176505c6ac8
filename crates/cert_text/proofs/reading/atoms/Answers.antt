use Rattle.std.proofs.Common.{◌≡◌, ◌++◌, ◌∷◌, [], map, ◌∙◌, List, ℕ, arith}
use Rattle.std.proofs.lemmas.Result.{err_from_is_err_and}
use Rattle.std.proofs.lemmas.List.{map_push, length-append}
use Rattle.std.specs.Prelude.{Ok}
use Rattle.cert_text.specs.Pieces.{pieces}
use Rattle.cert_text.specs.Reading.{◌>>=◌, behind, Remaining, line_at, atom_at, atom_of}
use Rattle.cert_text.specs.Cursors.{remaining}
use Rattle.cert_value.specs.Views as view
use Rattle.cert_text.proofs.Repeating.{fails_first, fails_second, then_is, goes_on, stops}
use Rattle.cert_text.proofs.reading.atoms.Goals as goal

pub returns-in_err-line-clause-atoms : goal.returns-in_err-line-clause-atoms
unfolding atom_at
returns-in_err-line-clause-atoms c =
    let p = err_from_is_err_and c.from_residual-in_err-line.result c.from_residual-in_err-line.ensures.1 in
    let e = c.in_err-line.field-0.0 in
    let r = remaining c.loop.next in
    rw (p.1, p.2) (stops (behind atom_at) e c.in_ok-count.count c.loop.counter (map view.atom_of c.loop.atoms.items) r _ c.loop-test.true
    (fails_first e (atom_at r) (λ x. Ok (map view.atom_of c.loop.atoms.items ++ x.0 ∷ [], x.1)) (fails_first e (line_at r) (λ l. atom_of r.number (pieces 32 l.0) >>= λ x. Ok (x, l.1)) c.in_err-line.ensures)) c.loop.invariant.1)

pub returns-in_err-atom_words-clause-atoms : goal.returns-in_err-atom_words-clause-atoms
unfolding atom_at
returns-in_err-atom_words-clause-atoms c =
    let p = err_from_is_err_and c.from_residual-in_err-atom_words.result c.from_residual-in_err-atom_words.ensures.1 in
    let e = c.in_err-atom_words.field-0.0 in
    let r = remaining c.loop.next in
    let l : List ℕ × Remaining = (c.in_ok-line.line.now, remaining c.in_ok-line.rest) in
    rw (p.1, p.2) (stops (behind atom_at) e c.in_ok-count.count c.loop.counter (map view.atom_of c.loop.atoms.items) r _ c.loop-test.true
    (fails_first e (atom_at r) (λ x. Ok (map view.atom_of c.loop.atoms.items ++ x.0 ∷ [], x.1)) (fails_second e (line_at r) (λ l. atom_of r.number (pieces 32 l.0) >>= λ x. Ok (x, l.1)) l c.in_ok-line.ensures
    (fails_first e (atom_of r.number (pieces 32 l.0)) (λ x. Ok (x, l.1)) c.in_err-atom_words.ensures))) c.loop.invariant.1)

pub loop-preserved : goal.loop-preserved
unfolding atom_at
loop-preserved c =
    let r = remaining c.loop.next in
    let l : List ℕ × Remaining = (c.in_ok-line.line.now, remaining c.in_ok-line.rest) in
    let made = view.atom_of c.in_ok-atom_words.field-0 in
    let e : map view.atom_of c.push.new.self.items ≡ map view.atom_of c.loop.atoms.items ++ made ∷ [] = rw c.in_ok-push.ensures.items (map_push _ c.loop.atoms.items c.in_ok-atom_words.field-0) in
    let item : atom_at r ≡ Ok (made, l.1) = then_is (line_at r) (λ l. atom_of r.number (pieces 32 l.0) >>= λ x. Ok (x, l.1)) l c.in_ok-line.ensures ∙ then_is (atom_of r.number (pieces 32 l.0)) (λ x. Ok (x, l.1)) made c.in_ok-atom_words.ensures in (
      let l = length-append c.loop.atoms.items (c.in_ok-atom_words.field-0 ∷ []) in rw c.in_ok-push.ensures.items (omega arith),
      rw e (goes_on (behind atom_at) c.in_ok-count.count c.loop.counter (map view.atom_of c.loop.atoms.items) (map view.atom_of c.loop.atoms.items ++ made ∷ []) r l.1 _ c.loop-test.true
          (then_is (atom_at r) (λ x. Ok (map view.atom_of c.loop.atoms.items ++ x.0 ∷ [], x.1)) (made, l.1) item) c.loop.invariant.1),
    )
