use Rattle.std.proofs.Common.{ℕ, List, length, get_or, sym, ap, ◌∙◌, ◌<◌, arith}
use Rattle.mutex.specs.Candidates.{bound_parts_of}
use Rattle.mutex.proofs.CandidateLaws.{parts_taken, parts_skipped}
use Rattle.mutex.proofs.parts.bound_parts.Goals as goal
use Rattle.mutex.proofs.parts.bound_parts.Goals.{then-is_marked+in_ok-push_bound, else-is_marked}

pub loop-predicate-preserved : goal.loop-predicate-preserved
loop-predicate-preserved c =
    let n = c.loop-predicate.predicate in
    let here = c.deref-arity-items.ensures.value ∙ ap (λ t. t.arities) c.task.view_is in
    let low : n < length c.args.task.now.arities = omega (arith, ap (λ (ns : List ℕ). length ns) here) in
    let flag = sym (c.requires n low) ∙ sym c.is_marked.ensures in
    elim c.if-is_marked.branch [
      | then-is_marked+in_ok-push_bound w ↦ parts_taken bound_parts_of c.args.task.now n (get_or c.deref-arity-items.result.now n 0) c.loop-predicate.parts.items c.if-is_marked.parts.items
          (flag ∙ w.if-is_marked.true) (ap (λ (ns : List ℕ). get_or ns n 0) here) c.loop-predicate.invariant (ap (λ v. v.items) w.parts-is ∙ w.in_ok-push_bound.ensures)
      | else-is_marked w ↦ parts_skipped bound_parts_of c.args.task.now n c.loop-predicate.parts.items c.if-is_marked.parts.items
          (flag ∙ w.if-is_marked.false) c.loop-predicate.invariant (ap (λ v. v.items) w.parts-is)
    ]
