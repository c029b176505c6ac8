use Rattle.std.proofs.Common.{ℕ, ◌+◌, ◌-◌, List, [], ◌∷◌, ◌++◌, map, append_assoc, length, sym, ap, ◌∙◌}
use Rattle.std.specs.Prelude.{slice_index, Vec}
use Rattle.std.specs.Global.{Global}
use Rattle.checker_tables.specs.declared.transitions.Spender.{Spender}
use Rattle.checker_tables.specs.Changes.{is_tried}
use Rattle.checker_tables.specs.TableFaults.{touching_from, spender_of}
use Rattle.checker_tables.proofs.FallLaws.{touching_here, touching_later}
use Rattle.checker_tables.proofs.transitions.spenders.Goals as goal
use Rattle.checker_tables.proofs.transitions.spenders.Goals.{then-is_tried+in_ok-push, else-is_tried}

pub loop-operator-preserved : goal.loop-operator-preserved
loop-operator-preserved g c =
    let touches = is_tried c.args.changes.now (g.A.Abstraction.abstraction c.args.abstraction.now).touches in
    let f = spender_of (slice_index c.args.shares.now.sums) in
    let o = c.loop-operator.operator in
    let before = c.loop-operator.made.items in
    let later = map f (touching_from touches (o + 1) (length c.args.changes.now - (o + 1))) in
    elim c.if-is_tried.branch [
      | then-is_tried+in_ok-push w ↦
          ap (λ (v : Vec Spender Global). v.items ++ later) w.made-is
          ∙ ap (λ (xs : List Spender). xs ++ later) w.in_ok-push.ensures.items
          ∙ append_assoc before (record { operator = o; share = w.sum-share.result } ∷ []) later
          ∙ ap (λ (x : ℕ). before ++ record { operator = o; share = x } ∷ later) w.sum-share.ensures
          ∙ ap (λ (os : List ℕ). before ++ map f os) (sym (touching_here touches o (length c.args.changes.now) c.loop-operator-test.true (sym c.is_tried.ensures ∙ w.if-is_tried.true)))
          ∙ c.loop-operator.invariant
      | else-is_tried w ↦
          ap (λ (v : Vec Spender Global). v.items ++ later) w.made-is
          ∙ ap (λ (os : List ℕ). before ++ map f os) (sym (touching_later touches o (length c.args.changes.now) c.loop-operator-test.true (sym c.is_tried.ensures ∙ w.if-is_tried.false)))
          ∙ c.loop-operator.invariant
    ]
