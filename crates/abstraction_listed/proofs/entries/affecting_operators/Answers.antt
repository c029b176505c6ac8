use Rattle.std.specs.List.{filter, range_with_len}
use Rattle.std.proofs.Common.{◌≡◌, ◌∙◌, ℕ, List, length, sym, ap, arith}
use Rattle.abstraction_listed.proofs.OperatorLaws.{number_added, number_left_out}
use Rattle.abstraction_listed.proofs.entries.affecting_operators.Goals as goal
use Rattle.abstraction_listed.proofs.entries.affecting_operators.Goals.{then-touches+in_ok-push, else-touches}

pub loop-operator-preserved : goal.loop-operator-preserved
loop-operator-preserved g c =
    let a = g.A.Abstraction.abstraction c.args.abstraction.now in
    let n = c.loop-operator.operator in
    let old : List ℕ = c.loop-operator.list.items in
    elim c.if-touches.branch [
      | then-touches+in_ok-push w ↦ rw (w.list-is, w.in_ok-push.ensures.items) (number_added a.touches n old (sym c.touches.ensures ∙ w.if-touches.true) c.loop-operator.invariant)
      | else-touches w ↦ rw w.list-is (number_left_out a.touches n old (sym c.touches.ensures ∙ w.if-touches.false) c.loop-operator.invariant)
    ]

pub returns : goal.returns
returns g c =
    let a = g.A.Abstraction.abstraction c.args.abstraction.now in
    let task = g.A.Abstraction.task c.args.abstraction.now in
    let end : c.loop-operator.operator ≡ length task.operators = omega (arith, c.loop-operator-test.false, c.loop-operator.auto.operator-end, c.requires.operators) in
    c.loop-operator.invariant ∙ ap (λ (n : ℕ). filter a.touches (range_with_len 0 n)) end
