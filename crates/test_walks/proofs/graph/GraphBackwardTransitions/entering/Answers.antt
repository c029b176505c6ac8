use Rattle.std.proofs.Common.{◌≡◌, ◌∙◌, ℕ, ◌<◌, length, ap, subst, arith}
use Rattle.std.proofs.lemmas.Bool.Decides.{nat_tests}
use Rattle.test_walks.specs.Graphs.{Listing, AreMembers}
use Rattle.test_walks.proofs.Entering.{AreEnteringBelow, class_added, class_left_out, AreEntering-all}
use Rattle.test_walks.proofs.graph.GraphBackwardTransitions.entering.Goals as goal
use Rattle.test_walks.proofs.graph.GraphBackwardTransitions.entering.Goals.{then-not-is_empty+in_ok-add_entering, else-not-is_empty}

pub loop-class-preserved : goal.loop-class-preserved
loop-class-preserved c =
    let g = c.args.self.now in
    let n = c.loop-class.class in
    let j = c.args.abstract_state in
    let operators = c.operators_of-operators.result.now in
    let old = c.loop-class.transitions.items in
    let members : AreMembers g.count g.kinds n operators = record { increasing = c.operators_of-operators.ensures.increasing; listed = c.operators_of-operators.ensures.operators } in
    elim c.if-not-is_empty.branch [
      | then-not-is_empty+in_ok-add_entering w ↦
          let some : 0 < length operators = grind (arith, nat_tests, c.is_empty.ensures, w.if-not-is_empty.true) in
          rw w.transitions-is (class_added g n j operators old w.add_entering.new.transitions.items members some w.in_ok-add_entering.ensures c.loop-class.invariant)
      | else-not-is_empty w ↦
          let none : length operators ≡ 0 = grind (arith, nat_tests, c.is_empty.ensures, w.if-not-is_empty.false) in
          rw w.transitions-is (class_left_out g n j operators old members none c.loop-class.invariant)
    ]

pub returns : goal.returns
returns c =
    let g = c.args.self.now in
    let count : c.self.inside.count ≡ g.count = ap (λ (x : Listing). x.count) c.self.view_is in
    let end : c.loop-class.class ≡ g.count = omega (arith, c.loop-class-test.false, c.loop-class.auto.class-end) in
    AreEntering-all g c.args.abstract_state c.loop-class.transitions.items (subst (λ (n : ℕ). AreEnteringBelow g n c.args.abstract_state c.loop-class.transitions.items) end c.loop-class.invariant)
