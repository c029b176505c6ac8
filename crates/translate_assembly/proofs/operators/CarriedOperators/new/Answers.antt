use Rattle.std.proofs.Common.{ap}
use Rattle.std.specs.Prelude.{is_some}
use Rattle.translate_assembly.specs.Slots.{look_up}
use Rattle.translate_assembly.specs.Operators.{made_operator}
use Rattle.translate_assembly.proofs.OperatorLists.{filter_more, places_more}
use Rattle.translate_assembly.proofs.operators.CarriedOperators.new.Goals as goal

pub loop-place-preserved : goal.loop-place-preserved
loop-place-preserved c =
    let made = made_operator (look_up c.args.table.now) c.args.vocabulary.now in
    let a = c.index-actions-place.result in
    record {
      operators = filter_more made c.args.actions.now a c.loop-place.place _ _ _ c.loop-place-test.true c.index-actions-place.is c.in_ok-operator.ensures
          c.loop-place.invariant.operators c.in_ok-push.ensures.operators;
      carried = places_more (λ x. is_some (made x)) c.args.actions.now a c.loop-place.place _ _ _ c.loop-place-test.true c.index-actions-place.is
          (ap is_some c.in_ok-operator.ensures) c.loop-place.invariant.carried c.in_ok-push.ensures.carried;
    }
