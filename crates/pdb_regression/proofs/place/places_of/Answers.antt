use Rattle.pdb_regression.proofs.TableLaws.{positions_more}
use Rattle.pdb_regression.proofs.place.places_of.Goals as goal
use Rattle.pdb_regression.proofs.place.places_of.Goals.{then-digit-ge-LISTED_RANGE+in_ok-new+in_ok-push, else-digit-ge-LISTED_RANGE}

pub loop-number-preserved : goal.loop-number-preserved
loop-number-preserved c =
    elim c.if-digit-ge-LISTED_RANGE.branch [
      | then-digit-ge-LISTED_RANGE+in_ok-new+in_ok-push w ↦ rw w.places-is
          (positions_more c.args.digits.now c.loop-number.places.items w.push.new.self.items w.in_ok-new.field-0 c.loop-number.number (record { weight = 0; range = 0 }) c.loop-number.invariant
          w.in_ok-push.ensures.items w.in_ok-new.ensures c.loop-number-test.true)
      | else-digit-ge-LISTED_RANGE w ↦ rw w.places-is c.loop-number.invariant
    ]
