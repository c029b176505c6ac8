use Rattle.std.proofs.Common.{◌≡◌}
use Rattle.pdb_regression.specs.Tables.{positions_of, AreIndexed}
use Rattle.pdb_regression.proofs.place.add_classes.Given as goal

abbrev pub invariant-loop-class : goal.invariant-loop-class
invariant-loop-class l =
    record {
      positions : positions_of l.places ≡ positions_of l.fn.places;
      indexed : AreIndexed l.rest.items l.places l.rules l.class;
    }
