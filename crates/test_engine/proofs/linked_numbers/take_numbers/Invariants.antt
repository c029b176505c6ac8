use Rattle.links.specs.Ends.{SameIn}
use Rattle.test_engine.proofs.linked_numbers.take_numbers.Given as goal

abbrev pub invariant-loop : goal.invariant-loop
invariant-loop l = SameIn l.initial.receiver l.receiver
