use Rattle.links.specs.Ends.{SameOut}
use Rattle.test_engine.proofs.linked_numbers.send_numbers.Given as goal

abbrev pub invariant-loop-cost : goal.invariant-loop-cost
invariant-loop-cost l = SameOut l.initial.sender l.sender
