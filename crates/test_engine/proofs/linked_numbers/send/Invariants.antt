use Rattle.links.specs.Ends.{SameOut}
use Rattle.test_engine.proofs.linked_numbers.send.Given as goal

abbrev pub invariant-loop : goal.invariant-loop
invariant-loop l = SameOut l.initial.sender l.sender
