use Rattle.std.proofs.Common.{take}
use Rattle.closed.specs.Hints.{AreHintsFor}
use Rattle.test_states.proofs.closed_tables.hints_for.Given as goal

abbrev pub invariant-loop-message : goal.invariant-loop-message
invariant-loop-message g l = AreHintsFor g.F.Hash.hash_input (take l.message-index l.messages) l.hints.items
