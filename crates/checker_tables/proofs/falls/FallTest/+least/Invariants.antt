use Rattle.std.proofs.Common.{◌∷◌, length}
use Rattle.checker_tables.specs.Moves.{IsLeast}
use Rattle.checker_tables.specs.TableFaults.{is_fall_within}
use Rattle.checker_tables.proofs.ReachLaws.{first_values}
use Rattle.checker_tables.proofs.falls.FallTest.+least.Given as goal

abbrev pub decreases-least : goal.decreases-least
decreases-least l = length l.free.now

abbrev pub invariant-loop-value : goal.invariant-loop-value
invariant-loop-value l =
    IsLeast (is_fall_within l.self.values.now l.self.nexts.now l.self.share) (first_values l.digit l.value ∷ l.rest) l.source l.target l.limit l.least
