use Rattle.std.proofs.Common.{◌≡◌}
use Rattle.mutex.specs.Candidates.{bound_parts_of}
use Rattle.mutex.proofs.CandidateLaws.{parts_below}
use Rattle.mutex.proofs.parts.bound_parts.Given as goal

abbrev pub invariant-loop-predicate : goal.invariant-loop-predicate
invariant-loop-predicate l = l.parts.items ≡ parts_below bound_parts_of l.task l.predicate
