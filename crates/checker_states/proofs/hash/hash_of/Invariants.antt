use Rattle.std.proofs.Common.{◌≡◌, drop}
use Rattle.checker_states.specs.Hashes.{hash_of, hash_from}
use Rattle.checker_states.proofs.hash.hash_of.Given as goal

abbrev pub invariant-loop-variable : goal.invariant-loop-variable
invariant-loop-variable l =
    hash_from l.hash (drop l.variable l.multipliers) (drop l.variable l.state) ≡ hash_of l.multipliers l.state
