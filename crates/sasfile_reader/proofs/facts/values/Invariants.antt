use Rattle.std.proofs.Common.{◌≡◌, drop, []}
use Rattle.sasfile_reader.specs.Remains.{remaining}
use Rattle.sasfile_reader.specs.Reading.{values_at}
use Rattle.sasfile_reader.proofs.facts.values.Given as goal

abbrev pub invariant-loop-range : goal.invariant-loop-range
invariant-loop-range l =
    values_at (drop l.range-index l.ranges) l.values.items (remaining l.rest) ≡ values_at l.ranges [] (remaining l.lines)
