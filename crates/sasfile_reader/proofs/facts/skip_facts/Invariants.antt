use Rattle.std.proofs.Common.{◌≡◌, ◌-◌}
use Rattle.sasfile_reader.specs.Remains.{remaining}
use Rattle.sasfile_reader.specs.Reading.{repeated, skip_step}
use Rattle.sasfile_reader.proofs.facts.skip_facts.Given as goal

abbrev pub invariant-loop : goal.invariant-loop
invariant-loop l =
    repeated (skip_step l.ranges) (l.count - l.counter) tt (remaining l.rest) ≡ repeated (skip_step l.ranges) l.count tt (remaining l.lines)
