use Rattle.std.proofs.Common.{◌≡◌, ◌-◌, ◌≤◌, [], length}
use Rattle.sasfile_reader.specs.Remains.{remaining}
use Rattle.sasfile_reader.specs.Reading.{repeated, fact_step}
use Rattle.fdr.specs.Tasks.{names_variable}
use Rattle.sasfile_reader.specs.Marks.{Marks}
use Rattle.sasfile_reader.proofs.facts.counted_facts.Given as goal

abbrev pub invariant-loop : goal.invariant-loop
invariant-loop l =
    record {
      read : repeated (fact_step l.ranges) (l.count - l.counter) l.facts.items (remaining l.rest) ≡ repeated (fact_step l.ranges) l.count [] (remaining l.lines);
      marks : Marks l.named l.since l.rest.number (names_variable l.facts.items);
      later : l.since ≤ l.rest.number;
      len : length l.named ≡ length l.ranges;
    }
