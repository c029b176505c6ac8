use Rattle.std.proofs.Common.{◌≡◌, ◌-◌, [], map, length}
use Rattle.sasfile_reader.specs.Remains.{remaining, names_of, ranges_of}
use Rattle.sasfile_reader.specs.Reading.{repeated, variable_step}
use Rattle.sasfile_reader.proofs.variables.counted_variables.Given as goal

abbrev pub invariant-loop : goal.invariant-loop
invariant-loop l =
    record {
      read : repeated variable_step (l.count - l.counter) (names_of l.variables) (remaining l.rest) ≡ repeated variable_step l.count [] (remaining l.lines);
      ranges : ranges_of l.variables ≡ map length (names_of l.variables);
    }
