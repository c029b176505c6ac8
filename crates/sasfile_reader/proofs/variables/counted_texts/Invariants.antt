use Rattle.std.proofs.Common.{◌≡◌, ◌-◌, [], map, vec_len, string_bytes}
use Rattle.sasfile_reader.specs.Remains.{remaining}
use Rattle.sasfile_reader.specs.Reading.{repeated, text_step}
use Rattle.sasfile_reader.proofs.variables.counted_texts.Given as goal

abbrev pub invariant-loop : goal.invariant-loop
invariant-loop l =
    record {
      read : repeated text_step (l.count - l.counter) (map string_bytes l.texts.items) (remaining l.rest) ≡ repeated text_step l.count [] (remaining l.lines);
      len : vec_len l.texts ≡ l.counter;
    }
