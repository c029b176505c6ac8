use Rattle.std.proofs.Common.{◌≡◌, ◌-◌, length}
use Rattle.std.specs.List.{list_any, range_with_len}
use Rattle.abstraction_domain.specs.Domains.{variables}
use Rattle.abstraction_domain.specs.Rows.{classes_in, shares_class}
use Rattle.cert_text.specs.Reading.{repeated, classes_step, all_classes_at}
use Rattle.cert_text.specs.Cursors.{remaining}
use Rattle.cert_text.proofs.reading.all_classes.Given as goal

abbrev pub invariant-loop-variable : goal.invariant-loop-variable
invariant-loop-variable l =
    record {
      len : length l.rows.items ≡ l.variable;
      variables : variables l.rows.items ≡ range_with_len 0 (length l.rows.items);
      shared : l.shared ≡ list_any shares_class (classes_in l.rows.items);
      read : repeated (classes_step l.count) (l.count - l.variable) (classes_in l.rows.items) (remaining l.next) ≡ all_classes_at (remaining l.lines);
    }
