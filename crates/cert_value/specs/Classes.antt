-- Classes of the values of a task, in a certificate: a row for each variable, in the order of the variables, with the
-- class of each of its values. The tables and the closed list of such a certificate are for the reduced task, in which
-- values of one class are not distinguished.
use Rattle.std.specs.Prelude.{◌≡◌, ℕ, Bool, true, false, nat_lt, List, length}
use Rattle.std.specs.List.{range_with_len}
use Rattle.abstraction_domain.specs.Rows.{Row}
use Rattle.abstraction_domain.specs.Domains.{variables}
use Rattle.cert_value.specs.declared.certificate.Version.{Version}
use Rattle.cert_value.specs.declared.certificate.Version.TheVariants.{One, Two, Three}

-- whether a certificate of this version has classes
abbrev pub has_classes : Version → Bool
has_classes One = false
has_classes Two = false
has_classes Three = true

-- the rows are those of the variables in their order, and there are rows exactly if the version has classes
pub record AreRowsOf (version : Version) (rows : List Row) : Type 0 where
  pub variables : variables rows ≡ range_with_len 0 (length rows)
  pub some : nat_lt 0 (length rows) ≡ has_classes version
