-- The certificate of a task from one of its reduced task over the retained operators.
use Rattle.std.specs.Prelude.{ℕ, Bool, nat_lt, if◌then◌else◌, List, [], length, map, filter, Option, None, All, slice_index_or}
use Rattle.std.specs.List.{list_any, range_with_len}
use Rattle.std.specs.Option.{option_map_or}
use Rattle.abstraction_domain.specs.Rows.{AreNumbered, shares_class}
use Rattle.abstraction_mapping.specs.Mappings.{Mapping, Pattern, Domains}
use Rattle.cert_value.specs.declared.certificate.Version.TheVariants.{Two, Three}
use Rattle.cert_value.specs.declared.table.Share.{Share}
use Rattle.cert_value.specs.Certificates.{Table, CertificateValue}
use Rattle.checker_clauses.specs.Clauses.{share_of}

-- ---- shares

-- the share of an operator: that of its representative, and 0 without one
abbrev pub share_in_task : List (Option ℕ) → List Share → ℕ → ℕ
share_in_task representatives shares o = option_map_or (share_of shares) (slice_index_or representatives o None) 0

-- the operators whose share is not 0, in their order, with their shares
abbrev pub shares_in_task : List (Option ℕ) → List Share → List Share
shares_in_task representatives shares =
    map (λ o. record { operator = o; amount = share_in_task representatives shares o })
    (filter (λ o. nat_lt 0 (share_in_task representatives shares o)) (range_with_len 0 (length representatives)))

abbrev pub table_in_task : List (Option ℕ) → Table → Table
table_in_task representatives t = record t { shares = shares_in_task representatives t.shares }

abbrev pub columns_in_task : List (Option ℕ) → List (List Table) → List (List Table)
columns_in_task representatives columns = map (map (table_in_task representatives)) columns

-- ---- the certificate

-- whether two values of a variable share a class
abbrev pub share_classes : List (List ℕ) → Bool
share_classes classes = list_any shares_class classes

-- the certificate for the task: of version 3 with these classes, if two values share one, and otherwise without
-- classes, since then nothing is left out
abbrev pub certificate_in_task : List (List ℕ) → List (Option ℕ) → CertificateValue → CertificateValue
certificate_in_task classes representatives c =
    record {
      version = if share_classes classes then Three else Two;
      kind = c.kind;
      bound = c.bound;
      classes = if share_classes classes then classes else [];
      columns = columns_in_task representatives c.columns;
      closed = c.closed;
    }

-- the classes of each row are numbered in the order of their first occurrences
abbrev pub HasNumberedRows : Mapping → Type 0
HasNumberedRows (Pattern pattern) = Unit {0}
HasNumberedRows (Domains rows) = All (λ r. AreNumbered r.classes) rows

-- the same of each table
abbrev pub HaveNumberedRows : List (List Table) → Type 0
HaveNumberedRows columns = All (λ column. All (λ t. HasNumberedRows t.mapping) column) columns
