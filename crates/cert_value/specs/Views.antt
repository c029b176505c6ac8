-- The values that represent the types of the crate in contracts.
use Rattle.std.specs.Prelude.{ℕ, List, map, Vec, String}
use Rattle.std.specs.Global.{Global}
use Rattle.std.specs.String.{string_bytes}
use Rattle.cert_value.specs.Certificates.{Kind, FiniteDomain, Planning, Variable, Table}
use Rattle.abstraction_mapping.specs.Views.{mapping_of}
use Rattle.cert_value.specs.declared.table.AbstractionTable.{AbstractionTable}
use Rattle.cert_value.specs.declared.certificate.AtomVariable.{AtomVariable}
use Rattle.cert_value.specs.declared.certificate.CertificateKind.{CertificateKind}
use Rattle.cert_value.specs.declared.certificate.CertificateKind.TheVariants.{Sas, Pddl}

abbrev pub variable_of : AtomVariable → Variable
variable_of v = record { has_none_value = v.has_none_value; atoms = v.atoms.items }

-- the words of an atom
abbrev pub atom_of : Vec (String Global) Global → List (List ℕ)
atom_of words = map string_bytes words.items

abbrev pub kind_of : CertificateKind → Kind
kind_of Sas = FiniteDomain
kind_of (Pddl parts) = Planning (map atom_of parts.atoms.items) (map variable_of parts.variables.items)

abbrev pub table_of : AbstractionTable → Table
table_of t = record { mapping = mapping_of t.mapping; shares = t.shares.items; values = t.values }

-- the tables of a column
abbrev pub column_of : Vec AbstractionTable Global → List Table
column_of column = map table_of column.items

abbrev pub columns_of : List (Vec AbstractionTable Global) → List (List Table)
columns_of columns = map column_of columns
