-- The text of a certificate: lines of words. Each certificate has exactly one.
use Rattle.std.specs.Prelude.{ℕ, Bool, true, false, List, [], ◌∷◌, ◌++◌, length, map, codes, decimal}
use Rattle.std.specs.List.{flat_map}
use Rattle.cost.specs.Distances.{distance_text}
use Rattle.abstraction_domain.specs.Rows.{Row}
use Rattle.abstraction_mapping.specs.Mappings.{Mapping, Pattern, Domains}
use Rattle.cert_value.specs.declared.certificate.Version.{Version}
use Rattle.cert_value.specs.declared.certificate.Version.TheVariants.{One, Two, Three}
use Rattle.cert_value.specs.declared.table.Share.{Share}
use Rattle.cert_value.specs.Certificates.{Kind, FiniteDomain, Planning, Variable, Table, Entry, CertificateValue}
use Rattle.cert_text.specs.Pieces.{joined}

-- a keyword, a count, and words
abbrev pub counted : List ℕ → ℕ → List (List ℕ) → List (List ℕ)
counted keyword count words = keyword ∷ decimal count ∷ words

-- 1 for yes, 0 for no
abbrev pub flag_text : Bool → List ℕ
flag_text true = codes "1"
flag_text false = codes "0"

abbrev pub variable_line : Variable → List (List ℕ)
variable_line v = counted (flag_text v.has_none_value) (length v.atoms) (map decimal v.atoms)

abbrev pub kind_line : Kind → List (List ℕ)
kind_line FiniteDomain = codes "sas" ∷ []
kind_line (Planning atoms variables) = codes "pddl" ∷ []

-- the lines of the atoms and the variables
abbrev pub kind_lines : Kind → List (List (List ℕ))
kind_lines FiniteDomain = []
kind_lines (Planning atoms variables) =
    counted (codes "atoms") (length atoms) [] ∷ atoms ++ counted (codes "vars") (length variables) [] ∷ map variable_line variables

abbrev pub share_words : Share → List (List ℕ)
share_words s = decimal s.operator ∷ decimal s.amount ∷ []

abbrev pub pattern_line : List ℕ → List (List ℕ)
pattern_line pattern = counted (codes "table") (length pattern) (map decimal pattern)

-- the number of values of a variable, and the class of each of them
abbrev pub classes_line : List ℕ → List (List ℕ)
classes_line classes = decimal (length classes) ∷ map decimal classes

-- the lines of the classes of the values of all variables, if there are any
abbrev pub classes_lines : List (List ℕ) → List (List (List ℕ))
classes_lines [] = []
classes_lines (row ∷ rows) = counted (codes "classes") (length (row ∷ rows)) [] ∷ map classes_line (row ∷ rows)

-- a variable, the number of its values, and the class of each of them
abbrev pub row_line : Row → List (List ℕ)
row_line r = counted (decimal r.variable) (length r.classes) (map decimal r.classes)

abbrev pub mapping_lines : Mapping → List (List (List ℕ))
mapping_lines (Pattern pattern) = pattern_line pattern ∷ []
mapping_lines (Domains rows) = counted (codes "domain") (length rows) [] ∷ map row_line rows

abbrev pub shares_line : Table → List (List ℕ)
shares_line t = counted (codes "shares") (length t.shares) (flat_map share_words t.shares)

abbrev pub values_line : Table → List (List ℕ)
values_line t = counted (codes "values") (length t.values) (map distance_text t.values)

abbrev pub table_lines : Table → List (List (List ℕ))
table_lines t = mapping_lines t.mapping ++ shares_line t ∷ values_line t ∷ []

abbrev pub column_lines : List Table → List (List (List ℕ))
column_lines column = counted (codes "column") (length column) [] ∷ flat_map table_lines column

abbrev pub columns_lines : List (List Table) → List (List (List ℕ))
columns_lines columns = counted (codes "columns") (length columns) [] ∷ flat_map column_lines columns

abbrev pub entry_line : Entry → List (List ℕ)
entry_line e = decimal e.cost ∷ map decimal e.state

abbrev pub closed_lines : List Entry → List (List (List ℕ))
closed_lines entries = counted (codes "closed") (length entries) [] ∷ map entry_line entries

abbrev pub version_text : Version → List ℕ
version_text One = codes "1"
version_text Two = codes "2"
version_text Three = codes "3"

-- the lines of a certificate, each a list of words
abbrev pub lines : CertificateValue → List (List (List ℕ))
lines c =
    (codes "optplan-cert" ∷ version_text c.version ∷ [])
    ∷ kind_line c.kind
    ∷ (codes "bound" ∷ distance_text c.bound ∷ [])
    ∷ kind_lines c.kind
    ++ classes_lines c.classes
    ++ columns_lines c.columns
    ++ closed_lines c.closed
    ++ (codes "end" ∷ []) ∷ []

-- a line: its words with single blanks between them, and a line feed
abbrev pub line_text : List (List ℕ) → List ℕ
line_text words = joined 32 words ++ 10 ∷ []

-- the text of several lines
abbrev pub text_of : List (List (List ℕ)) → List ℕ
text_of lines = flat_map line_text lines

-- the text of a certificate
abbrev pub spelling : CertificateValue → List ℕ
spelling c = text_of (lines c)
