-- The numbers of the lines of a certificate's text.
use Rattle.std.proofs.Common.{◌≡◌, ℕ, ◌+◌, ◌<◌, List, [], ◌∷◌, ◌++◌, map, length, take, refl, sym, ap, ◌∙◌, append_assoc, arith, length-append}
use Rattle.std.specs.Prelude.{sum_by, slice_get, codes}
use Rattle.std.specs.List.{flat_map}
use Rattle.std.proofs.lemmas.List.{length-map, map-append}
use Rattle.std.proofs.lemmas.List.Concat.{flat_map-append}
use Rattle.cost.specs.Distances.{distance_text}
use Rattle.abstraction_mapping.specs.Mappings.{Mapping, Pattern, Domains}
use Rattle.cert_value.specs.Certificates.{Kind, FiniteDomain, Planning, Table, Entry, CertificateValue}
use Rattle.cert_text.specs.Spelling as text
use Rattle.cert_text.specs.Spelling.{counted, lines}
use Rattle.optplan_rejections.specs.Lines.{kind_line_count, class_line_count, mapping_line_count, table_line_count, column_line_count, classes_line, columns_line, column_line, closed_line, state_line}
use Rattle.optplan_rejections.specs.Texts.{IsLine}

abbrev Words : Type 0
Words = List (List ℕ)

-- ---- how many lines the parts have

kind_count : (k : Kind) → length (text.kind_lines k) ≡ kind_line_count k
kind_count FiniteDomain = refl
kind_count (Planning atoms variables) =
    omega (arith, length-append (counted (codes "atoms") (length atoms) [] ∷ atoms) (counted (codes "vars") (length variables) [] ∷ map text.variable_line variables), length-map variables text.variable_line)

class_count : (rows : List (List ℕ)) → length (text.classes_lines rows) ≡ class_line_count rows
class_count [] = refl
class_count (row ∷ rows) = omega (arith, length-map (row ∷ rows) text.classes_line)

mapping_count : (m : Mapping) → length (text.mapping_lines m) ≡ mapping_line_count m
mapping_count (Pattern pattern) = refl
mapping_count (Domains rows) = omega (arith, length-map rows text.row_line)

table_count : (t : Table) → length (text.table_lines t) ≡ table_line_count t
table_count t =
    omega (arith, length-append (text.mapping_lines t.mapping) (text.shares_line t ∷ text.values_line t ∷ []), mapping_count t.mapping)

tables_count : (column : List Table) → length (flat_map text.table_lines column) ≡ sum_by table_line_count column
tables_count [] = refl
tables_count (t ∷ column) =
    omega (arith, length-append (text.table_lines t) (flat_map text.table_lines column), table_count t, tables_count column)

column_count : (column : List Table) → length (text.column_lines column) ≡ column_line_count column
column_count column = omega (arith, tables_count column)

columns_count : (columns : List (List Table)) → length (flat_map text.column_lines columns) ≡ sum_by column_line_count columns
columns_count [] = refl
columns_count (column ∷ columns) =
    omega (arith, length-append (text.column_lines column) (flat_map text.column_lines columns), column_count column, columns_count columns)

-- ---- a line among others

-- a line in a part, after others
seam : (front part rest end : List Words) (words : Words) → (front ++ (part ++ words ∷ rest)) ++ end ≡ (front ++ part) ++ words ∷ (rest ++ end)
seam front part rest end words =
    append_assoc front (part ++ words ∷ rest) end
    ∙ ap (λ (ls : List Words). front ++ ls) (append_assoc part (words ∷ rest) end)
    ∙ sym (append_assoc front part (words ∷ (rest ++ end)))

take_front : {X : Type 0} (xs ys : List X) → take (length xs) (xs ++ ys) ≡ xs
take_front [] ys = refl
take_front {X = X} (x ∷ xs) ys = ap (λ (zs : List X). x ∷ zs) (take_front xs ys)

module _ (c : CertificateValue) where
  -- the version, the kind and the bound, and the lines of the kind
  abbrev head : List Words
  head = (codes "optplan-cert" ∷ text.version_text c.version ∷ []) ∷ text.kind_line c.kind ∷ (codes "bound" ∷ distance_text c.bound ∷ []) ∷ text.kind_lines c.kind

  abbrev end : List Words
  end = (codes "end" ∷ []) ∷ []

  abbrev before_columns : List Words
  before_columns = head ++ text.classes_lines c.classes

  abbrev before_closed : List Words
  before_closed = before_columns ++ text.columns_lines c.columns

  before_columns_count : length before_columns + 1 ≡ columns_line c
  before_columns_count = omega (arith, length-append head (text.classes_lines c.classes), kind_count c.kind, class_count c.classes)

  before_closed_count : length before_closed + 1 ≡ closed_line c
  before_closed_count = omega (arith, length-append before_columns (text.columns_lines c.columns), before_columns_count, columns_count c.columns)

  -- the line that begins the closed list
  pub closed_is_line : IsLine c (closed_line c) (counted (codes "closed") (length c.closed) [])
  closed_is_line = record {
    before = before_closed;
    after = map text.entry_line c.closed ++ end;
    parts = append_assoc before_closed (text.closed_lines c.closed) end;
    number_is = sym before_closed_count;
  }

  -- the line of a closed state
  pub state_is_line : (earlier later : List Entry) (e : Entry) → c.closed ≡ earlier ++ e ∷ later → IsLine c (state_line c (length earlier)) (text.entry_line e)
  state_is_line earlier later e is =
      let first : Words = counted (codes "closed") (length c.closed) [] in
      let mapped : map text.entry_line c.closed ≡ map text.entry_line earlier ++ text.entry_line e ∷ map text.entry_line later = ap (map text.entry_line) is ∙ map-append text.entry_line earlier (e ∷ later) in
      record {
        before = before_closed ++ (first ∷ map text.entry_line earlier);
        after = map text.entry_line later ++ end;
        parts = ap (λ (es : List Words). (before_closed ++ (first ∷ es)) ++ end) mapped ∙ seam before_closed (first ∷ map text.entry_line earlier) (map text.entry_line later) end (text.entry_line e);
        number_is = omega (arith, length-append before_closed (first ∷ map text.entry_line earlier), length-map earlier text.entry_line, before_closed_count);
      }

  -- the line that begins a column
  pub column_is_line : (earlier later : List (List Table)) (column : List Table) → c.columns ≡ earlier ++ column ∷ later
      → IsLine c (column_line c (length earlier)) (counted (codes "column") (length column) [])
  column_is_line earlier later column is =
      let first : Words = counted (codes "columns") (length c.columns) [] in
      let own : Words = counted (codes "column") (length column) [] in
      let mine : List Words = flat_map text.table_lines column in
      let those : List Words = flat_map text.column_lines earlier in
      let rest : List Words = flat_map text.column_lines later in
      let closed : List Words = text.closed_lines c.closed in
      let spread : flat_map text.column_lines c.columns ≡ those ++ own ∷ (mine ++ rest) =
      ap (flat_map text.column_lines) is ∙ flat_map-append text.column_lines earlier (column ∷ later) in
      let same : (before_columns ++ (first ∷ flat_map text.column_lines c.columns)) ++ closed ≡ (before_columns ++ (first ∷ those)) ++ own ∷ ((mine ++ rest) ++ closed) =
      ap (λ (ls : List Words). (before_columns ++ (first ∷ ls)) ++ closed) spread ∙ seam before_columns (first ∷ those) (mine ++ rest) closed own in
      let taken : take (length earlier) c.columns ≡ earlier = ap (take (length earlier)) is ∙ take_front earlier (column ∷ later) in
      let sums : sum_by column_line_count (take (length earlier) c.columns) ≡ sum_by column_line_count earlier = ap (sum_by column_line_count) taken in
      record {
        before = before_columns ++ (first ∷ those);
        after = ((mine ++ rest) ++ closed) ++ end;
        parts = ap (λ (ls : List Words). ls ++ end) same ∙ append_assoc (before_columns ++ (first ∷ those)) (own ∷ ((mine ++ rest) ++ closed)) end;
        number_is = omega (arith, length-append before_columns (first ∷ those), columns_count earlier, before_columns_count, sums);
      }
