-- Reading line by line, as a function on lists, with the first fault that is found. On one line a missing line feed
-- comes before all other faults, a wrong form before a wrong number, a wrong number before a wrong order, and that
-- before wrong classes.
use Rattle.std.specs.Prelude.{◌≡◌, ℕ, zero, suc, ◌+◌, ◌*◌, ◌-◌, ◌^◌, Bool, true, false, not, ◌==◌, ◌&&◌, ◌||◌, nat_le, nat_lt, if◌then◌else◌, List, [], ◌∷◌, ◌++◌, length, map, Option, Some, None, option_map, Result, Ok, Err, codes}
use Rattle.std.specs.Str.{bytes_eq}
use Rattle.std.specs.List.{list_all, list_any}
use Rattle.cost.specs.Distances.{Distance, Finite, Infinite}
use Rattle.cert_text.specs.declared.fault.CertFault.{CertFault}
use Rattle.cert_text.specs.declared.fault.CertFault.TheVariants as fault
use Rattle.abstraction_domain.specs.Rows.{Row, are_numbered, shares_class}
use Rattle.abstraction_mapping.specs.Mappings.{Mapping, Pattern, Domains}
use Rattle.cert_value.specs.declared.certificate.Version.{Version}
use Rattle.cert_value.specs.declared.certificate.Version.TheVariants.{One, Two, Three}
use Rattle.cert_value.specs.declared.table.Share.{Share}
use Rattle.cert_value.specs.Certificates.{Kind, FiniteDomain, Planning, Variable, Table, Entry, CertificateValue, width_of}
use Rattle.cert_text.specs.Pieces.{pieces}

-- reading fails with this error, unless allocation fails
abbrev pub Fails : {Y : Type 0} → CertFault → Result Y CertFault → Type 0
Fails fault.OutOfMemory read = Unit {0}
Fails e read = read ≡ Err e

-- the result of a function, under `view`, is `read`, unless allocation fails
abbrev pub Gives : {X Y : Type 0} → (X → Y) → Result X CertFault → Result Y CertFault → Type 0
Gives view (Ok x) read = read ≡ Ok (view x)
Gives view (Err e) read = Fails e read

infixl 10 ◌>>=◌
-- the result of the second step applied to that of the first, or the first error
abbrev pub ◌>>=◌ : {A B : Type 0} → Result A CertFault → (A → Result B CertFault) → Result B CertFault
(Ok x) >>= f = f x
(Err e) >>= f = Err e

-- ---- lines

-- The pieces between line feeds that remain to be read, and the number of the first of them. The last piece has no line
-- feed after it, so it is not a line.
pub record Remaining : Type 0 where
  pub number : ℕ
  pub lines : List (List ℕ)

abbrev pub first_of : ℕ → List (List ℕ) → Result (List ℕ × Remaining) CertFault
first_of number [] = Err fault.Truncated
first_of number (l ∷ []) = Err fault.Truncated
first_of number (l ∷ m ∷ ms) = Ok (l, record { number = number + 1; lines = m ∷ ms })

-- the next line, and the lines after it
unfoldable pub line_at : Remaining → Result (List ℕ × Remaining) CertFault
line_at r = first_of r.number r.lines

-- a step of reading, repeated the given number of times
unfoldable pub repeated : {S : Type 0} → (S → Remaining → Result (S × Remaining) CertFault) → ℕ → S → Remaining → Result (S × Remaining) CertFault
repeated step zero s r = Ok (s, r)
repeated step (suc n) s r = step s r >>= λ x. repeated step n x.0 x.1

-- ---- numbers

abbrev pub is_digit : ℕ → Bool
is_digit b = nat_le 48 b && nat_le b 57

-- the number with the digits of `n` followed by these digits
unfoldable pub digits_after : ℕ → List ℕ → Option ℕ
digits_after n [] = Some n
digits_after n (d ∷ ds) = if is_digit d then digits_after (n * 10 + (d - 48)) ds else None

-- the number that a word spells, in decimal without leading zeros
abbrev pub number : List ℕ → Option ℕ
number [] = None
number (d ∷ []) = digits_after 0 (d ∷ [])
number (d ∷ e ∷ ds) = if d == 48 then None else digits_after 0 (d ∷ e ∷ ds)

-- the number, if it is at least `least` and below `end`
abbrev pub between : ℕ → ℕ → Option ℕ → Option ℕ
between least end None = None
between least end (Some n) = if nat_le least n && nat_lt n end then Some n else None

abbrev pub number_in : ℕ → ℕ → List ℕ → Option ℕ
number_in least end word = between least end (number word)

infixl 10 ◌>>?◌
-- the result of the second step applied to that of the first, if there is one
abbrev pub ◌>>?◌ : {A B : Type 0} → Option A → (A → Option B) → Option B
None >>? f = None
(Some x) >>? f = f x

-- these numbers followed by those of the words, each below `end`
unfoldable pub numbers_behind : ℕ → List ℕ → List (List ℕ) → Option (List ℕ)
numbers_behind end ns [] = Some ns
numbers_behind end ns (w ∷ ws) = number_in 0 end w >>? λ n. numbers_behind end (ns ++ n ∷ []) ws

abbrev pub numbers_in : ℕ → List (List ℕ) → Option (List ℕ)
numbers_in end words = numbers_behind end [] words

-- `inf`, or a number below `end`
unfoldable pub distance_in : ℕ → List ℕ → Option Distance
distance_in end word = if bytes_eq word (codes "inf") then Some Infinite else option_map Finite (number_in 0 end word)

unfoldable pub distances_behind : ℕ → List Distance → List (List ℕ) → Option (List Distance)
distances_behind end ds [] = Some ds
distances_behind end ds (w ∷ ws) = distance_in end w >>? λ d. distances_behind end (ds ++ d ∷ []) ws

abbrev pub distances_in : ℕ → List (List ℕ) → Option (List Distance)
distances_in end words = distances_behind end [] words

-- the number of an operator, and its share
unfoldable pub share_in : List ℕ → List ℕ → Option Share
share_in operator amount = number_in 0 (2 ^ 32) operator >>? λ o. number_in 1 (2 ^ 31) amount >>? λ a. Some (record { operator = o; amount = a })

unfoldable pub shares_behind : List Share → List (List ℕ) → Option (List Share)
shares_behind ss [] = Some ss
shares_behind ss (o ∷ []) = None
shares_behind ss (o ∷ a ∷ ws) = share_in o a >>? λ s. shares_behind (ss ++ s ∷ []) ws

abbrev pub shares_in : List (List ℕ) → Option (List Share)
shares_in words = shares_behind [] words

-- the numbers are strictly increasing, and the first is at least `least`
unfoldable pub increases_from : ℕ → List ℕ → Bool
increases_from least [] = true
increases_from least (n ∷ ns) = nat_le least n && increases_from (n + 1) ns

abbrev pub is_increasing : List ℕ → Bool
is_increasing ns = increases_from 0 ns

-- ---- the form of a line

-- the given number plus the number of words, if none of them is empty
unfoldable pub filled_behind : ℕ → List (List ℕ) → Option ℕ
filled_behind n [] = Some n
filled_behind n ([] ∷ ws) = None
filled_behind n ((b ∷ bs) ∷ ws) = filled_behind (n + 1) ws

-- the number of words of a line, if none of them is empty: adjacent separators, or one at the start or the end, make an
-- empty word
abbrev pub filled : List (List ℕ) → Option ℕ
filled words = filled_behind 0 words

abbrev pub formed : {X : Type 0} → ℕ → Bool → X → Result X CertFault
formed line true x = Ok x
formed line false x = Err (fault.Expected line)

abbrev pub numbered : {X : Type 0} → ℕ → Option X → Result X CertFault
numbered line (Some x) = Ok x
numbered line None = Err (fault.Number line)

abbrev pub ordered : {X : Type 0} → ℕ → Bool → X → Result X CertFault
ordered line true x = Ok x
ordered line false x = Err (fault.Order line)

abbrev pub classified : {X : Type 0} → ℕ → Bool → X → Result X CertFault
classified line true x = Ok x
classified line false x = Err (fault.Classes line)

-- a line that is exactly this text
unfoldable pub fixed_at : List ℕ → Remaining → Result Remaining CertFault
fixed_at text r = do
  l ← line_at r
  formed r.number (bytes_eq l.0 text) l.1

-- the second word of a line of exactly two words, the first of which is the keyword
abbrev pub second_of : ℕ → List ℕ → List (List ℕ) → Result (List ℕ) CertFault
second_of line keyword [] = Err (fault.Expected line)
second_of line keyword (k ∷ []) = Err (fault.Expected line)
second_of line keyword (k ∷ w ∷ []) = formed line (bytes_eq k keyword && not (bytes_eq w [])) w
second_of line keyword (k ∷ w ∷ x ∷ ws) = Err (fault.Expected line)

-- a line of the keyword and a number
unfoldable pub count_at : List ℕ → ℕ → ℕ → Remaining → Result (ℕ × Remaining) CertFault
count_at keyword least end r = do
  l ← line_at r
  word ← second_of r.number keyword (pieces 32 l.0)
  count ← numbered r.number (number_in least end word)
  Ok (count, l.1)

-- there are two words, and after them as many as the count states, or twice as many for pairs; a count that is not a
-- number is accepted
abbrev pub agrees : Bool → Option ℕ → Option ℕ → Bool
agrees pairs None count = false
agrees pairs (Some words) None = true
agrees pairs (Some words) (Some count) = words == 2 + (if pairs then count + count else count)

-- the words are one and after it as many as `count` says, if that is a number
abbrev pub has_width : Option ℕ → Option ℕ → Bool
has_width count None = false
has_width None (Some words) = true
has_width (Some count) (Some words) = words == count + 1

-- the first word of a line, the count after it, and the words after the count
pub record Counted : Type 0 where
  pub first : List ℕ
  pub count : List ℕ
  pub words : List (List ℕ)

abbrev pub counted_of : ℕ → Bool → List (List ℕ) → Result Counted CertFault
counted_of line pairs [] = Err (fault.Expected line)
counted_of line pairs (k ∷ []) = Err (fault.Expected line)
counted_of line pairs (k ∷ c ∷ ws) = formed line (agrees pairs (filled (k ∷ c ∷ ws)) (number c)) (record { first = k; count = c; words = ws })

-- the parts of a line with a count, if its first word is the keyword
unfoldable pub headed_of : ℕ → List ℕ → Bool → List (List ℕ) → Result Counted CertFault
headed_of line keyword pairs words = do
  form ← counted_of line pairs words
  formed line (bytes_eq form.first keyword) form

-- ---- the parts

unfoldable pub header_at : Remaining → Result (Version × Remaining) CertFault
header_at r = do
  l ← line_at r
  if bytes_eq l.0 (codes "optplan-cert 1") then Ok (One, l.1)
      else (if bytes_eq l.0 (codes "optplan-cert 2") then Ok (Two, l.1)
      else (if bytes_eq l.0 (codes "optplan-cert 3") then Ok (Three, l.1) else Err fault.Header))

-- whether the certificate is for a planning task
unfoldable pub kind_at : Remaining → Result (Bool × Remaining) CertFault
kind_at r = do
  l ← line_at r
  if bytes_eq l.0 (codes "pddl") then Ok (true, l.1) else formed r.number (bytes_eq l.0 (codes "sas")) (false, l.1)

unfoldable pub bound_of : ℕ → List (List ℕ) → Result Distance CertFault
bound_of line words = do
  word ← second_of line (codes "bound") words
  numbered line (distance_in (2 ^ 62 + 1) word)

unfoldable pub bound_at : Remaining → Result (Distance × Remaining) CertFault
bound_at r = do
  l ← line_at r
  bound ← bound_of r.number (pieces 32 l.0)
  Ok (bound, l.1)

abbrev pub is_printed : ℕ → Bool
is_printed b = nat_le 33 b && nat_le b 126

abbrev pub is_atom_word : List ℕ → Bool
is_atom_word word = nat_lt 0 (length word) && list_all is_printed word

unfoldable pub atom_of : ℕ → List (List ℕ) → Result (List (List ℕ)) CertFault
atom_of line words = formed line (list_all is_atom_word words) words

unfoldable pub atom_at : Remaining → Result (List (List ℕ) × Remaining) CertFault
atom_at r = do
  l ← line_at r
  atom ← atom_of r.number (pieces 32 l.0)
  Ok (atom, l.1)

-- the items read before, followed by the one that the step reads
abbrev pub behind : {X : Type 0} → (Remaining → Result (X × Remaining) CertFault) → List X → Remaining → Result (List X × Remaining) CertFault
behind step xs r = step r >>= λ x. Ok (xs ++ x.0 ∷ [], x.1)

unfoldable pub atoms_at : Remaining → Result (List (List (List ℕ)) × Remaining) CertFault
atoms_at r = do
  count ← count_at (codes "atoms") 0 (2 ^ 32) r
  repeated (behind atom_at) count.0 [] count.1

-- a variable over atoms whose indices are below `atoms`
unfoldable pub variable_of : ℕ → ℕ → List (List ℕ) → Result Variable CertFault
variable_of atoms line words = do
  form ← counted_of line false words
  flag ← numbered line (number_in 0 2 form.first)
  count ← numbered line (number_in 1 (2 ^ 32) form.count)
  numbers ← numbered line (numbers_in atoms form.words)
  ordered line (is_increasing numbers) (record { has_none_value = flag == 1; atoms = numbers })

unfoldable pub variable_at : ℕ → Remaining → Result (Variable × Remaining) CertFault
variable_at atoms r = do
  l ← line_at r
  variable ← variable_of atoms r.number (pieces 32 l.0)
  Ok (variable, l.1)

unfoldable pub variables_at : ℕ → Remaining → Result (List Variable × Remaining) CertFault
variables_at atoms r = do
  count ← count_at (codes "vars") 0 (2 ^ 32) r
  repeated (behind (variable_at atoms)) count.0 [] count.1

unfoldable pub parts_at : Bool → Remaining → Result (Kind × Remaining) CertFault
parts_at false r = Ok (FiniteDomain, r)
parts_at true r = do
  atoms ← atoms_at r
  variables ← variables_at (length atoms.0) atoms.1
  Ok (Planning atoms.0 variables.0, variables.1)

-- the first word of a line is the count of those after it; a count that is not a number is accepted
abbrev pub sized_of : ℕ → List (List ℕ) → Result (List ℕ × List (List ℕ)) CertFault
sized_of line [] = Err (fault.Expected line)
sized_of line (c ∷ ws) = formed line (has_width (number c) (filled (c ∷ ws))) (c, ws)

-- the classes of the values of a variable
unfoldable pub classes_of : ℕ → List (List ℕ) → Result (List ℕ) CertFault
classes_of line words = do
  form ← sized_of line words
  count ← numbered line (number_in 1 (2 ^ 32) form.0)
  classes ← numbered line (numbers_in (2 ^ 32) form.1)
  classified line (are_numbered classes) classes

-- whether two values must share a class in the row after these, of `count` rows in all: it is the last row, and no two
-- values do in a row before it
abbrev pub must_share : ℕ → List (List ℕ) → Bool
must_share count rows = not (list_any shares_class rows) && (length rows + 1 == count)

-- the classes of the values of a variable, two of which must share one if `must` is set
unfoldable pub sharing_of : Bool → ℕ → List (List ℕ) → Result (List ℕ) CertFault
sharing_of must line words = do
  classes ← classes_of line words
  classified line (not must || shares_class classes) classes

unfoldable pub sharing_at : Bool → Remaining → Result (List ℕ × Remaining) CertFault
sharing_at must r = do
  l ← line_at r
  classes ← sharing_of must r.number (pieces 32 l.0)
  Ok (classes, l.1)

unfoldable pub classes_step : ℕ → List (List ℕ) → Remaining → Result (List (List ℕ) × Remaining) CertFault
classes_step count rows r = sharing_at (must_share count rows) r >>= λ x. Ok (rows ++ x.0 ∷ [], x.1)

unfoldable pub all_classes_at : Remaining → Result (List (List ℕ) × Remaining) CertFault
all_classes_at r = do
  count ← count_at (codes "classes") 1 (2 ^ 32) r
  repeated (classes_step count.0) count.0 [] count.1

-- the classes of the values of all variables, which only version 3 has
unfoldable pub classes_at : Version → Remaining → Result (List (List ℕ) × Remaining) CertFault
classes_at One r = Ok ([], r)
classes_at Two r = Ok ([], r)
classes_at Three r = all_classes_at r

unfoldable pub pattern_of : ℕ → List (List ℕ) → Result (List ℕ) CertFault
pattern_of line words = do
  form ← headed_of line (codes "table") false words
  count ← numbered line (number_in 1 (2 ^ 32) form.count)
  pattern ← numbered line (numbers_in (2 ^ 32) form.words)
  ordered line (is_increasing pattern) pattern

-- the least variable that a row after these may have
abbrev pub next_variable : List Row → ℕ
next_variable [] = 0
next_variable (r ∷ []) = r.variable + 1
next_variable (r ∷ s ∷ rows) = next_variable (s ∷ rows)

-- a row of a variable that is at least `least`
unfoldable pub row_of : ℕ → ℕ → List (List ℕ) → Result Row CertFault
row_of least line words = do
  form ← counted_of line false words
  variable ← numbered line (number_in 0 (2 ^ 32) form.first)
  count ← numbered line (number_in 1 (2 ^ 32) form.count)
  classes ← numbered line (numbers_in (2 ^ 32) form.words)
  row ← ordered line (nat_le least variable) (record { variable = variable; classes = classes })
  classified line (are_numbered classes) row

unfoldable pub row_at : ℕ → Remaining → Result (Row × Remaining) CertFault
row_at least r = do
  l ← line_at r
  row ← row_of least r.number (pieces 32 l.0)
  Ok (row, l.1)

unfoldable pub row_step : List Row → Remaining → Result (List Row × Remaining) CertFault
row_step rows r = row_at (next_variable rows) r >>= λ x. Ok (rows ++ x.0 ∷ [], x.1)

-- as many rows as the line of these words states
unfoldable pub rows_at : ℕ → List (List ℕ) → Remaining → Result (List Row × Remaining) CertFault
rows_at line words r = do
  word ← second_of line (codes "domain") words
  count ← numbered line (number_in 1 (2 ^ 32) word)
  repeated row_step count [] r

-- whether the first of the words is the keyword
abbrev pub begins_with : List ℕ → List (List ℕ) → Bool
begins_with keyword [] = false
begins_with keyword (w ∷ ws) = bytes_eq w keyword

-- whether the words are the first line of a domain abstraction, which version 1 does not have
abbrev pub is_domain : Version → List (List ℕ) → Bool
is_domain One words = false
is_domain Two words = begins_with (codes "domain") words
is_domain Three words = begins_with (codes "domain") words

unfoldable pub mapping_behind : Bool → ℕ → List (List ℕ) → Remaining → Result (Mapping × Remaining) CertFault
mapping_behind true line words r = do
  rows ← rows_at line words r
  Ok (Domains rows.0, rows.1)
mapping_behind false line words r = do
  pattern ← pattern_of line words
  Ok (Pattern pattern, r)

unfoldable pub mapping_at : Version → Remaining → Result (Mapping × Remaining) CertFault
mapping_at version r = do
  first ← line_at r
  mapping_behind (is_domain version (pieces 32 first.0)) r.number (pieces 32 first.0) first.1

unfoldable pub shares_of : ℕ → List (List ℕ) → Result (List Share) CertFault
shares_of line words = do
  form ← headed_of line (codes "shares") true words
  count ← numbered line (number_in 0 (2 ^ 32) form.count)
  shares ← numbered line (shares_in form.words)
  ordered line (is_increasing (map (λ s. s.operator) shares)) shares

unfoldable pub values_of : ℕ → List (List ℕ) → Result (List Distance) CertFault
values_of line words = do
  form ← headed_of line (codes "values") false words
  count ← numbered line (number_in 0 (2 ^ 24 + 1) form.count)
  numbered line (distances_in (2 ^ 55 + 1) form.words)

unfoldable pub table_at : Version → Remaining → Result (Table × Remaining) CertFault
table_at version r = do
  mapping ← mapping_at version r
  second ← line_at mapping.1
  shares ← shares_of mapping.1.number (pieces 32 second.0)
  third ← line_at second.1
  values ← values_of second.1.number (pieces 32 third.0)
  Ok (record { mapping = mapping.0; shares = shares; values = values }, third.1)

unfoldable pub column_at : Version → Remaining → Result (List Table × Remaining) CertFault
column_at version r = do
  count ← count_at (codes "column") 1 65 r
  repeated (behind (table_at version)) count.0 [] count.1

unfoldable pub columns_at : Version → Remaining → Result (List (List Table) × Remaining) CertFault
columns_at version r = do
  count ← count_at (codes "columns") 0 65 r
  repeated (behind (column_at version)) count.0 [] count.1

abbrev pub entry_numbers : ℕ → List (List ℕ) → Result Entry CertFault
entry_numbers line [] = Err (fault.Expected line)
entry_numbers line (g ∷ ws) = do
  cost ← numbered line (number_in 0 (2 ^ 62 + 1) g)
  state ← numbered line (numbers_in (2 ^ 32) ws)
  Ok (record { cost = cost; state = state })

-- an entry whose state has as many values as the states before, if there are any
unfoldable pub entry_of : Option ℕ → ℕ → List (List ℕ) → Result Entry CertFault
entry_of width line words = do
  form ← formed line (has_width width (filled words)) words
  entry_numbers line form

unfoldable pub entry_at : Option ℕ → Remaining → Result (Entry × Remaining) CertFault
entry_at width r = do
  l ← line_at r
  entry ← entry_of width r.number (pieces 32 l.0)
  Ok (entry, l.1)

unfoldable pub entry_step : List Entry → Remaining → Result (List Entry × Remaining) CertFault
entry_step entries r = entry_at (width_of entries) r >>= λ x. Ok (entries ++ x.0 ∷ [], x.1)

unfoldable pub closed_at : Remaining → Result (List Entry × Remaining) CertFault
closed_at r = do
  count ← count_at (codes "closed") 0 (2 ^ 32) r
  repeated entry_step count.0 [] count.1

-- no byte remains after the last line feed
abbrev pub is_nothing : List (List ℕ) → Bool
is_nothing [] = false
is_nothing ([] ∷ []) = true
is_nothing ([] ∷ m ∷ ms) = false
is_nothing ((b ∷ bs) ∷ ls) = false

unfoldable pub end_at : Remaining → Result (Unit {0}) CertFault
end_at r = do
  rest ← fixed_at (codes "end") r
  if is_nothing rest.lines then Ok tt else Err (fault.Trailing rest.number)

-- the certificate of all lines
unfoldable pub certificate_at : Remaining → Result CertificateValue CertFault
certificate_at r = do
  header ← header_at r
  planning ← kind_at header.1
  bound ← bound_at planning.1
  kind ← parts_at planning.0 bound.1
  classes ← classes_at header.0 kind.1
  columns ← columns_at header.0 classes.1
  closed ← closed_at columns.1
  end ← end_at closed.1
  Ok (record { version = header.0; kind = kind.0; bound = bound.0; classes = classes.0; columns = columns.0; closed = closed.0 })

-- the certificate of a text, or its first fault
unfoldable pub certificate_of : List ℕ → Result CertificateValue CertFault
certificate_of bytes = if nat_lt (2 ^ 30) (length bytes) then Err fault.TooLong
    else certificate_at (record { number = 1; lines = pieces 10 bytes })
