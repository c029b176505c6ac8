-- What is spelled is read again, all of it.
use Rattle.std.proofs.Common.{◌≡◌, ℕ, ◌+◌, ◌^◌, ◌<◌, ◌≤◌, Bool, true, false, List, [], ◌∷◌, ◌++◌, length, map, Option, Some, None, cond, eqb, Result, Ok, Err, refl, sym, ap, subst, ◌∙◌, arith, append_assoc, ◌⊎◌, inl, inr}
use Rattle.std.specs.Prelude.{nat_lt, codes}
use Rattle.std.specs.List.{flat_map, AllByRecursion}
use Rattle.std.proofs.lemmas.Bool.Decides.{nat_tests}
use Rattle.std.proofs.lemmas.List.{append-nil}
use Rattle.cost.specs.Distances.{Distance, IsWithin, distance_text}
use Rattle.cert_text.specs.declared.fault.CertFault.{CertFault}
use Rattle.cert_text.specs.declared.fault.CertFault.TheVariants as fault
use Rattle.std.proofs.lemmas.Bool.{false≢true}
use Rattle.cert_value.specs.Certificates.{Kind, FiniteDomain, Planning, Variable, Table, Entry, CertificateValue, width_of}
use Rattle.cert_text.specs.Pieces.{joined, pieces, into_first}
use Rattle.cert_text.specs.Spelling.{counted, variable_line, kind_line, kind_lines, classes_line, classes_lines, row_line, mapping_lines, shares_line, values_line, table_lines, column_lines, columns_lines, entry_line, closed_lines, version_text, lines, spelling}
use Rattle.abstraction_domain.specs.Rows.{Row}
use Rattle.abstraction_mapping.specs.Mappings.{Mapping, Pattern, Domains}
use Rattle.cert_value.specs.declared.certificate.Version.{Version}
use Rattle.cert_value.specs.declared.certificate.Version.TheVariants.{One, Two, Three}
use Rattle.cert_value.specs.Lawful.{IsAtom, IsVariable, IsLawfulKind, AreClasses, AreLawfulClasses, IsRow, AreRows, IsLawfulMapping, AreShares, AreValues, IsTable, IsColumn, AreColumns, IsEntry, AreEntries, IsLawful}
use Rattle.cert_text.specs.Reading.{◌>>=◌, Remaining, line_at, repeated, fixed_at, header_at, kind_at, bound_at, atom_at, atoms_at, variable_at, variables_at, parts_at, table_at, column_at, columns_at, entry_at, entry_step, closed_at, is_nothing, end_at, certificate_at, certificate_of}
use Rattle.cert_text.proofs.Joining.{IsPlain, lines_of_text, lines_behind}
use Rattle.cert_text.proofs.PieceLaws.{some_piece}
use Rattle.cert_text.proofs.Again.{lines_from, line_again, IsWord, plain_words, words_again, decimal_word, distance_word, distance_words, shares_words, count_again, bound_again, some_items, shares_line_again, values_again, variable_words, variable_again, atom_words, atom_again, entry_words, entry_again}
use Rattle.cert_text.proofs.AgainItems.{before, IsReadAgain, before_append, some_left, pushed, section_again}
use Rattle.cert_text.proofs.AgainClasses.{classes_words, all_classes_again}
use Rattle.cert_text.proofs.AgainRows.{pattern_words, row_words, mapping_read}

-- ---- atoms and variables

atom_read : (atom : List (List ℕ)) → IsAtom atom → IsReadAgain atom_at atom (atom ∷ [])
unfolding atom_at
atom_read [] ok n tail some = absurd (ok.some refl)
atom_read (w ∷ ws) ok n tail some =
    (n + 1, rw (line_again n (joined 32 (w ∷ ws)) tail some, words_again w ws (atom_words (w ∷ ws) ok.each_word), atom_again n (w ∷ ws) ok) refl)

variable_read : (atoms : ℕ) → atoms < 2 ^ 32 → (v : Variable) → IsVariable atoms v → IsReadAgain (variable_at atoms) v (variable_line v ∷ [])
unfolding variable_at
variable_read atoms few v ok n tail some =
    let words = variable_words atoms v few ok in
    (n + 1, rw (line_again n (joined 32 (variable_line v)) tail some, words_again _ _ words, variable_again atoms n v few ok) refl)

singles : (xs : List (List (List ℕ))) → flat_map (λ (x : List (List ℕ)). x ∷ []) xs ≡ xs
singles [] = refl
singles (x ∷ xs) = ap (λ (ys : List (List (List ℕ))). x ∷ ys) (singles xs)

mapped : {X : Type 0} (f : X → List (List ℕ)) (xs : List X) → flat_map (λ x. f x ∷ []) xs ≡ map f xs
mapped f [] = refl
mapped f (x ∷ xs) = ap (λ (ys : List (List (List ℕ))). f x ∷ ys) (mapped f xs)

atoms_read : (atoms : List (List (List ℕ))) → length atoms < 2 ^ 32 → AllByRecursion IsAtom atoms → IsReadAgain atoms_at atoms (counted (codes "atoms") (length atoms) [] ∷ atoms)
unfolding atoms_at
atoms_read atoms few all =
    subst (λ (ls : List (List (List ℕ))). IsReadAgain atoms_at atoms (counted (codes "atoms") (length atoms) [] ∷ ls)) (singles atoms)
    (section_again (λ atom. atom ∷ []) IsAtom atom_at atom_read (codes "atoms") 0 (2 ^ 32) atoms (omega arith) (omega arith) few (record { plain = refl; filled = omega arith }) all)

variables_read : (count : ℕ) (vs : List Variable) → count < 2 ^ 32 → length vs < 2 ^ 32 → AllByRecursion (IsVariable count) vs → IsReadAgain (variables_at count) vs (counted (codes "vars") (length vs) [] ∷ map variable_line vs)
unfolding variables_at
variables_read count vs small few all =
    subst (λ (ls : List (List (List ℕ))). IsReadAgain (variables_at count) vs (counted (codes "vars") (length vs) [] ∷ ls)) (mapped variable_line vs)
    (section_again (λ v. variable_line v ∷ []) (IsVariable count) (variable_at count) (variable_read count small) (codes "vars") 0 (2 ^ 32) vs (omega arith) (omega arith) few (record { plain = refl; filled = omega arith }) all)

is_planning : Kind → Bool
is_planning FiniteDomain = false
is_planning (Planning atoms variables) = true

parts_read : (k : Kind) → IsLawfulKind k → IsReadAgain (parts_at (is_planning k)) k (kind_lines k)
unfolding parts_at is_planning
parts_read FiniteDomain ok n tail some = (n, refl)
parts_read (Planning atoms vs) ok n tail some =
    let a = counted (codes "atoms") (length atoms) [] ∷ atoms in
    let b = counted (codes "vars") (length vs) [] ∷ map variable_line vs in
    let one = atoms_read atoms ok.few_atoms ok.each_atom n (before b tail) (some_left b tail some) in
    let two = variables_read (length atoms) vs ok.few_atoms ok.few_variables ok.each_variable one.0 tail some in (
      two.0,
      ap (λ (ls : List (List ℕ)). parts_at true (lines_from n ls)) (before_append a b tail)
          ∙ ap (λ r. r >>= λ x. variables_at (length x.0) x.1 >>= λ y. Ok (Planning x.0 y.0, y.1)) one.1 ∙ ap (λ r. r >>= λ y. Ok (Planning atoms y.0, y.1)) two.1,
    )

-- ---- tables

share_line_words : (t : Table) → AreShares t.shares → AllByRecursion IsWord (shares_line t)
share_line_words t ok = (record { plain = refl; filled = omega arith }, (decimal_word (length t.shares) (omega (arith, ok.few)), shares_words t.shares ok.each))

value_words : (t : Table) → AreValues t.values → AllByRecursion IsWord (values_line t)
value_words t ok = (record { plain = refl; filled = omega arith }, (decimal_word (length t.values) (omega (arith, ok.few)), distance_words (2 ^ 55) t.values (omega arith) ok.each))

table_read : (version : Version) (t : Table) → IsTable version t → IsReadAgain (table_at version) t (table_lines t)
unfolding table_at
table_read version t ok n tail some =
    let three = joined 32 (values_line t) ∷ tail in
    let two = joined 32 (shares_line t) ∷ three in
    let m = mapping_read version t.mapping ok.mapping n two (omega arith) in (
      m.0 + 1 + 1,
      rw (
        before_append (mapping_lines t.mapping) (shares_line t ∷ values_line t ∷ []) tail,
        m.1,
        line_again m.0 (joined 32 (shares_line t)) three (omega arith),
        words_again _ _ (share_line_words t ok.shares),
        shares_line_again m.0 t.shares ok.shares,
        line_again (m.0 + 1) (joined 32 (values_line t)) tail some,
        words_again _ _ (value_words t ok.values),
        values_again (m.0 + 1) t.values ok.values,
      ) refl,
    )

column_read : (version : Version) (column : List Table) → IsColumn version column → IsReadAgain (column_at version) column (column_lines column)
unfolding column_at
column_read version column ok = section_again table_lines (IsTable version) (table_at version) (table_read version) (codes "column") 1 65 column (omega arith) (some_items column ok.some) (omega (arith, ok.few)) (record { plain = refl; filled = omega arith }) ok.tables

columns_read : (version : Version) (columns : List (List Table)) → AreColumns version columns → IsReadAgain (columns_at version) columns (columns_lines columns)
unfolding columns_at
columns_read version columns ok = section_again column_lines (IsColumn version) (column_at version) (column_read version) (codes "columns") 0 65 columns (omega arith) (omega arith) (omega (arith, ok.few)) (record { plain = refl; filled = omega arith }) ok.each

-- ---- states

abbrev Asks : List Entry → ℕ → Type 0
Asks front width = (width_of front ≡ None) ⊎ (width_of front ≡ Some width)

asks_more : (front : List Entry) (width : ℕ) (x : Entry) → length x.state ≡ width → Asks front width → Asks (front ++ x ∷ []) width
asks_more [] width x wide asks = inr (ap Some wide)
asks_more (e ∷ es) width x wide (inl h) = absurd cc
asks_more (e ∷ es) width x wide (inr h) = inr h

entry_read : (asked : Option ℕ) (width : ℕ) (x : Entry) → (asked ≡ None) ⊎ (asked ≡ Some width) → IsEntry width x → IsReadAgain (entry_at asked) x (entry_line x ∷ [])
unfolding entry_at
entry_read asked width x asks ok n tail some =
    (n + 1, rw (line_again n (joined 32 (entry_line x)) tail some, words_again _ _ (entry_words width x ok), entry_again asked width n x asks ok) refl)

entries_again : (width : ℕ) (xs front : List Entry) → Asks front width → AllByRecursion (IsEntry width) xs → (n : ℕ) (tail : List (List ℕ)) → 0 < length tail
    → (m : ℕ) × (repeated entry_step (length xs) front (lines_from n (before (map entry_line xs) tail)) ≡ Ok (front ++ xs, lines_from m tail))
unfolding repeated entry_step
entries_again width [] front asks all n tail some = (n, ap (λ (ys : List Entry). Ok (ys, lines_from n tail)) (sym (append-nil front)))
entries_again width (x ∷ xs) front asks all n tail some =
    let rest = before (map entry_line xs) tail in
    let one = entry_read (width_of front) width x asks all.0 n rest (some_left (map entry_line xs) tail some) in
    let more = entries_again width xs (front ++ x ∷ []) (asks_more front width x all.0.as_wide asks) all.1 one.0 tail some in (
      more.0,
      ap (λ (r : Result (Entry × Remaining) CertFault). pushed front r >>= λ y. repeated entry_step (length xs) y.0 y.1) one.1
          ∙ more.1 ∙ ap (λ (ys : List Entry). Ok (ys, lines_from more.0 tail)) (append_assoc front (x ∷ []) xs),
    )

closed_read : (es : List Entry) → AreEntries es → IsReadAgain closed_at es (closed_lines es)
unfolding closed_at
closed_read es ok n tail some =
    let rest = before (map entry_line es) tail in
    let c = count_again (codes "closed") 0 (2 ^ 32) n (length es) rest (omega arith) (omega arith) ok.few (record { plain = refl; filled = omega arith }) (some_left (map entry_line es) tail some) in
    let m = entries_again ok.width es [] (inl refl) ok.each (n + 1) tail some in
    (m.0, ap (λ r. r >>= λ count. repeated entry_step count.0 [] count.1) c ∙ m.1)

-- ---- all

header_read : (version : Version) (n : ℕ) (tail : List (List ℕ)) → 0 < length tail → header_at (lines_from n (joined 32 (codes "optplan-cert" ∷ version_text version ∷ []) ∷ tail)) ≡ Ok (version, lines_from (n + 1) tail)
unfolding header_at
header_read One n tail some = rw (line_again n (codes "optplan-cert 1") tail some) refl
header_read Two n tail some = rw (line_again n (codes "optplan-cert 2") tail some) refl
header_read Three n tail some = rw (line_again n (codes "optplan-cert 3") tail some) refl

kind_read : (k : Kind) (n : ℕ) (tail : List (List ℕ)) → 0 < length tail → kind_at (lines_from n (joined 32 (kind_line k) ∷ tail)) ≡ Ok (is_planning k, lines_from (n + 1) tail)
unfolding kind_at is_planning
kind_read FiniteDomain n tail some = rw (line_again n (codes "sas") tail some) refl
kind_read (Planning atoms vs) n tail some = rw (line_again n (codes "pddl") tail some) refl

bound_read : (d : Distance) → IsWithin (2 ^ 62) d → (n : ℕ) (tail : List (List ℕ)) → 0 < length tail → bound_at (lines_from n (joined 32 (codes "bound" ∷ distance_text d ∷ []) ∷ tail)) ≡ Ok (d, lines_from (n + 1) tail)
unfolding bound_at
bound_read d ok n tail some =
    rw (line_again n (joined 32 (codes "bound" ∷ distance_text d ∷ [])) tail some, words_again (codes "bound") (distance_text d ∷ []) (record { plain = refl; filled = omega arith }, (distance_word (2 ^ 62) d (omega arith) ok, tt)), bound_again n d ok) refl

pub end_read : (n : ℕ) → end_at (lines_from n (before ((codes "end" ∷ []) ∷ []) ([] ∷ []))) ≡ Ok tt
unfolding end_at fixed_at line_at
end_read n = refl

-- ---- the words of all lines

AreWords : List (List (List ℕ)) → Type 0
AreWords ls = AllByRecursion (AllByRecursion IsWord) ls

words_append : (a b : List (List (List ℕ))) → AreWords a → AreWords b → AreWords (a ++ b)
unfolding AreWords
words_append [] b all more = more
words_append (l ∷ a) b all more = (all.0, words_append a b all.1 more)

words_flat : {X : Type 0} (spell : X → List (List (List ℕ))) (P : X → Type 0) → ((x : X) → P x → AreWords (spell x)) → (xs : List X) → AllByRecursion P xs → AreWords (flat_map spell xs)
unfolding AreWords
words_flat spell P each [] all = tt
words_flat spell P each (x ∷ xs) all = words_append (spell x) (flat_map spell xs) (each x all.0) (words_flat spell P each xs all.1)

counted_words : (keyword : List ℕ) (n : ℕ) → n < 2 ^ 64 → IsWord keyword → AllByRecursion IsWord (counted keyword n [])
counted_words keyword n small word = (word, (decimal_word n small, tt))

words_atoms : (atoms : List (List (List ℕ))) → AllByRecursion IsAtom atoms → AreWords atoms
unfolding AreWords
words_atoms [] all = tt
words_atoms (a ∷ atoms) all = (atom_words a all.0.each_word, words_atoms atoms all.1)

words_variables : (count : ℕ) (vs : List Variable) → count < 2 ^ 32 → AllByRecursion (IsVariable count) vs → AreWords (map variable_line vs)
unfolding AreWords
words_variables count [] small all = tt
words_variables count (v ∷ vs) small all = (variable_words count v small all.0, words_variables count vs small all.1)

words_entries : (width : ℕ) (es : List Entry) → AllByRecursion (IsEntry width) es → AreWords (map entry_line es)
unfolding AreWords
words_entries width [] all = tt
words_entries width (e ∷ es) all = (entry_words width e all.0, words_entries width es all.1)

words_kind : (k : Kind) → IsLawfulKind k → AreWords (kind_lines k)
unfolding AreWords
words_kind FiniteDomain ok = tt
words_kind (Planning atoms vs) ok =
    words_append (counted (codes "atoms") (length atoms) [] ∷ atoms) (counted (codes "vars") (length vs) [] ∷ map variable_line vs)
    (counted_words (codes "atoms") (length atoms) (omega (arith, ok.few_atoms)) (record { plain = refl; filled = omega arith }), words_atoms atoms ok.each_atom)
    (counted_words (codes "vars") (length vs) (omega (arith, ok.few_variables)) (record { plain = refl; filled = omega arith }), words_variables (length atoms) vs ok.few_atoms ok.each_variable)

words_classes : (rows : List (List ℕ)) → AllByRecursion AreClasses rows → AreWords (map classes_line rows)
unfolding AreWords
words_classes [] all = tt
words_classes (row ∷ rows) all = (classes_words row all.0, words_classes rows all.1)

words_some_classes : (rows : List (List ℕ)) → length rows < 2 ^ 32 → AllByRecursion AreClasses rows → AreWords (classes_lines rows)
unfolding AreWords
words_some_classes [] few all = tt
words_some_classes (row ∷ rows) few all =
    (counted_words (codes "classes") (length (row ∷ rows)) (omega arith) (record { plain = refl; filled = omega arith }), words_classes (row ∷ rows) all)

words_all_classes : (version : Version) (rows : List (List ℕ)) → AreLawfulClasses version rows → AreWords (classes_lines rows)
unfolding AreWords
words_all_classes One rows ok = rw ok tt
words_all_classes Two rows ok = rw ok tt
words_all_classes Three rows ok = words_some_classes rows ok.few ok.each

words_rows : (rows : List Row) → AllByRecursion IsRow rows → AreWords (map row_line rows)
unfolding AreWords
words_rows [] all = tt
words_rows (r ∷ rows) all = (row_words r all.0, words_rows rows all.1)

words_domains : (rows : List Row) → AreRows rows → AreWords (mapping_lines (Domains rows))
unfolding AreWords
words_domains rows ok = (counted_words (codes "domain") (length rows) (omega (arith, ok.few)) (record { plain = refl; filled = omega arith }), words_rows rows ok.each)

words_mapping : (version : Version) (m : Mapping) → IsLawfulMapping version m → AreWords (mapping_lines m)
unfolding AreWords
words_mapping version (Pattern p) ok = (pattern_words p ok, tt)
words_mapping One (Domains rows) ok = absurd ok
words_mapping Two (Domains rows) ok = words_domains rows ok
words_mapping Three (Domains rows) ok = words_domains rows ok

words_table : (version : Version) (t : Table) → IsTable version t → AreWords (table_lines t)
unfolding AreWords
words_table version t ok =
    words_append (mapping_lines t.mapping) (shares_line t ∷ values_line t ∷ []) (words_mapping version t.mapping ok.mapping) (share_line_words t ok.shares, (value_words t ok.values, tt))

words_column : (version : Version) (column : List Table) → IsColumn version column → AreWords (column_lines column)
unfolding AreWords
words_column version column ok = (counted_words (codes "column") (length column) (omega (arith, ok.few)) (record { plain = refl; filled = omega arith }), words_flat table_lines (IsTable version) (words_table version) column ok.tables)

words_columns : (version : Version) (columns : List (List Table)) → AreColumns version columns → AreWords (columns_lines columns)
unfolding AreWords
words_columns version columns ok = (counted_words (codes "columns") (length columns) (omega (arith, ok.few)) (record { plain = refl; filled = omega arith }), words_flat column_lines (IsColumn version) (words_column version) columns ok.each)

words_closed : (es : List Entry) → AreEntries es → AreWords (closed_lines es)
unfolding AreWords
words_closed es ok = (counted_words (codes "closed") (length es) (omega (arith, ok.few)) (record { plain = refl; filled = omega arith }), words_entries ok.width es ok.each)

kind_word : (k : Kind) → AllByRecursion IsWord (kind_line k)
kind_word FiniteDomain = (record { plain = refl; filled = omega arith }, tt)
kind_word (Planning atoms vs) = (record { plain = refl; filled = omega arith }, tt)

version_word : (version : Version) → IsWord (version_text version)
version_word One = record { plain = refl; filled = omega arith }
version_word Two = record { plain = refl; filled = omega arith }
version_word Three = record { plain = refl; filled = omega arith }

words_lines : (c : CertificateValue) → IsLawful c → AreWords (lines c)
unfolding AreWords
words_lines c ok =
    let k = words_kind c.kind ok.kind in
    let top = (codes "optplan-cert" ∷ version_text c.version ∷ []) ∷ kind_line c.kind ∷ (codes "bound" ∷ distance_text c.bound ∷ []) ∷ kind_lines c.kind in
    let head : AreWords ((codes "optplan-cert" ∷ version_text c.version ∷ []) ∷ kind_line c.kind ∷ (codes "bound" ∷ distance_text c.bound ∷ []) ∷ kind_lines c.kind) =
    ((record { plain = refl; filled = omega arith }, (version_word c.version, tt)), (kind_word c.kind, ((record { plain = refl; filled = omega arith }, (distance_word (2 ^ 62) c.bound (omega arith) ok.bound, tt)), k))) in
    let second = words_append top (classes_lines c.classes) head (words_all_classes c.version c.classes ok.classes) in
    let third = words_append (top ++ classes_lines c.classes) (columns_lines c.columns) second (words_columns c.version c.columns ok.columns) in
    words_append (((top ++ classes_lines c.classes) ++ columns_lines c.columns) ++ closed_lines c.closed) ((codes "end" ∷ []) ∷ [])
    (words_append ((top ++ classes_lines c.classes) ++ columns_lines c.columns) (closed_lines c.closed) third (words_closed c.closed ok.closed))
    ((record { plain = refl; filled = omega arith }, tt), tt)

plain_lines : (ls : List (List (List ℕ))) → AreWords ls → AllByRecursion (AllByRecursion IsPlain) ls
unfolding AreWords
plain_lines [] all = tt
plain_lines (l ∷ ls) all = (plain_words l all.0, plain_lines ls all.1)

-- ---- the law

-- after the lines of a certificate, what is left has to be nothing
all_behind : (c : CertificateValue) → IsLawful c → (tail : List (List ℕ)) → 0 < length tail
    → (m : ℕ) × (certificate_at (lines_from 1 (before (lines c) tail)) ≡ (end_at (lines_from m (before ((codes "end" ∷ []) ∷ []) tail)) >>= λ end. Ok c))
unfolding certificate_at
all_behind c ok tail some =
    let one = codes "optplan-cert" ∷ version_text c.version ∷ [] in
    let two = kind_line c.kind in
    let three = codes "bound" ∷ distance_text c.bound ∷ [] in
    let head = one ∷ two ∷ three ∷ kind_lines c.kind in
    let last = before ((codes "end" ∷ []) ∷ []) tail in
    let closing = before (closed_lines c.closed) last in
    let middle = before (columns_lines c.columns) closing in
    let reduced = before (classes_lines c.classes) middle in
    let kinds = before (kind_lines c.kind) reduced in
    let some6 : 0 < length last = omega arith in
    let some5 = some_left (closed_lines c.closed) last some6 in
    let some4 = some_left (columns_lines c.columns) closing some5 in
    let some7 = some_left (classes_lines c.classes) middle some4 in
    let some3 = some_left (kind_lines c.kind) reduced some7 in
    let regroup : before (lines c) tail ≡ joined 32 one ∷ joined 32 two ∷ joined 32 three ∷ kinds =
    before_append (((head ++ classes_lines c.classes) ++ columns_lines c.columns) ++ closed_lines c.closed) ((codes "end" ∷ []) ∷ []) tail
    ∙ before_append ((head ++ classes_lines c.classes) ++ columns_lines c.columns) (closed_lines c.closed) last
    ∙ before_append (head ++ classes_lines c.classes) (columns_lines c.columns) closing ∙ before_append head (classes_lines c.classes) middle in
    let r1 = header_read c.version 1 (joined 32 two ∷ joined 32 three ∷ kinds) (omega arith) in
    let r2 = kind_read c.kind 2 (joined 32 three ∷ kinds) (omega arith) in
    let r3 = bound_read c.bound ok.bound 3 kinds some3 in
    let r4 = parts_read c.kind ok.kind 4 reduced some7 in
    let r5 = all_classes_again c.version c.classes ok.classes r4.0 middle some4 in
    let r6 = columns_read c.version c.columns ok.columns r5.0 closing some5 in
    let r7 = closed_read c.closed ok.closed r6.0 last some6 in
    (r7.0, rw (regroup, r1, r2, r3, r4.1, r5.1, r6.1, r7.1) refl)

all_again : (c : CertificateValue) → IsLawful c → certificate_at (lines_from 1 (before (lines c) ([] ∷ []))) ≡ Ok c
all_again c ok =
    let behind = all_behind c ok ([] ∷ []) (omega arith) in
    behind.1 ∙ ap (λ (r : Result (Unit {0}) CertFault). r >>= λ end. Ok c) (end_read behind.0)

-- what is spelled is read again
pub certificate_again : (c : CertificateValue) → IsLawful c → length (spelling c) ≤ 2 ^ 30 → certificate_of (spelling c) ≡ Ok c
unfolding certificate_of
certificate_again c ok short =
    let t : nat_lt (2 ^ 30) (length (spelling c)) ≡ false = grind (arith, nat_tests) in
    rw (t, lines_of_text (lines c) (plain_lines (lines c) (words_lines c ok))) (all_again c ok)

-- ---- fronts

end_left : (n : ℕ) (tail : List (List ℕ)) → 0 < length tail → is_nothing tail ≡ false → end_at (lines_from n (before ((codes "end" ∷ []) ∷ []) tail)) ≡ Err (fault.Trailing (n + 1))
unfolding end_at fixed_at
end_left n tail some left = rw (line_again n (codes "end") tail some, left) refl

-- lines that are nothing are those of no byte
no_bytes : (xs : List ℕ) → is_nothing (pieces 10 xs) ≡ true → xs ≡ []
unfolding pieces
no_bytes [] e = refl
no_bytes (x ∷ xs) e = absurd (go (eqb x 10) e)
  where
    go : (b : Bool) → is_nothing (cond b ([] ∷ pieces 10 xs) (into_first x (pieces 10 xs))) ≡ true → ⊥
    go true f = let more = some_piece 10 xs in let shown : is_nothing ([] ∷ more.0 ∷ more.1) ≡ true = rw more.2 at f in false≢true shown
    go false f = let more = some_piece 10 xs in let shown : is_nothing (into_first x (more.0 ∷ more.1)) ≡ true = rw more.2 at f in false≢true shown

-- no certificate's text goes on behind that of another
pub no_front : (c d : CertificateValue) (rest : List ℕ) → IsLawful c → IsLawful d → spelling d ≡ spelling c ++ rest → length (spelling d) ≤ 2 ^ 30 → rest ≡ []
unfolding certificate_of
no_front c d rest ok fine is short = go (is_nothing (pieces 10 rest)) refl
  where
    some : 0 < length (pieces 10 rest)
    some = let more = some_piece 10 rest in let long = ap (λ (xs : List (List ℕ)). length xs) more.2 in omega arith

    split : pieces 10 (spelling d) ≡ before (lines c) (pieces 10 rest)
    split = ap (pieces 10) is ∙ lines_behind (lines c) rest (plain_lines (lines c) (words_lines c ok))

    again : certificate_at (lines_from 1 (before (lines c) (pieces 10 rest))) ≡ Ok d
    again =
        let t : nat_lt (2 ^ 30) (length (spelling d)) ≡ false = grind (arith, nat_tests) in
        let whole : certificate_at (lines_from 1 (pieces 10 (spelling d))) ≡ Ok d = rw t at (certificate_again d fine short) in
        ap (λ (ls : List (List ℕ)). certificate_at (lines_from 1 ls)) (sym split) ∙ whole

    go : (b : Bool) → is_nothing (pieces 10 rest) ≡ b → rest ≡ []
    go true e = no_bytes rest e
    go false e =
        let behind = all_behind c ok (pieces 10 rest) some in
        let refused : certificate_at (lines_from 1 (before (lines c) (pieces 10 rest))) ≡ Err (fault.Trailing (behind.0 + 1)) =
        behind.1 ∙ ap (λ (r : Result (Unit {0}) CertFault). r >>= λ end. Ok c) (end_left behind.0 (pieces 10 rest) some e) in
        let both : Ok d ≡ Err (fault.Trailing (behind.0 + 1)) = sym again ∙ refused in
        absurd cc
