-- Each reader of a part of the text keeps every frame.
use Rattle.std.proofs.Common.{◌≡◌, ℕ, ◌+◌, ◌^◌, ◌⊎◌, inl, inr, Bool, true, false, cond, List, [], ◌∷◌, ◌++◌, length, map, Option, Some, None, refl, sym, Result, Ok, Err}
use Rattle.std.specs.Prelude.{codes, ◌&&◌, ◌||◌, ◌==◌, not, nat_le}
use Rattle.std.specs.Str.{bytes_eq}
use Rattle.std.specs.List.{list_all}
use Rattle.cost.specs.Distances.{Distance}
use Rattle.cert_text.specs.declared.fault.CertFault.{CertFault}
use Rattle.abstraction_domain.specs.Rows.{Row, are_numbered, shares_class}
use Rattle.abstraction_mapping.specs.Mappings.{Mapping, Pattern, Domains}
use Rattle.cert_value.specs.declared.certificate.Version.{Version}
use Rattle.cert_value.specs.declared.certificate.Version.TheVariants.{One, Two, Three}
use Rattle.cert_value.specs.declared.table.Share.{Share}
use Rattle.cert_value.specs.Certificates.{FiniteDomain, Planning, Table, Entry, width_of}
use Rattle.cert_text.specs.Pieces.{pieces}
use Rattle.cert_text.specs.Reading.{◌>>=◌, Remaining, line_at, repeated, number, number_in, numbers_in, distance_in, distances_in, shares_in, is_increasing, filled, formed, numbered, ordered, fixed_at, second_of, count_at, agrees, counted_of, headed_of, kind_at, bound_of, bound_at, is_atom_word, atom_of, atom_at, behind, atoms_at, variable_of, variable_at, variables_at, parts_at, sized_of, classes_of, must_share, sharing_of, sharing_at, classes_step, all_classes_at, classes_at, pattern_of, next_variable, row_of, row_at, row_step, is_domain, mapping_behind, mapping_at, rows_at, shares_of, values_of, table_at, column_at, columns_at, has_width, entry_numbers, entry_of, entry_at, entry_step, closed_at}
use Rattle.line_laws.proofs.Readings.{given, then_then}
use Rattle.line_laws.proofs.Frames.{Frame, Pairs, Rests, pure_pair, pure_rest, then_pair, OnLine, on_then}
use Rattle.line_laws.proofs.Lines.{Single, single_line, single_tested, reads_single, reads_tested}
use Rattle.line_laws.proofs.CertReading.{Cert, repeated_reads}
use Rattle.line_laws.proofs.CertTests.{formed_is, on_formed, on_numbered, on_ordered, on_classified}

-- ---- faults of one line

on_second : (m : ℕ) (keyword : List ℕ) (ws : List (List ℕ)) → OnLine Cert m (second_of m keyword ws)
on_second m keyword [] = refl
on_second m keyword (k ∷ []) = refl
on_second m keyword (k ∷ w ∷ []) = on_formed m (bytes_eq k keyword && not (bytes_eq w [])) w
on_second m keyword (k ∷ w ∷ x ∷ ws) = refl

on_counted : (m : ℕ) (pairs : Bool) (ws : List (List ℕ)) → OnLine Cert m (counted_of m pairs ws)
on_counted m pairs [] = refl
on_counted m pairs (k ∷ []) = refl
on_counted m pairs (k ∷ c ∷ ws) = on_formed m (agrees pairs (filled (k ∷ c ∷ ws)) (number c)) (record { first = k; count = c; words = ws })

on_headed : (m : ℕ) (keyword : List ℕ) (pairs : Bool) (ws : List (List ℕ)) → OnLine Cert m (headed_of m keyword pairs ws)
unfolding headed_of
on_headed m keyword pairs ws = on_then Cert m (counted_of m pairs ws) _ (on_counted m pairs ws) (λ form. on_formed m (bytes_eq form.first keyword) form)

on_bound : (m : ℕ) (ws : List (List ℕ)) → OnLine Cert m (bound_of m ws)
unfolding bound_of
on_bound m ws = on_then Cert m (second_of m (codes "bound") ws) _ (on_second m (codes "bound") ws) (λ word. on_numbered m (distance_in (2 ^ 62 + 1) word))

on_atom : (m : ℕ) (ws : List (List ℕ)) → OnLine Cert m (atom_of m ws)
unfolding atom_of
on_atom m ws = on_formed m (list_all is_atom_word ws) ws

on_variable : (atoms m : ℕ) (ws : List (List ℕ)) → OnLine Cert m (variable_of atoms m ws)
unfolding variable_of
on_variable atoms m ws = on_then Cert m (counted_of m false ws) _ (on_counted m false ws) (λ form.
    on_then Cert m (numbered m (number_in 0 2 form.first)) _ (on_numbered m (number_in 0 2 form.first)) (λ flag.
    on_then Cert m (numbered m (number_in 1 (2 ^ 32) form.count)) _ (on_numbered m (number_in 1 (2 ^ 32) form.count)) (λ count.
    on_then Cert m (numbered m (numbers_in atoms form.words)) _ (on_numbered m (numbers_in atoms form.words)) (λ numbers.
    on_ordered m (is_increasing numbers) (record { has_none_value = flag == 1; atoms = numbers })))))

on_sized : (m : ℕ) (ws : List (List ℕ)) → OnLine Cert m (sized_of m ws)
on_sized m [] = refl
on_sized m (c ∷ ws) = on_formed m (has_width (number c) (filled (c ∷ ws))) (c, ws)

on_classes : (m : ℕ) (ws : List (List ℕ)) → OnLine Cert m (classes_of m ws)
unfolding classes_of
on_classes m ws = on_then Cert m (sized_of m ws) _ (on_sized m ws) (λ form.
    on_then Cert m (numbered m (number_in 1 (2 ^ 32) form.0)) _ (on_numbered m (number_in 1 (2 ^ 32) form.0)) (λ count.
    on_then Cert m (numbered m (numbers_in (2 ^ 32) form.1)) _ (on_numbered m (numbers_in (2 ^ 32) form.1)) (λ classes.
    on_classified m (are_numbered classes) classes)))

on_sharing : (must : Bool) (m : ℕ) (ws : List (List ℕ)) → OnLine Cert m (sharing_of must m ws)
unfolding sharing_of
on_sharing must m ws = on_then Cert m (classes_of m ws) _ (on_classes m ws) (λ classes. on_classified m (not must || shares_class classes) classes)

on_pattern : (m : ℕ) (ws : List (List ℕ)) → OnLine Cert m (pattern_of m ws)
unfolding pattern_of
on_pattern m ws = on_then Cert m (headed_of m (codes "table") false ws) _ (on_headed m (codes "table") false ws) (λ form.
    on_then Cert m (numbered m (number_in 1 (2 ^ 32) form.count)) _ (on_numbered m (number_in 1 (2 ^ 32) form.count)) (λ count.
    on_then Cert m (numbered m (numbers_in (2 ^ 32) form.words)) _ (on_numbered m (numbers_in (2 ^ 32) form.words)) (λ pattern.
    on_ordered m (is_increasing pattern) pattern)))

on_row : (least m : ℕ) (ws : List (List ℕ)) → OnLine Cert m (row_of least m ws)
unfolding row_of
on_row least m ws = on_then Cert m (counted_of m false ws) _ (on_counted m false ws) (λ form.
    on_then Cert m (numbered m (number_in 0 (2 ^ 32) form.first)) _ (on_numbered m (number_in 0 (2 ^ 32) form.first)) (λ variable.
    on_then Cert m (numbered m (number_in 1 (2 ^ 32) form.count)) _ (on_numbered m (number_in 1 (2 ^ 32) form.count)) (λ count.
    on_then Cert m (numbered m (numbers_in (2 ^ 32) form.words)) _ (on_numbered m (numbers_in (2 ^ 32) form.words)) (λ classes.
    on_then {A = Row} Cert m (ordered m (nat_le least variable) (record { variable = variable; classes = classes })) _ (on_ordered m (nat_le least variable) (record { variable = variable; classes = classes })) (λ row.
    on_classified m (are_numbered classes) row)))))

on_shares : (m : ℕ) (ws : List (List ℕ)) → OnLine Cert m (shares_of m ws)
unfolding shares_of
on_shares m ws = on_then Cert m (headed_of m (codes "shares") true ws) _ (on_headed m (codes "shares") true ws) (λ form.
    on_then Cert m (numbered m (number_in 0 (2 ^ 32) form.count)) _ (on_numbered m (number_in 0 (2 ^ 32) form.count)) (λ count.
    on_then Cert m (numbered m (shares_in form.words)) _ (on_numbered m (shares_in form.words)) (λ shares.
    on_ordered m (is_increasing (map (λ s. s.operator) shares)) shares)))

on_values : (m : ℕ) (ws : List (List ℕ)) → OnLine Cert m (values_of m ws)
unfolding values_of
on_values m ws = on_then Cert m (headed_of m (codes "values") false ws) _ (on_headed m (codes "values") false ws) (λ form.
    on_then Cert m (numbered m (number_in 0 (2 ^ 24 + 1) form.count)) _ (on_numbered m (number_in 0 (2 ^ 24 + 1) form.count)) (λ count.
    on_numbered m (distances_in (2 ^ 55 + 1) form.words)))

on_numbers : (m : ℕ) (ws : List (List ℕ)) → OnLine Cert m (entry_numbers m ws)
on_numbers m [] = refl
on_numbers m (g ∷ ws) = on_then Cert m (numbered m (number_in 0 (2 ^ 62 + 1) g)) _ (on_numbered m (number_in 0 (2 ^ 62 + 1) g)) (λ cost.
    on_then Cert m (numbered m (numbers_in (2 ^ 32) ws)) _ (on_numbered m (numbers_in (2 ^ 32) ws)) (λ state. tt))

on_entry : (width : Option ℕ) (m : ℕ) (ws : List (List ℕ)) → OnLine Cert m (entry_of width m ws)
unfolding entry_of
on_entry width m ws = on_then Cert m (formed m (has_width width (filled ws)) ws) _ (on_formed m (has_width width (filled ws)) ws) (λ form. on_numbers m form)

-- ---- lines

pub fixed : (F : Frame Cert) (word : List ℕ) → Rests F (fixed_at word)
unfolding fixed_at
fixed F word = reads_tested F (λ q. tt) (λ q. q) line_at (single_line Cert) (λ m a. formed m (bytes_eq a word) tt) (λ m a. on_formed m (bytes_eq a word) tt)
    (λ m a q. formed m (bytes_eq a word) q) (λ v q. Ok q) (λ m a q. formed_is m (bytes_eq a word) q) (λ v. pure_rest F)

-- a line, and what one function makes of its words
of_words : {A : Type 0} (h : ℕ → List (List ℕ) → Result A CertFault) → ((m : ℕ) (ws : List (List ℕ)) → OnLine Cert m (h m ws)) → Single Cert (λ r. line_at r >>= λ l. h r.number (pieces 32 l.0) >>= λ x. given Cert x l.1)
of_words h on = single_tested Cert line_at (single_line Cert) (λ m a. h m (pieces 32 a)) (λ m a. on m (pieces 32 a)) (λ m a q. h m (pieces 32 a) >>= λ x. given Cert x q) (λ m a q. refl)

count_of : List ℕ → ℕ → ℕ → ℕ → List (List ℕ) → Result ℕ CertFault
count_of keyword least end m ws = second_of m keyword ws >>= λ word. numbered m (number_in least end word)

count_single : (keyword : List ℕ) (least end : ℕ) → Single Cert (count_at keyword least end)
unfolding count_at count_of
count_single keyword least end = single_tested Cert line_at (single_line Cert) (λ m a. count_of keyword least end m (pieces 32 a))
    (λ m a. on_then Cert m (second_of m keyword (pieces 32 a)) _ (on_second m keyword (pieces 32 a)) (λ word. on_numbered m (number_in least end word)))
    (λ m a q. second_of m keyword (pieces 32 a) >>= λ word. numbered m (number_in least end word) >>= λ count. given Cert count q)
    (λ m a q. sym (then_then Cert (second_of m keyword (pieces 32 a)) (λ word. numbered m (number_in least end word)) (λ count. given Cert count q)))

pub count : (F : Frame Cert) (keyword : List ℕ) (least end : ℕ) → Pairs F (count_at keyword least end)
count F keyword least end = reads_single F (count_at keyword least end) (count_single keyword least end)

-- this many items behind a line with their count
counted : {S : Type 0} (F : Frame Cert) (keyword : List ℕ) (least end : ℕ) (step : S → Remaining → Result (S × Remaining) CertFault) (s : S) → ((t : S) → Pairs F (step t))
    → Pairs F (λ r. count_at keyword least end r >>= λ n. repeated step n.0 s n.1)
counted F keyword least end step s each = then_pair F (count F keyword least end) (λ n. repeated_reads F step each n s)

one_more : {X : Type 0} (F : Frame Cert) (step : Remaining → Result (X × Remaining) CertFault) → Pairs F step → (xs : List X) → Pairs F (behind step xs)
one_more F step each xs = then_pair F each (λ x. pure_pair F (xs ++ x ∷ []))

-- ---- the parts

kind_test : ℕ → List ℕ → Result Bool CertFault
kind_test m a = cond (bytes_eq a (codes "pddl")) (Ok true) (formed m (bytes_eq a (codes "sas")) false)

kind_is : (m : ℕ) (q : Remaining) (planning sas : Bool) → cond planning (given Cert true q) (formed m sas (false, q)) ≡ (cond planning (Ok true) (formed m sas false) >>= λ (v : Bool). given Cert v q)
kind_is m q true sas = refl
kind_is m q false true = refl
kind_is m q false false = refl

on_kind : (m : ℕ) (planning sas : Bool) → OnLine Cert m (cond planning (Ok true) (formed m sas false))
on_kind m true sas = tt
on_kind m false sas = on_formed m sas false

pub kind : (F : Frame Cert) → Pairs F kind_at
unfolding kind_at kind_test
kind F = reads_single F kind_at (single_tested Cert line_at (single_line Cert) kind_test (λ m a. on_kind m (bytes_eq a (codes "pddl")) (bytes_eq a (codes "sas")))
    (λ m a q. cond (bytes_eq a (codes "pddl")) (Ok (true, q)) (formed m (bytes_eq a (codes "sas")) (false, q))) (λ m a q. kind_is m q (bytes_eq a (codes "pddl")) (bytes_eq a (codes "sas"))))

pub bound : (F : Frame Cert) → Pairs F bound_at
unfolding bound_at
bound F = reads_single F bound_at (of_words bound_of on_bound)

atom : (F : Frame Cert) → Pairs F atom_at
unfolding atom_at
atom F = reads_single F atom_at (of_words atom_of on_atom)

atoms : (F : Frame Cert) → Pairs F atoms_at
unfolding atoms_at
atoms F = counted F (codes "atoms") 0 (2 ^ 32) (behind atom_at) [] (one_more F atom_at (atom F))

variable : (F : Frame Cert) (n : ℕ) → Pairs F (variable_at n)
unfolding variable_at
variable F n = reads_single F (variable_at n) (of_words (variable_of n) (on_variable n))

variables : (F : Frame Cert) (n : ℕ) → Pairs F (variables_at n)
unfolding variables_at
variables F n = counted F (codes "vars") 0 (2 ^ 32) (behind (variable_at n)) [] (one_more F (variable_at n) (variable F n))

pub parts : (F : Frame Cert) (planning : Bool) → Pairs F (parts_at planning)
unfolding parts_at
parts F false = pure_pair F FiniteDomain
parts F true = then_pair F (atoms F) (λ xs. then_pair F (variables F (length xs)) (λ vs. pure_pair F (Planning xs vs)))

sharing : (F : Frame Cert) (must : Bool) → Pairs F (sharing_at must)
unfolding sharing_at
sharing F must = reads_single F (sharing_at must) (of_words (sharing_of must) (on_sharing must))

one_class_row : (F : Frame Cert) (count : ℕ) (rows : List (List ℕ)) → Pairs F (classes_step count rows)
unfolding classes_step
one_class_row F count rows = then_pair F (sharing F (must_share count rows)) (λ classes. pure_pair F (rows ++ classes ∷ []))

all_classes : (F : Frame Cert) → Pairs F all_classes_at
unfolding all_classes_at
all_classes F = then_pair F (count F (codes "classes") 1 (2 ^ 32)) (λ n. repeated_reads F (classes_step n) (one_class_row F n) n [])

pub classes : (F : Frame Cert) (version : Version) → Pairs F (classes_at version)
unfolding classes_at
classes F One = pure_pair F []
classes F Two = pure_pair F []
classes F Three = all_classes F

row : (F : Frame Cert) (least : ℕ) → Pairs F (row_at least)
unfolding row_at
row F least = reads_single F (row_at least) (of_words (row_of least) (on_row least))

one_row : (F : Frame Cert) (rows : List Row) → Pairs F (row_step rows)
unfolding row_step
one_row F rows = then_pair F (row F (next_variable rows)) (λ r. pure_pair F (rows ++ r ∷ []))

-- the first line of a mapping: a pattern, or a number of rows
abbrev of_pattern : List ℕ → Result (List ℕ ⊎ ℕ) CertFault
of_pattern pattern = Ok (inl pattern)

abbrev of_rows : ℕ → Result (List ℕ ⊎ ℕ) CertFault
of_rows n = Ok (inr n)

first_of_mapping : Bool → ℕ → List (List ℕ) → Result (List ℕ ⊎ ℕ) CertFault
first_of_mapping true m ws = second_of m (codes "domain") ws >>= λ word. numbered m (number_in 1 (2 ^ 32) word) >>= of_rows
first_of_mapping false m ws = pattern_of m ws >>= of_pattern

-- and what is read behind it
abbrev made_of : List Row × Remaining → Result (Mapping × Remaining) CertFault
made_of rows = Ok (Domains rows.0, rows.1)

behind_first : List ℕ ⊎ ℕ → Remaining → Result (Mapping × Remaining) CertFault
behind_first (inl pattern) q = Ok (Pattern pattern, q)
behind_first (inr n) q = repeated row_step n [] q >>= made_of

on_first : (domain : Bool) (m : ℕ) (ws : List (List ℕ)) → OnLine Cert m (first_of_mapping domain m ws)
unfolding first_of_mapping
on_first true m ws = on_then Cert m (second_of m (codes "domain") ws) _ (on_second m (codes "domain") ws) (λ word. on_then Cert m (numbered m (number_in 1 (2 ^ 32) word)) of_rows (on_numbered m (number_in 1 (2 ^ 32) word)) (λ n. tt))
on_first false m ws = on_then Cert m (pattern_of m ws) of_pattern (on_pattern m ws) (λ pattern. tt)

by_number : (m : ℕ) (o : Option ℕ) (q : Remaining) → ((numbered m o >>= λ n. repeated row_step n [] q) >>= made_of) ≡ ((numbered m o >>= of_rows) >>= λ first. behind_first first q)
unfolding behind_first
by_number m (Some n) q = refl
by_number m None q = refl

by_word : (m : ℕ) (p : Result (List ℕ) CertFault) (q : Remaining) → ((p >>= λ word. numbered m (number_in 1 (2 ^ 32) word) >>= λ n. repeated row_step n [] q) >>= made_of)
    ≡ ((p >>= λ word. numbered m (number_in 1 (2 ^ 32) word) >>= of_rows) >>= λ first. behind_first first q)
by_word m (Ok word) q = by_number m (number_in 1 (2 ^ 32) word) q
by_word m (Err e) q = refl

abbrev made_pattern : Remaining → List ℕ → Result (Mapping × Remaining) CertFault
made_pattern q pattern = Ok (Pattern pattern, q)

by_pattern : (p : Result (List ℕ) CertFault) (q : Remaining) → (p >>= made_pattern q) ≡ ((p >>= of_pattern) >>= λ first. behind_first first q)
unfolding behind_first
by_pattern (Ok pattern) q = refl
by_pattern (Err e) q = refl

mapping_is : (domain : Bool) (m : ℕ) (ws : List (List ℕ)) (q : Remaining) → mapping_behind domain m ws q ≡ (first_of_mapping domain m ws >>= λ first. behind_first first q)
unfolding mapping_behind rows_at first_of_mapping
mapping_is true m ws q = by_word m (second_of m (codes "domain") ws) q
mapping_is false m ws q = by_pattern (pattern_of m ws) q

behind_mapping : (F : Frame Cert) (first : List ℕ ⊎ ℕ) → Pairs F (behind_first first)
unfolding behind_first
behind_mapping F (inl pattern) = pure_pair F (Pattern pattern)
behind_mapping F (inr n) = then_pair F (repeated_reads F row_step (one_row F) n []) (λ rows. pure_pair F (Domains rows))

mapping : (F : Frame Cert) (version : Version) → Pairs F (mapping_at version)
unfolding mapping_at
mapping F version =
    reads_tested F (λ x. x.0) (λ x. x.1) line_at (single_line Cert) (λ m a. first_of_mapping (is_domain version (pieces 32 a)) m (pieces 32 a)) (λ m a. on_first (is_domain version (pieces 32 a)) m (pieces 32 a))
    (λ m a q. mapping_behind (is_domain version (pieces 32 a)) m (pieces 32 a) q) behind_first (λ m a q. mapping_is (is_domain version (pieces 32 a)) m (pieces 32 a) q) (behind_mapping F)

table : (F : Frame Cert) (version : Version) → Pairs F (table_at version)
unfolding table_at
table F version =
    then_pair F (mapping F version) (λ m.
    reads_tested F (λ x. x.0) (λ x. x.1) line_at (single_line Cert) (λ n a. shares_of n (pieces 32 a)) (λ n a. on_shares n (pieces 32 a)) (λ n a q. shares_of n (pieces 32 a) >>= λ shares. values_from m shares q) (values_from m) (λ n a q. refl) (λ shares.
    reads_tested F (λ x. x.0) (λ x. x.1) line_at (single_line Cert) (λ n a. values_of n (pieces 32 a)) (λ n a. on_values n (pieces 32 a)) (λ n a q. values_of n (pieces 32 a) >>= λ values. made m shares values q) (made m shares) (λ n a q. refl) (λ values.
    pure_pair F (record { mapping = m; shares = shares; values = values }))))
  where
    made : Mapping → List Share → List Distance → Remaining → Result (Table × Remaining) CertFault
    made m shares values q = Ok (record { mapping = m; shares = shares; values = values }, q)

    values_from : Mapping → List Share → Remaining → Result (Table × Remaining) CertFault
    values_from m shares q = line_at q >>= λ third. values_of q.number (pieces 32 third.0) >>= λ values. made m shares values third.1

column : (F : Frame Cert) (version : Version) → Pairs F (column_at version)
unfolding column_at
column F version = counted F (codes "column") 1 65 (behind (table_at version)) [] (one_more F (table_at version) (table F version))

pub columns : (F : Frame Cert) (version : Version) → Pairs F (columns_at version)
unfolding columns_at
columns F version = counted F (codes "columns") 0 65 (behind (column_at version)) [] (one_more F (column_at version) (column F version))

entry : (F : Frame Cert) (width : Option ℕ) → Pairs F (entry_at width)
unfolding entry_at
entry F width = reads_single F (entry_at width) (of_words (entry_of width) (on_entry width))

one_entry : (F : Frame Cert) (entries : List Entry) → Pairs F (entry_step entries)
unfolding entry_step
one_entry F entries = then_pair F (entry F (width_of entries)) (λ e. pure_pair F (entries ++ e ∷ []))

pub closed : (F : Frame Cert) → Pairs F closed_at
unfolding closed_at
closed F = counted F (codes "closed") 0 (2 ^ 32) entry_step [] (one_entry F)
