-- What is read was spelled so, all of it.
use Rattle.std.proofs.Common.{◌≡◌, ℕ, zero, suc, ◌^◌, ◌<◌, ◌≤◌, Bool, true, false, cond, List, [], ◌∷◌, ◌++◌, length, map, Option, Some, Result, Ok, Err, refl, sym, ap, subst, ◌∙◌, arith, append_assoc}
use Rattle.std.specs.Prelude.{nat_lt, codes}
use Rattle.std.specs.Str.{bytes_eq}
use Rattle.std.specs.List.{flat_map, AllByRecursion}
use Rattle.std.proofs.lemmas.List.{append-nil, map-append}
use Rattle.std.proofs.lemmas.List.Concat.{flat_map_single}
use Rattle.cost.specs.Distances.{Distance, IsWithin, distance_text}
use Rattle.cert_text.specs.declared.fault.CertFault.{CertFault}
use Rattle.cert_text.specs.declared.fault.CertFault.TheVariants as fault
use Rattle.cert_value.specs.Certificates.{Kind, FiniteDomain, Planning, Variable, Table, Entry, CertificateValue, width_of}
use Rattle.cert_text.specs.Pieces.{pieces, joined}
use Rattle.cert_text.specs.Spelling.{counted, variable_line, kind_line, kind_lines, classes_lines, mapping_lines, shares_line, values_line, table_lines, column_lines, columns_lines, entry_line, closed_lines, version_text, lines, spelling}
use Rattle.cert_value.specs.declared.certificate.Version.{Version}
use Rattle.cert_value.specs.declared.certificate.Version.TheVariants.{One, Two, Three}
use Rattle.cert_value.specs.Lawful.{IsAtom, IsVariable, IsLawfulKind, IsTable, IsColumn, AreColumns, IsEntry, AreEntries, IsLawful}
use Rattle.cert_text.specs.Reading.{◌>>=◌, Remaining, line_at, repeated, behind, formed, count_at, fixed_at, header_at, kind_at, bound_of, bound_at, atom_of, atom_at, atoms_at, variable_of, variable_at, variables_at, parts_at, classes_at, mapping_at, shares_of, values_of, table_at, column_at, columns_at, entry_of, entry_at, entry_step, closed_at, is_nothing, end_at, certificate_at, certificate_of}
use Rattle.cert_text.proofs.Steps.{bind_ok, bind_by, formed_ok, ok_is, some_is}
use Rattle.cert_text.proofs.Joining.{joined_pieces, text_of_lines}
use Rattle.cert_text.proofs.Widths.{AreAsWide, next_fits, wide_push}
use Rattle.cert_text.proofs.Found.{Takes, Takes-then, nothing_taken, one_text, one_line, same_bytes, fixed_found, count_found}
use Rattle.cert_text.proofs.FoundLines.{not_empty, bound_found, shares_line_found, values_found, variable_found, atom_found, entry_found}
use Rattle.cert_text.proofs.FoundClasses.{all_classes_found}
use Rattle.cert_text.proofs.FoundRows.{mapping_found}

-- what a step that is done this many times reads
pub record ItemsRead {X : Type 0} (spell : X → List (List (List ℕ))) (P : X → Type 0) (n : ℕ) (r q : Remaining) (front back : List X) : Type 0 where
  pub items : List X
  pub is_behind : back ≡ front ++ items
  pub count : length items ≡ n
  pub taken : Takes r (flat_map spell items) q
  pub each : AllByRecursion P items

abbrev pub StepReads : {X : Type 0} → (X → List (List (List ℕ))) → (X → Type 0) → (Remaining → Result (X × Remaining) CertFault) → Type 0
StepReads {X} spell P step = (r q : Remaining) (x : X) → step r ≡ Ok (x, q) → Takes r (spell x) q × P x

pub items_read : {X : Type 0} (spell : X → List (List (List ℕ))) (P : X → Type 0) (step : Remaining → Result (X × Remaining) CertFault) → StepReads spell P step
    → (n : ℕ) (front : List X) (r : Remaining) (back : List X) (q : Remaining) → repeated (behind step) n front r ≡ Ok (back, q) → ItemsRead spell P n r q front back
unfolding repeated
items_read {X} spell P step reads zero front r back q e =
    let here : List X × Remaining = (front, r) in
    let same = ok_is here (back, q) e in
    record { items = []; is_behind = ap (λ (p : List X × Remaining). p.0) (sym same) ∙ sym (append-nil front); count = refl; taken = nothing_taken r q (ap (λ (p : List X × Remaining). p.1) same); each = tt }
items_read {X} spell P step reads (suc n) front r back q e =
    let a = bind_ok (behind step front r) (λ x. repeated (behind step) n x.0 x.1) (back, q) e in
    let b = bind_ok (step r) (λ x. Ok (front ++ x.0 ∷ [], x.1)) a.0 a.1 in
    let made : List X × Remaining = (front ++ b.0.0 ∷ [], b.0.1) in
    let same = ok_is made a.0 b.2 in
    let more = items_read spell P step reads n (front ++ b.0.0 ∷ []) b.0.1 back q (ap (λ (p : List X × Remaining). repeated (behind step) n p.0 p.1) same ∙ a.2) in
    let one = reads r b.0.1 b.0.0 b.1 in
    record {
      items = b.0.0 ∷ more.items;
      is_behind = more.is_behind ∙ append_assoc front (b.0.0 ∷ []) more.items;
      count = ap suc more.count;
      taken = Takes-then r b.0.1 q (spell b.0.0) (flat_map spell more.items) one.0 more.taken;
      each = (one.1, more.each);
    }

-- a line with a count, and that many items
pub section_read : {X : Type 0} (spell : X → List (List (List ℕ))) (P : X → Type 0) (step : Remaining → Result (X × Remaining) CertFault) → StepReads spell P step
    → (keyword : List ℕ) (least end : ℕ) (r : Remaining) (back : List X) (q : Remaining) → end ≤ 2 ^ 64 → (count_at keyword least end r >>= λ count. repeated (behind step) count.0 [] count.1) ≡ Ok (back, q)
    → Takes r (counted keyword (length back) [] ∷ flat_map spell back) q × AllByRecursion P back × (least ≤ length back) × (length back < end)
section_read {X} spell P step reads keyword least end r back q small e =
    let a = bind_ok (count_at keyword least end r) (λ count. repeated (behind step) count.0 [] count.1) (back, q) e in
    let c = count_found keyword least end r a.0.1 a.0.0 small a.1 in
    let m = items_read spell P step reads a.0.0 [] a.0.1 back q a.2 in
    let same : m.items ≡ back = sym m.is_behind in
    let count : a.0.0 ≡ length back = sym m.count ∙ ap (λ (xs : List X). length xs) same in (
      subst (λ (n : ℕ). Takes r (counted keyword n [] ∷ flat_map spell back) q) count
          (Takes-then r a.0.1 q (counted keyword a.0.0 [] ∷ []) (flat_map spell back) c.0 (subst (λ (xs : List X). Takes a.0.1 (flat_map spell xs) q) same m.taken)),
      subst (AllByRecursion P) same m.each,
      omega (arith, c.1, count),
      omega (arith, c.2, count),
    )

-- ---- atoms and variables

atom_read : StepReads (λ atom. atom ∷ []) IsAtom atom_at
unfolding atom_at
atom_read r q x e =
    let a = bind_ok (line_at r) (λ l. atom_of r.number (pieces 32 l.0) >>= λ atom. Ok (atom, l.1)) (x, q) e in
    let b = bind_ok (atom_of r.number (pieces 32 a.0.0)) (λ atom. Ok (atom, a.0.1)) (x, q) a.2 in
    let made : List (List ℕ) × Remaining = (b.0, a.0.1) in
    let f = atom_found r.number a.0.0 b.0 b.1 in
    subst (λ (p : List (List ℕ) × Remaining). Takes r (p.0 ∷ []) p.1 × IsAtom p.0) (ok_is made (x, q) b.2) (one_line r a.0.1 a.0.0 b.0 a.1 f.0, f.1)

variable_read : (atoms : ℕ) → atoms < 2 ^ 32 → StepReads (λ v. variable_line v ∷ []) (IsVariable atoms) (variable_at atoms)
unfolding variable_at
variable_read atoms few r q x e =
    let a = bind_ok (line_at r) (λ l. variable_of atoms r.number (pieces 32 l.0) >>= λ v. Ok (v, l.1)) (x, q) e in
    let b = bind_ok (variable_of atoms r.number (pieces 32 a.0.0)) (λ v. Ok (v, a.0.1)) (x, q) a.2 in
    let made : Variable × Remaining = (b.0, a.0.1) in
    let f = variable_found atoms r.number (pieces 32 a.0.0) b.0 few b.1 in
    subst (λ (p : Variable × Remaining). Takes r (variable_line p.0 ∷ []) p.1 × IsVariable atoms p.0) (ok_is made (x, q) b.2) (one_line r a.0.1 a.0.0 (variable_line b.0) a.1 f.0, f.1)

singles : (xs : List (List (List ℕ))) → flat_map (λ (x : List (List ℕ)). x ∷ []) xs ≡ xs
singles [] = refl
singles (x ∷ xs) = ap (λ (ys : List (List (List ℕ))). x ∷ ys) (singles xs)

-- the word on the line of the kind
abbrev kind_words : Bool → List (List ℕ)
kind_words true = codes "pddl" ∷ []
kind_words false = codes "sas" ∷ []

parts_read : (planning : Bool) (r q : Remaining) (k : Kind) → parts_at planning r ≡ Ok (k, q) → Takes r (kind_lines k) q × IsLawfulKind k × (kind_line k ≡ kind_words planning)
unfolding parts_at atoms_at variables_at
parts_read false r q k e =
    let made : Kind × Remaining = (FiniteDomain, r) in
    subst (λ (p : Kind × Remaining). Takes r (kind_lines p.0) p.1 × IsLawfulKind p.0 × (kind_line p.0 ≡ kind_words false)) (ok_is made (k, q) e) (nothing_taken r r refl, tt, refl)
parts_read true r q k e =
    let a = bind_ok (atoms_at r) (λ atoms. variables_at (length atoms.0) atoms.1 >>= λ variables. Ok (Planning atoms.0 variables.0, variables.1)) (k, q) e in
    let b = bind_ok (variables_at (length a.0.0) a.0.1) (λ variables. Ok (Planning a.0.0 variables.0, variables.1)) (k, q) a.2 in
    let made : Kind × Remaining = (Planning a.0.0 b.0.0, b.0.1) in
    let s = section_read (λ atom. atom ∷ []) IsAtom atom_at atom_read (codes "atoms") 0 (2 ^ 32) r a.0.0 a.0.1 (omega arith) a.1 in
    let t = section_read (λ v. variable_line v ∷ []) (IsVariable (length a.0.0)) (variable_at (length a.0.0)) (variable_read (length a.0.0) s.3) (codes "vars") 0 (2 ^ 32) a.0.1 b.0.0 b.0.1 (omega arith) b.1 in
    let first = subst (λ (ls : List (List (List ℕ))). Takes r (counted (codes "atoms") (length a.0.0) [] ∷ ls) a.0.1) (singles a.0.0) s.0 in
    let second = subst (λ (ls : List (List (List ℕ))). Takes a.0.1 (counted (codes "vars") (length b.0.0) [] ∷ ls) b.0.1) (flat_map_single variable_line b.0.0) t.0 in
    let both = Takes-then r a.0.1 b.0.1 (counted (codes "atoms") (length a.0.0) [] ∷ a.0.0) (counted (codes "vars") (length b.0.0) [] ∷ map variable_line b.0.0) first second in
    subst (λ (p : Kind × Remaining). Takes r (kind_lines p.0) p.1 × IsLawfulKind p.0 × (kind_line p.0 ≡ kind_words true)) (ok_is made (k, q) b.2)
    (both, record { few_atoms = s.3; each_atom = s.1; few_variables = t.3; each_variable = t.1 }, refl)

-- ---- tables

table_read : (version : Version) → StepReads table_lines (IsTable version) (table_at version)
unfolding table_at
table_read version r q x e =
    let a = bind_ok (mapping_at version r) (λ mapping. line_at mapping.1 >>= λ second. shares_of mapping.1.number (pieces 32 second.0) >>= λ shares. line_at second.1 >>= λ third. values_of second.1.number (pieces 32 third.0) >>= λ values. Ok (record { mapping = mapping.0; shares = shares; values = values }, third.1)) (x, q) e in
    let c = bind_ok (line_at a.0.1) (λ second. shares_of a.0.1.number (pieces 32 second.0) >>= λ shares. line_at second.1 >>= λ third. values_of second.1.number (pieces 32 third.0) >>= λ values. Ok (record { mapping = a.0.0; shares = shares; values = values }, third.1)) (x, q) a.2 in
    let d = bind_ok (shares_of a.0.1.number (pieces 32 c.0.0)) (λ shares. line_at c.0.1 >>= λ third. values_of c.0.1.number (pieces 32 third.0) >>= λ values. Ok (record { mapping = a.0.0; shares = shares; values = values }, third.1)) (x, q) c.2 in
    let f = bind_ok (line_at c.0.1) (λ third. values_of c.0.1.number (pieces 32 third.0) >>= λ values. Ok (record { mapping = a.0.0; shares = d.0; values = values }, third.1)) (x, q) d.2 in
    let g = bind_ok (values_of c.0.1.number (pieces 32 f.0.0)) (λ values. Ok (record { mapping = a.0.0; shares = d.0; values = values }, f.0.1)) (x, q) f.2 in
    let t : Table = record { mapping = a.0.0; shares = d.0; values = g.0 } in
    let made : Table × Remaining = (t, f.0.1) in
    let m = mapping_found version r a.0.1 a.0.0 a.1 in
    let s = shares_line_found a.0.1.number (pieces 32 c.0.0) d.0 d.1 in
    let v = values_found c.0.1.number (pieces 32 f.0.0) g.0 g.1 in
    let two = one_line a.0.1 c.0.1 c.0.0 (shares_line t) c.1 s.0 in
    let three = one_line c.0.1 f.0.1 f.0.0 (values_line t) f.1 v.0 in
    let whole = Takes-then r a.0.1 f.0.1 (mapping_lines t.mapping) (shares_line t ∷ values_line t ∷ []) m.0 (Takes-then a.0.1 c.0.1 f.0.1 (shares_line t ∷ []) (values_line t ∷ []) two three) in
    subst (λ (y : Table × Remaining). Takes r (table_lines y.0) y.1 × IsTable version y.0) (ok_is made (x, q) g.2) (whole, record { mapping = m.1; shares = s.1; values = v.1 })

column_read : (version : Version) → StepReads column_lines (IsColumn version) (column_at version)
unfolding column_at
column_read version r q x e =
    let s = section_read table_lines (IsTable version) (table_at version) (table_read version) (codes "column") 1 65 r x q (omega arith) e in
    (s.0, record { some = not_empty x s.2; few = omega (arith, s.3); tables = s.1 })

columns_read : (version : Version) (r q : Remaining) (x : List (List Table)) → columns_at version r ≡ Ok (x, q) → Takes r (columns_lines x) q × AreColumns version x
unfolding columns_at
columns_read version r q x e =
    let s = section_read column_lines (IsColumn version) (column_at version) (column_read version) (codes "columns") 0 65 r x q (omega arith) e in
    (s.0, record { few = omega (arith, s.3); each = s.1 })

-- ---- states

entry_read : (width : Option ℕ) (r q : Remaining) (x : Entry) → entry_at width r ≡ Ok (x, q) → Takes r (entry_line x ∷ []) q × IsEntry (length x.state) x × ((l : List ℕ) × (entry_of width r.number (pieces 32 l) ≡ Ok x))
unfolding entry_at
entry_read width r q x e =
    let a = bind_ok (line_at r) (λ l. entry_of width r.number (pieces 32 l.0) >>= λ v. Ok (v, l.1)) (x, q) e in
    let b = bind_ok (entry_of width r.number (pieces 32 a.0.0)) (λ v. Ok (v, a.0.1)) (x, q) a.2 in
    let made : Entry × Remaining = (b.0, a.0.1) in
    let f = entry_found width r.number (pieces 32 a.0.0) b.0 b.1 in
    subst (λ (p : Entry × Remaining). Takes r (entry_line p.0 ∷ []) p.1 × IsEntry (length p.0.state) p.0 × ((l : List ℕ) × (entry_of width r.number (pieces 32 l) ≡ Ok p.0))) (ok_is made (x, q) b.2)
    (one_line r a.0.1 a.0.0 (entry_line b.0) a.1 f.0, f.1, (a.0.0, b.1))

-- what is read as states
pub record EntriesRead (n : ℕ) (r q : Remaining) (front back : List Entry) : Type 0 where
  pub items : List Entry
  pub is_behind : back ≡ front ++ items
  pub count : length items ≡ n
  pub taken : Takes r (map entry_line items) q
  pub each : AllByRecursion (λ (x : Entry). IsEntry (length x.state) x) items
  pub wide : AreAsWide back back

entries_read : (n : ℕ) (front : List Entry) (r : Remaining) (back : List Entry) (q : Remaining) → AreAsWide front front → repeated entry_step n front r ≡ Ok (back, q) → EntriesRead n r q front back
unfolding repeated entry_step
entries_read zero front r back q wide e =
    let here : List Entry × Remaining = (front, r) in
    let same = ok_is here (back, q) e in
    record {
      items = [];
      is_behind = ap (λ (p : List Entry × Remaining). p.0) (sym same) ∙ sym (append-nil front);
      count = refl;
      taken = nothing_taken r q (ap (λ (p : List Entry × Remaining). p.1) same);
      each = tt;
      wide = subst (λ (p : List Entry × Remaining). AreAsWide p.0 p.0) same wide;
    }
entries_read (suc n) front r back q wide e =
    let a = bind_ok (entry_step front r) (λ x. repeated entry_step n x.0 x.1) (back, q) e in
    let b = bind_ok (entry_at (width_of front) r) (λ x. Ok (front ++ x.0 ∷ [], x.1)) a.0 a.1 in
    let made : List Entry × Remaining = (front ++ b.0.0 ∷ [], b.0.1) in
    let same = ok_is made a.0 b.2 in
    let one = entry_read (width_of front) r b.0.1 b.0.0 b.1 in
    let fits = next_fits front b.0.0 r.number (pieces 32 one.2.0) wide one.2.1 in
    let more = entries_read n (front ++ b.0.0 ∷ []) b.0.1 back q (wide_push front b.0.0 fits) (ap (λ (p : List Entry × Remaining). repeated entry_step n p.0 p.1) same ∙ a.2) in
    record {
      items = b.0.0 ∷ more.items;
      is_behind = more.is_behind ∙ append_assoc front (b.0.0 ∷ []) more.items;
      count = ap suc more.count;
      taken = Takes-then r b.0.1 q (entry_line b.0.0 ∷ []) (map entry_line more.items) one.0 more.taken;
      each = (one.1, more.each);
      wide = more.wide;
    }

of_width : (all es : List Entry) (w : ℕ) → width_of all ≡ Some w → AreAsWide all es → AllByRecursion (λ (x : Entry). IsEntry (length x.state) x) es → AllByRecursion (IsEntry w) es
of_width all [] w is wide each = tt
of_width all (x ∷ es) w is wide each =
    (record { cost = each.0.cost; as_wide = some_is (length x.state) w (wide.0 ∙ is); values = each.0.values }, of_width all es w is wide.1 each.1)

are_entries : (es : List Entry) → length es < 2 ^ 32 → AreAsWide es es → AllByRecursion (λ (x : Entry). IsEntry (length x.state) x) es → AreEntries es
are_entries [] few wide each = record { few = few; width = 0; each = tt }
are_entries (x ∷ es) few wide each = record { few = few; width = length x.state; each = of_width (x ∷ es) (x ∷ es) (length x.state) refl wide each }

closed_read : (r q : Remaining) (es : List Entry) → closed_at r ≡ Ok (es, q) → Takes r (closed_lines es) q × AreEntries es
unfolding closed_at
closed_read r q es e =
    let a = bind_ok (count_at (codes "closed") 0 (2 ^ 32) r) (λ count. repeated entry_step count.0 [] count.1) (es, q) e in
    let c = count_found (codes "closed") 0 (2 ^ 32) r a.0.1 a.0.0 (omega arith) a.1 in
    let m = entries_read a.0.0 [] a.0.1 es q tt a.2 in
    let same : m.items ≡ es = sym m.is_behind in
    let count : a.0.0 ≡ length es = sym m.count ∙ ap (λ (xs : List Entry). length xs) same in (
      subst (λ (n : ℕ). Takes r (counted (codes "closed") n [] ∷ map entry_line es) q) count
          (Takes-then r a.0.1 q (counted (codes "closed") a.0.0 [] ∷ []) (map entry_line es) c.0 (subst (λ (xs : List Entry). Takes a.0.1 (map entry_line xs) q) same m.taken)),
      are_entries es (omega (arith, c.2, count)) m.wide (subst (AllByRecursion (λ (x : Entry). IsEntry (length x.state) x)) same m.each),
    )

-- ---- all

abbrev header_words : Version → List (List ℕ)
header_words version = codes "optplan-cert" ∷ version_text version ∷ []

abbrev is_version : List ℕ → Version → Bool
is_version l version = bytes_eq l (joined 32 (header_words version))

abbrev header_result : Bool → Bool → Bool → Remaining → Result (Version × Remaining) CertFault
header_result a b d x = cond a (Ok (One, x)) (cond b (Ok (Two, x)) (cond d (Ok (Three, x)) (Err fault.Header)))

header_of : (l : List ℕ) (version : Version) (x : Remaining) (read : Version × Remaining) → true ≡ is_version l version → (version, x) ≡ read
    → (l ≡ joined 32 (header_words read.0)) × (x ≡ read.1)
header_of l version x read is e =
    subst (λ (p : Version × Remaining). (l ≡ joined 32 (header_words p.0)) × (x ≡ p.1)) e (same_bytes l (joined 32 (header_words version)) (sym is), refl)

header_by : (l : List ℕ) (a b d : Bool) (x : Remaining) (read : Version × Remaining) → a ≡ is_version l One → b ≡ is_version l Two → d ≡ is_version l Three
    → header_result a b d x ≡ Ok read → (l ≡ joined 32 (header_words read.0)) × (x ≡ read.1)
header_by l true b d x read one two three e = header_of l One x read one (ok_is (One, x) read e)
header_by l false true d x read one two three e = header_of l Two x read two (ok_is (Two, x) read e)
header_by l false false true x read one two three e = header_of l Three x read three (ok_is (Three, x) read e)
header_by l false false false x read one two three e = absurd cc

header_read : (r q : Remaining) (version : Version) → header_at r ≡ Ok (version, q) → Takes r (header_words version ∷ []) q
unfolding header_at
header_read r q version e =
    let a = bind_ok (line_at r) (λ l. header_result (is_version l.0 One) (is_version l.0 Two) (is_version l.0 Three) l.1) (version, q) e in
    let h = header_by a.0.0 (is_version a.0.0 One) (is_version a.0.0 Two) (is_version a.0.0 Three) a.0.1 (version, q) refl refl refl a.2 in
    subst (Takes r (header_words version ∷ [])) h.1 (one_text r a.0.1 a.0.0 (header_words version) a.1 h.0)

abbrev kind_result : ℕ → Bool → Bool → Remaining → Result (Bool × Remaining) CertFault
kind_result line a b x = cond a (Ok (true, x)) (formed line b (false, x))

kind_by : (line : ℕ) (l : List ℕ) (a b : Bool) (x q : Remaining) (planning : Bool) → a ≡ bytes_eq l (codes "pddl") → b ≡ bytes_eq l (codes "sas") → kind_result line a b x ≡ Ok (planning, q)
    → (l ≡ joined 32 (kind_words planning)) × (x ≡ q)
kind_by line l true b x q planning is so e =
    let made : Bool × Remaining = (true, x) in
    let same = ok_is made (planning, q) e in
    (same_bytes l (codes "pddl") (sym is) ∙ ap (λ (p : Bool × Remaining). joined 32 (kind_words p.0)) same, ap (λ (p : Bool × Remaining). p.1) same)
kind_by line l false b x q planning is so e =
    let made : Bool × Remaining = (false, x) in
    let f = formed_ok line b made (planning, q) e in
    (same_bytes l (codes "sas") (sym so ∙ f.0) ∙ ap (λ (p : Bool × Remaining). joined 32 (kind_words p.0)) f.1, ap (λ (p : Bool × Remaining). p.1) f.1)

kind_read : (r q : Remaining) (planning : Bool) → kind_at r ≡ Ok (planning, q) → Takes r (kind_words planning ∷ []) q
unfolding kind_at
kind_read r q planning e =
    let a = bind_ok (line_at r) (λ l. kind_result r.number (bytes_eq l.0 (codes "pddl")) (bytes_eq l.0 (codes "sas")) l.1) (planning, q) e in
    let k = kind_by r.number a.0.0 (bytes_eq a.0.0 (codes "pddl")) (bytes_eq a.0.0 (codes "sas")) a.0.1 q planning refl refl a.2 in
    subst (Takes r (kind_words planning ∷ [])) k.1 (one_text r a.0.1 a.0.0 (kind_words planning) a.1 k.0)

bound_read : (r q : Remaining) (d : Distance) → bound_at r ≡ Ok (d, q) → Takes r ((codes "bound" ∷ distance_text d ∷ []) ∷ []) q × IsWithin (2 ^ 62) d
unfolding bound_at
bound_read r q d e =
    let a = bind_ok (line_at r) (λ l. bound_of r.number (pieces 32 l.0) >>= λ v. Ok (v, l.1)) (d, q) e in
    let b = bind_ok (bound_of r.number (pieces 32 a.0.0)) (λ v. Ok (v, a.0.1)) (d, q) a.2 in
    let made : Distance × Remaining = (b.0, a.0.1) in
    let f = bound_found r.number (pieces 32 a.0.0) b.0 b.1 in
    subst (λ (p : Distance × Remaining). Takes r ((codes "bound" ∷ distance_text p.0 ∷ []) ∷ []) p.1 × IsWithin (2 ^ 62) p.0) (ok_is made (d, q) b.2)
    (one_line r a.0.1 a.0.0 (codes "bound" ∷ distance_text b.0 ∷ []) a.1 f.0, f.1)

nothing_by : (ls : List (List ℕ)) → is_nothing ls ≡ true → ls ≡ [] ∷ []
nothing_by [] e = absurd cc
nothing_by ([] ∷ []) e = refl
nothing_by ([] ∷ m ∷ ms) e = absurd cc
nothing_by ((b ∷ bs) ∷ ls) e = absurd cc

end_by : (b : Bool) (n : ℕ) (x : Unit {0}) → cond b (Ok tt) (Err (fault.Trailing n)) ≡ Ok x → b ≡ true
end_by true n x e = refl
end_by false n x e = absurd cc

end_read : (r : Remaining) (x : Unit {0}) → end_at r ≡ Ok x → r.lines ≡ map (joined 32) ((codes "end" ∷ []) ∷ []) ++ [] ∷ []
unfolding end_at
end_read r x e =
    let a = bind_ok (fixed_at (codes "end") r) (λ rest. cond (is_nothing rest.lines) (Ok tt) (Err (fault.Trailing rest.number))) x e in
    let t = fixed_found (codes "end") (codes "end" ∷ []) r a.0 refl a.1 in
    t.parts ∙ ap (λ (ls : List (List ℕ)). map (joined 32) ((codes "end" ∷ []) ∷ []) ++ ls) (nothing_by a.0.lines (end_by (is_nothing a.0.lines) a.0.number x a.2))

ends_with : (r q : Remaining) (ls : List (List (List ℕ))) → Takes r ls q → q.lines ≡ map (joined 32) ((codes "end" ∷ []) ∷ []) ++ [] ∷ [] → r.lines ≡ map (joined 32) (ls ++ (codes "end" ∷ []) ∷ []) ++ [] ∷ []
ends_with r q ls t e =
    t.parts ∙ ap (λ (xs : List (List ℕ)). map (joined 32) ls ++ xs) e ∙ sym (append_assoc (map (joined 32) ls) (map (joined 32) ((codes "end" ∷ []) ∷ [])) ([] ∷ []))
    ∙ ap (λ (xs : List (List ℕ)). xs ++ [] ∷ []) (sym (map-append (joined 32) ls ((codes "end" ∷ []) ∷ [])))

long_by : (b : Bool) (x : Result CertificateValue CertFault) (c : CertificateValue) → cond b (Err fault.TooLong) x ≡ Ok c → x ≡ Ok c
long_by true x c e = absurd cc
long_by false x c e = e

-- the lines that remain are those of the certificate
abbrev AreOf : Remaining → CertificateValue → Type 0
AreOf r c = (r.lines ≡ map (joined 32) (lines c) ++ [] ∷ []) × IsLawful c

parts_found : (r r1 r2 r3 r4 r5 r6 r7 : Remaining) (planning : Bool) (end : Unit {0}) (c : CertificateValue) → header_at r ≡ Ok (c.version, r1) → kind_at r1 ≡ Ok (planning, r2) → bound_at r2 ≡ Ok (c.bound, r3)
    → parts_at planning r3 ≡ Ok (c.kind, r4) → classes_at c.version r4 ≡ Ok (c.classes, r5) → columns_at c.version r5 ≡ Ok (c.columns, r6) → closed_at r6 ≡ Ok (c.closed, r7) → end_at r7 ≡ Ok end → AreOf r c
parts_found r r1 r2 r3 r4 r5 r6 r7 planning end c e1 e2 e3 e4 e5 e6 e7 e8 =
    let t1 = header_read r r1 c.version e1 in
    let t2 = kind_read r1 r2 planning e2 in
    let t3 = bound_read r2 r3 c.bound e3 in
    let t4 = parts_read planning r3 r4 c.kind e4 in
    let t5 = all_classes_found c.version r4 r5 c.classes e5 in
    let t6 = columns_read c.version r5 r6 c.columns e6 in
    let t7 = closed_read r6 r7 c.closed e7 in
    let one = header_words c.version in
    let two = kind_line c.kind in
    let three = codes "bound" ∷ distance_text c.bound ∷ [] in
    let head = one ∷ two ∷ three ∷ kind_lines c.kind in
    let s2 = Takes-then r r1 r2 (one ∷ []) (two ∷ []) t1 (subst (λ (w : List (List ℕ)). Takes r1 (w ∷ []) r2) (sym t4.2) t2) in
    let s3 = Takes-then r r2 r3 (one ∷ two ∷ []) (three ∷ []) s2 t3.0 in
    let s4 = Takes-then r r3 r4 (one ∷ two ∷ three ∷ []) (kind_lines c.kind) s3 t4.0 in
    let s5 = Takes-then r r4 r5 head (classes_lines c.classes) s4 t5.0 in
    let s6 = Takes-then r r5 r6 (head ++ classes_lines c.classes) (columns_lines c.columns) s5 t6.0 in
    let s7 = Takes-then r r6 r7 ((head ++ classes_lines c.classes) ++ columns_lines c.columns) (closed_lines c.closed) s6 t7.0 in (
      ends_with r r7 (((head ++ classes_lines c.classes) ++ columns_lines c.columns) ++ closed_lines c.closed) s7 (end_read r7 end e8),
      record { kind = t4.1; bound = t3.1; classes = t5.1; columns = t6.1; closed = t7.1 },
    )

-- what is read after each part
abbrev behind_closed : Version → Kind → Distance → List (List ℕ) → List (List Table) → List Entry × Remaining → Result CertificateValue CertFault
behind_closed version kind bound classes columns closed =
    end_at closed.1 >>= λ end. Ok (record { version = version; kind = kind; bound = bound; classes = classes; columns = columns; closed = closed.0 })

abbrev behind_columns : Version → Kind → Distance → List (List ℕ) → List (List Table) × Remaining → Result CertificateValue CertFault
behind_columns version kind bound classes columns = closed_at columns.1 >>= λ closed. behind_closed version kind bound classes columns.0 closed

abbrev behind_classes : Version → Kind → Distance → List (List ℕ) × Remaining → Result CertificateValue CertFault
behind_classes version kind bound classes = columns_at version classes.1 >>= λ columns. behind_columns version kind bound classes.0 columns

abbrev behind_kind : Version → Distance → Kind × Remaining → Result CertificateValue CertFault
behind_kind version bound kind = classes_at version kind.1 >>= λ classes. behind_classes version kind.0 bound classes

abbrev behind_bound : Version → Bool → Distance × Remaining → Result CertificateValue CertFault
behind_bound version planning bound = parts_at planning bound.1 >>= λ kind. behind_kind version bound.0 kind

abbrev behind_planning : Version → Bool × Remaining → Result CertificateValue CertFault
behind_planning version planning = bound_at planning.1 >>= λ bound. behind_bound version planning.0 bound

abbrev behind_header : Version × Remaining → Result CertificateValue CertFault
behind_header header = kind_at header.1 >>= λ planning. behind_planning header.0 planning

all_read : (r : Remaining) (c : CertificateValue) → certificate_at r ≡ Ok c → AreOf r c
unfolding certificate_at
all_read r c e =
    bind_by (header_at r) behind_header c (AreOf r c) e (λ header e1 rest1.
    bind_by (kind_at header.1) (behind_planning header.0) c (AreOf r c) rest1 (λ planning e2 rest2.
    bind_by (bound_at planning.1) (behind_bound header.0 planning.0) c (AreOf r c) rest2 (λ bound e3 rest3.
    bind_by (parts_at planning.0 bound.1) (behind_kind header.0 bound.0) c (AreOf r c) rest3 (λ kind e4 rest4.
    bind_by (classes_at header.0 kind.1) (behind_classes header.0 kind.0 bound.0) c (AreOf r c) rest4 (λ classes e5 rest5.
    bind_by (columns_at header.0 classes.1) (behind_columns header.0 kind.0 bound.0 classes.0) c (AreOf r c) rest5 (λ columns e6 rest6.
    bind_by (closed_at columns.1) (behind_closed header.0 kind.0 bound.0 classes.0 columns.0) c (AreOf r c) rest6 (λ closed e7 rest7.
    bind_by (end_at closed.1) (λ end. Ok (record { version = header.0; kind = kind.0; bound = bound.0; classes = classes.0; columns = columns.0; closed = closed.0 })) c (AreOf r c) rest7 (λ end e8 last.
    let made : CertificateValue = record { version = header.0; kind = kind.0; bound = bound.0; classes = classes.0; columns = columns.0; closed = closed.0 } in
    subst (AreOf r) (ok_is made c last) (parts_found r header.1 planning.1 bound.1 kind.1 classes.1 columns.1 closed.1 planning.0 end made e1 e2 e3 e4 e5 e6 e7 e8)))))))))

-- what is read is spelled so
pub certificate_found : (bytes : List ℕ) (c : CertificateValue) → certificate_of bytes ≡ Ok c → IsLawful c × (bytes ≡ spelling c)
unfolding certificate_of
certificate_found bytes c e =
    let g = long_by (nat_lt (2 ^ 30) (length bytes)) (certificate_at (record { number = 1; lines = pieces 10 bytes })) c e in
    let a = all_read (record { number = 1; lines = pieces 10 bytes }) c g in
    (a.1, sym (joined_pieces 10 bytes) ∙ ap (joined 10) a.0 ∙ text_of_lines (lines c))
