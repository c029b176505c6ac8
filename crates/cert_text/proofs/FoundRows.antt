-- What is read as an abstraction mapping was spelled so.
use Rattle.std.proofs.Common.{◌≡◌, ℕ, zero, suc, ◌^◌, ◌<◌, ◌≤◌, Bool, true, false, List, [], ◌∷◌, ◌++◌, length, map, Result, Ok, refl, sym, ap, subst, ◌∙◌, arith, append_assoc}
use Rattle.std.specs.Prelude.{nat_le, decimal, codes}
use Rattle.std.specs.List.{AllByRecursion}
use Rattle.std.proofs.lemmas.List.{append-nil, length-map}
use Rattle.abstraction_domain.specs.Rows.{Row, are_numbered}
use Rattle.abstraction_domain.specs.Domains.{variables}
use Rattle.abstraction_mapping.specs.Mappings.{Mapping, Pattern, Domains}
use Rattle.cert_value.specs.declared.certificate.Version.{Version}
use Rattle.cert_value.specs.declared.certificate.Version.TheVariants.{One, Two, Three}
use Rattle.cert_value.specs.Lawful.{IsIncreasing, IsRow, AreRows, IsLawfulMapping}
use Rattle.cert_text.specs.declared.fault.CertFault.{CertFault}
use Rattle.cert_text.specs.Pieces.{pieces}
use Rattle.cert_text.specs.Spelling.{counted, row_line, mapping_lines}
use Rattle.cert_text.specs.Reading.{◌>>=◌, Remaining, line_at, repeated, number_in, numbers_in, numbered, ordered, classified, second_of, Counted, counted_of, pattern_of, next_variable, row_of, row_at, row_step, rows_at, is_domain, mapping_behind, mapping_at}
use Rattle.cert_text.proofs.Steps.{bind_ok, ordered_ok, classified_ok, numbered_ok, ok_is, le_is}
use Rattle.cert_text.proofs.RowLaws.{increasing_push}
use Rattle.cert_text.proofs.Found.{Takes, Takes-then, nothing_taken, one_line, number_found, second_found, numbers_found, counted_found, count_is}
use Rattle.cert_text.proofs.FoundLines.{not_empty, same_words, pattern_found}

-- ---- rows

-- the steps of reading a row
abbrev made : ℕ → List ℕ → Row
made variable classes = record { variable = variable; classes = classes }

abbrev with_classes : ℕ → ℕ → ℕ → List ℕ → Result Row CertFault
with_classes least line variable classes = ordered line (nat_le least variable) (made variable classes) >>= λ row. classified line (are_numbered classes) row

abbrev with_count : ℕ → ℕ → Counted → ℕ → ℕ → Result Row CertFault
with_count least line form variable count = numbered line (numbers_in (2 ^ 32) form.words) >>= λ classes. with_classes least line variable classes

abbrev with_variable : ℕ → ℕ → Counted → ℕ → Result Row CertFault
with_variable least line form variable = numbered line (number_in 1 (2 ^ 32) form.count) >>= λ count. with_count least line form variable count

row_found : (least line : ℕ) (ws : List (List ℕ)) (r : Row) → row_of least line ws ≡ Ok r → (ws ≡ row_line r) × IsRow r × (least ≤ r.variable)
unfolding row_of
row_found least line ws r e =
    let a = bind_ok (counted_of line false ws) (λ form. numbered line (number_in 0 (2 ^ 32) form.first) >>= λ variable. with_variable least line form variable) r e in
    let b = bind_ok (numbered line (number_in 0 (2 ^ 32) a.0.first)) (with_variable least line a.0) r a.2 in
    let c = bind_ok (numbered line (number_in 1 (2 ^ 32) a.0.count)) (with_count least line a.0 b.0) r b.2 in
    let d = bind_ok (numbered line (numbers_in (2 ^ 32) a.0.words)) (with_classes least line b.0) r c.2 in
    let o = bind_ok (ordered line (nat_le least b.0) (made b.0 d.0)) (λ row. classified line (are_numbered d.0) row) r d.2 in
    let up = ordered_ok line (nat_le least b.0) (made b.0 d.0) o.0 o.1 in
    let k = classified_ok line (are_numbered d.0) o.0 r o.2 in
    let h = counted_found line false ws a.0 a.1 in
    let v = number_found 0 (2 ^ 32) a.0.first b.0 (omega arith) (numbered_ok line (number_in 0 (2 ^ 32) a.0.first) b.0 b.1) in
    let n = number_found 1 (2 ^ 32) a.0.count c.0 (omega arith) (numbered_ok line (number_in 1 (2 ^ 32) a.0.count) c.0 c.1) in
    let m = numbers_found (2 ^ 32) [] a.0.words d.0 (omega arith) (numbered_ok line (numbers_in (2 ^ 32) a.0.words) d.0 d.1) in
    let same : m.items ≡ d.0 = sym m.is_behind in
    let count = count_is false a.0.first a.0.count a.0.words c.0 h.1 n.3 in
    let long : length a.0.words ≡ length d.0 = ap (λ (vs : List (List ℕ)). length vs) m.words_are ∙ length-map m.items decimal ∙ ap (λ (xs : List ℕ). length xs) same in
    let words : a.0.words ≡ map decimal d.0 = m.words_are ∙ ap (map decimal) same in
    subst (λ (x : Row). (ws ≡ row_line x) × IsRow x × (least ≤ x.variable)) (up.1 ∙ k.1) (
      h.0 ∙ ap (λ (w : List ℕ). w ∷ a.0.count ∷ a.0.words) v.0 ∙ same_words (decimal b.0) a.0.count a.0.words c.0 d.0 n.0 words (omega arith),
      record {
        variable = v.2;
        some = not_empty d.0 (omega (arith, n.1));
        few = omega (arith, n.2);
        classes = subst (AllByRecursion (λ x. x < 2 ^ 32)) same m.each;
        numbered = k.0;
      },
      le_is least b.0 up.0,
    )

row_read : (least : ℕ) (r q : Remaining) (x : Row) → row_at least r ≡ Ok (x, q) → Takes r (row_line x ∷ []) q × IsRow x × (least ≤ x.variable)
unfolding row_at
row_read least r q x e =
    let a = bind_ok (line_at r) (λ l. row_of least r.number (pieces 32 l.0) >>= λ v. Ok (v, l.1)) (x, q) e in
    let b = bind_ok (row_of least r.number (pieces 32 a.0.0)) (λ v. Ok (v, a.0.1)) (x, q) a.2 in
    let pair : Row × Remaining = (b.0, a.0.1) in
    let f = row_found least r.number (pieces 32 a.0.0) b.0 b.1 in
    subst (λ (p : Row × Remaining). Takes r (row_line p.0 ∷ []) p.1 × IsRow p.0 × (least ≤ p.0.variable)) (ok_is pair (x, q) b.2)
    (one_line r a.0.1 a.0.0 (row_line b.0) a.1 f.0, f.1, f.2)

-- what is read as rows
record RowsRead (n : ℕ) (r q : Remaining) (front back : List Row) : Type 0 where
  pub items : List Row
  pub is_behind : back ≡ front ++ items
  pub count : length items ≡ n
  pub taken : Takes r (map row_line items) q
  pub each : AllByRecursion IsRow items
  pub increasing : IsIncreasing (variables back)

rows_read : (n : ℕ) (front : List Row) (r : Remaining) (back : List Row) (q : Remaining) → IsIncreasing (variables front) → repeated row_step n front r ≡ Ok (back, q) → RowsRead n r q front back
unfolding repeated row_step
rows_read zero front r back q up e =
    let here : List Row × Remaining = (front, r) in
    let same = ok_is here (back, q) e in
    record {
      items = [];
      is_behind = ap (λ (p : List Row × Remaining). p.0) (sym same) ∙ sym (append-nil front);
      count = refl;
      taken = nothing_taken r q (ap (λ (p : List Row × Remaining). p.1) same);
      each = tt;
      increasing = subst (λ (p : List Row × Remaining). IsIncreasing (variables p.0)) same up;
    }
rows_read (suc n) front r back q up e =
    let a = bind_ok (row_step front r) (λ x. repeated row_step n x.0 x.1) (back, q) e in
    let b = bind_ok (row_at (next_variable front) r) (λ x. Ok (front ++ x.0 ∷ [], x.1)) a.0 a.1 in
    let pair : List Row × Remaining = (front ++ b.0.0 ∷ [], b.0.1) in
    let same = ok_is pair a.0 b.2 in
    let one = row_read (next_variable front) r b.0.1 b.0.0 b.1 in
    let more = rows_read n (front ++ b.0.0 ∷ []) b.0.1 back q (increasing_push front b.0.0 up one.2) (ap (λ (p : List Row × Remaining). repeated row_step n p.0 p.1) same ∙ a.2) in
    record {
      items = b.0.0 ∷ more.items;
      is_behind = more.is_behind ∙ append_assoc front (b.0.0 ∷ []) more.items;
      count = ap suc more.count;
      taken = Takes-then r b.0.1 q (row_line b.0.0 ∷ []) (map row_line more.items) one.0 more.taken;
      each = (one.1, more.each);
      increasing = more.increasing;
    }

rows_found : (line : ℕ) (ws : List (List ℕ)) (r q : Remaining) (rows : List Row) → rows_at line ws r ≡ Ok (rows, q)
    → (ws ≡ counted (codes "domain") (length rows) []) × Takes r (map row_line rows) q × AreRows rows
unfolding rows_at
rows_found line ws r q rows e =
    let a = bind_ok (second_of line (codes "domain") ws) (λ word. numbered line (number_in 1 (2 ^ 32) word) >>= λ count. repeated row_step count [] r) (rows, q) e in
    let b = bind_ok (numbered line (number_in 1 (2 ^ 32) a.0)) (λ count. repeated row_step count [] r) (rows, q) a.2 in
    let n = number_found 1 (2 ^ 32) a.0 b.0 (omega arith) (numbered_ok line (number_in 1 (2 ^ 32) a.0) b.0 b.1) in
    let m = rows_read b.0 [] r rows q tt b.2 in
    let same : m.items ≡ rows = sym m.is_behind in
    let count : b.0 ≡ length rows = sym m.count ∙ ap (λ (xs : List Row). length xs) same in (
      second_found line (codes "domain") ws a.0 a.1 ∙ ap (λ (w : List ℕ). codes "domain" ∷ w ∷ []) (n.0 ∙ ap decimal count),
      subst (λ (xs : List Row). Takes r (map row_line xs) q) same m.taken,
      record {
        some = not_empty rows (omega (arith, n.1, count));
        few = omega (arith, n.2, count);
        each = subst (AllByRecursion IsRow) same m.each;
        increasing = m.increasing;
      },
    )

-- ---- mappings

-- the lines behind the first one of a mapping
record MappingRead (version : Version) (ws : List (List ℕ)) (r : Remaining) (read : Mapping × Remaining) : Type 0 where
  pub behind : List (List (List ℕ))
  pub lines_are : mapping_lines read.0 ≡ ws ∷ behind
  pub taken : Takes r behind read.1
  pub lawful : IsLawfulMapping version read.0

behind_found : (version : Version) (domain : Bool) (line : ℕ) (ws : List (List ℕ)) (r : Remaining) (read : Mapping × Remaining) → (domain ≡ true → (rows : List Row) → AreRows rows → IsLawfulMapping version (Domains rows))
    → mapping_behind domain line ws r ≡ Ok read → MappingRead version ws r read
unfolding mapping_behind
behind_found version true line ws r read lawful e =
    let a = bind_ok (rows_at line ws r) (λ rows. Ok (Domains rows.0, rows.1)) read e in
    let pair : Mapping × Remaining = (Domains a.0.0, a.0.1) in
    let f = rows_found line ws r a.0.1 a.0.0 a.1 in
    subst (MappingRead version ws r) (ok_is pair read a.2) (record {
      behind = map row_line a.0.0;
      lines_are = ap (λ (w : List (List ℕ)). w ∷ map row_line a.0.0) (sym f.0);
      taken = f.1;
      lawful = lawful refl a.0.0 f.2;
    })
behind_found version false line ws r read lawful e =
    let a = bind_ok (pattern_of line ws) (λ pattern. Ok (Pattern pattern, r)) read e in
    let pair : Mapping × Remaining = (Pattern a.0, r) in
    let f = pattern_found line ws a.0 a.1 in
    subst (MappingRead version ws r) (ok_is pair read a.2) (record {
      behind = [];
      lines_are = ap (λ (w : List (List ℕ)). w ∷ []) (sym f.0);
      taken = nothing_taken r r refl;
      lawful = f.1;
    })

domain_is_lawful : (version : Version) (ws : List (List ℕ)) → is_domain version ws ≡ true → (rows : List Row) → AreRows rows → IsLawfulMapping version (Domains rows)
domain_is_lawful One ws e rows ok = absurd cc
domain_is_lawful Two ws e rows ok = ok
domain_is_lawful Three ws e rows ok = ok

pub mapping_found : (version : Version) (r q : Remaining) (m : Mapping) → mapping_at version r ≡ Ok (m, q) → Takes r (mapping_lines m) q × IsLawfulMapping version m
unfolding mapping_at
mapping_found version r q m e =
    let a = bind_ok (line_at r) (λ first. mapping_behind (is_domain version (pieces 32 first.0)) r.number (pieces 32 first.0) first.1) (m, q) e in
    let ws = pieces 32 a.0.0 in
    let read = behind_found version (is_domain version ws) r.number ws a.0.1 (m, q) (domain_is_lawful version ws) a.2 in
    let first = one_line r a.0.1 a.0.0 ws a.1 refl in (
      subst (λ (ls : List (List (List ℕ))). Takes r ls q) (sym read.lines_are) (Takes-then r a.0.1 q (ws ∷ []) read.behind first read.taken),
      read.lawful,
    )
