-- What is read as the classes of the values of all variables was spelled so.
use Rattle.std.proofs.Common.{◌≡◌, ℕ, zero, suc, ◌+◌, ◌^◌, ◌<◌, Bool, true, List, [], ◌∷◌, ◌++◌, length, map, Option, Some, Ok, refl, sym, ap, subst, ◌∙◌, arith, append_assoc}
use Rattle.std.specs.Prelude.{not, ◌||◌, decimal, codes}
use Rattle.std.specs.List.{list_any, AllByRecursion}
use Rattle.std.proofs.lemmas.List.{append-nil, length-map, length-append}
use Rattle.abstraction_domain.specs.Rows.{are_numbered, shares_class}
use Rattle.cert_value.specs.declared.certificate.Version.{Version}
use Rattle.cert_value.specs.declared.certificate.Version.TheVariants.{One, Two, Three}
use Rattle.cert_value.specs.Lawful.{AreClasses, AreClassesOfAll, AreLawfulClasses}
use Rattle.cert_text.specs.Pieces.{pieces}
use Rattle.cert_text.specs.Spelling.{counted, classes_line, classes_lines}
use Rattle.cert_text.specs.Reading.{◌>>=◌, Remaining, line_at, repeated, number, number_in, numbers_in, filled, numbered, classified, has_width, count_at, sized_of, classes_of, must_share, sharing_of, sharing_at, classes_step, all_classes_at, classes_at}
use Rattle.cert_text.proofs.Steps.{bind_ok, formed_ok, classified_ok, numbered_ok, ok_is, filled_length, width_by}
use Rattle.cert_text.proofs.Found.{Takes, Takes-then, nothing_taken, one_line, number_found, numbers_found, count_found}
use Rattle.cert_text.proofs.FoundLines.{not_empty}
use Rattle.cert_text.proofs.ClassLaws.{asked_by, shared_is, lines_of_some}

-- ---- one row

sized_found : (line : ℕ) (ws : List (List ℕ)) (form : List ℕ × List (List ℕ)) → sized_of line ws ≡ Ok form
    → (ws ≡ form.0 ∷ form.1) × (has_width (number form.0) (filled (form.0 ∷ form.1)) ≡ true)
sized_found line [] form e = absurd cc
sized_found line (c ∷ ws) form e =
    let made : List ℕ × List (List ℕ) = (c, ws) in
    let f = formed_ok line (has_width (number c) (filled (c ∷ ws))) made form e in
    subst (λ (x : List ℕ × List (List ℕ)). (c ∷ ws ≡ x.0 ∷ x.1) × (has_width (number x.0) (filled (x.0 ∷ x.1)) ≡ true)) f.1 (refl, f.0)

-- as many words as the first one says
size_is : (c : List ℕ) (ws : List (List ℕ)) (n : ℕ) → has_width (number c) (filled (c ∷ ws)) ≡ true → number c ≡ Some n → length ws ≡ n
size_is c ws n e is =
    let f = width_by n (filled (c ∷ ws)) (ap (λ (o : Option ℕ). has_width o (filled (c ∷ ws))) (sym is) ∙ e) in
    let l = filled_length 0 (c ∷ ws) f.0 f.1 in
    omega (arith, f.2)

classes_found : (line : ℕ) (ws : List (List ℕ)) (row : List ℕ) → classes_of line ws ≡ Ok row → (ws ≡ classes_line row) × AreClasses row
unfolding classes_of
classes_found line ws row e =
    let a = bind_ok (sized_of line ws) (λ form. numbered line (number_in 1 (2 ^ 32) form.0) >>= λ count. numbered line (numbers_in (2 ^ 32) form.1) >>= λ classes. classified line (are_numbered classes) classes) row e in
    let b = bind_ok (numbered line (number_in 1 (2 ^ 32) a.0.0)) (λ count. numbered line (numbers_in (2 ^ 32) a.0.1) >>= λ classes. classified line (are_numbered classes) classes) row a.2 in
    let d = bind_ok (numbered line (numbers_in (2 ^ 32) a.0.1)) (λ classes. classified line (are_numbered classes) classes) row b.2 in
    let k = classified_ok line (are_numbered d.0) d.0 row d.2 in
    let h = sized_found line ws a.0 a.1 in
    let n = number_found 1 (2 ^ 32) a.0.0 b.0 (omega arith) (numbered_ok line (number_in 1 (2 ^ 32) a.0.0) b.0 b.1) in
    let m = numbers_found (2 ^ 32) [] a.0.1 d.0 (omega arith) (numbered_ok line (numbers_in (2 ^ 32) a.0.1) d.0 d.1) in
    let same : m.items ≡ row = sym m.is_behind ∙ k.1 in
    let count = size_is a.0.0 a.0.1 b.0 h.1 n.3 in
    let long : length a.0.1 ≡ length row = ap (λ (vs : List (List ℕ)). length vs) m.words_are ∙ length-map m.items decimal ∙ ap (λ (xs : List ℕ). length xs) same in
    let many : b.0 ≡ length row = omega arith in
    let words : a.0.1 ≡ map decimal row = m.words_are ∙ ap (map decimal) same in (
      h.0 ∙ ap (λ (w : List ℕ). w ∷ a.0.1) (n.0 ∙ ap decimal many) ∙ ap (λ (vs : List (List ℕ)). decimal (length row) ∷ vs) words,
      record {
        some = not_empty row (omega (arith, n.1));
        few = omega (arith, n.2);
        each = subst (AllByRecursion (λ x. x < 2 ^ 32)) same m.each;
        numbered = ap are_numbered (sym k.1) ∙ k.0;
      },
    )

-- a row, two values of which share a class if they must
abbrev IsRowBy : Bool → List ℕ → Type 0
IsRowBy must row = AreClasses row × (must ≡ true → shares_class row ≡ true)

sharing_found : (must : Bool) (line : ℕ) (ws : List (List ℕ)) (row : List ℕ) → sharing_of must line ws ≡ Ok row → (ws ≡ classes_line row) × IsRowBy must row
unfolding sharing_of
sharing_found must line ws row e =
    let a = bind_ok (classes_of line ws) (λ classes. classified line (not must || shares_class classes) classes) row e in
    let k = classified_ok line (not must || shares_class a.0) a.0 row a.2 in
    let f = classes_found line ws a.0 a.1 in
    subst (λ (x : List ℕ). (ws ≡ classes_line x) × IsRowBy must x) k.1 (f.0, (f.1, asked_by must (shares_class a.0) k.0))

sharing_read : (must : Bool) (r q : Remaining) (row : List ℕ) → sharing_at must r ≡ Ok (row, q) → Takes r (classes_line row ∷ []) q × IsRowBy must row
unfolding sharing_at
sharing_read must r q row e =
    let a = bind_ok (line_at r) (λ l. sharing_of must r.number (pieces 32 l.0) >>= λ v. Ok (v, l.1)) (row, q) e in
    let b = bind_ok (sharing_of must r.number (pieces 32 a.0.0)) (λ v. Ok (v, a.0.1)) (row, q) a.2 in
    let pair : List ℕ × Remaining = (b.0, a.0.1) in
    let f = sharing_found must r.number (pieces 32 a.0.0) b.0 b.1 in
    subst (λ (p : List ℕ × Remaining). Takes r (classes_line p.0 ∷ []) p.1 × IsRowBy must p.0) (ok_is pair (row, q) b.2)
    (one_line r a.0.1 a.0.0 (classes_line b.0) a.1 f.0, f.1)

-- ---- all rows

-- what is read as rows
record ClassesRead (n : ℕ) (r q : Remaining) (front back : List (List ℕ)) : Type 0 where
  pub items : List (List ℕ)
  pub is_behind : back ≡ front ++ items
  pub count : length items ≡ n
  pub taken : Takes r (map classes_line items) q
  pub each : AllByRecursion AreClasses items
  pub shared : list_any shares_class back ≡ true

rows_read : (count n : ℕ) (front : List (List ℕ)) (r : Remaining) (back : List (List ℕ)) (q : Remaining) → length front + n ≡ count → (n ≡ 0 → list_any shares_class front ≡ true)
    → repeated (classes_step count) n front r ≡ Ok (back, q) → ClassesRead n r q front back
unfolding repeated classes_step
rows_read count zero front r back q total shared e =
    let here : List (List ℕ) × Remaining = (front, r) in
    let same = ok_is here (back, q) e in
    record {
      items = [];
      is_behind = ap (λ (p : List (List ℕ) × Remaining). p.0) (sym same) ∙ sym (append-nil front);
      count = refl;
      taken = nothing_taken r q (ap (λ (p : List (List ℕ) × Remaining). p.1) same);
      each = tt;
      shared = subst (λ (p : List (List ℕ) × Remaining). list_any shares_class p.0 ≡ true) same (shared refl);
    }
rows_read count (suc n) front r back q total shared e =
    let a = bind_ok (classes_step count front r) (λ x. repeated (classes_step count) n x.0 x.1) (back, q) e in
    let b = bind_ok (sharing_at (must_share count front) r) (λ x. Ok (front ++ x.0 ∷ [], x.1)) a.0 a.1 in
    let pair : List (List ℕ) × Remaining = (front ++ b.0.0 ∷ [], b.0.1) in
    let same = ok_is pair a.0 b.2 in
    let one = sharing_read (must_share count front) r b.0.1 b.0.0 b.1 in
    let long = length-append front (b.0.0 ∷ []) in
    let more = rows_read count n (front ++ b.0.0 ∷ []) b.0.1 back q (omega arith) (λ none. shared_is count front b.0.0 one.1.1 (omega arith))
    (ap (λ (p : List (List ℕ) × Remaining). repeated (classes_step count) n p.0 p.1) same ∙ a.2) in
    record {
      items = b.0.0 ∷ more.items;
      is_behind = more.is_behind ∙ append_assoc front (b.0.0 ∷ []) more.items;
      count = ap suc more.count;
      taken = Takes-then r b.0.1 q (classes_line b.0.0 ∷ []) (map classes_line more.items) one.0 more.taken;
      each = (one.1.0, more.each);
      shared = more.shared;
    }

all_found : (r q : Remaining) (rows : List (List ℕ)) → all_classes_at r ≡ Ok (rows, q) → Takes r (classes_lines rows) q × AreClassesOfAll rows
unfolding all_classes_at
all_found r q rows e =
    let a = bind_ok (count_at (codes "classes") 1 (2 ^ 32) r) (λ count. repeated (classes_step count.0) count.0 [] count.1) (rows, q) e in
    let c = count_found (codes "classes") 1 (2 ^ 32) r a.0.1 a.0.0 (omega arith) a.1 in
    let m = rows_read a.0.0 a.0.0 [] a.0.1 rows q (omega arith) (λ none. absurd (omega (arith, c.1))) a.2 in
    let same : m.items ≡ rows = sym m.is_behind in
    let count : a.0.0 ≡ length rows = sym m.count ∙ ap (λ (xs : List (List ℕ)). length xs) same in
    let taken = Takes-then r a.0.1 q (counted (codes "classes") a.0.0 [] ∷ []) (map classes_line rows) c.0 (subst (λ (xs : List (List ℕ)). Takes a.0.1 (map classes_line xs) q) same m.taken) in (
      subst (λ (ls : List (List (List ℕ))). Takes r ls q) (sym (lines_of_some rows m.shared))
          (subst (λ (n : ℕ). Takes r (counted (codes "classes") n [] ∷ map classes_line rows) q) count taken),
      record { few = omega (arith, c.2, count); each = subst (AllByRecursion AreClasses) same m.each; shared = m.shared },
    )

none_found : (r : Remaining) (read : List (List ℕ) × Remaining) → ([], r) ≡ read → Takes r (classes_lines read.0) read.1 × (read.0 ≡ [])
none_found r read e = subst (λ (p : List (List ℕ) × Remaining). Takes r (classes_lines p.0) p.1 × (p.0 ≡ [])) e (nothing_taken r r refl, refl)

pub all_classes_found : (version : Version) (r q : Remaining) (rows : List (List ℕ)) → classes_at version r ≡ Ok (rows, q) → Takes r (classes_lines rows) q × AreLawfulClasses version rows
unfolding classes_at
all_classes_found One r q rows e = none_found r (rows, q) (ok_is ([], r) (rows, q) e)
all_classes_found Two r q rows e = none_found r (rows, q) (ok_is ([], r) (rows, q) e)
all_classes_found Three r q rows e = all_found r q rows e
