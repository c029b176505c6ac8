-- Numbers as they are kept, and as words spell them.
use Rattle.std.proofs.Common.{◌≡◌, ℕ, zero, suc, ◌+◌, ◌-◌, ◌*◌, ◌<◌, ◌^◌, Bool, true, false, cond, eqb, List, [], ◌∷◌, map, refl, sym, ap, ◌∙◌, arith, Option, Some, None}
use Rattle.std.specs.Prelude.{option_map}
use Rattle.sasfile_reader.specs.declared.number.Number.{Number}
use Rattle.sasfile_reader.specs.declared.number.Number.TheVariants.{Natural, Negative}
use Rattle.sasfile_reader.specs.Lines.{words, is_digit, digits_after, digits, minus, number}
use Rattle.sasfile_reader.specs.Reading.{capped, alone, both, pair, four, quadruple}
use Rattle.sasfile_reader.specs.Reading as reading
use Rattle.sasfile_reader.specs.SasTexts.{SpellsNumbers}
use Rattle.sasfile_reader.proofs.Steps.{some_is}

-- a number as it is kept
abbrev pub cap_number : Number → Number
cap_number (Natural n) = Natural (capped n)
cap_number (Negative n) = Negative (capped n)

cap_more : (n x : ℕ) → capped (capped (capped n * 10) + x) ≡ capped (n * 10 + x)
cap_more n x = omega arith

cond_map : (b : Bool) (p q : Option ℕ) → p ≡ option_map capped q → cond b p None ≡ option_map capped (cond b q None)
cond_map true p q e = e
cond_map false p q e = refl

digits_after_capped : (n : ℕ) (ds : List ℕ) → reading.digits_after (capped n) ds ≡ option_map capped (digits_after n ds)
unfolding digits_after reading.digits_after
digits_after_capped n [] = refl
digits_after_capped n (d ∷ ds) =
    cond_map (is_digit d) _ _ (ap (λ (m : ℕ). reading.digits_after m ds) (cap_more n (d - 48)) ∙ digits_after_capped (n * 10 + (d - 48)) ds)

digits_capped : (ds : List ℕ) → reading.digits ds ≡ option_map capped (digits ds)
digits_capped [] = refl
digits_capped (d ∷ ds) = digits_after_capped 0 (d ∷ ds)

minus_some : (n : ℕ) → 0 < n → minus n ≡ Negative n
minus_some zero h = absurd (omega arith)
minus_some (suc n) h = refl

minus_capped : (n : ℕ) → minus (capped n) ≡ cap_number (minus n)
minus_capped zero = refl
minus_capped (suc n) = let pos : 0 < capped (suc n) = omega arith in minus_some (capped (suc n)) pos

map_minus : (o : Option ℕ) → option_map minus (option_map capped o) ≡ option_map cap_number (option_map minus o)
map_minus None = refl
map_minus (Some n) = ap (λ (z : Number). Some z) (minus_capped n)

map_natural : (o : Option ℕ) → option_map Natural (option_map capped o) ≡ option_map cap_number (option_map Natural o)
map_natural None = refl
map_natural (Some n) = refl

cond_both : (b : Bool) (p q : Option Number) (s t : Option Number) → p ≡ option_map cap_number s → q ≡ option_map cap_number t → cond b p q ≡ option_map cap_number (cond b s t)
cond_both true p q s t e f = e
cond_both false p q s t e f = f

pub number_capped : (w : List ℕ) → reading.number w ≡ option_map cap_number (number w)
unfolding number reading.number
number_capped [] = refl
number_capped (b ∷ bs) =
    cond_both (eqb b 45) _ _ _ _
    (ap (option_map minus) (digits_capped bs) ∙ map_minus (digits bs))
    (ap (option_map Natural) (digits_capped (b ∷ bs)) ∙ map_natural (digits (b ∷ bs)))

-- a number that is below the greatest one is kept as it is
exact_natural : (o : Option Number) (k : ℕ) → option_map cap_number o ≡ Some (Natural k) → k < 2 ^ 64 - 1 → o ≡ Some (Natural k)
exact_natural None k e lt = absurd cc
exact_natural (Some (Natural m)) k e lt = let z : capped m ≡ k = cc in let same : m ≡ k = omega arith in ap (λ (n : ℕ). Some (Natural n)) same
exact_natural (Some (Negative m)) k e lt = absurd cc

exact_negative : (o : Option Number) (k : ℕ) → option_map cap_number o ≡ Some (Negative k) → k < 2 ^ 64 - 1 → o ≡ Some (Negative k)
exact_negative None k e lt = absurd cc
exact_negative (Some (Natural m)) k e lt = absurd cc
exact_negative (Some (Negative m)) k e lt = let z : capped m ≡ k = cc in let same : m ≡ k = omega arith in ap (λ (n : ℕ). Some (Negative n)) same

-- a number that is kept as it is
abbrev pub IsKept : Number → Type 0
IsKept (Natural n) = n < 2 ^ 64 - 1
IsKept (Negative n) = n < 2 ^ 64 - 1

pub kept_spelled : (w : List ℕ) (n : Number) → reading.number w ≡ Some n → IsKept n → number w ≡ Some n
kept_spelled w (Natural k) e lt = exact_natural (number w) k (sym (number_capped w) ∙ e) lt
kept_spelled w (Negative k) e lt = exact_negative (number w) k (sym (number_capped w) ∙ e) lt

cap_kept : (n : Number) → IsKept n → cap_number n ≡ n
cap_kept (Natural k) lt = let e : capped k ≡ k = omega arith in ap (λ (m : ℕ). Natural m) e
cap_kept (Negative k) lt = let e : capped k ≡ k = omega arith in ap (λ (m : ℕ). Negative m) e

pub spelled_kept : (w : List ℕ) (n : Number) → number w ≡ Some n → IsKept n → reading.number w ≡ Some n
spelled_kept w n e lt = number_capped w ∙ ap (option_map cap_number) e ∙ ap (λ (z : Number). Some z) (cap_kept n lt)

-- ---- lines of numbers

pub alone_is : (ws : List (List ℕ)) (n : Number) → alone ws ≡ Some n → (w : List ℕ) × (ws ≡ w ∷ []) × (reading.number w ≡ Some n)
alone_is [] n e = absurd cc
alone_is (w ∷ []) n e = (w, refl, e)
alone_is (w ∷ v ∷ ws) n e = absurd cc

pub alone_spelled : (line : List ℕ) (n : Number) → alone (words line) ≡ Some n → IsKept n → SpellsNumbers line (n ∷ [])
alone_spelled line n e lt =
    let p = alone_is (words line) n e in
    rw (p.1, kept_spelled p.0 n p.2 lt) refl

both_is : (a b : Option Number) (x y : Number) → both a b ≡ Some (x, y) → (a ≡ Some x) × (b ≡ Some y)
both_is None b x y e = absurd cc
both_is (Some v) None x y e = absurd cc
both_is (Some v) (Some w) x y e =
    let p = some_is (v, w) (x, y) e in
    (ap (λ (z : Number × Number). Some z.0) p, ap (λ (z : Number × Number). Some z.1) p)

pub pair_spelled : (line : List ℕ) (ws : List (List ℕ)) (x y : Number) → words line ≡ ws → pair ws ≡ Some (x, y) → IsKept x → IsKept y → SpellsNumbers line (x ∷ y ∷ [])
pair_spelled line [] x y s e lx ly = absurd cc
pair_spelled line (v ∷ []) x y s e lx ly = absurd cc
pair_spelled line (v ∷ w ∷ []) x y s e lx ly =
    let p = both_is (reading.number v) (reading.number w) x y e in
    rw (s, kept_spelled v x p.0 lx, kept_spelled w y p.1 ly) refl
pair_spelled line (v ∷ w ∷ u ∷ ws) x y s e lx ly = absurd cc

-- ---- and back

alone_of : (ws : List (List ℕ)) (n : Number) → map number ws ≡ Some n ∷ [] → IsKept n → alone ws ≡ Some n
alone_of [] n e lt = absurd cc
alone_of (w ∷ []) n e lt = let z : number w ≡ Some n = cc in spelled_kept w n z lt
alone_of (w ∷ v ∷ ws) n e lt = absurd cc

pub alone_again : (line : List ℕ) (n : Number) → SpellsNumbers line (n ∷ []) → IsKept n → alone (words line) ≡ Some n
alone_again line n e lt = alone_of (words line) n e lt

pair_of : (ws : List (List ℕ)) (x y : Number) → map number ws ≡ Some x ∷ Some y ∷ [] → IsKept x → IsKept y → pair ws ≡ Some (x, y)
pair_of [] x y e lx ly = absurd cc
pair_of (v ∷ []) x y e lx ly = absurd cc
pair_of (v ∷ w ∷ []) x y e lx ly =
    let a : number v ≡ Some x = cc in
    let b : number w ≡ Some y = cc in
    rw (spelled_kept v x a lx, spelled_kept w y b ly) refl
pair_of (v ∷ w ∷ u ∷ ws) x y e lx ly = absurd cc

pub pair_again : (line : List ℕ) (x y : Number) → SpellsNumbers line (x ∷ y ∷ []) → IsKept x → IsKept y → pair (words line) ≡ Some (x, y)
pair_again line x y e lx ly = pair_of (words line) x y e lx ly
