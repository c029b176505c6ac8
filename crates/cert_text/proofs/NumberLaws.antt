-- Numbers that are kept only up to 2^64 - 1.
use Rattle.std.proofs.Common.{◌≡◌, ℕ, suc, ◌+◌, ◌*◌, ◌-◌, ◌^◌, ◌<◌, ◌≤◌, min, Bool, true, false, cond, List, [], ◌∷◌, ◌++◌, length, get_or, drop, Option, Some, None, refl, sym, ap, ◌∙◌, arith}
use Rattle.std.specs.Prelude.{option_map}
use Rattle.std.proofs.Math.Seq.{drop-cons}
use Rattle.std.proofs.lemmas.List.{drop_all}
use Rattle.std.proofs.lemmas.Bool.Decides.{nat_tests}
use Rattle.cert_value.specs.declared.table.Share.{Share}
use Rattle.cert_text.specs.Reading.{◌>>?◌, digits_after, is_digit, share_in, shares_behind}

by_digit : (b : Bool) (n m : ℕ) (x y : Option ℕ) → option_map (min (2 ^ 64 - 1)) x ≡ option_map (min (2 ^ 64 - 1)) y → option_map (min (2 ^ 64 - 1)) (cond b x None) ≡ option_map (min (2 ^ 64 - 1)) (cond b y None)
by_digit true n m x y e = e
by_digit false n m x y e = refl

-- numbers that are kept alike stay so with more digits
pub digits_alike : (ds : List ℕ) (n m : ℕ) → min (2 ^ 64 - 1) n ≡ min (2 ^ 64 - 1) m → option_map (min (2 ^ 64 - 1)) (digits_after n ds) ≡ option_map (min (2 ^ 64 - 1)) (digits_after m ds)
unfolding digits_after
digits_alike [] n m e = ap Some e
digits_alike (d ∷ ds) n m e =
    by_digit (is_digit d) n m (digits_after (n * 10 + (d - 48)) ds) (digits_after (m * 10 + (d - 48)) ds) (digits_alike ds (n * 10 + (d - 48)) (m * 10 + (d - 48)) (omega arith))

pub is_digit_by : (d : ℕ) → 48 ≤ d → d ≤ 57 → is_digit d ≡ true
is_digit_by d low high = grind (arith, nat_tests)

pub by_more : (b : Bool) (x : Option ℕ) → b ≡ true → cond b x None ≡ x
by_more true x e = refl
by_more false x e = absurd cc

-- one more digit is read
pub digit_step : (ds : List ℕ) (i value next : ℕ) (total : Option ℕ) → i < length ds → 48 ≤ get_or ds i 0 → get_or ds i 0 ≤ 57 → min (2 ^ 64 - 1) next ≡ min (2 ^ 64 - 1) (value * 10 + (get_or ds i 0 - 48))
    → option_map (min (2 ^ 64 - 1)) (digits_after value (drop i ds)) ≡ total → option_map (min (2 ^ 64 - 1)) (digits_after next (drop (i + 1) ds)) ≡ total
unfolding digits_after
digit_step ds i value next total lt low high alike so_far =
    let one : i + 1 ≡ suc i = omega arith in
    rw one (digits_alike (drop (suc i) ds) next (value * 10 + (get_or ds i 0 - 48)) alike
    ∙ sym (ap (option_map (min (2 ^ 64 - 1))) (ap (digits_after value) (drop-cons ds i 0 lt) ∙ by_more (is_digit (get_or ds i 0)) (digits_after (value * 10 + (get_or ds i 0 - 48)) (drop (suc i) ds)) (is_digit_by (get_or ds i 0) low high)))
    ∙ so_far)

-- all digits are read
pub digits_done : (ds : List ℕ) (i value : ℕ) (total : Option ℕ) → length ds ≤ i → value < 2 ^ 64 → option_map (min (2 ^ 64 - 1)) (digits_after value (drop i ds)) ≡ total → Some value ≡ total
unfolding digits_after
digits_done ds i value total le small so_far =
    let nothing : drop i ds ≡ [] = drop_all i ds le in
    let kept : value ≡ min (2 ^ 64 - 1) value = omega arith in
    ap Some kept ∙ sym (ap (λ (xs : List ℕ). option_map (min (2 ^ 64 - 1)) (digits_after value xs)) nothing) ∙ so_far

-- one more share is read
pub shares_step : (ss : List Share) (s : Share) (o a : List ℕ) (ws vs after : List (List ℕ)) (total : Option (List Share)) → ws ≡ o ∷ vs → vs ≡ a ∷ after → Some s ≡ share_in o a
    → shares_behind ss ws ≡ total → shares_behind (ss ++ s ∷ []) after ≡ total
unfolding shares_behind
shares_step ss s o a ws vs after total ws-is vs-is share so_far =
    let whole : ws ≡ o ∷ a ∷ after = ws-is ∙ ap (λ (xs : List (List ℕ)). o ∷ xs) vs-is in
    sym (ap (shares_behind ss) whole ∙ ap (λ (x : Option Share). x >>? λ y. shares_behind (ss ++ y ∷ []) after) (sym share)) ∙ so_far
