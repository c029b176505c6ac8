-- Digits one by one.
use Rattle.std.proofs.Common.{◌≡◌, ℕ, zero, suc, ◌+◌, ◌-◌, ◌*◌, ◌<◌, ◌≤◌, true, false, eqb, List, [], ◌∷◌, length, get_or, drop, Option, Some, None, refl, sym, ◌∙◌, arith, drop-cons, add-one}
use Rattle.sasfile_reader.specs.Lines.{is_digit}
use Rattle.sasfile_reader.specs.Reading.{capped, digits_after, digits}

pub digit_more : (n : ℕ) (ds : List ℕ) (i : ℕ) (whole : Option ℕ) → i < length ds → is_digit (get_or ds i 0) ≡ true → digits_after n (drop i ds) ≡ whole
    → digits_after (capped (capped (n * 10) + (get_or ds i 0 - 48))) (drop (i + 1) ds) ≡ whole
unfolding digits_after
digit_more n ds i whole lt e so_far =
    let one : digits_after n (drop i ds) ≡ digits_after (capped (capped (n * 10) + (get_or ds i 0 - 48))) (drop (i + 1) ds) = rw (drop-cons ds i 0 lt, e, add-one) refl in
    sym one ∙ so_far

pub digit_bad : (n : ℕ) (ds : List ℕ) (i : ℕ) (whole : Option ℕ) → i < length ds → is_digit (get_or ds i 0) ≡ false → digits_after n (drop i ds) ≡ whole → None ≡ whole
unfolding digits_after
digit_bad n ds i whole lt e so_far =
    let one : digits_after n (drop i ds) ≡ None = rw (drop-cons ds i 0 lt, e) refl in
    sym one ∙ so_far

drop_end : (i : ℕ) (ds : List ℕ) → length ds ≤ i → drop i ds ≡ []
drop_end zero [] h = refl
drop_end zero (b ∷ bs) h = absurd (omega arith)
drop_end (suc n) [] h = refl
drop_end (suc n) (b ∷ bs) h = drop_end n bs (omega arith)

pub digit_end : (n : ℕ) (ds : List ℕ) (i : ℕ) (whole : Option ℕ) → length ds ≤ i → digits_after n (drop i ds) ≡ whole → Some n ≡ whole
unfolding digits_after
digit_end n ds i whole le so_far =
    let one : digits_after n (drop i ds) ≡ Some n = rw drop_end refl in
    sym one ∙ so_far

pub digits_some : (ds : List ℕ) → eqb (length ds) 0 ≡ false → digits_after 0 ds ≡ digits ds
digits_some [] h = absurd cc
digits_some (d ∷ ds) h = refl
