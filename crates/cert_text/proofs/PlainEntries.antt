-- Lines of states that are read in one pass.
use Rattle.std.proofs.Common.{◌≡◌, ℕ, ◌+◌, ◌^◌, ◌≤◌, Bool, true, List, [], ◌∷◌, ◌++◌, length, Option, Some, None, Ok, refl, ap, ◌∙◌, arith}
use Rattle.std.proofs.lemmas.Bool.Decides.{nat_tests}
use Rattle.cert_text.specs.Reading.{◌>>?◌, between, number, number_in, numbered, numbers_behind, numbers_in, filled, filled_behind, has_width, formed, ◌>>=◌, entry_numbers, entry_of}
use Rattle.cert_text.specs.Leading.{IsFirstNumber}

filled_word : (word : List ℕ) (behind : List (List ℕ)) (end n k : ℕ) → number_in 0 end word ≡ Some n → filled_behind k (word ∷ behind) ≡ filled_behind (k + 1) behind
unfolding filled_behind
filled_word [] behind end n k is = absurd cc
filled_word (b ∷ bs) behind end n k is = refl

-- a word that spells a number is not empty
pub one_more_word : (end n k : ℕ) (words behind : List (List ℕ)) → IsFirstNumber end n words behind → filled_behind k words ≡ filled_behind (k + 1) behind
one_more_word end n k words behind first = ap (filled_behind k) first.words_are ∙ filled_word first.word behind end n k first.number

-- one more number is read
pub one_more_number : (end n : ℕ) (ns : List ℕ) (words behind : List (List ℕ)) → IsFirstNumber end n words behind → numbers_behind end ns words ≡ numbers_behind end (ns ++ n ∷ []) behind
unfolding numbers_behind
one_more_number end n ns words behind first =
    ap (numbers_behind end ns) first.words_are ∙ ap (λ (o : Option ℕ). o >>? λ m. numbers_behind end (ns ++ m ∷ []) behind) first.number

wider : (least end more n : ℕ) (o : Option ℕ) → end ≤ more → between least end o ≡ Some n → between least more o ≡ Some n
wider least end more n None le is = absurd cc
wider least end more n (Some m) le is = grind (arith, nat_tests)

-- all numbers are read
pub entry_is : (width : Option ℕ) (line cost : ℕ) (words behind : List (List ℕ)) (state : List ℕ) → IsFirstNumber (2 ^ 60) cost words behind → filled_behind 1 behind ≡ Some (length state + 1)
    → numbers_behind (2 ^ 32) [] behind ≡ Some state → has_width width (Some (length state + 1)) ≡ true → entry_of width line words ≡ Ok (record { cost = cost; state = state })
unfolding entry_of
entry_is width line cost words behind state first filled_is numbers fits =
    let count : filled words ≡ Some (length state + 1) = one_more_word (2 ^ 60) cost 0 words behind first ∙ filled_is in
    let cost_is : number_in 0 (2 ^ 62 + 1) first.word ≡ Some cost = wider 0 (2 ^ 60) (2 ^ 62 + 1) cost (number first.word) (omega arith) first.number in
    ap (λ (w : Option ℕ). formed line (has_width width w) words >>= entry_numbers line) count
    ∙ ap (λ (t : Bool). formed line t words >>= entry_numbers line) fits
    ∙ ap (entry_numbers line) first.words_are
    ∙ ap (λ (o : Option ℕ). numbered line o >>= λ c. numbered line (numbers_in (2 ^ 32) behind) >>= λ s. Ok (record { cost = c; state = s })) cost_is
    ∙ ap (λ (o : Option (List ℕ)). numbered line o >>= λ s. Ok (record { cost = cost; state = s })) numbers
