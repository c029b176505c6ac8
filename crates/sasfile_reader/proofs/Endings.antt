-- Lines behind the end.
use Rattle.std.proofs.Common.{◌≡◌, ℕ, ◌+◌, true, false, eqb, List, [], ◌∷◌, length, refl, sym, ap, ◌∙◌, arith}
use Rattle.std.specs.Prelude.{Result, Ok, Err}
use Rattle.std.proofs.lemmas.Bool.{ne_eqb}
use Rattle.sasfile_reader.specs.declared.fault.SasFault.{SasFault}
use Rattle.sasfile_reader.specs.declared.fault.SasFault.TheVariants as fault
use Rattle.sasfile_reader.specs.Reading.{Remaining, first_of, line_at, empty_from}

abbrev done : {A : Type 0} → A → Result A SasFault
done x = Ok x

-- what stands in an answer
pub ok_is : {A : Type 0} (x y : A) → done x ≡ done y → x ≡ y
ok_is x y e = cc

-- a line that is there
pub first_is : (n : ℕ) (ls : List (List ℕ)) (line : List ℕ) (q : Remaining) → first_of n ls ≡ Ok (line, q) → (ls ≡ line ∷ q.lines) × (q.number ≡ n + 1)
first_is n [] line q e = absurd cc
first_is n (l ∷ ls) line q e =
    let both = ok_is (l, record { number = n + 1; lines = ls }) (line, q) e in
    let w : l ≡ line = ap (λ (p : List ℕ × Remaining). p.0) both in
    let z : record { number = n + 1; lines = ls } ≡ q = ap (λ (p : List ℕ × Remaining). p.1) both in
    (rw w (ap (λ (p : Remaining). line ∷ p.lines) z), sym (ap (λ (p : Remaining). p.number) z))

pub line_is : (r : Remaining) (line : List ℕ) (q : Remaining) → line_at r ≡ Ok (line, q) → (r.lines ≡ line ∷ q.lines) × (q.number ≡ r.number + 1)
unfolding line_at
line_is r line q e = first_is r.number r.lines line q e

nil_by_test : (bs : List ℕ) → eqb (length bs) 0 ≡ true → bs ≡ []
nil_by_test [] h = refl
nil_by_test (b ∷ bs) h =
    let e : eqb (length (b ∷ bs)) 0 ≡ false = ne_eqb (length (b ∷ bs)) 0 (λ z. omega arith) in
    cc

full_from : (n : ℕ) (l : List ℕ) (ls : List (List ℕ)) → eqb (length l) 0 ≡ false → empty_from n (l ∷ ls) ≡ Err (fault.Trailing n)
unfolding empty_from
full_from n [] ls h = absurd cc
full_from n (b ∷ bs) ls h = refl

nil_from : (n : ℕ) (ls : List (List ℕ)) → empty_from n ([] ∷ ls) ≡ empty_from (n + 1) ls
unfolding empty_from
nil_from n ls = refl

pub empty_step : (r q : Remaining) (line : List ℕ) (whole : Result (Unit {0}) SasFault) → line_at r ≡ Ok (line, q) → eqb (length line) 0 ≡ true → empty_from r.number r.lines ≡ whole → empty_from q.number q.lines ≡ whole
empty_step r q line whole h e so_far =
    let p = line_is r line q h in
    let one : empty_from r.number r.lines ≡ empty_from q.number q.lines = rw (p.0, nil_by_test line e, p.1) (nil_from r.number q.lines) in
    sym one ∙ so_far

pub empty_fails : (r q : Remaining) (line : List ℕ) (whole : Result (Unit {0}) SasFault) → line_at r ≡ Ok (line, q) → eqb (length line) 0 ≡ false → empty_from r.number r.lines ≡ whole → whole ≡ Err (fault.Trailing r.number)
empty_fails r q line whole h e so_far =
    let p = line_is r line q h in
    sym so_far ∙ ap (empty_from r.number) p.0 ∙ full_from r.number line q.lines e

none_from : (n : ℕ) (ls : List (List ℕ)) → first_of n ls ≡ Err fault.Truncated → empty_from n ls ≡ Ok tt
unfolding empty_from
none_from n [] e = refl
none_from n (l ∷ ls) e = absurd cc

pub empty_done : (r : Remaining) (whole : Result (Unit {0}) SasFault) → line_at r ≡ Err fault.Truncated → empty_from r.number r.lines ≡ whole → whole ≡ Ok tt
unfolding line_at
empty_done r whole h so_far = sym so_far ∙ none_from r.number r.lines h
