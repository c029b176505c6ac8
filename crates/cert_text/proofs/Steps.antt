-- What is known where a step of reading gave a value.
use Rattle.std.proofs.Common.{◌≡◌, ℕ, ◌+◌, ◌^◌, ◌≤◌, ◌<◌, Bool, true, false, cond, List, [], ◌∷◌, ◌++◌, length, Option, Some, None, Result, Ok, Err, refl, sym, ap, ◌∙◌, arith}
use Rattle.std.specs.Prelude.{◌&&◌, nat_le, nat_lt, ◌==◌}
use Rattle.std.proofs.lemmas.Bool.Decides.{nat_tests}
use Rattle.std.proofs.lemmas.List.{length-append}
use Rattle.cert_text.specs.declared.fault.CertFault.{CertFault}
use Rattle.cert_value.specs.Certificates.{Entry}
use Rattle.cert_text.specs.Reading.{◌>>=◌, ◌>>?◌, between, number_in, numbers_behind, numbers_in, filled_behind, filled, formed, numbered, ordered, classified, has_width, entry_numbers, entry_of}

pub bind_ok : {A B : Type 0} (r : Result A CertFault) (f : A → Result B CertFault) (y : B) → (r >>= f) ≡ Ok y → (x : A) × (r ≡ Ok x) × (f x ≡ Ok y)
bind_ok (Ok x) f y e = (x, refl, e)
bind_ok (Err d) f y e = absurd cc

-- what follows from the value of the first step
pub bind_by : {A B : Type 0} (r : Result A CertFault) (f : A → Result B CertFault) (y : B) (P : Type 0) → (r >>= f) ≡ Ok y → ((x : A) → r ≡ Ok x → f x ≡ Ok y → P) → P
bind_by (Ok x) f y P e h = h x refl e
bind_by (Err d) f y P e h = absurd cc

pub formed_ok : {A : Type 0} (line : ℕ) (b : Bool) (x y : A) → formed line b x ≡ Ok y → (b ≡ true) × (x ≡ y)
formed_ok line true x y e = (refl, cc)
formed_ok line false x y e = absurd cc

pub ordered_ok : {A : Type 0} (line : ℕ) (b : Bool) (x y : A) → ordered line b x ≡ Ok y → (b ≡ true) × (x ≡ y)
ordered_ok line true x y e = (refl, cc)
ordered_ok line false x y e = absurd cc

pub classified_ok : {A : Type 0} (line : ℕ) (b : Bool) (x y : A) → classified line b x ≡ Ok y → (b ≡ true) × (x ≡ y)
classified_ok line true x y e = (refl, cc)
classified_ok line false x y e = absurd cc

pub numbered_ok : {A : Type 0} (line : ℕ) (o : Option A) (y : A) → numbered line o ≡ Ok y → o ≡ Some y
numbered_ok line (Some x) y e = let same : x ≡ y = cc in ap Some same
numbered_ok line None y e = absurd cc

abbrev done : {A : Type 0} → A → Result A CertFault
done x = Ok x

pub ok_is : {A : Type 0} (x y : A) → done x ≡ done y → x ≡ y
ok_is x y e = cc

abbrev there : {A : Type 0} → A → Option A
there x = Some x

pub some_is : {A : Type 0} (x y : A) → there x ≡ there y → x ≡ y
some_is x y e = cc

pub then_some : {A B : Type 0} (o : Option A) (f : A → Option B) (y : B) → (o >>? f) ≡ Some y → (x : A) × (o ≡ Some x) × (f x ≡ Some y)
then_some (Some x) f y e = (x, refl, e)
then_some None f y e = absurd cc

pub and_parts : (a b : Bool) → (a && b) ≡ true → (a ≡ true) × (b ≡ true)
and_parts true b e = (refl, e)
and_parts false b e = absurd cc

pub le_is : (a b : ℕ) → nat_le a b ≡ true → a ≤ b
le_is a b e = grind (arith, nat_tests)

pub lt_is : (a b : ℕ) → nat_lt a b ≡ true → a < b
lt_is a b e = grind (arith, nat_tests)

pub eq_is : (a b : ℕ) → (a == b) ≡ true → a ≡ b
eq_is a b e = grind (arith, nat_tests)

between_by : (b : Bool) (least end n m : ℕ) → b ≡ (nat_le least n && nat_lt n end) → cond b (there n) None ≡ Some m → (n ≡ m) × (least ≤ m) × (m < end)
between_by true least end n m is e =
    let parts = and_parts (nat_le least n) (nat_lt n end) (sym is) in
    let same : n ≡ m = some_is n m e in
    let a = le_is least n parts.0 in let b = lt_is n end parts.1 in
    (same, omega arith, omega arith)
between_by false least end n m is e = absurd cc

-- a number within its limits
pub between_ok : (least end : ℕ) (o : Option ℕ) (m : ℕ) → between least end o ≡ Some m → (o ≡ Some m) × (least ≤ m) × (m < end)
between_ok least end None m e = absurd cc
between_ok least end (Some n) m e =
    let parts = between_by (nat_le least n && nat_lt n end) least end n m refl e in
    (ap Some parts.0, parts.1, parts.2)

-- as many numbers as words
pub numbers_length : (end : ℕ) (ns : List ℕ) (ws : List (List ℕ)) (r : List ℕ) → numbers_behind end ns ws ≡ Some r → length r ≡ length ns + length ws
unfolding numbers_behind
numbers_length end ns [] r e = let same : ns ≡ r = some_is ns r e in let l = ap (λ (xs : List ℕ). length xs) same in omega arith
numbers_length end ns (w ∷ ws) r e =
    let a = then_some (number_in 0 end w) (λ n. numbers_behind end (ns ++ n ∷ []) ws) r e in
    let l = numbers_length end (ns ++ a.0 ∷ []) ws r a.2 in
    let k = length-append ns (a.0 ∷ []) in
    omega arith

-- the count of words that are not empty
pub filled_length : (n : ℕ) (ws : List (List ℕ)) (m : ℕ) → filled_behind n ws ≡ Some m → m ≡ n + length ws
unfolding filled_behind
filled_length n [] m e = let same = some_is n m e in omega arith
filled_length n ([] ∷ ws) m e = absurd cc
filled_length n ((b ∷ bs) ∷ ws) m e = let l = filled_length (n + 1) ws m e in omega arith

pub width_by : (w : ℕ) (o : Option ℕ) → has_width (Some w) o ≡ true → (m : ℕ) × (o ≡ Some m) × (m ≡ w + 1)
width_by w None e = absurd cc
width_by w (Some m) e = (m, refl, eq_is m (w + 1) e)

entry_words : (line : ℕ) (ws : List (List ℕ)) (e : Entry) → entry_numbers line ws ≡ Ok e → length ws ≡ length e.state + 1
entry_words line [] e is = absurd cc
entry_words line (g ∷ ws) e is =
    let a = bind_ok (numbered line (number_in 0 (2 ^ 62 + 1) g)) (λ cost. numbered line (numbers_in (2 ^ 32) ws) >>= λ state. Ok (record { cost = cost; state = state })) e is in
    let b = bind_ok (numbered line (numbers_in (2 ^ 32) ws)) (λ state. Ok (record { cost = a.0; state = state })) e a.2 in
    let made : Entry = record { cost = a.0; state = b.0 } in
    let same = ap (λ (x : Entry). length x.state) (ok_is made e b.2) in
    let l = numbers_length (2 ^ 32) [] ws b.0 (numbered_ok line (numbers_in (2 ^ 32) ws) b.0 b.1) in
    omega arith

-- a state that is read has the width that it is to have
pub entry_width : (w line : ℕ) (ws : List (List ℕ)) (e : Entry) → entry_of (Some w) line ws ≡ Ok e → length e.state ≡ w
unfolding entry_of
entry_width w line ws e is =
    let a = bind_ok (formed line (has_width (Some w) (filled ws)) ws) (entry_numbers line) e is in
    let f = formed_ok line (has_width (Some w) (filled ws)) ws a.0 a.1 in
    let m = width_by w (filled ws) f.0 in
    let l = filled_length 0 ws m.0 m.1 in
    let n = entry_words line ws e (ap (entry_numbers line) f.1 ∙ a.2) in
    omega (arith, m.2)
