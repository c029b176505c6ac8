-- What a reading that did not fail has done.
use Rattle.std.proofs.Common.{◌≡◌, ℕ, zero, suc, ◌+◌, Bool, true, false, cond, refl, ap, subst, arith, Option, Some, None}
use Rattle.std.specs.Prelude.{Result, Ok, Err}
use Rattle.sasfile_reader.specs.declared.fault.SasFault.{SasFault}
use Rattle.sasfile_reader.specs.Reading.{◌>>=◌, Remaining, formed, ranged, repeated}

abbrev done : {A : Type 0} → A → Result A SasFault
done x = Ok x

-- what stands in an answer
pub ok_is : {A : Type 0} (x y : A) → done x ≡ done y → x ≡ y
ok_is x y e = cc

pub bind_ok : {A B : Type 0} (r : Result A SasFault) (f : A → Result B SasFault) (y : B) → (r >>= f) ≡ Ok y → (x : A) × (r ≡ Ok x) × (f x ≡ Ok y)
bind_ok (Ok x) f y e = (x, refl, e)
bind_ok (Err d) f y e = absurd cc

-- a test that refuses
pub passed : {A : Type 0} (b : Bool) (d : SasFault) (r : Result A SasFault) (y : A) → cond b (Err d) r ≡ Ok y → (b ≡ false) × (r ≡ Ok y)
passed true d r y e = absurd cc
passed false d r y e = (refl, e)

-- a test that lets go on
pub held : {A : Type 0} (b : Bool) (d : SasFault) (r : Result A SasFault) (y : A) → cond b r (Err d) ≡ Ok y → (b ≡ true) × (r ≡ Ok y)
held true d r y e = (refl, e)
held false d r y e = absurd cc

pub formed_ok : {A : Type 0} (n : ℕ) (o : Option A) (x : A) → formed n o ≡ Ok x → o ≡ Some x
formed_ok n (Some y) x e = ap (λ z. Some z) (ok_is y x e)
formed_ok n None x e = absurd cc

pub ranged_ok : {A : Type 0} (n : ℕ) (o : Option A) (x : A) → ranged n o ≡ Ok x → o ≡ Some x
ranged_ok n (Some y) x e = ap (λ z. Some z) (ok_is y x e)
ranged_ok n None x e = absurd cc

abbrev given : {A : Type 0} → A → Option A
given x = Some x

pub some_is : {A : Type 0} (x y : A) → given x ≡ given y → x ≡ y
some_is x y e = cc

pub some_if : {A : Type 0} (b : Bool) (x y : A) → cond b (Some x) None ≡ Some y → (b ≡ true) × (x ≡ y)
some_if true x y e = (refl, some_is x y e)
some_if false x y e = absurd cc

-- what each step keeps
pub repeated_keeps : {S : Type 0} (P : S → Type 0) (step : S → Remaining → Result (S × Remaining) SasFault) → ((s t : S) (r q : Remaining) → P s → step s r ≡ Ok (t, q) → P t)
    → (n : ℕ) (s t : S) (r q : Remaining) → P s → repeated step n s r ≡ Ok (t, q) → P t
unfolding repeated
repeated_keeps P step keeps zero s t r q p e = subst P (ap (λ (x : _ × Remaining). x.0) (ok_is (s, r) (t, q) e)) p
repeated_keeps P step keeps (suc n) s t r q p e =
    let b = bind_ok (step s r) (λ x. repeated step n x.0 x.1) (t, q) e in
    repeated_keeps P step keeps n b.0.0 t b.0.1 q (keeps s b.0.0 r b.0.1 p b.1) b.2

-- what each step counts
pub repeated_counts : {S : Type 0} (size : S → ℕ) (step : S → Remaining → Result (S × Remaining) SasFault) → ((s t : S) (r q : Remaining) → step s r ≡ Ok (t, q) → size t ≡ suc (size s))
    → (n : ℕ) (s t : S) (r q : Remaining) → repeated step n s r ≡ Ok (t, q) → size t ≡ size s + n
unfolding repeated
repeated_counts size step counts zero s t r q e = let z : size s ≡ size t = ap (λ (x : _ × Remaining). size x.0) (ok_is (s, r) (t, q) e) in omega arith
repeated_counts size step counts (suc n) s t r q e =
    let b = bind_ok (step s r) (λ x. repeated step n x.0 x.1) (t, q) e in
    let more : size t ≡ size b.0.0 + n = repeated_counts size step counts n b.0.0 t b.0.1 q b.2 in
    let one : size b.0.0 ≡ suc (size s) = counts s b.0.0 r b.0.1 b.1 in
    omega arith
