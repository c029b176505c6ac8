-- A step of reading, repeated, and faults that go on.
use Rattle.std.proofs.Common.{◌≡◌, ℕ, zero, suc, ◌+◌, ◌-◌, ◌<◌, ◌≤◌, List, [], ◌∷◌, length, get_or, drop, refl, sym, ap, ◌∙◌, arith, drop-cons, add-one, Result, Ok, Err}
use Rattle.sasfile_reader.specs.declared.fault.SasFault.{SasFault}
use Rattle.sasfile_reader.specs.declared.fault.SasFault.TheVariants as fault
use Rattle.sasfile_reader.specs.Reading.{Fails, ◌>>=◌, Remaining, repeated, value_step, values_at}

-- a fault of one reading is the fault of another
pub fails_map : {X Y : Type 0} (e : SasFault) (p : Result X SasFault) (q : Result Y SasFault) → ((d : SasFault) → p ≡ Err d → q ≡ Err d) → Fails e p → Fails e q
fails_map fault.OutOfMemory p q f h = tt
fails_map (fault.Limit t) p q f h = f (fault.Limit t) h
fails_map (fault.Version n) p q f h = f (fault.Version n) h
fails_map (fault.Expected n) p q f h = f (fault.Expected n) h
fails_map (fault.Range n) p q f h = f (fault.Range n) h
fails_map (fault.Axioms n) p q f h = f (fault.Axioms n) h
fails_map (fault.ConditionalEffect n) p q f h = f (fault.ConditionalEffect n) h
fails_map fault.Truncated p q f h = f fault.Truncated h
fails_map (fault.Trailing n) p q f h = f (fault.Trailing n) h

pub fails_bind : {X Y : Type 0} (e : SasFault) (p : Result X SasFault) (f : X → Result Y SasFault) → Fails e p → Fails e (p >>= f)
fails_bind e p f h = fails_map e p (p >>= f) (λ d z. ap (λ (r : Result _ SasFault). r >>= f) z) h

pub repeated_step : {S : Type 0} (step : S → Remaining → Result (S × Remaining) SasFault) (count i : ℕ) (s t : S) (r q : Remaining) (whole : Result (S × Remaining) SasFault) → i < count → step s r ≡ Ok (t, q)
    → repeated step (count - i) s r ≡ whole → repeated step (count - (i + 1)) t q ≡ whole
unfolding repeated
repeated_step step count i s t r q whole lt h so_far =
    let k : count - i ≡ suc (count - (i + 1)) = omega arith in
    let one : repeated step (count - i) s r ≡ repeated step (count - (i + 1)) t q = rw (k, h) refl in
    sym one ∙ so_far

pub repeated_fails : {S : Type 0} (e : SasFault) (step : S → Remaining → Result (S × Remaining) SasFault) (count i : ℕ) (s : S) (r : Remaining) (whole : Result (S × Remaining) SasFault) → i < count → Fails e (step s r)
    → repeated step (count - i) s r ≡ whole → Fails e whole
unfolding repeated
repeated_fails e step count i s r whole lt h so_far =
    fails_map e (step s r) whole (λ d z.
    let k : count - i ≡ suc (count - (i + 1)) = omega arith in
    let one : repeated step (count - i) s r ≡ Err d = rw (k, z) refl in
    sym so_far ∙ one) h

pub repeated_done : {S : Type 0} (step : S → Remaining → Result (S × Remaining) SasFault) (count i : ℕ) (s : S) (r : Remaining) (whole : Result (S × Remaining) SasFault) → count ≤ i
    → repeated step (count - i) s r ≡ whole → whole ≡ Ok (s, r)
unfolding repeated
repeated_done step count i s r whole le so_far =
    let k : count - i ≡ 0 = omega arith in
    let one : repeated step (count - i) s r ≡ Ok (s, r) = rw k refl in
    sym so_far ∙ one

-- ---- a value of each variable

drop_end : (i : ℕ) (xs : List ℕ) → length xs ≤ i → drop i xs ≡ []
drop_end zero [] h = refl
drop_end zero (b ∷ bs) h = absurd (omega arith)
drop_end (suc n) [] h = refl
drop_end (suc n) (b ∷ bs) h = drop_end n bs (omega arith)

pub values_step : (ranges : List ℕ) (i : ℕ) (s t : List ℕ) (r q : Remaining) (whole : Result (List ℕ × Remaining) SasFault) → i < length ranges → value_step (get_or ranges i 0) s r ≡ Ok (t, q)
    → values_at (drop i ranges) s r ≡ whole → values_at (drop (i + 1) ranges) t q ≡ whole
unfolding values_at
values_step ranges i s t r q whole lt h so_far =
    let one : values_at (drop i ranges) s r ≡ values_at (drop (i + 1) ranges) t q = rw (drop-cons ranges i 0 lt, h, add-one) refl in
    sym one ∙ so_far

pub values_fail : (e : SasFault) (ranges : List ℕ) (i : ℕ) (s : List ℕ) (r : Remaining) (whole : Result (List ℕ × Remaining) SasFault) → i < length ranges → Fails e (value_step (get_or ranges i 0) s r)
    → values_at (drop i ranges) s r ≡ whole → Fails e whole
unfolding values_at
values_fail e ranges i s r whole lt h so_far =
    fails_map e (value_step (get_or ranges i 0) s r) whole (λ d z.
    let one : values_at (drop i ranges) s r ≡ Err d = rw (drop-cons ranges i 0 lt, z) refl in
    sym so_far ∙ one) h

pub values_done : (ranges : List ℕ) (i : ℕ) (s : List ℕ) (r : Remaining) (whole : Result (List ℕ × Remaining) SasFault) → length ranges ≤ i
    → values_at (drop i ranges) s r ≡ whole → whole ≡ Ok (s, r)
unfolding values_at
values_done ranges i s r whole le so_far =
    let one : values_at (drop i ranges) s r ≡ Ok (s, r) = rw drop_end refl in
    sym so_far ∙ one
