-- A step of reading that is done this many times, as a loop does it.
use Rattle.std.proofs.Common.{◌≡◌, ℕ, suc, ◌-◌, ◌+◌, ◌≤◌, ◌<◌, Result, Ok, sym, ap, ◌∙◌, arith}
use Rattle.cert_text.specs.declared.fault.CertFault.{CertFault}
use Rattle.cert_text.specs.declared.fault.CertFault.TheVariants as fault
use Rattle.cert_text.specs.Reading.{◌>>=◌, Fails, Remaining, repeated}

-- where the first part fails, all fails
pub fails_first : {A B : Type 0} (e : CertFault) (first : Result A CertFault) (f : A → Result B CertFault) → Fails e first → Fails e (first >>= f)
fails_first fault.OutOfMemory first f h = tt
fails_first fault.Header first f h = ap (λ x. x >>= f) h
fails_first (fault.Expected n) first f h = ap (λ x. x >>= f) h
fails_first (fault.Number n) first f h = ap (λ x. x >>= f) h
fails_first fault.Truncated first f h = ap (λ x. x >>= f) h
fails_first (fault.Trailing n) first f h = ap (λ x. x >>= f) h
fails_first (fault.Order n) first f h = ap (λ x. x >>= f) h
fails_first (fault.Classes n) first f h = ap (λ x. x >>= f) h
fails_first fault.TooLong first f h = ap (λ x. x >>= f) h

pub fails_is : {A : Type 0} (e : CertFault) (read total : Result A CertFault) → read ≡ total → Fails e read → Fails e total
fails_is fault.OutOfMemory read total same h = tt
fails_is fault.Header read total same h = sym same ∙ h
fails_is (fault.Expected n) read total same h = sym same ∙ h
fails_is (fault.Number n) read total same h = sym same ∙ h
fails_is fault.Truncated read total same h = sym same ∙ h
fails_is (fault.Trailing n) read total same h = sym same ∙ h
fails_is (fault.Order n) read total same h = sym same ∙ h
fails_is (fault.Classes n) read total same h = sym same ∙ h
fails_is fault.TooLong read total same h = sym same ∙ h

pub then_is : {A B : Type 0} (first : Result A CertFault) (f : A → Result B CertFault) (x : A) → first ≡ Ok x → (first >>= f) ≡ f x
then_is first f x e = ap (λ r. r >>= f) e

-- one time is over
pub goes_on : {S : Type 0} (step : S → Remaining → Result (S × Remaining) CertFault) (count i : ℕ) (s t : S) (r q : Remaining) (total : Result (S × Remaining) CertFault) → i < count
    → step s r ≡ Ok (t, q) → repeated step (count - i) s r ≡ total → repeated step (count - (i + 1)) t q ≡ total
unfolding repeated
goes_on step count i s t r q total lt one so_far =
    let k : count - i ≡ suc (count - (i + 1)) = omega arith in
    sym (ap (λ (n : ℕ). repeated step n s r) k ∙ then_is (step s r) (λ x. repeated step (count - (i + 1)) x.0 x.1) (t, q) one) ∙ so_far

-- a time fails
pub stops : {S : Type 0} (step : S → Remaining → Result (S × Remaining) CertFault) (e : CertFault) (count i : ℕ) (s : S) (r : Remaining) (total : Result (S × Remaining) CertFault) → i < count
    → Fails e (step s r) → repeated step (count - i) s r ≡ total → Fails e total
unfolding repeated
stops step e count i s r total lt fails so_far =
    let k : count - i ≡ suc (count - (i + 1)) = omega arith in
    fails_is e (repeated step (suc (count - (i + 1))) s r) total (ap (λ (n : ℕ). repeated step n s r) (sym k) ∙ so_far)
    (fails_first e (step s r) (λ x. repeated step (count - (i + 1)) x.0 x.1) fails)

-- all times are over
pub is_done : {S : Type 0} (step : S → Remaining → Result (S × Remaining) CertFault) (count i : ℕ) (s : S) (r : Remaining) (total : Result (S × Remaining) CertFault) → count ≤ i
    → repeated step (count - i) s r ≡ total → total ≡ Ok (s, r)
unfolding repeated
is_done step count i s r total le so_far =
    let k : count - i ≡ 0 = omega arith in
    sym so_far ∙ ap (λ (n : ℕ). repeated step n s r) k

pub ruleset looping = (goes_on, stops, is_done, fails_first)

-- where the second part fails, all fails
pub fails_second : {A B : Type 0} (e : CertFault) (first : Result A CertFault) (f : A → Result B CertFault) (x : A) → first ≡ Ok x → Fails e (f x) → Fails e (first >>= f)
fails_second e first f x is h = fails_is e (f x) (first >>= f) (sym (then_is first f x is)) h
