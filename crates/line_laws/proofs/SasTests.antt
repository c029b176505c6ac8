-- What a reader tests of one line, and of what it has read of it.
use Rattle.std.proofs.Common.{◌≡◌, ℕ, Bool, true, false, cond, Option, Some, None, refl, Result, Ok, Err}
use Rattle.sasfile_reader.specs.declared.fault.SasFault.{SasFault}
use Rattle.sasfile_reader.specs.Reading.{◌>>=◌, Remaining, formed, ranged}
use Rattle.line_laws.proofs.Readings.{given}
use Rattle.line_laws.proofs.Frames.{OnLine}
use Rattle.line_laws.proofs.SasReading.{IsOn, Sas}

-- ---- results one after the other

pub kept_if : {A : Type 0} (b : Bool) (e : SasFault) (more : Result A SasFault) → cond b more (Err e) ≡ (cond b (Ok tt) (Err e) >>= λ (u : Unit {0}). more)
kept_if true e more = refl
kept_if false e more = refl

pub refused_if : {A : Type 0} (b : Bool) (e : SasFault) (more : Result A SasFault) → cond b (Err e) more ≡ (cond b (Err e) (Ok tt) >>= λ (u : Unit {0}). more)
refused_if true e more = refl
refused_if false e more = refl

pub value_if : {A : Type 0} (b : Bool) (e : SasFault) (v : A) (q : Remaining) → cond b (given Sas v q) (Err e) ≡ (cond b (Ok v) (Err e) >>= λ (x : A). given Sas x q)
value_if true e v q = refl
value_if false e v q = refl

pub value_unless : {A : Type 0} (b : Bool) (e : SasFault) (v : A) (q : Remaining) → cond b (Err e) (given Sas v q) ≡ (cond b (Err e) (Ok v) >>= λ (x : A). given Sas x q)
value_unless true e v q = refl
value_unless false e v q = refl

pub refused_value : {A C : Type 0} (b : Bool) (e : SasFault) (v : A) (more : A → Result C SasFault) → cond b (Err e) (more v) ≡ (cond b (Err e) (Ok v) >>= λ (x : A). more x)
refused_value true e v more = refl
refused_value false e v more = refl

-- ---- tests of one line

pub on_formed : {A : Type 0} (m : ℕ) (o : Option A) → OnLine Sas m (formed m o)
on_formed m (Some x) = tt
on_formed m None = refl

pub on_ranged : {A : Type 0} (m : ℕ) (o : Option A) → OnLine Sas m (ranged m o)
on_ranged m (Some x) = tt
on_ranged m None = refl

pub on_if : {A : Type 0} (m : ℕ) (b : Bool) (e : SasFault) (v : A) → IsOn m e → OnLine Sas m (cond b (Ok v) (Err e))
on_if m true e v on = tt
on_if m false e v on = on

pub on_unless : {A : Type 0} (m : ℕ) (b : Bool) (e : SasFault) (p : Result A SasFault) → IsOn m e → OnLine Sas m p → OnLine Sas m (cond b (Err e) p)
on_unless m true e p on more = on
on_unless m false e p on more = more
