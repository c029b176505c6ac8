-- What a reader tests of one line.
use Rattle.std.proofs.Common.{◌≡◌, ℕ, Bool, true, false, Option, Some, None, refl, Ok}
use Rattle.cert_text.specs.Reading.{◌>>=◌, Remaining, formed, numbered, ordered, classified}
use Rattle.line_laws.proofs.Frames.{OnLine}
use Rattle.line_laws.proofs.CertReading.{Cert}

pub formed_is : (m : ℕ) (b : Bool) (q : Remaining) → formed m b q ≡ (formed m b tt >>= λ (u : Unit {0}). Ok q)
formed_is m true q = refl
formed_is m false q = refl

pub on_formed : {A : Type 0} (m : ℕ) (b : Bool) (x : A) → OnLine Cert m (formed m b x)
on_formed m true x = tt
on_formed m false x = refl

pub on_numbered : {A : Type 0} (m : ℕ) (o : Option A) → OnLine Cert m (numbered m o)
on_numbered m (Some x) = tt
on_numbered m None = refl

pub on_ordered : {A : Type 0} (m : ℕ) (b : Bool) (x : A) → OnLine Cert m (ordered m b x)
on_ordered m true x = tt
on_ordered m false x = refl

pub on_classified : {A : Type 0} (m : ℕ) (b : Bool) (x : A) → OnLine Cert m (classified m b x)
on_classified m true x = tt
on_classified m false x = refl
