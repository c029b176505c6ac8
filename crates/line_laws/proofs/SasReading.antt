-- The reader of `output.sas` as one that reads line by line.
use Rattle.std.proofs.Common.{◌≡◌, ℕ, zero, suc, List, [], ◌∷◌, refl, Result, Err}
use Rattle.sasfile_reader.specs.declared.fault.SasFault.{SasFault}
use Rattle.sasfile_reader.specs.declared.fault.SasFault.TheVariants as fault
use Rattle.sasfile_reader.specs.Reading.{◌>>=◌, Remaining, first_of, line_at, repeated}
use Rattle.line_laws.proofs.Readings.{Reading}
use Rattle.line_laws.proofs.Frames.{Frame, Pairs, pure_pair, then_pair}

-- the fault may be that of a line with this number
abbrev pub IsOn : ℕ → SasFault → Type 0
IsOn m fault.OutOfMemory = ⊥
IsOn m (fault.Limit t) = Unit {0}
IsOn m (fault.Version n) = n ≡ m
IsOn m (fault.Expected n) = n ≡ m
IsOn m (fault.Range n) = n ≡ m
IsOn m (fault.Axioms n) = n ≡ m
IsOn m (fault.ConditionalEffect n) = n ≡ m
IsOn m fault.Truncated = ⊥
IsOn m (fault.Trailing n) = n ≡ m

abbrev pub Sas : Reading
Sas = record {
  Fault = SasFault;
  Rest = Remaining;
  number = λ r. r.number;
  line = line_at;
  bind = ◌>>=◌;
  bind_ok = λ x f. refl;
  bind_err = λ e f. refl;
  IsOn = IsOn;
}

end_by : (n : ℕ) (ls : List (List ℕ)) (e : SasFault) → first_of n ls ≡ Err e → fault.Truncated ≡ e
end_by n [] e is = cc
end_by n (l ∷ ls) e is = absurd cc

-- only the end of the text is no line
pub end_is : (r : Remaining) (e : SasFault) → line_at r ≡ Err e → fault.Truncated ≡ e
unfolding line_at
end_is r e is = end_by r.number r.lines e is

pub repeated_reads : {S : Type 0} (F : Frame Sas) (step : S → Remaining → Result (S × Remaining) SasFault) → ((s : S) → Pairs F (step s)) → (n : ℕ) (s : S) → Pairs F (repeated step n s)
unfolding repeated
repeated_reads F step each zero s = pure_pair F s
repeated_reads F step each (suc n) s = then_pair F (each s) (λ t. repeated_reads F step each n t)
