-- Three frames: what stands in the first n lines, what follows whole lines, and how many lines there are.
use Rattle.std.proofs.Common.{◌⊎◌, inl, inr, ◌≡◌, ◌≢◌, ℕ, suc, ◌+◌, ◌≤◌, ◌<◌, List, [], ◌∷◌, ◌++◌, length, refl, sym, ap, subst, ◌∙◌, arith, Some, Ok, Err}
use Rattle.sasfile_reader.specs.declared.fault.SasFault.{SasFault}
use Rattle.sasfile_reader.specs.declared.fault.SasFault.TheVariants as fault
use Rattle.sasfile_reader.specs.Reading.{Remaining, first_of, line_at, task_at}
use Rattle.sasfile_reader.proofs.Endings.{line_is}
use Rattle.line_laws.specs.SasFaultLines.{line_of, IsWithin}
use Rattle.line_laws.proofs.Frames.{Frame, ends_fault, like_fault}
use Rattle.line_laws.proofs.SasReading.{IsOn, Sas, end_is}
use Rattle.line_laws.proofs.SasWholeTexts.{lines_from, task}

-- a line is there
line_of_more : (r : Remaining) (l : List ℕ) (ls : List (List ℕ)) → r.lines ≡ l ∷ ls → line_at r ≡ Ok (l, lines_from (r.number + 1) ls)
unfolding line_at
line_of_more r l ls is = ap (first_of r.number) is

no_line : (r q : Remaining) (l : List ℕ) → r.lines ≡ [] → line_at r ≡ Ok (l, q) → ⊥
no_line r q l nil is = let parts = line_is r l q is in let e : [] ≡ l ∷ q.lines = sym nil ∙ parts.0 in absurd cc

-- ---- the first n lines

-- the same number, and the same lines up to the n-th
pub record Shares (n : ℕ) (r q : Remaining) : Type 0 where
  pub number : r.number ≡ q.number
  pub shared : List (List ℕ)
  pub here : List (List ℕ)
  pub there : List (List ℕ)
  pub here_is : r.lines ≡ shared ++ here
  pub there_is : q.lines ≡ shared ++ there
  pub count : r.number + length shared ≡ n + 1

-- a line behind the n-th has no fault within n lines
beyond : (n m : ℕ) (e : SasFault) → n < m → IsOn m e → IsWithin n e → ⊥
beyond n m fault.OutOfMemory lt on within = on
beyond n m (fault.Limit t) lt on within = within
beyond n m (fault.Version k) lt on within = omega arith
beyond n m (fault.Expected k) lt on within = omega arith
beyond n m (fault.Range k) lt on within = omega arith
beyond n m (fault.Axioms k) lt on within = omega arith
beyond n m (fault.ConditionalEffect k) lt on within = omega arith
beyond n m fault.Truncated lt on within = on
beyond n m (fault.Trailing k) lt on within = omega arith

shares_step : (n : ℕ) (r q : Remaining) (ls here there : List (List ℕ)) → r.number ≡ q.number → r.lines ≡ ls ++ here → q.lines ≡ ls ++ there → r.number + length ls ≡ n + 1
    → (n < r.number) ⊎ ((l : List ℕ) × (s : Remaining) × (t : Remaining) × (r.number ≡ q.number) × (line_at r ≡ Ok (l, s)) × (line_at q ≡ Ok (l, t)) × Shares n s t)
shares_step n r q [] here there number is other count = inl (omega arith)
shares_step n r q (l ∷ ls) here there number is other count =
    inr (
      l,
      lines_from (r.number + 1) (ls ++ here),
      lines_from (q.number + 1) (ls ++ there),
      number,
      line_of_more r l (ls ++ here) is,
      line_of_more q l (ls ++ there) other,
      record { number = ap (λ m. m + 1) number; shared = ls; here = here; there = there; here_is = refl; there_is = refl; count = omega arith },
    )

pub within_frame : ℕ → Frame Sas
within_frame n = record {
  Past = λ r. n < r.number;
  Together = Shares n;
  Late = λ e. IsWithin n e → ⊥;
  past_next = λ r q l past is. let parts = line_is r l q is in omega arith;
  past_fault = λ r q l e past is on. beyond n r.number e past on;
  past_end = λ r e past is. subst (λ d. IsWithin n d → ⊥) (end_is r e is) (λ h. h);
  step = λ r q h. shares_step n r q h.shared h.here h.there h.number h.here_is h.there_is h.count;
}

not_late : {A C : Type 0} → (A → ⊥) → A ⊎ C → C
not_late no_a (inl a) = absurd (no_a a)
not_late no_a (inr c) = c

task_fault : (F : Frame Sas) (r q : Remaining) (e : SasFault) → F.Together r q → task_at r ≡ Err e → F.Late e ⊎ (task_at q ≡ Err e)
task_fault F r q e h is = like_fault F (λ x. Unit {0}) (λ x y. x ≡ y) (task_at r) (task_at q) e ((task F).like r q h) is

-- a fault on one of the first n lines is that of all texts with these lines
pub within_kept : (n : ℕ) (e : SasFault) (ls here there : List (List ℕ)) → length ls ≡ n → IsWithin n e → task_at (lines_from 1 (ls ++ here)) ≡ Err e → task_at (lines_from 1 (ls ++ there)) ≡ Err e
unfolding within_frame
within_kept n e ls here there count within is =
    let start : Shares n (lines_from 1 (ls ++ here)) (lines_from 1 (ls ++ there)) = record { number = refl; shared = ls; here = here; there = there; here_is = refl; there_is = refl; count = omega arith } in
    not_late (λ late. late within) (task_fault (within_frame n) (lines_from 1 (ls ++ here)) (lines_from 1 (ls ++ there)) e start is)

-- ---- whole lines, and others behind them

pub record GoesOn (rest : List (List ℕ)) (r q : Remaining) : Type 0 where
  pub number : r.number ≡ q.number
  pub more : q.lines ≡ r.lines ++ rest

goes_on_step : (rest : List (List ℕ)) (r q : Remaining) (ls : List (List ℕ)) → r.number ≡ q.number → r.lines ≡ ls → q.lines ≡ ls ++ rest
    → (r.lines ≡ []) ⊎ ((l : List ℕ) × (s : Remaining) × (t : Remaining) × (r.number ≡ q.number) × (line_at r ≡ Ok (l, s)) × (line_at q ≡ Ok (l, t)) × GoesOn rest s t)
goes_on_step rest r q [] number is other = inl is
goes_on_step rest r q (l ∷ ls) number is other =
    inr (l, lines_from (r.number + 1) ls, lines_from (q.number + 1) (ls ++ rest), number, line_of_more r l ls is, line_of_more q l (ls ++ rest) other, record { number = ap (λ m. m + 1) number; more = refl })

pub whole_frame : List (List ℕ) → Frame Sas
whole_frame rest = record {
  Past = λ r. r.lines ≡ [];
  Together = GoesOn rest;
  Late = λ e. e ≡ fault.Truncated;
  past_next = λ r q l past is. absurd (no_line r q l past is);
  past_fault = λ r q l e past is on. absurd (no_line r q l past is);
  past_end = λ r e past is. sym (end_is r e is);
  step = λ r q h. goes_on_step rest r q r.lines h.number refl h.more;
}

-- a fault of some lines stays that of more lines, unless they were too few
pub whole_kept : (e : SasFault) (ls rest : List (List ℕ)) → e ≢ fault.Truncated → task_at (lines_from 1 ls) ≡ Err e → task_at (lines_from 1 (ls ++ rest)) ≡ Err e
unfolding whole_frame
whole_kept e ls rest other is = not_late other (task_fault (whole_frame rest) (lines_from 1 ls) (lines_from 1 (ls ++ rest)) e (record { number = refl; more = refl }) is)

-- ---- how many lines there are

-- this many lines in all, with those before
pub record Counts (c : ℕ) (r : Remaining) : Type 0 where
  pub some : 1 ≤ r.number
  pub all : r.number + length r.lines ≡ c + 1

pub record IsThere (c m : ℕ) : Type 0 where
  pub some : 1 ≤ m
  pub most : m ≤ c

abbrev Names : ℕ → SasFault → Type 0
Names c e = (m : ℕ) → line_of e ≡ Some m → IsThere c m

there_by : (c k m : ℕ) → IsThere c k → Some k ≡ Some m → IsThere c m
there_by c k m h is = let same : k ≡ m = cc in subst (IsThere c) same h

names_on : (c m : ℕ) (e : SasFault) → IsThere c m → IsOn m e → Names c e
names_on c m fault.OutOfMemory h on = absurd on
names_on c m (fault.Limit t) h on = λ k is. absurd cc
names_on c m (fault.Version n) h on = λ k is. there_by c m k h (ap (λ x. Some x) (sym on) ∙ is)
names_on c m (fault.Expected n) h on = λ k is. there_by c m k h (ap (λ x. Some x) (sym on) ∙ is)
names_on c m (fault.Range n) h on = λ k is. there_by c m k h (ap (λ x. Some x) (sym on) ∙ is)
names_on c m (fault.Axioms n) h on = λ k is. there_by c m k h (ap (λ x. Some x) (sym on) ∙ is)
names_on c m (fault.ConditionalEffect n) h on = λ k is. there_by c m k h (ap (λ x. Some x) (sym on) ∙ is)
names_on c m fault.Truncated h on = absurd on
names_on c m (fault.Trailing n) h on = λ k is. there_by c m k h (ap (λ x. Some x) (sym on) ∙ is)

counts_next : (c : ℕ) (r q : Remaining) (l : List ℕ) → Counts c r → line_at r ≡ Ok (l, q) → Counts c q
counts_next c r q l h is =
    let parts = line_is r l q is in
    let long : length r.lines ≡ suc (length q.lines) = ap (λ (ls : List (List ℕ)). length ls) parts.0 in
    let all = h.all in let some = h.some in
    record { some = omega (arith, parts.1); all = omega (arith, parts.1) }

counts_there : (c : ℕ) (r q : Remaining) (l : List ℕ) → Counts c r → line_at r ≡ Ok (l, q) → IsThere c r.number
counts_there c r q l h is =
    let parts = line_is r l q is in
    let long : length r.lines ≡ suc (length q.lines) = ap (λ (ls : List (List ℕ)). length ls) parts.0 in
    let all = h.all in
    record { some = h.some; most = omega arith }

pub count_frame : ℕ → Frame Sas
count_frame c = record {
  Past = Counts c;
  Together = λ r q. ⊥;
  Late = Names c;
  past_next = counts_next c;
  past_fault = λ r q l e past is on. names_on c r.number e (counts_there c r q l past is) on;
  past_end = λ r e past is. subst (Names c) (end_is r e is) (λ m none. absurd cc);
  step = λ r q h. absurd h;
}

-- a line that a fault names is one of the lines
pub named_there : (ls : List (List ℕ)) (e : SasFault) (m : ℕ) → task_at (lines_from 1 ls) ≡ Err e → line_of e ≡ Some m → IsThere (length ls) m
unfolding count_frame
named_there ls e m is =
    ends_fault (count_frame (length ls)) (λ x. Unit {0}) (task_at (lines_from 1 ls)) e ((task (count_frame (length ls))).ends (lines_from 1 ls) (record { some = omega arith; all = omega arith })) is m
