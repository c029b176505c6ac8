-- Two frames: what stands in the first n lines, and how many lines there are.
use Rattle.std.proofs.Common.{◌⊎◌, inl, inr, ◌≡◌, ◌≢◌, ℕ, ◌+◌, ◌≤◌, ◌<◌, false, List, [], ◌∷◌, ◌++◌, length, refl, sym, ap, subst, ◌∙◌, arith, Some, Ok, Err}
use Rattle.cert_text.specs.declared.fault.CertFault.{CertFault}
use Rattle.cert_text.specs.declared.fault.CertFault.TheVariants as fault
use Rattle.cert_text.specs.Reading.{Remaining, first_of, line_at, is_nothing, certificate_at}
use Rattle.cert_text.proofs.Steps.{ok_is}
use Rattle.line_laws.specs.CertFaultLines.{line_count_of, line_of, IsWithin}
use Rattle.line_laws.proofs.Frames.{ends_fault, like_fault}
use Rattle.line_laws.proofs.CertReading.{IsOn, end_is}
use Rattle.line_laws.proofs.CertWholeTexts.{lines_from, EndFrame, certificate_ends, certificate_like}

-- ---- lines

-- a line and what is behind it, which is not nothing
record Parts (n : ℕ) (ls : List (List ℕ)) (l : List ℕ) (q : Remaining) : Type 0 where
  number : q.number ≡ n + 1
  lines_are : ls ≡ l ∷ q.lines
  first : List ℕ
  others : List (List ℕ)
  rest_is : q.lines ≡ first ∷ others

parts_by : (n : ℕ) (ls : List (List ℕ)) (l : List ℕ) (q : Remaining) → first_of n ls ≡ Ok (l, q) → Parts n ls l q
parts_by n [] l q is = absurd cc
parts_by n (k ∷ []) l q is = absurd cc
parts_by n (k ∷ m ∷ ms) l q is =
    let same = ok_is (k, lines_from (n + 1) (m ∷ ms)) (l, q) is in
    record {
      number = sym (ap (λ (x : List ℕ × Remaining). x.1.number) same);
      lines_are = ap (λ (x : List ℕ × Remaining). x.0 ∷ x.1.lines) same;
      first = m;
      others = ms;
      rest_is = sym (ap (λ (x : List ℕ × Remaining). x.1.lines) same);
    }

parts_of : (r q : Remaining) (l : List ℕ) → line_at r ≡ Ok (l, q) → Parts r.number r.lines l q
unfolding line_at
parts_of r q l is = parts_by r.number r.lines l q is

first_there : (n : ℕ) (l : List ℕ) (ls : List (List ℕ)) (h : List ℕ) (hs : List (List ℕ)) → first_of n (l ∷ (ls ++ h ∷ hs)) ≡ Ok (l, lines_from (n + 1) (ls ++ h ∷ hs))
first_there n l [] h hs = refl
first_there n l (k ∷ ks) h hs = refl

line_there : (r : Remaining) (l : List ℕ) (ls : List (List ℕ)) (h : List ℕ) (hs : List (List ℕ)) → r.lines ≡ l ∷ (ls ++ h ∷ hs) → line_at r ≡ Ok (l, lines_from (r.number + 1) (ls ++ h ∷ hs))
unfolding line_at
line_there r l ls h hs is = ap (first_of r.number) is ∙ first_there r.number l ls h hs

-- ---- the first n lines

-- the same number, and the same lines up to the n-th, with a line feed behind each
pub record Shares (n : ℕ) (r q : Remaining) : Type 0 where
  pub number : r.number ≡ q.number
  pub shared : List (List ℕ)
  pub here : List ℕ
  pub heres : List (List ℕ)
  pub there : List ℕ
  pub theres : List (List ℕ)
  pub here_is : r.lines ≡ shared ++ here ∷ heres
  pub there_is : q.lines ≡ shared ++ there ∷ theres
  pub count : r.number + length shared ≡ n + 1

-- a line behind the n-th has no fault within n lines
beyond : (n m : ℕ) (e : CertFault) → n < m → IsOn m e → IsWithin n e → ⊥
beyond n m fault.OutOfMemory lt on within = on
beyond n m fault.Header lt on within = omega arith
beyond n m (fault.Expected k) lt on within = omega arith
beyond n m (fault.Number k) lt on within = omega arith
beyond n m fault.Truncated lt on within = on
beyond n m (fault.Trailing k) lt on within = on
beyond n m (fault.Order k) lt on within = omega arith
beyond n m (fault.Classes k) lt on within = omega arith
beyond n m fault.TooLong lt on within = on

shares_step : (n : ℕ) (r q : Remaining) (ls : List (List ℕ)) (h : List ℕ) (hs : List (List ℕ)) (k : List ℕ) (ks : List (List ℕ)) → r.number ≡ q.number → r.lines ≡ ls ++ h ∷ hs → q.lines ≡ ls ++ k ∷ ks → r.number + length ls ≡ n + 1
    → (n < r.number) ⊎ ((l : List ℕ) × (s : Remaining) × (t : Remaining) × (r.number ≡ q.number) × (line_at r ≡ Ok (l, s)) × (line_at q ≡ Ok (l, t)) × Shares n s t)
shares_step n r q [] h hs k ks number is other count = inl (omega arith)
shares_step n r q (l ∷ ls) h hs k ks number is other count =
    inr (
      l,
      lines_from (r.number + 1) (ls ++ h ∷ hs),
      lines_from (q.number + 1) (ls ++ k ∷ ks),
      number,
      line_there r l ls h hs is,
      line_there q l ls k ks other,
      record { number = ap (λ m. m + 1) number; shared = ls; here = h; heres = hs; there = k; theres = ks; here_is = refl; there_is = refl; count = omega arith },
    )

pub within_frame : ℕ → EndFrame
within_frame n = record {
  frame = record {
    Past = λ r. n < r.number;
    Together = Shares n;
    Late = λ e. IsWithin n e → ⊥;
    past_next = λ r q l past is. let parts = parts_of r q l is in omega (arith, parts.number);
    past_fault = λ r q l e past is on. beyond n r.number e past on;
    past_end = λ r e past is. subst (λ d. IsWithin n d → ⊥) (end_is r e is) (λ h. h);
    step = λ r q h. shares_step n r q h.shared h.here h.heres h.there h.theres h.number h.here_is h.there_is h.count;
  };
  past_bytes = λ r past some within. omega arith;
}

not_late : {A C : Type 0} → (A → ⊥) → A ⊎ C → C
not_late no_a (inl a) = absurd (no_a a)
not_late no_a (inr c) = c

-- a fault on one of the first n lines is that of all texts with these lines
pub within_kept : (n : ℕ) (e : CertFault) (ls : List (List ℕ)) (h : List ℕ) (hs : List (List ℕ)) (k : List ℕ) (ks : List (List ℕ)) → length ls ≡ n → IsWithin n e
    → certificate_at (lines_from 1 (ls ++ h ∷ hs)) ≡ Err e → certificate_at (lines_from 1 (ls ++ k ∷ ks)) ≡ Err e
unfolding within_frame
within_kept n e ls h hs k ks count within is =
    let start : Shares n (lines_from 1 (ls ++ h ∷ hs)) (lines_from 1 (ls ++ k ∷ ks)) = record { number = refl; shared = ls; here = h; heres = hs; there = k; theres = ks; here_is = refl; there_is = refl; count = omega arith } in
    not_late (λ late. late within) (like_fault (within_frame n).frame (λ c. Unit {0}) (λ c d. c ≡ d) (certificate_at (lines_from 1 (ls ++ h ∷ hs))) (certificate_at (lines_from 1 (ls ++ k ∷ ks))) e
    (certificate_like (within_frame n) (lines_from 1 (ls ++ h ∷ hs)) (lines_from 1 (ls ++ k ∷ ks)) refl start) is)

-- ---- how many lines there are

-- this many lines in all, with those before
pub record Counts (c : ℕ) (r : Remaining) : Type 0 where
  pub some : 1 ≤ r.number
  pub all : r.number + line_count_of r.lines ≡ c + 1
  pub first : List ℕ
  pub others : List (List ℕ)
  pub lines_are : r.lines ≡ first ∷ others

pub record IsThere (c m : ℕ) : Type 0 where
  pub some : 1 ≤ m
  pub most : m ≤ c

-- what is known of a fault of a text with this many lines
abbrev pub Told : ℕ → CertFault → Type 0
Told c fault.OutOfMemory = ⊥
Told c fault.Header = IsThere c 1
Told c (fault.Expected n) = IsThere c n
Told c (fault.Number n) = IsThere c n
Told c fault.Truncated = Unit {0}
Told c (fault.Trailing n) = IsThere c n
Told c (fault.Order n) = IsThere c n
Told c (fault.Classes n) = IsThere c n
Told c fault.TooLong = ⊥

told_on : (c m : ℕ) (e : CertFault) → IsThere c m → IsOn m e → Told c e
told_on c m fault.OutOfMemory h on = on
told_on c m fault.Header h on = subst (IsThere c) (sym on) h
told_on c m (fault.Expected n) h on = subst (IsThere c) (sym on) h
told_on c m (fault.Number n) h on = subst (IsThere c) (sym on) h
told_on c m fault.Truncated h on = tt
told_on c m (fault.Trailing n) h on = absurd on
told_on c m (fault.Order n) h on = subst (IsThere c) (sym on) h
told_on c m (fault.Classes n) h on = subst (IsThere c) (sym on) h
told_on c m fault.TooLong h on = on

more_lines : (l : List ℕ) (ls : List (List ℕ)) (m : List ℕ) (ms : List (List ℕ)) → ls ≡ m ∷ ms → line_count_of (l ∷ ls) ≡ 1 + line_count_of ls
more_lines l ls m ms is = rw is refl

counts_long : (r q : Remaining) (l : List ℕ) → Parts r.number r.lines l q → line_count_of r.lines ≡ 1 + line_count_of q.lines
counts_long r q l parts = ap line_count_of parts.lines_are ∙ more_lines l q.lines parts.first parts.others parts.rest_is

counts_next : (c : ℕ) (r q : Remaining) (l : List ℕ) → Counts c r → line_at r ≡ Ok (l, q) → Counts c q
counts_next c r q l h is =
    let parts = parts_of r q l is in
    let all = h.all in let some = h.some in
    record { some = omega (arith, parts.number); all = omega (arith, parts.number, counts_long r q l parts); first = parts.first; others = parts.others; lines_are = parts.rest_is }

counts_there : (c : ℕ) (r q : Remaining) (l : List ℕ) → Counts c r → line_at r ≡ Ok (l, q) → IsThere c r.number
counts_there c r q l h is = let all = h.all in record { some = h.some; most = omega (arith, counts_long r q l (parts_of r q l is)) }

some_line : (l : List ℕ) (ls : List (List ℕ)) → is_nothing (l ∷ ls) ≡ false → 1 ≤ line_count_of (l ∷ ls)
some_line [] [] is = absurd cc
some_line (b ∷ bs) [] is = omega arith
some_line l (m ∷ ms) is = omega arith

counts_bytes : (c : ℕ) (r : Remaining) → Counts c r → is_nothing r.lines ≡ false → IsThere c r.number
counts_bytes c r h is =
    let all = h.all in
    let one : 1 ≤ line_count_of r.lines = subst (λ (ls : List (List ℕ)). 1 ≤ line_count_of ls) (sym h.lines_are) (some_line h.first h.others (ap is_nothing (sym h.lines_are) ∙ is)) in
    record { some = h.some; most = omega arith }

pub count_frame : ℕ → EndFrame
count_frame c = record {
  frame = record {
    Past = Counts c;
    Together = λ r q. ⊥;
    Late = Told c;
    past_next = counts_next c;
    past_fault = λ r q l e past is on. told_on c r.number e (counts_there c r q l past is) on;
    past_end = λ r e past is. subst (Told c) (end_is r e is) tt;
    step = λ r q h. absurd h;
  };
  past_bytes = counts_bytes c;
}

-- what a fault tells of the lines
pub told_there : (ls : List (List ℕ)) (l : List ℕ) (ks : List (List ℕ)) (e : CertFault) → ls ≡ l ∷ ks → certificate_at (lines_from 1 ls) ≡ Err e → Told (line_count_of ls) e
unfolding count_frame
told_there ls l ks e lines_are is =
    let start : Counts (line_count_of ls) (lines_from 1 ls) = record { some = omega arith; all = omega arith; first = l; others = ks; lines_are = lines_are } in
    ends_fault (count_frame (line_count_of ls)).frame (λ c. Unit {0}) (certificate_at (lines_from 1 ls)) e (certificate_ends (count_frame (line_count_of ls)) (lines_from 1 ls) refl start) is

there_by : (c k m : ℕ) → IsThere c k → Some k ≡ Some m → IsThere c m
there_by c k m h is = let same : k ≡ m = cc in subst (IsThere c) same h

-- a line that a fault names is one of the lines
pub named_there : (c : ℕ) (e : CertFault) (m : ℕ) → Told c e → line_of e ≡ Some m → IsThere c m
named_there c fault.OutOfMemory m told is = absurd told
named_there c fault.Header m told is = there_by c 1 m told is
named_there c (fault.Expected n) m told is = there_by c n m told is
named_there c (fault.Number n) m told is = there_by c n m told is
named_there c fault.Truncated m told is = absurd cc
named_there c (fault.Trailing n) m told is = there_by c n m told is
named_there c (fault.Order n) m told is = there_by c n m told is
named_there c (fault.Classes n) m told is = there_by c n m told is
named_there c fault.TooLong m told is = absurd told

-- a fault that names no line says that there are too few
pub told_within : (c : ℕ) (e : CertFault) → Told c e → e ≢ fault.Truncated → IsWithin c e
told_within c fault.OutOfMemory told other = absurd told
told_within c fault.Header told other = told.most
told_within c (fault.Expected n) told other = told.most
told_within c (fault.Number n) told other = told.most
told_within c fault.Truncated told other = absurd (other refl)
told_within c (fault.Trailing n) told other = told.most
told_within c (fault.Order n) told other = told.most
told_within c (fault.Classes n) told other = told.most
told_within c fault.TooLong told other = absurd told
