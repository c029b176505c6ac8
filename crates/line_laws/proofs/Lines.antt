-- Readers of one line, and what they test behind it.
use Rattle.std.proofs.Common.{◌≡◌, ℕ, List, sym, ap, ◌∙◌, Result, Ok, Err}
use Rattle.line_laws.proofs.Readings.{Reading, given, then_given, one, one_tested}
use Rattle.line_laws.proofs.Frames.{Frame, Reads, Pairs, reads_then, reads_by, OnLine, on_then, reads_one}

-- a reader of one line
pub record Single (K : Reading) {A : Type 0} (f : K.Rest → Result (A × K.Rest) K.Fault) : Type 0 where
  pub made : ℕ → List ℕ → Result A K.Fault
  pub on : (m : ℕ) (l : List ℕ) → OnLine K m (made m l)
  pub is : (r : K.Rest) → f r ≡ one K made r

line_by : (K : Reading) (n : ℕ) (p : Result (List ℕ × K.Rest) K.Fault) → p ≡ K.bind p (λ l. K.bind (Ok l.0) (λ y. given K y l.1))
line_by K n (Ok l) = sym (K.bind_ok l (λ l. K.bind (Ok l.0) (λ y. given K y l.1)) ∙ K.bind_ok l.0 (λ y. given K y l.1))
line_by K n (Err e) = sym (K.bind_err e (λ l. K.bind (Ok l.0) (λ y. given K y l.1)))

pub single_line : (K : Reading) → Single K K.line
single_line K = record { made = λ m l. Ok l; on = λ m l. tt; is = λ r. line_by K (K.number r) (K.line r) }

-- a test of what a reader of one line has read, and what is read behind it
tested_is : {A C D : Type 0} (K : Reading) (f : K.Rest → Result (A × K.Rest) K.Fault) (s : Single K f) (c : ℕ → A → Result C K.Fault) (k : ℕ → A → K.Rest → Result D K.Fault) (g : C → K.Rest → Result D K.Fault)
    → ((m : ℕ) (a : A) (q : K.Rest) → k m a q ≡ K.bind (c m a) (λ v. g v q)) → (r : K.Rest)
    → K.bind (f r) (λ x. k (K.number r) x.0 x.1) ≡ K.bind (one K (λ m l. K.bind (s.made m l) (c m)) r) (λ x. g x.0 x.1)
tested_is K f s c k g is r = ap (λ z. K.bind z (λ x. k (K.number r) x.0 x.1)) (s.is r) ∙ one_tested K s.made c k g is r

-- a reader of one line with one more test is one too
pub single_tested : {A C : Type 0} (K : Reading) (f : K.Rest → Result (A × K.Rest) K.Fault) (s : Single K f) (c : ℕ → A → Result C K.Fault) → ((m : ℕ) (a : A) → OnLine K m (c m a)) → (k : ℕ → A → K.Rest → Result (C × K.Rest) K.Fault)
    → ((m : ℕ) (a : A) (q : K.Rest) → k m a q ≡ K.bind (c m a) (λ v. given K v q)) → Single K (λ r. K.bind (f r) (λ x. k (K.number r) x.0 x.1))
single_tested K f s c on k is = record {
  made = λ m l. K.bind (s.made m l) (c m);
  on = λ m l. on_then K m (s.made m l) (c m) (s.on m l) (on m);
  is = λ r. tested_is K f s c k (λ v q. given K v q) is r ∙ then_given K (one K (λ m l. K.bind (s.made m l) (c m)) r);
}

-- ---- and what they keep

pub reads_single : {K : Reading} {A : Type 0} (F : Frame K) (f : K.Rest → Result (A × K.Rest) K.Fault) → Single K f → Pairs F f
reads_single {K = K} F f s = reads_by F (λ x. x.0) (λ x. x.1) f (one K s.made) s.is (reads_one F s.made s.on)

pub reads_tested : {K : Reading} {A C D V : Type 0} (F : Frame K) (value : D → V) (rest : D → K.Rest) (f : K.Rest → Result (A × K.Rest) K.Fault) (s : Single K f) (c : ℕ → A → Result C K.Fault)
    → ((m : ℕ) (a : A) → OnLine K m (c m a)) → (k : ℕ → A → K.Rest → Result D K.Fault) (g : C → K.Rest → Result D K.Fault) → ((m : ℕ) (a : A) (q : K.Rest) → k m a q ≡ K.bind (c m a) (λ v. g v q))
    → ((v : C) → Reads F value rest (g v)) → Reads F value rest (λ r. K.bind (f r) (λ x. k (K.number r) x.0 x.1))
reads_tested {K = K} F value rest f s c on k g is more =
    reads_by F value rest (λ r. K.bind (f r) (λ x. k (K.number r) x.0 x.1)) (λ r. K.bind (one K (λ m l. K.bind (s.made m l) (c m)) r) (λ x. g x.0 x.1)) (tested_is K f s c k g is)
    (reads_then F (λ x. x.0) (λ x. x.1) value rest (one K (λ m l. K.bind (s.made m l) (c m))) g (reads_one F (λ m l. K.bind (s.made m l) (c m)) (λ m l. on_then K m (s.made m l) (c m) (s.on m l) (on m))) more)
