-- Reading line by line: lines that remain, the next of them, and steps of reading one after the other.
use Rattle.std.proofs.Common.{◌≡◌, ℕ, List, sym, ap, ◌∙◌, Result, Ok, Err}

pub record Reading : Type 1 where
  pub Fault : Type 0
  pub Rest : Type 0
  pub number : Rest → ℕ
  pub line : Rest → Result (List ℕ × Rest) Fault
  pub bind : {A C : Type 0} → Result A Fault → (A → Result C Fault) → Result C Fault
  pub bind_ok : {A C : Type 0} (x : A) (f : A → Result C Fault) → bind (Ok x) f ≡ f x
  pub bind_err : {A C : Type 0} (e : Fault) (f : A → Result C Fault) → bind (Err e) f ≡ Err e
  pub IsOn : ℕ → Fault → Type 0

-- the same step behind the same result
pub then_same : {A C : Type 0} (K : Reading) (p : Result A K.Fault) (f g : A → Result C K.Fault) → ((x : A) → f x ≡ g x) → K.bind p f ≡ K.bind p g
then_same K (Ok x) f g same = K.bind_ok x f ∙ same x ∙ sym (K.bind_ok x g)
then_same K (Err e) f g same = K.bind_err e f ∙ sym (K.bind_err e g)

pub then_then : {A C D : Type 0} (K : Reading) (p : Result A K.Fault) (f : A → Result C K.Fault) (g : C → Result D K.Fault) → K.bind (K.bind p f) g ≡ K.bind p (λ x. K.bind (f x) g)
then_then K (Ok x) f g = ap (λ z. K.bind z g) (K.bind_ok x f) ∙ sym (K.bind_ok x (λ y. K.bind (f y) g))
then_then K (Err e) f g = ap (λ z. K.bind z g) (K.bind_err e f) ∙ K.bind_err e g ∙ sym (K.bind_err e (λ y. K.bind (f y) g))

-- the value, and the lines behind it
abbrev pub given : {A : Type 0} (K : Reading) → A → K.Rest → Result (A × K.Rest) K.Fault
given K v q = Ok (v, q)

pub then_given : {A : Type 0} (K : Reading) (p : Result (A × K.Rest) K.Fault) → K.bind p (λ x. given K x.0 x.1) ≡ p
then_given K (Ok x) = K.bind_ok x (λ y. given K y.0 y.1)
then_given K (Err e) = K.bind_err e (λ y. given K y.0 y.1)

-- what is read behind a value
given_then : {A D : Type 0} (K : Reading) (p : Result A K.Fault) (q : K.Rest) (k : A → K.Rest → Result D K.Fault) → K.bind (K.bind p (λ y. given K y q)) (λ x. k x.0 x.1) ≡ K.bind p (λ y. k y q)
given_then K p q k = then_then K p (λ y. given K y q) (λ x. k x.0 x.1) ∙ then_same K p (λ y. K.bind (given K y q) (λ x. k x.0 x.1)) (λ y. k y q) (λ y. K.bind_ok (y, q) (λ x. k x.0 x.1))

behind_test : {A C D : Type 0} (K : Reading) (p : Result A K.Fault) (q : K.Rest) (c : A → Result C K.Fault) (k : A → K.Rest → Result D K.Fault) (g : C → K.Rest → Result D K.Fault)
    → ((a : A) (r : K.Rest) → k a r ≡ K.bind (c a) (λ v. g v r)) → K.bind (K.bind p (λ y. given K y q)) (λ x. k x.0 x.1) ≡ K.bind (K.bind (K.bind p c) (λ y. given K y q)) (λ x. g x.0 x.1)
behind_test K p q c k g is =
    given_then K p q k ∙ then_same K p (λ y. k y q) (λ y. K.bind (c y) (λ v. g v q)) (λ y. is y q)
    ∙ sym (given_then K (K.bind p c) q g ∙ then_then K p c (λ v. g v q))

-- ---- one line

-- the next line, and what a function of its number and its bytes makes of it
abbrev pub one : {A : Type 0} (K : Reading) → (ℕ → List ℕ → Result A K.Fault) → K.Rest → Result (A × K.Rest) K.Fault
one K h r = K.bind (K.line r) (λ l. K.bind (h (K.number r) l.0) (λ y. given K y l.1))

-- a test of what was made of the line, and what is read behind it
pub one_tested : {A C D : Type 0} (K : Reading) (h : ℕ → List ℕ → Result A K.Fault) (c : ℕ → A → Result C K.Fault) (k : ℕ → A → K.Rest → Result D K.Fault) (g : C → K.Rest → Result D K.Fault)
    → ((m : ℕ) (a : A) (q : K.Rest) → k m a q ≡ K.bind (c m a) (λ v. g v q)) → (r : K.Rest)
    → K.bind (one K h r) (λ x. k (K.number r) x.0 x.1) ≡ K.bind (one K (λ m l. K.bind (h m l) (c m)) r) (λ x. g x.0 x.1)
one_tested K h c k g is r =
    then_then K (K.line r) (λ l. K.bind (h (K.number r) l.0) (λ y. given K y l.1)) (λ x. k (K.number r) x.0 x.1)
    ∙ then_same K (K.line r) (λ l. K.bind (K.bind (h (K.number r) l.0) (λ y. given K y l.1)) (λ x. k (K.number r) x.0 x.1))
    (λ l. K.bind (K.bind (K.bind (h (K.number r) l.0) (c (K.number r))) (λ y. given K y l.1)) (λ x. g x.0 x.1))
    (λ l. behind_test K (h (K.number r) l.0) l.1 (c (K.number r)) (k (K.number r)) g (is (K.number r)))
    ∙ sym (then_then K (K.line r) (λ l. K.bind (K.bind (h (K.number r) l.0) (c (K.number r))) (λ y. given K y l.1)) (λ x. g x.0 x.1))
