-- What readers keep, of one reading or of two readings side by side.
use Rattle.std.proofs.Common.{◌⊎◌, inl, inr, ◌≡◌, ℕ, List, refl, sym, ap, subst, ◌∙◌, Result, Ok, Err}
use Rattle.line_laws.proofs.Readings.{Reading, given, one}

-- Two readings side by side know of the lines that remain to them that they are `Together`, or of those that remain to the first
-- that they are `Past`. From there on the second is let go, and each fault of the first is `Late`.
pub record Frame (K : Reading) : Type 1 where
  pub Past : K.Rest → Type 0
  pub Together : K.Rest → K.Rest → Type 0
  pub Late : K.Fault → Type 0
  pub past_next : (r q : K.Rest) (l : List ℕ) → Past r → K.line r ≡ Ok (l, q) → Past q
  pub past_fault : (r q : K.Rest) (l : List ℕ) (e : K.Fault) → Past r → K.line r ≡ Ok (l, q) → K.IsOn (K.number r) e → Late e
  pub past_end : (r : K.Rest) (e : K.Fault) → Past r → K.line r ≡ Err e → Late e
  pub step : (r q : K.Rest) → Together r q → Past r ⊎ ((l : List ℕ) × (s : K.Rest) × (t : K.Rest) × (K.number r ≡ K.number q) × (K.line r ≡ Ok (l, s)) × (K.line q ≡ Ok (l, t)) × Together s t)

-- ---- one result, and two

-- what is known of a result of the first reading where it is past
abbrev pub Ends : {K : Reading} {A : Type 0} (F : Frame K) → (A → Type 0) → Result A K.Fault → Type 0
Ends F Q (Ok x) = Q x
Ends F Q (Err e) = F.Late e

-- what is known of the results of both
abbrev pub Like : {K : Reading} {A : Type 0} (F : Frame K) → (A → Type 0) → (A → A → Type 0) → Result A K.Fault → Result A K.Fault → Type 0
Like F Q R (Ok x) other = Q x ⊎ ((y : _) × (other ≡ Ok y) × R x y)
Like F Q R (Err e) other = F.Late e ⊎ (other ≡ Err e)

pub ends_then : {K : Reading} {A C : Type 0} (F : Frame K) (Q : A → Type 0) (S : C → Type 0) (p : Result A K.Fault) (f : A → Result C K.Fault) → Ends F Q p → ((x : A) → Q x → Ends F S (f x)) → Ends F S (K.bind p f)
ends_then {K = K} F Q S (Ok x) f h k = subst (λ z. Ends F S z) (sym (K.bind_ok x f)) (k x h)
ends_then {K = K} F Q S (Err e) f h k = subst (λ z. Ends F S z) (sym (K.bind_err e f)) h

pub ends_like : {K : Reading} {A : Type 0} (F : Frame K) (Q : A → Type 0) (R : A → A → Type 0) (p q : Result A K.Fault) → Ends F Q p → Like F Q R p q
ends_like F Q R (Ok x) q h = inl h
ends_like F Q R (Err e) q h = inl h

pub like_then : {K : Reading} {A C : Type 0} (F : Frame K) (Q : A → Type 0) (R : A → A → Type 0) (S : C → Type 0) (U : C → C → Type 0) (p q : Result A K.Fault) (f g : A → Result C K.Fault) → Like F Q R p q
    → ((x : A) → Q x → Ends F S (f x)) → ((x y : A) → R x y → Like F S U (f x) (g y)) → Like F S U (K.bind p f) (K.bind q g)
like_then {K = K} F Q R S U (Ok x) q f g (inl h) k m = subst (λ z. Like F S U z (K.bind q g)) (sym (K.bind_ok x f)) (ends_like F S U (f x) (K.bind q g) (k x h))
like_then {K = K} F Q R S U (Ok x) q f g (inr s) k m =
    subst (λ z. Like F S U z (K.bind q g)) (sym (K.bind_ok x f))
    (subst (λ z. Like F S U (f x) (K.bind z g)) (sym s.1) (subst (λ z. Like F S U (f x) z) (sym (K.bind_ok s.0 g)) (m x s.0 s.2)))
like_then {K = K} F Q R S U (Err e) q f g (inl h) k m = subst (λ z. Like F S U z (K.bind q g)) (sym (K.bind_err e f)) (inl h)
like_then {K = K} F Q R S U (Err e) q f g (inr is) k m =
    subst (λ z. Like F S U z (K.bind q g)) (sym (K.bind_err e f)) (subst (λ z. Like F S U (Err e) (K.bind z g)) (sym is) (inr (K.bind_err e g)))

like_same : {K : Reading} {A : Type 0} (F : Frame K) (p : Result A K.Fault) → Like F (λ x. ⊥) (λ x y. x ≡ y) p p
like_same F (Ok x) = inr (x, refl, refl)
like_same F (Err e) = inr refl

-- a fault of the first
pub ends_fault : {K : Reading} {A : Type 0} (F : Frame K) (Q : A → Type 0) (p : Result A K.Fault) (e : K.Fault) → Ends F Q p → p ≡ Err e → F.Late e
ends_fault F Q p e h is = subst (λ z. Ends F Q z) is h

pub like_fault : {K : Reading} {A : Type 0} (F : Frame K) (Q : A → Type 0) (R : A → A → Type 0) (p q : Result A K.Fault) (e : K.Fault) → Like F Q R p q → p ≡ Err e → F.Late e ⊎ (q ≡ Err e)
like_fault F Q R p q e h is = subst (λ z. Like F Q R z q) is h

-- ---- readers

-- A reader keeps the frame: its value and the lines that remain are parts of its result.
pub record Reads {K : Reading} (F : Frame K) {A V : Type 0} (value : A → V) (rest : A → K.Rest) (f : K.Rest → Result A K.Fault) : Type 0 where
  pub ends : (r : K.Rest) → F.Past r → Ends F (λ x. F.Past (rest x)) (f r)
  pub like : (r q : K.Rest) → F.Together r q → Like F (λ x. F.Past (rest x)) (λ x y. (value x ≡ value y) × F.Together (rest x) (rest y)) (f r) (f q)

-- a reader that gives a value and the lines behind it
abbrev pub Pairs : {K : Reading} {V : Type 0} (F : Frame K) → (K.Rest → Result (V × K.Rest) K.Fault) → Type 0
Pairs F f = Reads F (λ x. x.0) (λ x. x.1) f

-- a reader that gives the lines behind what it reads
abbrev pub Rests : {K : Reading} (F : Frame K) → (K.Rest → Result K.Rest K.Fault) → Type 0
Rests F f = Reads F {V = Unit {0}} (λ q. tt) (λ q. q) f

-- a reader that reads to the end
pub record Finishes {K : Reading} (F : Frame K) {A : Type 0} (f : K.Rest → Result A K.Fault) : Type 0 where
  pub ends : (r : K.Rest) → F.Past r → Ends F (λ x. Unit {0}) (f r)
  pub like : (r q : K.Rest) → F.Together r q → Like F (λ x. Unit {0}) (λ x y. x ≡ y) (f r) (f q)

pub pure_pair : {K : Reading} {V : Type 0} (F : Frame K) (v : V) → Pairs F (λ r. given K v r)
pure_pair F v = record { ends = λ r p. p; like = λ r q t. inr ((v, q), refl, (refl, t)) }

pub pure_rest : {K : Reading} (F : Frame K) → Rests F (λ r. Ok r)
pure_rest F = record { ends = λ r p. p; like = λ r q t. inr (q, refl, (refl, t)) }

pub reads_then : {K : Reading} {A V C W : Type 0} (F : Frame K) (value : A → V) (rest : A → K.Rest) (value2 : C → W) (rest2 : C → K.Rest) (f : K.Rest → Result A K.Fault) (g : V → K.Rest → Result C K.Fault)
    → Reads F value rest f → ((v : V) → Reads F value2 rest2 (g v)) → Reads F value2 rest2 (λ r. K.bind (f r) (λ x. g (value x) (rest x)))
reads_then F value rest value2 rest2 f g a b = record {
  ends = λ r p. ends_then F (λ x. F.Past (rest x)) (λ x. F.Past (rest2 x)) (f r) (λ x. g (value x) (rest x)) (a.ends r p) (λ x h. (b (value x)).ends (rest x) h);
  like = λ r q t. like_then F (λ x. F.Past (rest x)) (λ x y. (value x ≡ value y) × F.Together (rest x) (rest y))
      (λ x. F.Past (rest2 x)) (λ x y. (value2 x ≡ value2 y) × F.Together (rest2 x) (rest2 y)) (f r) (f q) (λ x. g (value x) (rest x)) (λ x. g (value x) (rest x)) (a.like r q t)
      (λ x h. (b (value x)).ends (rest x) h)
      (λ x y s. subst (λ v. Like F (λ x. F.Past (rest2 x)) (λ x y. (value2 x ≡ value2 y) × F.Together (rest2 x) (rest2 y)) (g (value x) (rest x)) (g v (rest y))) s.0 ((b (value x)).like (rest x) (rest y) s.1));
}

-- a value, and what is read behind it
pub then_pair : {K : Reading} {V W : Type 0} {f : K.Rest → Result (V × K.Rest) K.Fault} {g : V → K.Rest → Result (W × K.Rest) K.Fault} (F : Frame K)
    → Pairs F f → ((v : V) → Pairs F (g v)) → Pairs F (λ r. K.bind (f r) (λ x. g x.0 x.1))
then_pair {f = f} {g = g} F a b = reads_then F (λ x. x.0) (λ x. x.1) (λ x. x.0) (λ x. x.1) f g a b

-- what is read behind lines without a value
pub after_rest : {K : Reading} {W : Type 0} {f : K.Rest → Result K.Rest K.Fault} {g : K.Rest → Result (W × K.Rest) K.Fault} (F : Frame K)
    → Rests F f → Pairs F g → Pairs F (λ r. K.bind (f r) (λ q. g q))
after_rest {f = f} {g = g} F a b = reads_then F (λ q. tt) (λ q. q) (λ x. x.0) (λ x. x.1) f (λ u. g) a (λ u. b)

pub finishes_then : {K : Reading} {A V C : Type 0} (F : Frame K) (value : A → V) (rest : A → K.Rest) (f : K.Rest → Result A K.Fault) (g : V → K.Rest → Result C K.Fault)
    → Reads F value rest f → ((v : V) → Finishes F (g v)) → Finishes F (λ r. K.bind (f r) (λ x. g (value x) (rest x)))
finishes_then F value rest f g a b = record {
  ends = λ r p. ends_then F (λ x. F.Past (rest x)) (λ x. Unit {0}) (f r) (λ x. g (value x) (rest x)) (a.ends r p) (λ x h. (b (value x)).ends (rest x) h);
  like = λ r q t. like_then F (λ x. F.Past (rest x)) (λ x y. (value x ≡ value y) × F.Together (rest x) (rest y)) (λ x. Unit {0}) (λ x y. x ≡ y) (f r) (f q) (λ x. g (value x) (rest x)) (λ x. g (value x) (rest x)) (a.like r q t)
      (λ x h. (b (value x)).ends (rest x) h)
      (λ x y s. subst (λ v. Like F (λ x. Unit {0}) (λ x y. x ≡ y) (g (value x) (rest x)) (g v (rest y))) s.0 ((b (value x)).like (rest x) (rest y) s.1));
}

pub finishes_map : {K : Reading} {A C : Type 0} (F : Frame K) (f : K.Rest → Result A K.Fault) (k : A → C) → Finishes F f → Finishes F (λ r. K.bind (f r) (λ x. Ok (k x)))
finishes_map F f k a = record {
  ends = λ r p. ends_then F (λ x. Unit {0}) (λ x. Unit {0}) (f r) (λ x. Ok (k x)) (a.ends r p) (λ x h. tt);
  like = λ r q t. like_then F (λ x. Unit {0}) (λ x y. x ≡ y) (λ x. Unit {0}) (λ x y. x ≡ y) (f r) (f q) (λ x. Ok (k x)) (λ x. Ok (k x)) (a.like r q t) (λ x h. tt) (λ x y s. inr (k y, refl, ap k s));
}

pub reads_by : {K : Reading} {A V : Type 0} (F : Frame K) (value : A → V) (rest : A → K.Rest) (f g : K.Rest → Result A K.Fault) → ((r : K.Rest) → f r ≡ g r) → Reads F value rest g → Reads F value rest f
reads_by F value rest f g is a = record { ends = λ r p. rw (is r) (a.ends r p); like = λ r q t. rw (is r, is q) (a.like r q t) }

-- ---- one line

-- all faults are those of a line with this number
abbrev pub OnLine : {A : Type 0} (K : Reading) → ℕ → Result A K.Fault → Type 0
OnLine K m (Ok x) = Unit {0}
OnLine K m (Err e) = K.IsOn m e

pub on_then : {A C : Type 0} (K : Reading) (m : ℕ) (p : Result A K.Fault) (f : A → Result C K.Fault) → OnLine K m p → ((x : A) → OnLine K m (f x)) → OnLine K m (K.bind p f)
on_then K m (Ok x) f h k = subst (λ z. OnLine K m z) (sym (K.bind_ok x f)) (k x)
on_then K m (Err e) f h k = subst (λ z. OnLine K m z) (sym (K.bind_err e f)) h

checked_past : {K : Reading} {A : Type 0} (F : Frame K) (m : ℕ) (p : Result A K.Fault) → OnLine K m p → ((e : K.Fault) → K.IsOn m e → F.Late e) → Ends F (λ x. Unit {0}) p
checked_past F m (Ok x) on late = tt
checked_past F m (Err e) on late = late e on

line_past : {K : Reading} (F : Frame K) (r : K.Rest) → F.Past r → (p : Result (List ℕ × K.Rest) K.Fault) → K.line r ≡ p → Ends F (λ l. K.line r ≡ Ok l) p
line_past F r past (Ok l) is = is
line_past F r past (Err e) is = F.past_end r e past is

pub one_past : {K : Reading} {A : Type 0} (F : Frame K) (h : ℕ → List ℕ → Result A K.Fault) (r : K.Rest) → ((l : List ℕ) → OnLine K (K.number r) (h (K.number r) l)) → F.Past r → Ends F (λ (x : A × K.Rest). F.Past x.1) (one K h r)
one_past {K = K} F h r on past =
    ends_then F (λ l. K.line r ≡ Ok l) (λ x. F.Past x.1) (K.line r) (λ l. K.bind (h (K.number r) l.0) (λ y. given K y l.1)) (line_past F r past (K.line r) refl) (λ l is.
    ends_then F (λ x. Unit {0}) (λ x. F.Past x.1) (h (K.number r) l.0) (λ y. given K y l.1)
    (checked_past F (K.number r) (h (K.number r) l.0) (on l.0) (λ e o. F.past_fault r l.1 l.0 e past is o)) (λ y u. F.past_next r l.1 l.0 past is))

same_line : {K : Reading} {A : Type 0} (F : Frame K) (p : Result A K.Fault) (s t : K.Rest) → F.Together s t
    → Like F (λ (x : A × K.Rest). F.Past x.1) (λ x y. (x.0 ≡ y.0) × F.Together x.1 y.1) (K.bind p (λ y. given K y s)) (K.bind p (λ y. given K y t))
same_line {K = K} F p s t h =
    like_then F (λ x. ⊥) (λ x y. x ≡ y) (λ x. F.Past x.1) (λ x y. (x.0 ≡ y.0) × F.Together x.1 y.1) p p (λ y. given K y s) (λ y. given K y t) (like_same F p) (λ x no_x. absurd no_x) (λ x y e. inr ((y, t), refl, (e, h)))

lines_like : {K : Reading} (F : Frame K) (r q : K.Rest) (l : List ℕ) (s t : K.Rest) → K.line r ≡ Ok (l, s) → K.line q ≡ Ok (l, t) → F.Together s t
    → Like F (λ x. ⊥) (λ x y. (x.0 ≡ y.0) × F.Together x.1 y.1) (K.line r) (K.line q)
lines_like F r q l s t is other h = rw (is, other) (inr ((l, t), refl, (refl, h)))

pub one_like : {K : Reading} {A : Type 0} (F : Frame K) (h : ℕ → List ℕ → Result A K.Fault) (r q : K.Rest) → ((l : List ℕ) → OnLine K (K.number r) (h (K.number r) l)) → F.Together r q
    → Like F (λ (x : A × K.Rest). F.Past x.1) (λ x y. (x.0 ≡ y.0) × F.Together x.1 y.1) (one K h r) (one K h q)
one_like {K = K} {A = A} F h r q on together = by (F.step r q together)
  where
    by : F.Past r ⊎ ((l : List ℕ) × (s : K.Rest) × (t : K.Rest) × (K.number r ≡ K.number q) × (K.line r ≡ Ok (l, s)) × (K.line q ≡ Ok (l, t)) × F.Together s t)
        → Like F (λ (x : A × K.Rest). F.Past x.1) (λ x y. (x.0 ≡ y.0) × F.Together x.1 y.1) (one K h r) (one K h q)
    by (inl past) = ends_like F (λ (x : _ × K.Rest). F.Past x.1) (λ x y. (x.0 ≡ y.0) × F.Together x.1 y.1) (one K h r) (one K h q) (one_past F h r on past)
    by (inr g) =
        like_then F (λ x. ⊥) (λ x y. (x.0 ≡ y.0) × F.Together x.1 y.1) (λ x. F.Past x.1) (λ x y. (x.0 ≡ y.0) × F.Together x.1 y.1) (K.line r) (K.line q)
        (λ l. K.bind (h (K.number r) l.0) (λ y. given K y l.1)) (λ l. K.bind (h (K.number q) l.0) (λ y. given K y l.1)) (lines_like F r q g.0 g.1 g.2 g.4 g.5 g.6) (λ x no_x. absurd no_x)
        (λ x y e. subst (λ z. Like F (λ x. F.Past x.1) (λ x y. (x.0 ≡ y.0) × F.Together x.1 y.1) (K.bind (h (K.number r) x.0) (λ y. given K y x.1)) (K.bind z (λ v. given K v y.1)))
        (ap (λ n. h n x.0) g.3 ∙ ap (h (K.number q)) e.0) (same_line F (h (K.number r) x.0) x.1 y.1 e.1))

pub reads_one : {K : Reading} {A : Type 0} (F : Frame K) (h : ℕ → List ℕ → Result A K.Fault) → ((m : ℕ) (l : List ℕ) → OnLine K m (h m l)) → Pairs F (one K h)
reads_one {K = K} F h on = record { ends = λ r past. one_past F h r (on (K.number r)) past; like = λ r q t. one_like F h r q (on (K.number r)) t }
