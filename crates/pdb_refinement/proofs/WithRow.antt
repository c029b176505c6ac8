-- Rows of which one is replaced or appended.
use Rattle.std.proofs.Common.{◌≡◌, ℕ, zero, suc, Bool, true, false, List, [], ◌∷◌, ◌++◌, length, take, get_or, set, replicate, refl, sym, ap, ◌∙◌, arith, cond, eqb, eq-eqb, ne_eqb, eqb-true}
use Rattle.std.specs.Prelude.{slice_index, All, Contains}
use Rattle.std.proofs.lemmas.List.{length-map, get_or-map}
use Rattle.std.proofs.lemmas.Bool.{eqb-false}
use Rattle.std.proofs.lemmas.List.Elements.{All-nil, All-cons, All-head, All-tail}
use Rattle.abstraction_domain.specs.Rows.{Row}
use Rattle.abstraction_domain.specs.Domains.{variables, no_row}
use Rattle.pdb_refinement.specs.Classes.{class_in, IsFirstOf, with_row}

-- no row is of the variable
abbrev IsNone : ℕ → Row → Type 0
IsNone v r = r.variable ≡ v → ⊥

pub set_first : (rows : List Row) (r : Row) (k : ℕ) → IsFirstOf rows r.variable k → set rows k r ≡ with_row r rows
set_first [] r k is = absurd (omega (arith, is.within))
set_first (q ∷ qs) r zero is = rw (eq-eqb q.variable r.variable is.here) refl
set_first (q ∷ qs) r (suc k) is =
    let other : q.variable ≡ r.variable → ⊥ = All-head (IsNone r.variable) q (take k qs) is.before in
    rw (ne_eqb q.variable r.variable other)
    (ap (λ (xs : List Row). q ∷ xs) (set_first qs r k (record {
      within = omega (arith, is.within);
      here = is.here;
      before = All-tail (IsNone r.variable) q (take k qs) is.before;
    })))

pub push_last : (rows : List Row) (r : Row) → All (IsNone r.variable) rows → rows ++ r ∷ [] ≡ with_row r rows
push_last [] r none = refl
push_last (q ∷ qs) r none =
    rw (ne_eqb q.variable r.variable (All-head (IsNone r.variable) q qs none)) (ap (λ (xs : List Row). q ∷ xs) (push_last qs r (All-tail (IsNone r.variable) q qs none)))

pub all_with : (P : Row → Type 0) (r : Row) (rows : List Row) → P r → All P rows → All P (with_row r rows)
all_with P r [] here all = All-cons P r [] here (All-nil P)
all_with P r (q ∷ qs) here all = go (eqb q.variable r.variable) (all_with P r qs here (All-tail P q qs all))
  where
    go : (b : Bool) → All P (with_row r qs) → All P (cond b (r ∷ qs) (q ∷ with_row r qs))
    go true rest = All-cons P r qs here (All-tail P q qs all)
    go false rest = All-cons P q (with_row r qs) (All-head P q qs all) rest

-- the class of a value of the variable is the row's, and other variables keep theirs
pub class_with : (r : Row) (rows : List Row) (v x : ℕ) → class_in (with_row r rows) v x ≡ cond (eqb r.variable v) (slice_index r.classes x) (class_in rows v x)
class_with r [] v x = refl
class_with r (q ∷ qs) v x = go (eqb q.variable r.variable) (eqb q.variable v) (eqb r.variable v) refl refl refl (class_with r qs v x)
  where
    go : (a b c : Bool) → eqb q.variable r.variable ≡ a → eqb q.variable v ≡ b → eqb r.variable v ≡ c
        → class_in (with_row r qs) v x ≡ cond (eqb r.variable v) (slice_index r.classes x) (class_in qs v x)
        → class_in (cond a (r ∷ qs) (q ∷ with_row r qs)) v x ≡ cond (eqb r.variable v) (slice_index r.classes x) (cond (eqb q.variable v) (slice_index q.classes x) (class_in qs v x))
    go true true true e f h rest = rw h refl
    go true true false e f h rest =
        absurd (eqb-false r.variable v h (sym (eqb-true q.variable r.variable e) ∙ eqb-true q.variable v f))
    go true false true e f h rest = rw h refl
    go true false false e f h rest = rw (h, f) refl
    go false true true e f h rest =
        absurd (eqb-false q.variable r.variable e (eqb-true q.variable v f ∙ sym (eqb-true r.variable v h)))
    go false true false e f h rest = rw (f, h) refl
    go false false true e f h rest = rw (f, rest, h) refl
    go false false false e f h rest = rw (f, rest, h) refl

pub class_first : (rows : List Row) (v k x : ℕ) → IsFirstOf rows v k → class_in rows v x ≡ slice_index (get_or rows k no_row).classes x
class_first [] v k x is = absurd (omega (arith, is.within))
class_first (q ∷ qs) v zero x is = rw (eq-eqb q.variable v is.here) refl
class_first (q ∷ qs) v (suc k) x is =
    let other : q.variable ≡ v → ⊥ = All-head (IsNone v) q (take k qs) is.before in
    rw (ne_eqb q.variable v other) (class_first qs v k x (record {
      within = omega (arith, is.within);
      here = is.here;
      before = All-tail (IsNone v) q (take k qs) is.before;
    }))

pub class_none : (rows : List Row) (v x : ℕ) → All (IsNone v) rows → class_in rows v x ≡ 0
class_none [] v x none = refl
class_none (q ∷ qs) v x none = rw (ne_eqb q.variable v (All-head (IsNone v) q qs none)) (class_none qs v x (All-tail (IsNone v) q qs none))

pub zeros_read : (n x : ℕ) → slice_index (replicate n 0) x ≡ 0
zeros_read zero x = refl
zeros_read (suc n) zero = refl
zeros_read (suc n) (suc x) = zeros_read n x

-- the variable of a row is among those of the rows
pub first_among : (rows : List Row) (v k : ℕ) → IsFirstOf rows v k → Contains (variables rows) v
first_among rows v k is =
    let long : length (variables rows) ≡ length rows = length-map rows (λ (r : Row). r.variable) in
    (k, omega (arith, long, is.within), get_or-map (λ (r : Row). r.variable) rows k no_row v is.within ∙ is.here)
