-- What free digits reach from a source and a target.
use Rattle.std.proofs.Common.{◌≡◌, ℕ, zero, ◌+◌, ◌*◌, ◌<◌, ◌≤◌, Bool, true, false, List, [], ◌∷◌, ◌++◌, length, map, suc, refl, sym, ap, arith, subst, ⊎_elim}
use Rattle.std.specs.Prelude.{All}
use Rattle.std.proofs.lemmas.List.Elements.{All-head, All-tail, All-map}
use Rattle.std.proofs.lemmas.Nat.{mul-le}
use Rattle.std.proofs.lemmas.Bool.{cases_lt}
use Rattle.checker_tables.specs.declared.moves.FreeDigit.{FreeDigit}
use Rattle.checker_tables.specs.declared.moves.Moves.{Moves}
use Rattle.checker_tables.specs.Moves.{Reaches, StaysBelow, IsLeast, IsGathered, without_target}

-- along an equation of the place from which, and to which, something is reached
pub moved : (ds : List FreeDigit) (s t u v a b c e : ℕ) → s ≡ u → t ≡ v → a ≡ c → b ≡ e → Reaches ds s t a b → Reaches ds u v c e
moved ds s t u v a b c e p q r w h =
    subst (λ (x : ℕ). Reaches ds u v c x) w
    (subst (λ (x : ℕ). Reaches ds u v x b) r
    (subst (λ (x : ℕ). Reaches ds u x a b) q (subst (λ (x : ℕ). Reaches ds x t a b) p h)))

-- nothing before the start is reached
pub no_less : (ds : List FreeDigit) (s t a b : ℕ) → Reaches ds s t a b → (s ≤ a) × (t ≤ b)
no_less [] s t a b h = let p = h.0 in let q = h.1 in (omega arith, omega arith)
no_less (d ∷ ds) s t a b h = let rest = no_less ds (s + h.0 * d.source) (t + h.0 * d.target) a b h.2 in (omega (arith, rest.0), omega (arith, rest.1))

-- where all digits are 0, the start is reached
pub start_reached : (ds : List FreeDigit) (s t : ℕ) → All (λ d. 0 < d.range) ds → Reaches ds s t s t
start_reached [] s t all = (refl, refl)
start_reached (d ∷ ds) s t all = (
  0,
  All-head (λ (x : FreeDigit). 0 < x.range) d ds all,
  moved ds s t (s + 0 * d.source) (t + 0 * d.target) s t s t (omega arith) (omega arith) refl refl
      (start_reached ds s t (All-tail (λ (x : FreeDigit). 0 < x.range) d ds all)),
)

-- all that is reached moves with the start
pub shifted : (ds : List FreeDigit) (s t u v a b : ℕ) → Reaches ds (s + u) (t + v) a b → (i : ℕ) × (j : ℕ) × Reaches ds s t i j × (a ≡ i + u) × (b ≡ j + v)
shifted [] s t u v a b h = (s, t, (refl, refl), h.0, h.1)
shifted (d ∷ ds) s t u v a b h =
    let rest = shifted ds (s + h.0 * d.source) (t + h.0 * d.target) u v a b
    (moved ds (s + u + h.0 * d.source) (t + v + h.0 * d.target) (s + h.0 * d.source + u) (t + h.0 * d.target + v) a b a b (omega arith) (omega arith) refl refl h.2) in
    (rest.0, rest.1, (h.0, h.1, rest.2), rest.3, rest.4)

pub shifts : (ds : List FreeDigit) (s t u v i j : ℕ) → Reaches ds s t i j → Reaches ds (s + u) (t + v) (i + u) (j + v)
shifts [] s t u v i j h = (ap (λ (x : ℕ). x + u) h.0, ap (λ (x : ℕ). x + v) h.1)
shifts (d ∷ ds) s t u v i j h = (
  h.0,
  h.1,
  moved ds (s + h.0 * d.source + u) (t + h.0 * d.target + v) (s + u + h.0 * d.source) (t + v + h.0 * d.target) (i + u) (j + v) (i + u) (j + v) (omega arith) (omega arith) refl refl
      (shifts ds (s + h.0 * d.source) (t + h.0 * d.target) u v i j h.2),
)

-- one more digit behind the others
module _ (d : FreeDigit) where
  pub by_last : (ds : List FreeDigit) (s t a b : ℕ) → Reaches (ds ++ d ∷ []) s t a b
      → (x : ℕ) × (i : ℕ) × (j : ℕ) × (x < d.range) × Reaches ds s t i j × (a ≡ i + x * d.source) × (b ≡ j + x * d.target)
  by_last [] s t a b h = (h.0, s, t, h.1, (refl, refl), h.2.0, h.2.1)
  by_last (e ∷ es) s t a b h =
      let rest = by_last es (s + h.0 * e.source) (t + h.0 * e.target) a b h.2 in
      (rest.0, rest.1, rest.2, rest.3, (h.0, h.1, rest.4), rest.5, rest.6)

  pub with_last : (ds : List FreeDigit) (s t x i j : ℕ) → x < d.range → Reaches ds s t i j → Reaches (ds ++ d ∷ []) s t (i + x * d.source) (j + x * d.target)
  with_last [] s t x i j l h = (x, l, (ap (λ (y : ℕ). y + x * d.source) h.0, ap (λ (y : ℕ). y + x * d.target) h.1))
  with_last (e ∷ es) s t x i j l h = (h.0, h.1, with_last es (s + h.0 * e.source) (t + h.0 * e.target) x i j l h.2)

-- ---- the least source that fails

-- with the first of the values of the first digit
abbrev pub first_values : FreeDigit → ℕ → FreeDigit
first_values d n = record { range = n; source = d.source; target = d.target }

module _ (test : ℕ → ℕ → Bool) where
  pub none_tried : (d : FreeDigit) (ds : List FreeDigit) (s t limit : ℕ) → IsLeast test (first_values d 0 ∷ ds) s t limit limit
  none_tried d ds s t limit =
      record { within = omega arith; before = λ a b h l. absurd (let none = h.1 in omega arith); there = λ l. absurd (omega arith) }

  -- the transitions of one more value of the first digit
  pub one_more : (d : FreeDigit) (ds : List FreeDigit) (s t n limit m least : ℕ) → IsLeast test (first_values d n ∷ ds) s t limit m
      → IsLeast test ds (s + n * d.source) (t + n * d.target) m least → IsLeast test (first_values d (n + 1) ∷ ds) s t limit least
  one_more d ds s t n limit m least old here =
      record { within = omega (arith, old.within, here.within); before = before; there = there }
    where
      before : (a b : ℕ) → Reaches (first_values d (n + 1) ∷ ds) s t a b → a < least → test a b ≡ true
      before a b h l =
          ⊎_elim
          (λ (k : h.0 < n). old.before a b (h.0, k, h.2) (omega (arith, here.within, l)))
          (λ (k : n ≤ h.0).
          let is : h.0 ≡ n = let k2 = h.1 in omega arith in
          here.before a b (subst (λ (x : ℕ). Reaches ds (s + x * d.source) (t + x * d.target) a b) is h.2) l)
          (cases_lt h.0 n)

      there : least < limit → (b : ℕ) × Reaches (first_values d (n + 1) ∷ ds) s t least b × (test least b ≡ false)
      there l =
          ⊎_elim
          (λ (k : least < m). let found = here.there k in (found.0, (n, omega arith, found.1), found.2))
          (λ (k : m ≤ least).
          let is : m ≡ least = omega (arith, here.within, k) in
          subst (λ (x : ℕ). (b : ℕ) × Reaches (first_values d (n + 1) ∷ ds) s t x b × (test x b ≡ false)) is
          (let found = old.there (omega (arith, is, l)) in (found.0, (found.1.0, let k2 = found.1.1 in omega arith, found.1.2), found.2)))
          (cases_lt least m)

  -- the values from one on whose sources are no less than the least change nothing
  pub rest_above : (d : FreeDigit) (ds : List FreeDigit) (s t n limit least : ℕ) → n ≤ d.range → least ≤ s + n * d.source
      → IsLeast test (first_values d n ∷ ds) s t limit least → IsLeast test (d ∷ ds) s t limit least
  rest_above d ds s t n limit least few high old =
      record { within = old.within; before = before; there = there }
    where
      before : (a b : ℕ) → Reaches (d ∷ ds) s t a b → a < least → test a b ≡ true
      before a b h l =
          ⊎_elim
          (λ (k : h.0 < n). old.before a b (h.0, k, h.2) l)
          (λ (k : n ≤ h.0).
          let above = (no_less ds (s + h.0 * d.source) (t + h.0 * d.target) a b h.2).0 in
          absurd (omega (arith, mul-le n d.source h.0 d.source k (omega arith), above, high, l)))
          (cases_lt h.0 n)

      there : least < limit → (b : ℕ) × Reaches (d ∷ ds) s t least b × (test least b ≡ false)
      there l = let found = old.there l in (found.0, (found.1.0, let k2 = found.1.1 in omega arith, found.1.2), found.2)

  -- a single transition
  pub fails_here : (s t limit : ℕ) → s < limit → test s t ≡ false → IsLeast test [] s t limit s
  fails_here s t limit l e =
      record { within = omega arith; before = λ a b h k. absurd (let p = h.0 in omega arith); there = λ k. (t, (refl, refl), e) }

  pub passes_here : (s t limit : ℕ) → test s t ≡ true → IsLeast test [] s t limit limit
  passes_here s t limit e =
      record {
        within = omega arith;
        before = λ a b h k. subst (λ (x : ℕ). test x b ≡ true) (sym h.0) (subst (λ (y : ℕ). test s y ≡ true) (sym h.1) e);
        there = λ k. absurd (omega arith);
      }

  -- one digit with one value adds nothing
  pub without_digit : (s t limit least : ℕ) → IsLeast test (record { range = 1; source = 0; target = 0 } ∷ []) s t limit least → IsLeast test [] s t limit least
  without_digit s t limit least found =
      record {
        within = found.within;
        before = λ a b h l. found.before a b (0, omega arith, (let p = h.0 in omega arith, let q = h.1 in omega arith)) l;
        there = λ l. let f = found.there l in let p = f.1.2.0 in let q = f.1.2.1 in (f.0, (omega arith, omega arith), f.2);
      }

-- ---- what stays below

pub first_fits : (d : FreeDigit) (ds : List FreeDigit) (s t m n x : ℕ) → StaysBelow (d ∷ ds) s t m n → x < d.range
    → (s + x * d.source < m) × (t + x * d.target < n)
first_fits d ds s t m n x stays l =
    let b = stays.below (s + x * d.source) (t + x * d.target)
    (x, l, start_reached ds (s + x * d.source) (t + x * d.target) (All-tail (λ (y : FreeDigit). 0 < y.range) d ds stays.positive)) in b

pub rest_stays : (d : FreeDigit) (ds : List FreeDigit) (s t m n x : ℕ) → StaysBelow (d ∷ ds) s t m n → x < d.range
    → StaysBelow ds (s + x * d.source) (t + x * d.target) m n
rest_stays d ds s t m n x stays l =
    record { positive = All-tail (λ (y : FreeDigit). 0 < y.range) d ds stays.positive; below = λ a b h. stays.below a b (x, l, h) }

-- one digit with one value reaches the start alone
pub once_stays : (s t m n : ℕ) → StaysBelow [] s t m n → StaysBelow (record { range = 1; source = 0; target = 0 } ∷ []) s t m n
once_stays s t m n stays =
    record {
      positive = λ i d l. go i d l;
      below = λ a b h. let k = h.1 in let p = h.2.0 in let q = h.2.1 in stays.below a b (omega arith, omega arith);
    }
  where
    go : All (λ (d : FreeDigit). 0 < d.range) (record { range = 1; source = 0; target = 0 } ∷ [])
    go zero d l = omega arith
    go (suc i) d l = absurd (omega arith)

-- a list with nothing in it
pub is_nothing : (ds : List FreeDigit) → length ds ≡ 0 → ds ≡ []
is_nothing [] e = refl
is_nothing (d ∷ ds) e = absurd (omega arith)

-- ---- the same digits without weight in the target

pub gathered_to : (ds : List FreeDigit) (s t a b : ℕ) → Reaches (map without_target ds) s 0 a b → (b ≡ 0) × (c : ℕ) × Reaches ds s t a c
gathered_to [] s t a b h = (h.1, t, (h.0, refl))
gathered_to (d ∷ ds) s t a b h =
    let rest = gathered_to ds (s + h.0 * d.source) (t + h.0 * d.target) a b
    (moved (map without_target ds) (s + h.0 * d.source) (0 + h.0 * 0) (s + h.0 * d.source) 0 a b a b refl (omega arith) refl refl h.2) in
    (rest.0, rest.1, (h.0, h.1, rest.2))

pub gathered_from : (ds : List FreeDigit) (s t a c : ℕ) → Reaches ds s t a c → Reaches (map without_target ds) s 0 a 0
gathered_from [] s t a c h = (h.0, refl)
gathered_from (d ∷ ds) s t a c h = (
  h.0,
  h.1,
  moved (map without_target ds) (s + h.0 * d.source) 0 (s + h.0 * d.source) (0 + h.0 * 0) a 0 a 0 refl (omega arith) refl refl
      (gathered_from ds (s + h.0 * d.source) (t + h.0 * d.target) a c h.2),
)

pub gathered_positive : (ds : List FreeDigit) → All (λ (d : FreeDigit). 0 < d.range) ds → All (λ (d : FreeDigit). 0 < d.range) (map without_target ds)
gathered_positive ds all = All-map (λ (d : FreeDigit). 0 < d.range) without_target ds all

pub are_gathered : (old new : Moves) → new.free.items ≡ map without_target old.free.items → new.source ≡ old.source → new.target ≡ 0 → IsGathered old new
are_gathered old new e p q =
    record {
      leads = λ a b. (
        λ h. gathered_to old.free.items old.source old.target a b
            (moved (map without_target old.free.items) new.source new.target old.source 0 a b a b p q refl refl
            (subst (λ (ds : List FreeDigit). Reaches ds new.source new.target a b) e h)),
        λ h. subst (λ (ds : List FreeDigit). Reaches ds new.source new.target a b) (sym e)
            (moved (map without_target old.free.items) old.source 0 new.source new.target a 0 a b (sym p) (sym q) refl (sym h.0)
            (gathered_from old.free.items old.source old.target a h.1 h.2)),
      );
      positive = λ all. subst (λ (ds : List FreeDigit). All (λ (d : FreeDigit). 0 < d.range) ds) (sym e) (gathered_positive old.free.items all);
    }
