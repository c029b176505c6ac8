-- Conditions and effects of an operator, told variable by variable.
use Rattle.std.proofs.Common.{◌≡◌, ℕ, ◌/◌, ◌%◌, ◌<◌, Bool, true, false, List, [], ◌∷◌, refl, sym, arith, cond, eqb, ne_eqb, eq-eqb}
use Rattle.std.specs.Prelude.{◌↔◌, not, All, IfSome, slice_index, unwrap_or}
use Rattle.std.specs.List.{list_all}
use Rattle.std.proofs.lemmas.List.Elements.{All-head, All-tail}
use Rattle.std.proofs.lemmas.Bool.{eqb-true, eqb-false, and_parts, and_from, or_parts, false≢true}
use Rattle.fdr.specs.declared.fact.Fact.{Fact}
use Rattle.fdr.specs.Tasks.{IsInRange, are_distinct, names_variable}
use Rattle.abstraction.specs.Projections.{agrees, value_after}
use Rattle.abstraction.proofs.DigitLaws.{Rising}
use Rattle.abstraction.specs.Facts.{value_in}

-- the fact holds of the variable's value, or is on another variable
abbrev pub agrees_at : ℕ → ℕ → Fact → Bool
agrees_at p x f = cond (eqb p f.variable) (eqb x f.value) true

eqb_turned : (p v : ℕ) (b : Bool) → eqb p v ≡ b → eqb v p ≡ b
eqb_turned p v true e = let same : p ≡ v = eqb-true p v e in rw same (eq-eqb v v refl)
eqb_turned p v false e = ne_eqb v p (λ (same : v ≡ p). eqb-false p v e (sym same))

-- an assignment's first fact on a variable is its only one
module _ (p : ℕ) where
  others_agree : (x : ℕ) (fs : List Fact) → names_variable fs p ≡ false → list_all (agrees_at p x) fs ≡ true
  others_agree x [] e = refl
  others_agree x (f ∷ fs) e =
      let parts = or_parts (eqb f.variable p) (names_variable fs p) e in
      let other : eqb p f.variable ≡ false = eqb_turned f.variable p false parts.0 in
      rw other (others_agree x fs parts.1)

  others_keep : (x : ℕ) (fs : List Fact) → names_variable fs p ≡ false → value_after fs p x ≡ x
  others_keep x [] e = refl
  others_keep x (f ∷ fs) e =
      let parts = or_parts (eqb f.variable p) (names_variable fs p) e in rw (parts.0) (others_keep x fs parts.1)

  distinct_parts : (f : Fact) (fs : List Fact) → are_distinct (f ∷ fs) ≡ true → (names_variable fs f.variable ≡ false) × (are_distinct fs ≡ true)
  distinct_parts f fs e =
      let parts = and_parts (not (names_variable fs f.variable)) (are_distinct fs) e in (go (names_variable fs f.variable) parts.0, parts.1)
    where
      go : (b : Bool) → not b ≡ true → b ≡ false
      go true h = absurd (false≢true h)
      go false h = refl

  pub conditions_met : (x : ℕ) (fs : List Fact) → are_distinct fs ≡ true → (list_all (agrees_at p x) fs ≡ true) ↔ IfSome (value_in fs p) (λ c. x ≡ c)
  conditions_met x [] d = (λ _. tt, λ _. refl)
  conditions_met x (f ∷ fs) d = go (eqb f.variable p) refl (conditions_met x fs (distinct_parts f fs d).1)
    where
      parts : (names_variable fs f.variable ≡ false) × (are_distinct fs ≡ true)
      parts = distinct_parts f fs d

      go : (b : Bool) → eqb f.variable p ≡ b → ((list_all (agrees_at p x) fs ≡ true) ↔ IfSome (value_in fs p) (λ c. x ≡ c)) →
          (list_all (agrees_at p x) (f ∷ fs) ≡ true) ↔ IfSome (value_in (f ∷ fs) p) (λ c. x ≡ c)
      go true e behind =
          let turned : eqb p f.variable ≡ true = eqb_turned f.variable p true e in
          let rest : list_all (agrees_at p x) fs ≡ true = others_agree x fs (rw (eqb-true f.variable p e) at parts.0) in
          rw (e, turned, rest)
          (λ h. eqb-true x f.value (and_parts (eqb x f.value) true h).0, λ h. and_from (eqb x f.value) true (eq-eqb x f.value h) refl)
      go false e behind = let turned : eqb p f.variable ≡ false = eqb_turned f.variable p false e in rw (e, turned) behind

  pub effect_gives : (x : ℕ) (fs : List Fact) → are_distinct fs ≡ true → value_after fs p x ≡ unwrap_or (value_in fs p) x
  effect_gives x [] d = refl
  effect_gives x (f ∷ fs) d = go (eqb f.variable p) refl (effect_gives x fs (distinct_parts f fs d).1)
    where
      parts : (names_variable fs f.variable ≡ false) × (are_distinct fs ≡ true)
      parts = distinct_parts f fs d

      go : (b : Bool) → eqb f.variable p ≡ b → value_after fs p x ≡ unwrap_or (value_in fs p) x → value_after (f ∷ fs) p x ≡ unwrap_or (value_in (f ∷ fs) p) x
      go true e behind = rw e (others_keep f.value fs (rw (eqb-true f.variable p e) at parts.0))
      go false e behind = rw e behind

-- a fact's value is in range
pub value_fits : (ranges : List ℕ) (p : ℕ) (fs : List Fact) → All (IsInRange ranges) fs → IfSome (value_in fs p) (λ c. c < slice_index ranges p)
value_fits ranges p [] all = tt
value_fits ranges p (f ∷ fs) all = go (eqb f.variable p) refl (value_fits ranges p fs (All-tail (IsInRange ranges) f fs all))
  where
    go : (b : Bool) → eqb f.variable p ≡ b → IfSome (value_in fs p) (λ c. c < slice_index ranges p) → IfSome (value_in (f ∷ fs) p) (λ c. c < slice_index ranges p)
    go true e behind = rw e (rw (← eqb-true f.variable p e) (All-head (IsInRange ranges) f fs all).1)
    go false e behind = rw e behind

module _ (ranges : List ℕ) where
  above_agree : (ps : List ℕ) (i : ℕ) (f : Fact) → All (λ q. f.variable < q) ps → agrees ranges ps i f ≡ true
  above_agree [] i f all = refl
  above_agree (p ∷ ps) i f all =
      let above : f.variable < p = All-head (λ q. f.variable < q) p ps all in
      let other : eqb p f.variable ≡ false = ne_eqb p f.variable (λ (e : p ≡ f.variable). omega arith) in
      rw other (above_agree ps (i / slice_index ranges p) f (All-tail (λ q. f.variable < q) p ps all))

  -- that facts agree is told at the lowest place and above it
  pub facts_told : (p : ℕ) (ps : List ℕ) (i : ℕ) (fs : List Fact) → Rising (p ∷ ps) →
      (list_all (agrees ranges (p ∷ ps) i) fs ≡ true) ↔ ((list_all (agrees_at p (i % slice_index ranges p)) fs ≡ true) × (list_all (agrees ranges ps (i / slice_index ranges p)) fs ≡ true))
  facts_told p ps i [] rising = (λ _. (refl, refl), λ _. refl)
  facts_told p ps i (f ∷ fs) rising = go (eqb p f.variable) refl (facts_told p ps i fs rising)
    where
      go : (b : Bool) → eqb p f.variable ≡ b →
          ((list_all (agrees ranges (p ∷ ps) i) fs ≡ true) ↔ ((list_all (agrees_at p (i % slice_index ranges p)) fs ≡ true) × (list_all (agrees ranges ps (i / slice_index ranges p)) fs ≡ true))) →
          (list_all (agrees ranges (p ∷ ps) i) (f ∷ fs) ≡ true) ↔ ((list_all (agrees_at p (i % slice_index ranges p)) (f ∷ fs) ≡ true) × (list_all (agrees ranges ps (i / slice_index ranges p)) (f ∷ fs) ≡ true))
      go true e behind =
          let same : p ≡ f.variable = eqb-true p f.variable e in
          let above : agrees ranges ps (i / slice_index ranges p) f ≡ true = above_agree ps (i / slice_index ranges p) f (rw same at rising.0) in
          rw (e, above) (
            λ h. let a = and_parts (eqb (i % slice_index ranges p) f.value) (list_all (agrees ranges (p ∷ ps) i) fs) h in let b = behind.0 a.1 in
                (and_from (eqb (i % slice_index ranges p) f.value) (list_all (agrees_at p (i % slice_index ranges p)) fs) a.0 b.0, and_from true (list_all (agrees ranges ps (i / slice_index ranges p)) fs) refl b.1),
            λ h. let a = and_parts (eqb (i % slice_index ranges p) f.value) (list_all (agrees_at p (i % slice_index ranges p)) fs) h.0 in let b = and_parts true (list_all (agrees ranges ps (i / slice_index ranges p)) fs) h.1 in
                and_from (eqb (i % slice_index ranges p) f.value) (list_all (agrees ranges (p ∷ ps) i) fs) a.0 (behind.1 (a.1, b.1)),
          )
      go false e behind =
          rw e (
            λ h. let a = and_parts (agrees ranges ps (i / slice_index ranges p) f) (list_all (agrees ranges (p ∷ ps) i) fs) h in let b = behind.0 a.1 in
                (and_from true (list_all (agrees_at p (i % slice_index ranges p)) fs) refl b.0, and_from (agrees ranges ps (i / slice_index ranges p) f) (list_all (agrees ranges ps (i / slice_index ranges p)) fs) a.0 b.1),
            λ h. let a = and_parts true (list_all (agrees_at p (i % slice_index ranges p)) fs) h.0 in let b = and_parts (agrees ranges ps (i / slice_index ranges p) f) (list_all (agrees ranges ps (i / slice_index ranges p)) fs) h.1 in
                and_from (agrees ranges ps (i / slice_index ranges p) f) (list_all (agrees ranges (p ∷ ps) i) fs) b.0 (behind.1 (a.1, b.1)),
          )

-- on no variable all facts agree
pub agree_on_none : (ranges : List ℕ) (i : ℕ) (fs : List Fact) → list_all (agrees ranges [] i) fs ≡ true
agree_on_none ranges i [] = refl
agree_on_none ranges i (f ∷ fs) = agree_on_none ranges i fs
