-- Which states were ever expanded: padding, one bit that is set, and the bits of rows.
use Rattle.std.proofs.Common.{◌≡◌, ℕ, zero, suc, ◌≤◌, Bool, false, List, [], ◌∷◌, ◌++◌, length, take, Some, refl, sym, ap, ◌∙◌, subst, length-append, arith}
use Rattle.std.specs.Prelude.{slice_get, slice_set}
use Rattle.std.specs.Option.{option_map_or}
use Rattle.std.specs.Map.{values_of}
use Rattle.std.proofs.lemmas.List.{length-map, map-append}
use Rattle.closed.specs.declared.small_entry.SmallEntry.{SmallEntry}
use Rattle.closed.specs.Tables.{padded, was_expanded}
use Rattle.closed.specs.Entries.{ever_of, set_entry_at}

-- ---- padding

pub padded_same : (bits : List Bool) (n : ℕ) → n ≤ length bits → padded bits n ≡ bits
padded_same bits zero le = refl
padded_same [] (suc n) le = absurd (omega arith)
padded_same (b ∷ bits) (suc n) le = ap (λ (xs : List Bool). b ∷ xs) (padded_same bits n (omega arith))

pub padded_one : (bits : List Bool) (n : ℕ) → n ≡ suc (length bits) → padded bits n ≡ bits ++ false ∷ []
padded_one bits zero e = absurd (omega arith)
padded_one [] (suc n) e = let none : n ≡ 0 = omega arith in ap (λ (k : ℕ). false ∷ padded [] k) none
padded_one (b ∷ bits) (suc n) e = ap (λ (xs : List Bool). b ∷ xs) (padded_one bits n (omega arith))

pub padded_more : (bits : List Bool) (m n : ℕ) → m ≤ n → padded (padded bits m) n ≡ padded bits n
padded_more bits zero n le = refl
padded_more [] (suc m) zero le = absurd (omega arith)
padded_more [] (suc m) (suc n) le = ap (λ (xs : List Bool). false ∷ xs) (padded_more [] m n (omega arith))
padded_more (b ∷ bits) (suc m) zero le = absurd (omega arith)
padded_more (b ∷ bits) (suc m) (suc n) le = ap (λ (xs : List Bool). b ∷ xs) (padded_more bits m n (omega arith))

pub take_padded : (bits : List Bool) (n : ℕ) → take (length bits) (padded bits n) ≡ bits
take_padded [] n = refl
take_padded (b ∷ bits) zero = ap (λ (xs : List Bool). b ∷ xs) (take_padded bits zero)
take_padded (b ∷ bits) (suc n) = ap (λ (xs : List Bool). b ∷ xs) (take_padded bits n)

pub expanded_padded : (bits : List Bool) (n i : ℕ) → was_expanded (padded bits n) i ≡ was_expanded bits i
expanded_padded bits zero i = refl
expanded_padded [] (suc n) zero = refl
expanded_padded [] (suc n) (suc i) = expanded_padded [] n i
expanded_padded (b ∷ bits) (suc n) zero = refl
expanded_padded (b ∷ bits) (suc n) (suc i) = expanded_padded bits n i

-- ---- one bit

-- another state's bit is as it was
pub expanded_elsewhere : (bits : List Bool) (i : ℕ) (b : Bool) (j : ℕ) → (j ≡ i → ⊥) → was_expanded (slice_set bits i b) j ≡ was_expanded bits j
expanded_elsewhere [] i b j ne = refl
expanded_elsewhere (x ∷ xs) zero b zero ne = absurd (ne refl)
expanded_elsewhere (x ∷ xs) zero b (suc j) ne = refl
expanded_elsewhere (x ∷ xs) (suc i) b zero ne = refl
expanded_elsewhere (x ∷ xs) (suc i) b (suc j) ne = expanded_elsewhere xs i b j (λ e. ne (ap suc e))

-- a bit that was set is put back
pub bit_back : (bits : List Bool) (i : ℕ) (b : Bool) → slice_set (slice_set bits i b) i (was_expanded bits i) ≡ bits
bit_back [] i b = refl
bit_back (x ∷ xs) zero b = refl
bit_back (x ∷ xs) (suc i) b = ap (λ (ys : List Bool). x ∷ ys) (bit_back xs i b)

-- ---- rows

module _ {F : Type 0} where
  pub ever_of-set_entry_at : (rows : List (F × SmallEntry)) (i : ℕ) (e : SmallEntry) →
      ever_of (set_entry_at rows i e) ≡ slice_set (ever_of rows) i e.ever
  ever_of-set_entry_at [] i e = refl
  ever_of-set_entry_at (p ∷ ps) zero e = refl
  ever_of-set_entry_at (p ∷ ps) (suc i) e = ap (λ (xs : List Bool). p.1.ever ∷ xs) (ever_of-set_entry_at ps i e)

  -- an entry is replaced by one with the same bit
  pub ever_of-replaced : (rows : List (F × SmallEntry)) (i : ℕ) (old e : SmallEntry) → slice_get (values_of rows) i ≡ Some old →
      e.ever ≡ old.ever → ever_of (set_entry_at rows i e) ≡ ever_of rows
  ever_of-replaced [] i old e there same = refl
  ever_of-replaced (p ∷ ps) zero old e there same =
      let here : p.1 ≡ old = cc in
      ap (λ (b : Bool). b ∷ ever_of ps) (same ∙ ap (λ (x : SmallEntry). x.ever) (sym here))
  ever_of-replaced (p ∷ ps) (suc i) old e there same =
      ap (λ (xs : List Bool). p.1.ever ∷ xs) (ever_of-replaced ps i old e there same)

  pub ever_at : (rows : List (F × SmallEntry)) (i : ℕ) → was_expanded (ever_of rows) i ≡ option_map_or (λ p. p.1.ever) (slice_get rows i) false
  ever_at [] i = refl
  ever_at (p ∷ ps) zero = refl
  ever_at (p ∷ ps) (suc i) = ever_at ps i

  -- a state that was never expanded is appended
  pub ever_of-pushed : (rows new : List (F × SmallEntry)) (form : F) (e : SmallEntry) → new ≡ rows ++ (form, e) ∷ [] → e.ever ≡ false →
      ever_of new ≡ padded (ever_of rows) (length new)
  ever_of-pushed rows new form e is never =
      let long : length (rows ++ (form, e) ∷ []) ≡ suc (length (ever_of rows)) =
      omega (arith, length-append rows ((form, e) ∷ []), length-map rows (λ (p : F × SmallEntry). p.1.ever)) in
      subst (λ (rs : List (F × SmallEntry)). ever_of rs ≡ padded (ever_of rows) (length rs)) (sym is)
      (map-append (λ (p : F × SmallEntry). p.1.ever) rows ((form, e) ∷ [])
      ∙ ap (λ (b : Bool). ever_of rows ++ b ∷ []) never
      ∙ sym (padded_one (ever_of rows) (length (rows ++ (form, e) ∷ [])) long))
