-- Facts of the variables in order, against the list of the variables' values.
use Rattle.std.proofs.Common.{◌≡◌, ℕ, ◌+◌, Bool, true, ◌&&◌, List, [], ◌∷◌, ◌++◌, length, Option, Some, None, refl, sym, ap, arith, ◌∙◌, append_assoc, length-append, eqb}
use Rattle.std.specs.Prelude.{map, fold, slice_index, slice_set, unwrap_or}
use Rattle.std.specs.List.{list_all, filter_map, enumerate_from, cons_option}
use Rattle.std.specs.Option.{option_map, option_map_or}
use Rattle.fdr.specs.declared.fact.Fact.{Fact}
use Rattle.fdr.specs.Tasks.{holds}
use Rattle.translate_theory.specs.Translations.{Variable, facts}

read_middle : (pre : List ℕ) (x : ℕ) (ys : List ℕ) → slice_index (pre ++ (x ∷ ys)) (length pre) ≡ x
read_middle [] x ys = refl
read_middle (z ∷ zs) x ys = read_middle zs x ys

write_middle : (pre : List ℕ) (x y : ℕ) (ys : List ℕ) → slice_set (pre ++ (x ∷ ys)) (length pre) y ≡ pre ++ (y ∷ ys)
write_middle [] x y ys = refl
write_middle (z ∷ zs) x y ys = ap (λ l. z ∷ l) (write_middle zs x y ys)

module _ (given : Variable → Option ℕ) (value : Variable → ℕ) where
  abbrev fact_of : ℕ × Variable → Option Fact
  fact_of e = option_map (λ x. record { variable = e.0; value = x }) (given e.1)

  abbrev agrees : Variable → Bool
  agrees v = option_map_or (λ x. eqb (value v) x) (given v) true

  hold_from : (vs : List Variable) (pre : List ℕ) (n : ℕ) (state : List ℕ) → n ≡ length pre → state ≡ pre ++ map value vs
      → list_all (holds state) (filter_map fact_of (enumerate_from n vs)) ≡ list_all agrees vs
  hold_from [] pre n state e s = refl
  hold_from (v ∷ vs) pre n state e s =
      go (given v)
      (hold_from vs (pre ++ (value v ∷ [])) (n + 1) state (omega (arith, e, length-append pre (value v ∷ [])))
      (s ∙ sym (append_assoc pre (value v ∷ []) (map value vs))))
    where
      here : slice_index state n ≡ value v
      here = rw (s, e) (read_middle pre (value v) (map value vs))

      go : (r : Option ℕ) → list_all (holds state) (filter_map fact_of (enumerate_from (n + 1) vs)) ≡ list_all agrees vs
          → list_all (holds state) (cons_option (option_map (λ x. record { variable = n; value = x }) r) (filter_map fact_of (enumerate_from (n + 1) vs)))
          ≡ (option_map_or (λ x. eqb (value v) x) r true && list_all agrees vs)
      go None ih = ih
      go (Some x) ih = rw (here, ih)

  -- the facts hold of the values where each variable's value is the given one
  pub facts_hold : (vs : List Variable) → list_all (holds (map value vs)) (facts given vs) ≡ list_all agrees vs
  facts_hold vs = hold_from vs [] 0 (map value vs) refl refl

  set_from : (vs : List Variable) (pre : List ℕ) (n : ℕ) (state : List ℕ) → n ≡ length pre → state ≡ pre ++ map value vs
      → fold (λ s f. slice_set s f.variable f.value) state (filter_map fact_of (enumerate_from n vs)) ≡ pre ++ map (λ v. unwrap_or (given v) (value v)) vs
  set_from [] pre n state e s = s
  set_from (v ∷ vs) pre n state e s = go (given v) (set_from vs)
    where
      go : (r : Option ℕ)
          → ((pre : List ℕ) (n : ℕ) (state : List ℕ) → n ≡ length pre → state ≡ pre ++ map value vs
          → fold (λ s f. slice_set s f.variable f.value) state (filter_map fact_of (enumerate_from n vs)) ≡ pre ++ map (λ v. unwrap_or (given v) (value v)) vs)
          → fold (λ s f. slice_set s f.variable f.value) state (cons_option (option_map (λ x. record { variable = n; value = x }) r) (filter_map fact_of (enumerate_from (n + 1) vs)))
          ≡ pre ++ (unwrap_or r (value v) ∷ map (λ v. unwrap_or (given v) (value v)) vs)
      go None ih =
          ih (pre ++ (value v ∷ [])) (n + 1) state (omega (arith, e, length-append pre (value v ∷ [])))
          (s ∙ sym (append_assoc pre (value v ∷ []) (map value vs)))
          ∙ append_assoc pre (value v ∷ []) (map (λ v. unwrap_or (given v) (value v)) vs)
      go (Some x) ih =
          ih (pre ++ (x ∷ [])) (n + 1) (slice_set state n x) (omega (arith, e, length-append pre (x ∷ [])))
          (rw (s, e) (write_middle pre (value v) x (map value vs)) ∙ sym (append_assoc pre (x ∷ []) (map value vs)))
          ∙ append_assoc pre (x ∷ []) (map (λ v. unwrap_or (given v) (value v)) vs)

  -- the state that the facts write has the given values, and the old ones elsewhere
  pub facts_set : (vs : List Variable) → fold (λ s f. slice_set s f.variable f.value) (map value vs) (facts given vs) ≡ map (λ v. unwrap_or (given v) (value v)) vs
  facts_set vs = set_from vs [] 0 (map value vs) refl refl
