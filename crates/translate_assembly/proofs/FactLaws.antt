-- Facts in order that give each variable its value are the facts of the variables.
use Rattle.std.proofs.Common.{◌≡◌, ◌≢◌, ℕ, zero, suc, ◌+◌, ◌-◌, ◌<◌, Bool, true, false, cond, List, [], ◌∷◌, Option, Some, None, refl, sym, ap, ◌∙◌, arith, eqb}
use Rattle.std.specs.Prelude.{slice_get, filter, option_and_then}
use Rattle.std.specs.List.{filter_map, enumerate_from, cons_option}
use Rattle.std.specs.Option.{option_map}
use Rattle.std.proofs.lemmas.Bool.{eqb-true, eq-eqb}
use Rattle.fdr.specs.declared.fact.Fact.{Fact}
use Rattle.translate_theory.specs.Translations.{Variable, facts}
use Rattle.translate_assembly.specs.Facts.{are_from, value_at}
use Rattle.translate_assembly.proofs.SetLaws.{not_same, from_parts, from_both, from_lower, none_below}

from_next : (n : ℕ) (fs : List Fact) → are_from n fs ≡ true → value_at fs n ≡ None → are_from (n + 1) fs ≡ true
from_next n [] h e = refl
from_next n (f ∷ fs) h e = go (eqb f.variable n) refl e
  where
    go : (b : Bool) → eqb f.variable n ≡ b → cond b (Some f.value) (value_at fs n) ≡ None → are_from (n + 1) (f ∷ fs) ≡ true
    go true q e = cc e
    go false q e =
        let w = from_parts n f fs h in
        let differ : f.variable ≢ n = λ z. cc (eq-eqb f.variable n z, q) in
        from_both (n + 1) f fs (omega (arith, w.0, differ)) w.1

module _ (given : Variable → Option ℕ) where
  abbrev given_fact : ℕ × Variable → Option Fact
  given_fact e = option_map (λ x. record { variable = e.0; value = x }) (given e.1)

  are_facts_from : (vs : List Variable) (n : ℕ) (fs : List Fact) → are_from n fs ≡ true
      → ((j k : ℕ) → k ≡ n + j → value_at fs k ≡ option_and_then given (slice_get vs j)) → fs ≡ filter_map given_fact (enumerate_from n vs)
  are_facts_from [] n [] h is = refl
  are_facts_from [] n (f ∷ fs) h is = absurd (impossible (is (f.variable - n) f.variable (omega (arith, (from_parts n f fs h).0))))
    where
      impossible : value_at (f ∷ fs) f.variable ≡ None → ⊥
      impossible e = let q : value_at (f ∷ fs) f.variable ≡ Some f.value = rw (eq-eqb f.variable f.variable refl) refl in cc
  are_facts_from (v ∷ vs) n fs h is =
      go (given v) (is zero n (omega arith)) (λ gs above same. are_facts_from vs (n + 1) gs above (rest gs same))
    where
      rest : (gs : List Fact) → ((k : ℕ) → n < k → value_at gs k ≡ value_at fs k) → (j k : ℕ) → k ≡ n + 1 + j → value_at gs k ≡ option_and_then given (slice_get vs j)
      rest gs same j k e = same k (omega (arith, e)) ∙ is (suc j) k (omega (arith, e))

      -- facts from the next number on that are the same there
      Others : Type 0
      Others =
          (gs : List Fact) → are_from (n + 1) gs ≡ true → ((k : ℕ) → n < k → value_at gs k ≡ value_at fs k)
          → gs ≡ filter_map given_fact (enumerate_from (n + 1) vs)

      first : (x : ℕ) (gs : List Fact) → fs ≡ gs → are_from n gs ≡ true → value_at gs n ≡ Some x → Others
          → gs ≡ record { variable = n; value = x } ∷ filter_map given_fact (enumerate_from (n + 1) vs)
      first x [] q h e ih = cc e
      first x (f ∷ gs) q h e ih = by (eqb f.variable n) refl e
        where
          later : f.variable ≡ n → (k : ℕ) → n < k → value_at gs k ≡ value_at fs k
          later here k l =
              let differ : eqb f.variable k ≡ false = not_same f.variable k (λ z. omega (arith, z, l, here)) in
              let skip : value_at (f ∷ gs) k ≡ value_at gs k = rw differ refl in
              sym skip ∙ ap (λ (l : List Fact). value_at l k) (sym q)

          by : (b : Bool) → eqb f.variable n ≡ b → cond b (Some f.value) (value_at gs n) ≡ Some x
              → f ∷ gs ≡ record { variable = n; value = x } ∷ filter_map given_fact (enumerate_from (n + 1) vs)
          by false p e =
              let w = from_parts n f gs h in
              let none = none_below (f.variable + 1) gs n w.1 (omega (arith, w.0)) in cc
          by true p e =
              let here = eqb-true f.variable n p in
              let value : f.value ≡ x = cc e in
              let same : f ≡ record { variable = n; value = x } = λ i. record { variable = here i; value = value i } in
              let others : gs ≡ filter_map given_fact (enumerate_from (n + 1) vs) =
              ih gs (from_lower (n + 1) (f.variable + 1) gs (omega (arith, here)) (from_parts n f gs h).1) (later here) in
              λ i. same i ∷ others i

      go : (o : Option ℕ) → value_at fs n ≡ o → Others → fs ≡ cons_option (option_map (λ x. record { variable = n; value = x }) o) (filter_map given_fact (enumerate_from (n + 1) vs))
      go None e ih = ih fs (from_next n fs h e) (λ k l. refl)
      go (Some x) e ih = first x fs refl h e ih

  pub are_facts : (vs : List Variable) (fs : List Fact) → are_from 0 fs ≡ true
      → ((k : ℕ) → value_at fs k ≡ option_and_then given (slice_get vs k)) → fs ≡ facts given vs
  are_facts vs fs h is = are_facts_from vs 0 fs h (λ j k e. let q : k ≡ j = omega (arith, e) in rw q (is j))

-- the facts that are kept

module _ (keep : Fact → Bool) where
  pub filter_from : (n : ℕ) (fs : List Fact) → are_from n fs ≡ true → are_from n (filter keep fs) ≡ true
  filter_from n [] h = refl
  filter_from n (f ∷ fs) h = go (keep f) (filter_from (f.variable + 1) fs (from_parts n f fs h).1)
    where
      go : (b : Bool) → are_from (f.variable + 1) (filter keep fs) ≡ true → are_from n (cond b (f ∷ filter keep fs) (filter keep fs)) ≡ true
      go true ih = from_both n f (filter keep fs) (from_parts n f fs h).0 ih
      go false ih = from_lower n (f.variable + 1) (filter keep fs) (omega (arith, (from_parts n f fs h).0)) ih

  abbrev pub kept_value : ℕ → ℕ → Option ℕ
  kept_value k x = cond (keep (record { variable = k; value = x })) (Some x) None

  pub filter_value : (n : ℕ) (fs : List Fact) (k : ℕ) → are_from n fs ≡ true → value_at (filter keep fs) k ≡ option_and_then (kept_value k) (value_at fs k)
  filter_value n [] k h = refl
  filter_value n (f ∷ fs) k h = go (eqb f.variable k) refl (filter_value (f.variable + 1) fs k (from_parts n f fs h).1)
    where
      here : f.variable ≡ k → (b : Bool) → keep f ≡ b
          → value_at (cond b (f ∷ filter keep fs) (filter keep fs)) k ≡ cond b (Some f.value) None
      here e true q = rw (eq-eqb f.variable k e) refl
      here e false q =
          none_below (f.variable + 1) (filter keep fs) k (filter_from (f.variable + 1) fs (from_parts n f fs h).1) (omega (arith, e))

      other : eqb f.variable k ≡ false → value_at (filter keep fs) k ≡ option_and_then (kept_value k) (value_at fs k)
          → (b : Bool) → value_at (cond b (f ∷ filter keep fs) (filter keep fs)) k ≡ option_and_then (kept_value k) (value_at fs k)
      other e ih true = rw e ih
      other e ih false = ih

      go : (b : Bool) → eqb f.variable k ≡ b → value_at (filter keep fs) k ≡ option_and_then (kept_value k) (value_at fs k)
          → value_at (cond (keep f) (f ∷ filter keep fs) (filter keep fs)) k ≡ option_and_then (kept_value k) (cond b (Some f.value) (value_at fs k))
      go true e ih =
          let same = eqb-true f.variable k e in
          let q : f ≡ record { variable = k; value = f.value } = λ i. record { variable = same i; value = f.value } in
          here same (keep f) refl ∙ ap (λ (g : Fact). cond (keep g) (Some f.value) None) q
      go false e ih = other e ih (keep f)
