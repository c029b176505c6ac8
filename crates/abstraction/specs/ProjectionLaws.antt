-- A projection preserves steps and goals.
use Rattle.std.proofs.Common.{◌≡◌, ℕ, zero, suc, ◌+◌, ◌*◌, ◌/◌, ◌%◌, ◌<◌, true, false, List, [], ◌∷◌, length, Option, Some, None, refl, ap, sym, arith, cond, eqb}
use Rattle.std.specs.Prelude.{option_and_then, IfSome, slice_get, slice_index, slice_set, All}
use Rattle.std.specs.List.{list_all, list_any}
use Rattle.std.specs.Option.{option_map_or}
use Rattle.std.proofs.lemmas.List.{length-set, get_or-set_same, get_or-set_other}
use Rattle.std.proofs.lemmas.List.Elements.{All-head, All-tail}
use Rattle.std.proofs.lemmas.Nat.{mul-add-lt, div-mul-add, mod-mul-add, div_below, mod_below}
use Rattle.std.proofs.Math.Nat.{mod-add-div}
use Rattle.std.proofs.lemmas.Option.{slice_get_past}
use Rattle.std.proofs.lemmas.Bool.{cond_both, eqb-true, eqb-false, and_parts, and_from, or_parts}
use Rattle.fdr.specs.declared.fact.Fact.{Fact}
use Rattle.fdr.specs.Tasks.{FiniteDomainTask, Operator, ranges, IsTask, IsState, IsOperator, IsInRange, holds, applies, successor, with_values, names_variable}
use Rattle.abstraction.specs.Abstractions.{IsAbstractionOf}
use Rattle.abstraction.specs.Projections.{size_of, index_of, weighted_sum, agrees, value_after, index_after, transition_of, projection, touches_pattern, AllExist}
use Rattle.abstraction.specs.Steps.{found}

-- the lowest digit of a mixed-radix number, and the other digits
pub quotient : (x r q : ℕ) → x < r → (x + r * q) / r ≡ q
quotient x r q h = let e : x + r * q ≡ q * r + x = omega arith in rw e (div-mul-add q r x h)

pub remainder : (x r q : ℕ) → x < r → (x + r * q) % r ≡ x
remainder x r q h = let e : x + r * q ≡ q * r + x = omega arith in rw e (mod-mul-add q r x h)

pub positive : (i r q : ℕ) → i < r * q → 0 < r
positive i zero q h = absurd (omega arith)
positive i (suc r) q h = omega arith

-- the value at an index after a write
read_set : (s : List ℕ) (p x v : ℕ) → v < length s → slice_index (slice_set s p x) v ≡ cond (eqb p v) x (slice_index s v)
read_set s p x v l =
    cond_both (eqb p v) x (slice_index s v) (λ y. slice_index (slice_set s p x) v ≡ y)
    (λ e. let same : p ≡ v = eqb-true p v e in rw (same, get_or-set_same))
    (λ e. let other : v ≡ p → ⊥ = λ q. eqb-false p v e (sym q) in rw get_or-set_other)

read_effect : (effect : List Fact) (s : List ℕ) (v : ℕ) → v < length s → slice_index (with_values effect s) v ≡ value_after effect v (slice_index s v)
read_effect [] s v l = refl
read_effect (f ∷ fs) s v l =
    let longer : v < length (slice_set s f.variable f.value) = rw length-set l in
    rw (read_effect fs (slice_set s f.variable f.value) v longer, read_set s f.variable f.value v l)

-- an effect that does not name the variable does not change its value
not_named : (effect : List Fact) (v x : ℕ) → names_variable effect v ≡ false → value_after effect v x ≡ x
not_named [] v x e = refl
not_named (f ∷ fs) v x e =
    let parts = or_parts (eqb f.variable v) (names_variable fs v) e in rw (parts.0, not_named fs v x parts.1) refl

-- an effect on no variable of the pattern does not change the abstract state
effect_elsewhere : (ranges ps : List ℕ) (i : ℕ) (effect : List Fact) → list_any (names_variable effect) ps ≡ false → i < size_of ranges ps → index_after ranges ps i effect ≡ i
effect_elsewhere ranges [] i effect e l = omega arith
effect_elsewhere ranges (p ∷ ps) i effect e l =
    let some : 0 < slice_index ranges p = positive i (slice_index ranges p) (size_of ranges ps) l in
    let high : i / slice_index ranges p < size_of ranges ps = div_below i (slice_index ranges p) (size_of ranges ps) some (omega arith) in
    let parts = or_parts (names_variable effect p) (list_any (names_variable effect) ps) e in
    rw (not_named effect p (i % slice_index ranges p) parts.0, effect_elsewhere ranges ps (i / slice_index ranges p) effect parts.1 high) (mod-add-div i (slice_index ranges p))

module _ (ranges : List ℕ) where
  value_in_range : (effect : List Fact) (v x : ℕ) → All (IsInRange ranges) effect → x < slice_index ranges v → value_after effect v x < slice_index ranges v
  value_in_range [] v x all l = l
  value_in_range (f ∷ fs) v x all l =
      value_in_range fs v (cond (eqb f.variable v) f.value x) (All-tail (IsInRange ranges) f fs all)
      (cond_both (eqb f.variable v) f.value x (λ y. y < slice_index ranges v)
      (λ e. rw (← eqb-true f.variable v e) (All-head (IsInRange ranges) f fs all).1)
      (λ e. l))

  pub index_after_below : (ps : List ℕ) (i : ℕ) (effect : List Fact) → All (IsInRange ranges) effect → i < size_of ranges ps → index_after ranges ps i effect < size_of ranges ps
  index_after_below [] i effect all l = omega arith
  index_after_below (p ∷ ps) i effect all l =
      let r = slice_index ranges p in
      let some : 0 < slice_index ranges p = positive i (slice_index ranges p) (size_of ranges ps) l in
      let low = value_in_range effect p (i % slice_index ranges p) all (mod_below i (slice_index ranges p) some) in
      let high = index_after_below ps (i / slice_index ranges p) effect all (div_below i (slice_index ranges p) (size_of ranges ps) some (omega arith)) in
      omega (arith, mul-add-lt _ _ _ _ high low)

  module _ (s : List ℕ) (state : IsState ranges s) where
    pub index_below : (ps : List ℕ) → AllExist ranges ps → index_of ranges ps s < size_of ranges ps
    index_below [] all = omega arith
    index_below (p ∷ ps) all =
        let low = state.in_range p (All-head (λ v. v < length ranges) p ps all) in
        let high = index_below ps (All-tail (λ v. v < length ranges) p ps all) in
        omega (arith, mul-add-lt _ _ _ _ high low)

    fact_agrees : (ps : List ℕ) → AllExist ranges ps → (f : Fact) → holds s f ≡ true → agrees ranges ps (index_of ranges ps s) f ≡ true
    fact_agrees [] all f h = refl
    fact_agrees (p ∷ ps) all f h =
        let low = state.in_range p (All-head (λ v. v < length ranges) p ps all) in
        rw (remainder _ _ (index_of ranges ps s) low, quotient _ _ (index_of ranges ps s) low)
        (cond_both (eqb p f.variable) (eqb (slice_index s p) f.value) (agrees ranges ps (index_of ranges ps s) f) (λ y. y ≡ true)
        (λ e. rw (eqb-true p f.variable e) h)
        (λ e. fact_agrees ps (All-tail (λ v. v < length ranges) p ps all) f h))

    facts_agree : (ps : List ℕ) → AllExist ranges ps → (fs : List Fact) → list_all (holds s) fs ≡ true → list_all (agrees ranges ps (index_of ranges ps s)) fs ≡ true
    facts_agree ps all [] h = refl
    facts_agree ps all (f ∷ fs) h =
        let parts = and_parts (holds s f) (list_all (holds s) fs) h in
        and_from _ _ (fact_agrees ps all f parts.0) (facts_agree ps all fs parts.1)

    index_moves : (ps : List ℕ) → AllExist ranges ps → (effect : List Fact) → index_after ranges ps (index_of ranges ps s) effect ≡ index_of ranges ps (with_values effect s)
    index_moves [] all effect = refl
    index_moves (p ∷ ps) all effect =
        let exists : p < length ranges = All-head (λ v. v < length ranges) p ps all in
        let low = state.in_range p exists in
        rw (
          remainder _ _ (index_of ranges ps s) low,
          quotient _ _ (index_of ranges ps s) low,
          index_moves ps (All-tail (λ v. v < length ranges) p ps all) effect,
          read_effect effect s p (omega (arith, state.as_long)),
        )

-- a projection to existing variables is an abstraction of the task
pub projection_abstracts : (task : FiniteDomainTask) → IsTask task → (ps : List ℕ) → AllExist (ranges task) ps → IsAbstractionOf task (projection task ps)
projection_abstracts task well ps exist =
    record {
      indices = λ s state. index_below (ranges task) s state ps exist;
      transitions = λ i o l. leads i l (slice_get task.operators o) (found (IsOperator (ranges task)) task.operators o well.operators);
      steps = λ s o state. kept s state (slice_get task.operators o);
      goals = λ s state goal. facts_agree (ranges task) s state ps exist task.goal goal;
      operators = λ i o l. rw (slice_get_past task.operators o l) refl;
      untouched = λ i o l. stays i l (slice_get task.operators o);
    }
  where
    leads : (i : ℕ) → i < size_of (ranges task) ps → (r : Option Operator) → IfSome r (IsOperator (ranges task)) → IfSome (option_and_then (transition_of (ranges task) ps i) r) (λ j. j < size_of (ranges task) ps)
    leads i l None h = tt
    leads i l (Some op) h =
        cond_both (list_all (agrees (ranges task) ps i) op.precondition) (Some (index_after (ranges task) ps i op.effect)) None (λ r. IfSome r (λ j. j < size_of (ranges task) ps))
        (λ e. index_after_below (ranges task) ps i op.effect h.effect.in_range l) (λ e. tt)

    stays : (i : ℕ) → i < size_of (ranges task) ps → (r : Option Operator) → option_map_or (touches_pattern ps) r false ≡ false → IfSome (option_and_then (transition_of (ranges task) ps i) r) (λ j. j ≡ i)
    stays i l None e = tt
    stays i l (Some op) e =
        cond_both (list_all (agrees (ranges task) ps i) op.precondition) (Some (index_after (ranges task) ps i op.effect)) None (λ r. IfSome r (λ j. j ≡ i))
        (λ a. effect_elsewhere (ranges task) ps i op.effect e l) (λ a. tt)

    kept : (s : List ℕ) → IsState (ranges task) s → (r : Option Operator)
        → IfSome (option_and_then (λ op. cond (applies op s) (Some (successor op s)) None) r)
        (λ t. option_and_then (transition_of (ranges task) ps (index_of (ranges task) ps s)) r ≡ Some (index_of (ranges task) ps t))
    kept s state None = tt
    kept s state (Some op) =
        cond_both (applies op s) (Some (successor op s)) None
        (λ u. IfSome u (λ t. transition_of (ranges task) ps (index_of (ranges task) ps s) op ≡ Some (index_of (ranges task) ps t)))
        (λ e. rw (facts_agree (ranges task) s state ps exist op.precondition e) (ap Some (index_moves (ranges task) s state ps exist op.effect)))
        (λ e. tt)

-- the index is the sum of the values times the products of the ranges before them
sum_from : (ranges ps s : List ℕ) (w : ℕ) → weighted_sum ranges ps s w ≡ w * index_of ranges ps s
sum_from ranges [] s w = omega arith
sum_from ranges (p ∷ ps) s w =
    step (slice_index s p) (slice_index ranges p) w (index_of ranges ps s) _ (sum_from ranges ps s (w * slice_index ranges p))
  where
    step : (x r w i n : ℕ) → n ≡ w * r * i → x * w + n ≡ w * (x + r * i)
    step x r w i n e = omega arith

pub weighted_index : (ranges ps s : List ℕ) → weighted_sum ranges ps s 1 ≡ index_of ranges ps s
weighted_index ranges ps s = omega (arith, sum_from ranges ps s 1)
