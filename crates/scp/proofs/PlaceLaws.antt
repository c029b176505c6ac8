-- The places of a state in the rows of mappings, and those of its successor.
use Rattle.std.proofs.Common.{◌≡◌, ℕ, zero, ◌+◌, ◌-◌, ◌<◌, ◌≤◌, ◌++◌, ⊎_elim, List, [], ◌∷◌, length, map, get_or, Some, None, refl, sym, ap, ◌∙◌, subst, arith, cond}
use Rattle.std.specs.Prelude.{slice_index, sum, sum_by, All, Vec, option_and_then}
use Rattle.std.specs.List.{range_with_len}
use Rattle.std.proofs.Math.Logic.{∥∥₁_elim}
use Rattle.std.proofs.Math.Nat.{ℕ_set}
use native.Mathlib.Bridge.{le_prop}
use Rattle.std.specs.List.Sorted.{IsPermutation}
use Rattle.std.proofs.lemmas.List.Sorted.{sum_by-IsPermutation}
use Rattle.std.proofs.lemmas.List.Sums.{sum-map, sum_by-cons, sum_by-append}
use Rattle.std.proofs.lemmas.List.Elements.{All-head, All-tail}
use Rattle.std.proofs.lemmas.List.FromFn.{fill_by_all}
use Rattle.std.specs.Global.{Global}
use Rattle.std.proofs.lemmas.Option.{none-some, slice_get_past}
use Rattle.std.proofs.lemmas.List.{length-map, get_or-map}
use Rattle.std.proofs.lemmas.Bool.{cases_lt}
use Rattle.fdr.specs.Tasks.{FiniteDomainTask, ranges, IsState, IsTask, step, applies, successor}
use Rattle.abstraction.specs.Steps.{step_keeps_state}
use Rattle.abstraction_mapping.specs.Mappings.{Pattern}
use Rattle.scp_rows.specs.Moves.{AreMoved, AreTouched, KeepsAt, StepsTo, first_rows}
use Rattle.scp_rows.specs.Rows.{MappingRows, AreOf, abstraction_of, word_at, word_in}
use Rattle.scp_rows.proofs.TouchLaws.{at_some}

-- ---- sums that move

-- a sum over a list is one over its places
places_sum : {X : Type 0} (f : X → ℕ) (xs : List X) → sum_by f xs ≡ sum_by (λ k. slice_index (map f xs) k) (range_with_len 0 (length xs))
places_sum f xs =
    sym (sum-map f xs)
    ∙ ap sum (fill_by_all (λ k. slice_index (map f xs) k) (map f xs) (length xs) 0 (length-map xs f) (λ k l. refl))
    ∙ sum-map (λ k. slice_index (map f xs) k) (range_with_len 0 (length xs))

same_sum : (f g : ℕ → ℕ) (ks : List ℕ) → All (λ k. f k ≡ g k) ks → sum_by f ks ≡ sum_by g ks
same_sum f g [] all = refl
same_sum f g (k ∷ ks) all =
    sum_by-cons f k ks
    ∙ (let head = All-head (λ k. f k ≡ g k) k ks all in let rest = same_sum f g ks (All-tail (λ k. f k ≡ g k) k ks all) in rw (head, rest) refl)
    ∙ sym (sum_by-cons g k ks)

-- where the terms at the others are the same, the sum changes as that at the touched places
exchanged : {X : Type 0} (f g : X → ℕ) (xs : List X) (others touched : List ℕ) → IsPermutation (others ++ touched) (range_with_len 0 (length xs))
    → All (λ k. slice_index (map f xs) k ≡ slice_index (map g xs) k) others
    → sum_by g xs ≡ sum_by f xs - sum_by (λ k. slice_index (map f xs) k) touched + sum_by (λ k. slice_index (map g xs) k) touched
exchanged f g xs others touched places same =
    let f' = λ (k : ℕ). slice_index (map f xs) k in
    let g' = λ (k : ℕ). slice_index (map g xs) k in
    let of_f : sum_by f xs ≡ sum_by f' others + sum_by f' touched =
    places_sum f xs ∙ sum_by-IsPermutation f' (others ++ touched) (range_with_len 0 (length xs)) places ∙ sum_by-append f' others touched in
    let of_g : sum_by g xs ≡ sum_by g' others + sum_by g' touched =
    places_sum g xs ∙ sum_by-IsPermutation g' (others ++ touched) (range_with_len 0 (length xs)) places ∙ sum_by-append g' others touched in
    let alike : sum_by f' others ≡ sum_by g' others = same_sum f' g' others same in
    omega (arith, of_f, of_g, alike)

moved_prop : (rows : List MappingRows) (touched state next : List ℕ) → IsProp (AreMoved rows touched state next)
moved_prop rows touched state next = hlevel (le_prop, ℕ_set)

module _ (task : FiniteDomainTask) (rows : List MappingRows) (of : AreOf task rows) (state : List ℕ) (ok : IsState (ranges task) state)
    (o : ℕ) (next : List ℕ) (leads : step task state o ≡ Some next) where
  same_word : (lane k : ℕ) → KeepsAt rows o k → slice_index (map (word_at state lane) rows) k ≡ slice_index (map (word_at next lane) rows) k
  same_word lane k at =
      let d : MappingRows = record { task = task; mapping = Pattern []; rows = [] } in
      let p = get_or rows k d in
      let own : p.task ≡ task = of k d at.within in
      let index : (abstraction_of p).index next ≡ (abstraction_of p).index state =
      at.keeps d state next (subst (λ own. IsState (ranges own) state) (sym own) ok) (ap (λ own. step own state o) own ∙ leads) in
      get_or-map (word_at state lane) rows k d 0 at.within ∙ ap (λ i. word_in p.rows i lane) (sym index) ∙ sym (get_or-map (word_at next lane) rows k d 0 at.within)

  -- the sums of a successor
  pub moved : (touched : List ℕ) → ∥ AreTouched rows o (length rows) touched ∥₁ → AreMoved rows touched state next
  moved touched merely = ∥∥₁_elim merely (moved_prop rows touched state next) (λ (is : AreTouched rows o (length rows) touched). record {
    within = is.within;
    sums = λ lane. exchanged (word_at state lane) (word_at next lane) rows is.others touched is.places (λ k d l. same_word lane (get_or is.others k d) (is.kept k d l));
  })

-- the same, for any state
moved_by : (task : FiniteDomainTask) (rows : List MappingRows) (of : AreOf task rows) (state : List ℕ) (ok : IsState (ranges task) state) (o : ℕ) (next : List ℕ) (leads : step task state o ≡ Some next)
    (touched : List ℕ) → ∥ AreTouched rows o (length rows) touched ∥₁ → AreMoved rows touched state next
moved_by task rows of state ok o next leads touched merely = moved task rows of state ok o next leads touched merely

module _ (task : FiniteDomainTask) (rows : List MappingRows) (of : AreOf task rows) (state : List ℕ) (ok : IsState (ranges task) state)
    (o : ℕ) (next : List ℕ) (leads : step task state o ≡ Some next) where
  -- the same for each state to which the operator leads under all mappings
  pub moved_all : (touched : List ℕ) → ∥ AreTouched rows o (length rows) touched ∥₁ → (other : List ℕ) → StepsTo rows state o other → AreMoved rows touched state other
  moved_all touched merely other steps = go rows of steps (moved task rows of state ok o next leads touched merely) (λ l. moved_to l)
    where
      moved_to : step task state o ≡ Some other → AreMoved rows touched state other
      moved_to leads' = moved_by task rows of state ok o other leads' touched merely

      go : (ps : List MappingRows) → AreOf task ps → StepsTo ps state o other → AreMoved ps touched state next → (step task state o ≡ Some other → AreMoved ps touched state other) → AreMoved ps touched state other
      go [] own led here to = record { within = here.within; sums = λ lane. here.sums lane }
      go (q ∷ ps) own led here to = to (subst (λ (t : FiniteDomainTask). step t state o ≡ Some other) (own zero q (omega arith)) (led zero q (omega arith)))

-- ---- states and operators

pub first_of_task : (task : FiniteDomainTask) (blocks : List (Vec MappingRows Global)) → All (λ b. AreOf task b.items) blocks → AreOf task (first_rows blocks)
first_of_task task [] of = λ k d l. absurd (omega arith)
first_of_task task (b ∷ bs) of = of zero b (omega arith)

pub all_states : (task : FiniteDomainTask) (rows : List MappingRows) → AreOf task rows → (state : List ℕ) → IsState (ranges task) state → All (λ p. IsState (ranges p.task) state) rows
all_states task rows of state ok k d l = subst (λ own. IsState (ranges own) state) (sym (of k d l)) ok

pub operator_within : (task : FiniteDomainTask) (state next : List ℕ) (o : ℕ) → step task state o ≡ Some next → o < length task.operators
operator_within task state next o leads = ⊎_elim (λ (l : o < length task.operators). l) past (cases_lt o (length task.operators))
  where
    past : length task.operators ≤ o → o < length task.operators
    past h = absurd (none-some next (sym (ap (option_and_then (λ op. cond (applies op state) (Some (successor op state)) None)) (slice_get_past task.operators o h)) ∙ leads))

pub next_state : (task : FiniteDomainTask) → IsTask task → (state next : List ℕ) (o : ℕ) → IsState (ranges task) state → step task state o ≡ Some next → IsState (ranges task) next
next_state task well state next o ok leads = at_some (IsState (ranges task)) (step task state o) next leads (step_keeps_state task well state o ok)

-- an operator of the task leads to a state under all its mappings
pub all_step : (task : FiniteDomainTask) (rows : List MappingRows) → AreOf task rows → (state next : List ℕ) (o : ℕ) → step task state o ≡ Some next → StepsTo rows state o next
all_step task rows of state next o leads k d l = subst (λ own. step own state o ≡ Some next) (sym (of k d l)) leads
