-- Operators with no effect on a variable of the abstraction move nothing, so the others have all groups.
use Rattle.std.proofs.Common.{◌≡◌, ℕ, zero, suc, ◌+◌, ◌<◌, ◌≤◌, Bool, true, false, List, [], ◌∷◌, length, map, get_or, cond, eqb, Option, Some, None, refl, sym, ap, ◌∙◌, subst, arith, ⊎_elim}
use Rattle.std.specs.Prelude.{◌||◌, All, Contains, IsSomeAnd, fold, option_map, slice_get}
use Rattle.std.proofs.lemmas.Bool.{cases_eq, or_parts, false≢true}
use Rattle.std.proofs.lemmas.List.{length-map}
use Rattle.std.proofs.lemmas.List.Elements.{All-head, All-contains, All-contains_itself, All-nil}
use Rattle.std.proofs.lemmas.Map.Keys.{sorted_from_strictly_increasing}
use Rattle.std.proofs.lemmas.Map.Views.{length-le_from_below}
use Rattle.std.proofs.lemmas.Option.{none-some, slice_get-map, get_or_from_slice_get}
use Rattle.fdr.specs.declared.fact.Fact.{Fact}
use Rattle.fdr.specs.Tasks.{FiniteDomainTask, Operator, names_variable}
use Rattle.abstraction.specs.Facts.{value_in}
use Rattle.abstraction.proofs.DigitLaws.{Rising, rising_from}
use Rattle.abstraction_groups.specs.declared.change.Change.{Change}
use Rattle.abstraction_groups.specs.declared.change.Change.TheVariants.{Kept, Required}
use Rattle.abstraction_groups.specs.Changes.{change_by, change_of, plain, moves_at, moves, with_row, with_changes, distinct_moves}
use Rattle.abstraction_groups.specs.Collected.{AreAffecting, changes_by_number}
use Rattle.abstraction_groups.specs.Factors.{Factors, class_fact, class_operator, changes_of, group_changes}
use Rattle.abstraction_groups.proofs.IndexLaws.{affects_within}
use Rattle.abstraction_groups.proofs.PairLaws.{Contains-cons_cases, Contains-here, Contains-there}

-- ---- an operator that moves something

-- a change without an effect moves nothing
idle : (r : ℕ) (condition : Option ℕ) → moves_at (plain r (change_by condition None)) ≡ false
idle r None = go (eqb r 1)
  where
    go : (b : Bool) → moves_at (cond b Kept Kept) ≡ false
    go true = refl
    go false = refl
idle r (Some c) = go (eqb r 1)
  where
    go : (b : Bool) → moves_at (cond b Kept (Required c)) ≡ false
    go true = refl
    go false = refl

module _ (f : Factors) where
  no_effect : (fs : List Fact) (v : ℕ) → names_variable fs v ≡ false → value_in (map (class_fact f) fs) v ≡ None
  no_effect [] v e = refl
  no_effect (x ∷ fs) v e = let parts = or_parts (eqb x.variable v) (names_variable fs v) e in rw parts.0 (no_effect fs v parts.1)

  module _ (op : Operator) where
    abbrev change_at : ℕ → Change
    change_at v = plain (get_or f.counts v 0) (change_of (class_operator f op) v)

    moved_at : (v : ℕ) → moves_at (change_at v) ≡ true → names_variable op.effect v ≡ true
    moved_at v e = go (names_variable op.effect v) refl
      where
        go : (b : Bool) → names_variable op.effect v ≡ b → b ≡ true
        go true q = refl
        go false q =
            let still : moves_at (change_at v) ≡ false =
            ap (λ (o : Option ℕ). moves_at (plain (get_or f.counts v 0) (change_by (value_in (map (class_fact f) op.precondition) v) o))) (no_effect op.effect v q)
            ∙ idle (get_or f.counts v 0) (value_in (map (class_fact f) op.precondition) v) in
            absurd (false≢true (sym still ∙ e))

    moved_by : (vs : List ℕ) → moves (map change_at vs) ≡ true → (v : ℕ) × Contains vs v × (names_variable op.effect v ≡ true)
    moved_by [] e = absurd (false≢true e)
    moved_by (v ∷ vs) e = go (moves_at (change_at v)) refl (moved_by vs) e
      where
        go : (b : Bool) → moves_at (change_at v) ≡ b → (moves (map change_at vs) ≡ true → (w : ℕ) × Contains vs w × (names_variable op.effect w ≡ true)) →
            (b || moves (map change_at vs)) ≡ true → (w : ℕ) × Contains (v ∷ vs) w × (names_variable op.effect w ≡ true)
        go true q rest h = (v, Contains-here v vs, moved_at v q)
        go false q rest h = let r = rest h in (r.0, Contains-there v vs r.0 r.1, r.2)

    -- it has an effect on a variable of the abstraction
    pub effect_by : moves (changes_of f op) ≡ true → (v : ℕ) × Contains f.variables v × (names_variable op.effect v ≡ true)
    effect_by e = moved_by f.variables e

-- ---- the distinct changes of a part of the operators

without : (rows all : List (List Change)) (cs : List Change) → moves cs ≡ false → fold with_changes rows (cs ∷ all) ≡ fold with_changes rows all
without rows all cs e = ap (λ (b : Bool). fold with_changes (cond b (with_row rows cs) rows) all) e

module _ (h : ℕ → List Change) where
  -- `all` are the changes from number k on
  abbrev AreFrom : ℕ → List (List Change) → Type 0
  AreFrom k all = (j : ℕ) → j < length all → h (k + j) ≡ get_or all j []

  -- those that move something are among the numbers
  abbrev AreAmong : ℕ → List (List Change) → List ℕ → Type 0
  AreAmong k all xs = (j : ℕ) → j < length all → moves (get_or all j []) ≡ true → Contains xs (k + j)

  from_next : (k : ℕ) (cs : List Change) (all : List (List Change)) → AreFrom k (cs ∷ all) → AreFrom (suc k) all
  from_next k cs all from j l = let next : suc k + j ≡ k + suc j = omega arith in ap h next ∙ from (suc j) (omega arith)

  among_next : (k : ℕ) (cs : List Change) (all : List (List Change)) (xs : List ℕ) → AreAmong k (cs ∷ all) xs → AreAmong (suc k) all xs
  among_next k cs all xs among j l e = let next : k + suc j ≡ suc k + j = omega arith in subst (Contains xs) next (among (suc j) (omega arith) e)

  among_tail : (k x : ℕ) (all : List (List Change)) (xs : List ℕ) → x ≡ k → AreAmong (suc k) all (x ∷ xs) → AreAmong (suc k) all xs
  among_tail k x all xs same among j l e =
      ⊎_elim (λ (q : x ≡ suc k + j). absurd (omega arith)) (λ (q : Contains xs (suc k + j)). q) (Contains-cons_cases x xs (suc k + j) (among j l e))

  -- changes whose number is left out move nothing
  idle_out : (k : ℕ) (cs : List Change) (all : List (List Change)) (xs : List ℕ) → AreAmong k (cs ∷ all) xs → (Contains xs k → ⊥) → moves cs ≡ false
  idle_out k cs all xs among out = go (moves cs) refl
    where
      go : (b : Bool) → moves cs ≡ b → b ≡ false
      go true e = let same : k + 0 ≡ k = omega arith in absurd (out (subst (Contains xs) same (among 0 (omega arith) e)))
      go false e = refl

  fold_among : (all : List (List Change)) (k : ℕ) (xs : List ℕ) (rows : List (List Change)) → Rising xs → All (λ o. k ≤ o) xs → All (λ o. o < k + length all) xs →
      AreFrom k all → AreAmong k all xs → fold with_changes rows all ≡ fold with_changes rows (map h xs)
  fold_among [] k [] rows rising low high from among = refl
  fold_among [] k (x ∷ xs) rows rising low high from among =
      let a = All-head (λ o. k ≤ o) x xs low in let b = All-head (λ o. o < k + length {A = List Change} []) x xs high in absurd (omega arith)
  fold_among (cs ∷ all) k [] rows rising low high from among =
      without rows all cs (idle_out k cs all [] among (λ c. let l : c.0 < 0 = c.1 in absurd (omega arith)))
      ∙ fold_among all (suc k) [] rows tt (All-nil (λ o. suc k ≤ o)) (All-nil (λ o. o < suc k + length all)) (from_next k cs all from) (among_next k cs all [] among)
  fold_among (cs ∷ all) k (x ∷ xs) rows rising low high from among =
      ⊎_elim
      (λ (same : x ≡ k).
      let here : h x ≡ cs = ap h same ∙ (let zero_more : k ≡ k + 0 = omega arith in ap h zero_more) ∙ from 0 (omega arith) in
      let rest = fold_among all (suc k) xs (with_changes rows cs) rising.1 (λ j d l. let above = rising.0 j d l in omega arith) (λ j d l. let below = high (suc j) d (omega arith) in omega arith)
      (from_next k cs all from) (among_tail k x all xs same (among_next k cs all (x ∷ xs) among)) in
      rest ∙ ap (λ (ds : List Change). fold with_changes (with_changes rows ds) (map h xs)) (sym here))
      (λ (other : x ≡ k → ⊥).
      let first = All-head (λ o. k ≤ o) x xs low in
      let above : k < x = cases_below k x first other in
      without rows all cs (idle_out k cs all (x ∷ xs) among (λ c.
      ⊎_elim (λ (q : x ≡ k). other q) (λ (q : Contains xs k). let more = All-contains (λ o. x < o) xs k rising.0 q in omega arith) (Contains-cons_cases x xs k c)))
      ∙ fold_among all (suc k) (x ∷ xs) rows rising (λ j d l. later above rising j d l) (λ j d l. let below = high j d l in omega arith) (from_next k cs all from) (among_next k cs all (x ∷ xs) among))
      (cases_eq x k)
    where
      cases_below : (k x : ℕ) → k ≤ x → (x ≡ k → ⊥) → k < x
      cases_below k x l other = ⊎_elim (λ (q : x ≡ k). absurd (other q)) (λ (q : x ≡ k → ⊥). omega arith) (cases_eq x k)

      later : k < x → Rising (x ∷ xs) → All (λ o. suc k ≤ o) (x ∷ xs)
      later l rising zero d m = omega arith
      later l rising (suc j) d m = let more = rising.0 j d (omega arith) in omega arith

-- ---- the affecting operators

some_within : {X : Type 0} (xs : List X) (k : ℕ) → k < length xs → slice_get xs k ≡ None → ⊥
some_within [] k l e = omega arith
some_within (x ∷ xs) zero l e = none-some x (sym e)
some_within (x ∷ xs) (suc k) l e = some_within xs k (omega arith) e

pub operator_at : (task : FiniteDomainTask) (o : ℕ) → o < length task.operators → (op : Operator) × (slice_get task.operators o ≡ Some op)
operator_at task o l = go (slice_get task.operators o) refl
  where
    go : (r : Option Operator) → slice_get task.operators o ≡ r → (op : Operator) × (slice_get task.operators o ≡ Some op)
    go None e = absurd (some_within task.operators o l e)
    go (Some op) e = (op, e)

module _ (task : FiniteDomainTask) (f : Factors) where
  pub changes_at : (o : ℕ) (op : Operator) → slice_get task.operators o ≡ Some op → changes_by_number task f o ≡ changes_of f op
  changes_at o op at =
      get_or_from_slice_get (map (changes_of f) task.operators) o (changes_of f op) []
      (slice_get-map (changes_of f) task.operators o ∙ ap (λ (r : Option Operator). option_map (changes_of f) r) at)

  module _ (operators : List ℕ) (are : AreAffecting task f.variables operators) where
    pub affecting_below : All (λ o. o < length task.operators) operators
    affecting_below k d l = let by = (are.exactly (get_or operators k d)).0 (All-contains_itself operators k d l) in affects_within task (get_or operators k d) by.0 by.2

    pub affecting_few : length operators ≤ length task.operators
    affecting_few = length-le_from_below (length task.operators) operators (sorted_from_strictly_increasing operators are.increasing) affecting_below

    -- an operator that moves something is among them
    pub moving_affects : (o : ℕ) (op : Operator) → slice_get task.operators o ≡ Some op → moves (changes_of f op) ≡ true → Contains operators o
    moving_affects o op at e =
        let by = effect_by f op e in
        (are.exactly o).1 (by.0, by.1, subst (λ (r : Option Operator). IsSomeAnd r (λ op. names_variable op.effect by.0 ≡ true)) (sym at) by.2)

    pub affecting_groups : distinct_moves (map (changes_by_number task f) operators) ≡ group_changes task f
    affecting_groups =
        let long = length-map task.operators (changes_of f) in
        sym (fold_among (changes_by_number task f) (map (changes_of f) task.operators) 0 operators [] (rising_from operators are.increasing)
        (λ k d l. omega arith) (λ k d l. let below = affecting_below k d l in omega arith)
        (λ j l. let none : 0 + j ≡ j = omega arith in ap (changes_by_number task f) none)
        (λ j l e.
        let none : j ≡ 0 + j = omega arith in
        subst (Contains operators) none (among j (omega arith) e)))
      where
        among : (j : ℕ) → j < length task.operators → moves (changes_by_number task f j) ≡ true → Contains operators j
        among j l e = let at = operator_at task j l in moving_affects j at.0 at.1 (ap moves (sym (changes_at j at.0 at.1)) ∙ e)
