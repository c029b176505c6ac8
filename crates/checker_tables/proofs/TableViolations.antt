-- The first place at which a table fails, in the first such table in the order of their places.
use Rattle.std.proofs.Common.{◌≡◌, ℕ, ◌<◌, true, false, List, [], ◌∷◌, length, map, Option, Some, None, refl, sym, ap, ◌∙◌, arith, subst, ⊎_elim}
use Rattle.std.specs.Prelude.{IsSomeAnd, IfSome, slice_get, slice_index}
use Rattle.std.specs.Option.{option_map_or}
use Rattle.std.specs.List.Sorted.{IsStrictlyIncreasing}
use Rattle.std.proofs.lemmas.Bool.{both_ways, cases_lt}
use Rattle.std.proofs.lemmas.Option.{slice_get_within}
use Rattle.fdr.specs.Tasks.{FiniteDomainTask}
use Rattle.abstraction.specs.Abstractions as abstraction
use Rattle.abstraction.specs.Abstractions.{IsAbstractionOf}
use Rattle.abstraction_mapping.specs.declared.table.TableAbstraction.{TableAbstraction}
use Rattle.abstraction_mapping.specs.Mappings.{Mapping, abstraction_by, variables_of}
use Rattle.abstraction_mapping.specs.Views.{task_in, mapping_in, abstraction_in}
use Rattle.abstraction_mapping.specs.MappingLaws.{mapping_abstracts}
use Rattle.abstraction_mapping.specs.ClassLaws.{increasing_in}
use Rattle.cert_value.specs.Certificates.{Table, CertificateValue}
use Rattle.checker_clauses.specs.declared.violation.Violation.{Violation}
use Rattle.checker_clauses.specs.declared.violation.Violation.TheVariants as violation
use Rattle.checker_clauses.specs.Clauses.{abstraction_of, has_form, share_of, is_goal_at_zero, falls_within_share, comes_before}
use Rattle.checker_clauses.specs.Violations as violations
use Rattle.checker_clauses.specs.Violations.{Violates, IsMet, IsFirstOfClause, IsFoundIn, clause_of, table_at}
use Rattle.checker_pieces.specs.Pieces.{IsFirstIn}
use Rattle.checker_tables.specs.Changes.{changes_of, is_tried}
use Rattle.checker_tables.specs.ShareSums.{IsFirstFailure}
use Rattle.checker_tables.specs.declared.fault.TableFault.{TableFault}
use Rattle.checker_tables.specs.declared.fault.TableFault.TheVariants.{Form, Goal, Fall}
use Rattle.checker_tables.specs.TableFaults.{Fails, IsFirstFault, IsFirstGoal, IsFirstFall, place_of, violation_at, falls_within, first_fall_at, touching_from, spender_of}
use Rattle.checker_tables.specs.declared.transitions.Spender.{Spender}
use Rattle.checker_tables.specs.declared.places.TablePlace.{TablePlace}
use Rattle.checker_tables.specs.TablePlaces.{IsBefore, IsListed, IsListing, IsFaultOf, says_table}
use Rattle.checker_tables.proofs.UntriedOperators.{untried_falls}
use Rattle.checker_tables.proofs.FallLaws.{falls_nowhere, first_of_touching}
use Rattle.checker_tables.proofs.PlaceLaws.{no_earlier}

module _ (task : FiniteDomainTask) (t : Table) where
  pub first_form : has_form task t ≡ false → IsFirstFault task t (Some Form)
  first_form e = (e, first)
    where
      first : (g : TableFault) → Fails task t g → comes_before (place_of g) (place_of Form) ≡ false
      first Form fails = refl
      first (Goal a) fails = refl
      first (Fall a o) fails = refl

  module _ (formed : has_form task t ≡ true) where
    pub first_goal_fault : (a : ℕ) → a < (abstraction_of task t).size → is_goal_at_zero task t a ≡ false → ((b : ℕ) → b < a → is_goal_at_zero task t b ≡ true)
        → IsFirstFault task t (Some (Goal a))
    first_goal_fault a l fails before = ((l, fails), first)
      where
        first : (g : TableFault) → Fails task t g → comes_before (place_of g) (place_of (Goal a)) ≡ false
        first Form f = absurd (both_ways (has_form task t) f formed)
        first (Goal b) f = no_earlier b a [] [] (λ h. both_ways (is_goal_at_zero task t b) f.1 (before b h)) (λ _. refl)
        first (Fall b o) f = refl

    module _ (goals : (b : ℕ) → b < (abstraction_of task t).size → is_goal_at_zero task t b ≡ true) where
      pub first_fall_fault : (a o : ℕ) → a < (abstraction_of task t).size → IsFirstFailure (falls_within_share task t a) (Some o)
          → ((b : ℕ) → b < a → IsFirstFailure (falls_within_share task t b) None) → IsFirstFault task t (Some (Fall a o))
      first_fall_fault a o l row before = ((l, row.0), first)
        where
          first : (g : TableFault) → Fails task t g → comes_before (place_of g) (place_of (Fall a o)) ≡ false
          first Form f = absurd (both_ways (has_form task t) f formed)
          first (Goal b) f = absurd (both_ways (is_goal_at_zero task t b) f.1 (goals b f.0))
          first (Fall b p) f =
              no_earlier b a (p ∷ []) (o ∷ []) (λ h. both_ways (falls_within_share task t b p) f.1 (before b h p))
              (λ q. no_earlier p o [] []
              (λ h. both_ways (falls_within_share task t b p) f.1 (subst (λ (x : ℕ). falls_within_share task t x p ≡ true) (sym q) (row.1 p h)))
              (λ _. refl))

      pub no_fault : ((a : ℕ) → a < (abstraction_of task t).size → IsFirstFailure (falls_within_share task t a) None) → IsFirstFault task t None
      no_fault rows Form f = both_ways (has_form task t) f formed
      no_fault rows (Goal b) f = both_ways (is_goal_at_zero task t b) f.1 (goals b f.0)
      no_fault rows (Fall a o) f = both_ways (falls_within_share task t a o) f.1 (rows a f.0 o)

-- the abstraction that the code has of a table
module _ (over : TableAbstraction) (task : FiniteDomainTask) (t : Table) (of_task : task_in over ≡ task) (same : mapping_in over ≡ t.mapping) where
  pub abstraction_is : abstraction_in over ≡ abstraction_of task t
  abstraction_is = ap (λ (u : FiniteDomainTask). abstraction_by u (mapping_in over)) of_task ∙ ap (abstraction_by task) same

  abstracts : IsAbstractionOf task (abstraction_of task t)
  abstracts =
      subst (λ (mapping : Mapping). IsAbstractionOf task (abstraction_by task mapping)) same
      (subst (λ (u : FiniteDomainTask). IsAbstractionOf u (abstraction_by u (mapping_in over))) of_task (mapping_abstracts over))

  increasing : IsStrictlyIncreasing (variables_of t.mapping)
  increasing = subst (λ (mapping : Mapping). IsStrictlyIncreasing (variables_of mapping)) same (increasing_in over)

  -- what is found among the operators that are tried is the first of all
  pub row_first : (sums : List ℕ) → ((o : ℕ) → o < length task.operators → slice_index sums o ≡ share_of t.shares o) → (a : ℕ) → a < (abstraction_of task t).size
      → IsFirstFailure (falls_within_share task t a)
      (first_fall_at (abstraction_of task t) t.values (map (spender_of (slice_index sums)) (touching_from (is_tried (changes_of task) (abstraction_of task t).touches) 0 (length task.operators))) a)
  row_first sums shares a l =
      first_of_touching (falls_within_share task t a) (λ (s : Spender). falls_within (abstraction_of task t) t.values a s.operator s.share)
      (slice_index sums) (is_tried (changes_of task) (abstraction_of task t).touches) (length task.operators)
      (λ o h. ap (λ (x : ℕ). falls_within (abstraction_of task t) t.values a o x) (shares o h))
      (λ o e. untried_falls task t.mapping increasing a o l abstracts t.values (share_of t.shares o) e)
      (λ o h. falls_nowhere (abstraction_of task t) t.values a o (share_of t.shares o) (abstracts.operators a o h))

  module _ (sums : List ℕ) (shares : (o : ℕ) → o < length task.operators → slice_index sums o ≡ share_of t.shares o)
      (spenders : List Spender) (are : spenders ≡ map (spender_of (slice_index sums)) (touching_from (is_tried (changes_of task) (abstraction_in over).touches) 0 (length task.operators))) where
    row_is : (a : ℕ) (r : Option ℕ) → a < (abstraction_of task t).size → first_fall_at (abstraction_in over) t.values spenders a ≡ r → IsFirstFailure (falls_within_share task t a) r
    row_is a r l e =
        subst (IsFirstFailure (falls_within_share task t a))
        (sym (ap (λ (abs : abstraction.Abstraction). first_fall_at abs t.values (map (spender_of (slice_index sums)) (touching_from (is_tried (changes_of task) abs.touches) 0 (length task.operators))) a) abstraction_is)
        ∙ ap (λ (ss : List Spender). first_fall_at (abstraction_in over) t.values ss a) (sym are) ∙ e)
        (row_first sums shares a l)

    module _ (formed : has_form task t ≡ true) (goals : IsFirstGoal (abstraction_in over) t.values None) where
      goals_hold : (b : ℕ) → b < (abstraction_of task t).size → is_goal_at_zero task t b ≡ true
      goals_hold = subst (λ (abs : abstraction.Abstraction). IsFirstGoal abs t.values None) abstraction_is goals

      pub fall_is_first : (a o : ℕ) → IsFirstFall (abstraction_in over) t.values spenders (Some (a, o)) → IsFirstFault task t (Some (Fall a o))
      fall_is_first a o fall =
          let within : a < (abstraction_of task t).size = subst (λ (abs : abstraction.Abstraction). a < abs.size) abstraction_is fall.0 in
          first_fall_fault task t formed goals_hold a o within (row_is a (Some o) within fall.1)
          (λ b l. row_is b None (omega (arith, l, within)) (fall.2 b l))

      pub none_falls : IsFirstFall (abstraction_in over) t.values spenders None → IsFirstFault task t None
      none_falls none =
          no_fault task t formed goals_hold (λ a l. row_is a None l (none a (subst (λ (abs : abstraction.Abstraction). a < abs.size) (sym abstraction_is) l)))

  pub goal_is_first : has_form task t ≡ true → (a : ℕ) → IsFirstGoal (abstraction_in over) t.values (Some a) → IsFirstFault task t (Some (Goal a))
  goal_is_first formed a goal =
      let here = subst (λ (abs : abstraction.Abstraction). IsFirstGoal abs t.values (Some a)) abstraction_is goal in
      first_goal_fault task t formed a here.0 here.1 here.2

module _ (task : FiniteDomainTask) (c : CertificateValue) where
  fault_of : (i j : ℕ) (f : TableFault) → Violates task c (violation_at i j f) → IsSomeAnd (table_at c.columns i j) (λ t. Fails task t f)
  fault_of i j Form v = v
  fault_of i j (Goal a) v = v
  fault_of i j (Fall a o) v = v

  violates : (i j : ℕ) (f : TableFault) → IsSomeAnd (table_at c.columns i j) (λ t. Fails task t f) → Violates task c (violation_at i j f)
  violates i j Form v = v
  violates i j (Goal a) v = v
  violates i j (Fall a o) v = v

  of_clause : (i j : ℕ) (f : TableFault) → clause_of (violation_at i j f) ≡ 4
  of_clause i j Form = refl
  of_clause i j (Goal a) = refl
  of_clause i j (Fall a o) = refl

  place_at : (i j : ℕ) (f : TableFault) → violations.place_of (violation_at i j f) ≡ i ∷ j ∷ place_of f
  place_at i j Form = refl
  place_at i j (Goal a) = refl
  place_at i j (Fall a o) = refl

  -- what holds of the faults of tables holds of the violations of their clause
  by_faults : (P : Violation → Type 0) → ((i j : ℕ) (f : TableFault) → P (violation_at i j f)) → (w : Violation) → clause_of w ≡ 4 → P w
  by_faults P all (violation.Classes v) e = absurd (omega arith)
  by_faults P all (violation.Shares i o) e = absurd (omega arith)
  by_faults P all (violation.TableForm i j) e = all i j Form
  by_faults P all (violation.GoalValue i j a) e = all i j (Goal a)
  by_faults P all (violation.Fall i j a o) e = all i j (Fall a o)
  by_faults P all (violation.ClosedState i) e = absurd (omega arith)
  by_faults P all violation.Start e = absurd (omega arith)
  by_faults P all (violation.ClosedGoal i) e = absurd (omega arith)
  by_faults P all (violation.Successor i o) e = absurd (omega arith)

  table_refuted : (f : TableFault) (r : Option Table) → IfSome r (λ t. IsFirstFault task t None) → IsSomeAnd r (λ t. Fails task t f) → ⊥
  table_refuted f None sound fails = fails
  table_refuted f (Some t) sound fails = sound f fails

  table_of_some : (f : TableFault) (r : Option Table) → IsSomeAnd r (λ t. Fails task t f) → (t : Table) × (r ≡ Some t)
  table_of_some f None fails = absurd fails
  table_of_some f (Some t) fails = (t, refl)

  module _ (places : List TablePlace) (listing : IsListing c.columns places) where
    abbrev Says : ℕ → Option Violation → Type 0
    Says = says_table task c.columns places

    abbrev at : ℕ → ℕ → TablePlace
    at i j = record { column = i; table = j }

    -- a table that fails is listed
    listed : (i j : ℕ) (f : TableFault) → IsSomeAnd (table_at c.columns i j) (λ t. Fails task t f) → IsListed places (at i j)
    listed i j f fails = let t = table_of_some f (table_at c.columns i j) fails in listing.complete (at i j) t.0 t.1

    -- a table does not fail where the test of its place passes
    passed : (k i j : ℕ) (f : TableFault) → slice_get places k ≡ Some (at i j) → Says k None → IsSomeAnd (table_at c.columns i j) (λ t. Fails task t f) → ⊥
    passed k i j f e says fails = table_refuted f (table_at c.columns i j) (rw e at says) fails

    tables_met : IsFirstIn Says 0 (length places) None → IsMet task c 4
    tables_met none w e =
        by_faults (λ v. Violates task c v → ⊥)
        (λ i j f v.
        let there = listed i j f (fault_of i j f v) in
        passed there.0 i j f there.1 (none there.0 (omega arith) (slice_get_within places there.0 (at i j) there.1)) (fault_of i j f v)) w e

    module _ (k i j : ℕ) (f : TableFault) (here : slice_get places k ≡ Some (at i j)) (fault : IsFaultOf task (table_at c.columns i j) (Some f))
        (before : (m : ℕ) → m < k → Says m None) where
      first_place : (g : TableFault) (r : Option Table) → IsSomeAnd r (λ t. IsFirstFault task t (Some f)) → IsSomeAnd r (λ t. Fails task t g) → comes_before (place_of g) (place_of f) ≡ false
      first_place g None first fails = absurd fails
      first_place g (Some t) first fails = first.1 g fails

      fails_there : (r : Option Table) → IsSomeAnd r (λ t. IsFirstFault task t (Some f)) → IsSomeAnd r (λ t. Fails task t f)
      fails_there None first = first
      fails_there (Some t) first = first.0

      abbrev IsNoEarlier : ℕ → ℕ → TableFault → Type 0
      IsNoEarlier a b g = comes_before (a ∷ b ∷ place_of g) (i ∷ j ∷ place_of f) ≡ false

      -- of a table with a later number
      behind : (m a b : ℕ) (g : TableFault) → slice_get places m ≡ Some (at a b) → k < m → IsNoEarlier a b g
      behind m a b g there l =
          let after : IsBefore (at i j) a b = listing.ordered k m (at i j) (at a b) l here there in
          no_earlier a i (b ∷ place_of g) (j ∷ place_of f) (λ h. omega (arith, h, after.0))
          (λ q.
          let later : j < b = after.1 (sym q) in
          no_earlier b j (place_of g) (place_of f) (λ h. omega (arith, h, later)) (λ h. absurd (omega (arith, h, later))))

      -- of the table itself
      within : (a b : ℕ) (g : TableFault) → slice_get places k ≡ Some (at a b) → IsSomeAnd (table_at c.columns a b) (λ t. Fails task t g) → IsNoEarlier a b g
      within a b g there fails =
          let same = sym there ∙ here in
          let column : a ≡ i = ap (λ (r : Option TablePlace). option_map_or (λ p. p.column) r 0) same in
          let table : b ≡ j = ap (λ (r : Option TablePlace). option_map_or (λ p. p.table) r 0) same in
          let first : comes_before (place_of g) (place_of f) ≡ false = first_place g (table_at c.columns i j) fault (rw (column, table) at fails) in
          no_earlier a i (b ∷ place_of g) (j ∷ place_of f) (λ h. omega (arith, h, column)) (λ q. no_earlier b j (place_of g) (place_of f) (λ h. omega (arith, h, table)) (λ r. first))

      no_earlier_place : (a b : ℕ) (g : TableFault) → IsSomeAnd (table_at c.columns a b) (λ t. Fails task t g) → IsNoEarlier a b g
      no_earlier_place a b g fails = go (listed a b g fails)
        where
          go : IsListed places (at a b) → IsNoEarlier a b g
          go there =
              ⊎_elim (λ l. absurd (passed there.0 a b g there.1 (before there.0 l) fails))
              (λ l. ⊎_elim (λ m. behind there.0 a b g there.1 m)
              (λ m.
              let same : there.0 ≡ k = omega (arith, l, m) in
              within a b g (subst (λ (n : ℕ). slice_get places n ≡ Some (at a b)) same there.1) fails) (cases_lt k there.0)) (cases_lt there.0 k)

      table_found : (clause_of (violation_at i j f) ≡ 4) × IsFirstOfClause task c (violation_at i j f)
      table_found = (
        of_clause i j f,
        record {
          there = violates i j f (fails_there (table_at c.columns i j) fault);
          first = λ w e.
              by_faults (λ v. Violates task c v → comes_before (violations.place_of v) (violations.place_of (violation_at i j f)) ≡ false)
              (λ a b g v. rw (place_at a b g, place_at i j f) (no_earlier_place a b g (fault_of a b g v))) w (e ∙ of_clause i j f);
        },
      )

    -- C4 by the test of each table
    pub tables_found : (v : Option Violation) → IsFirstIn Says 0 (length places) v → IsFoundIn task c 4 v
    tables_found None none = tables_met none
    tables_found (Some v) is = go (slice_get places is.0) refl is.3
      where
        go : (r : Option TablePlace) → slice_get places is.0 ≡ r → IsSomeAnd r (λ p. (f : TableFault) × (v ≡ violation_at p.column p.table f) × IsFaultOf task (table_at c.columns p.column p.table) (Some f))
            → IsFoundIn task c 4 (Some v)
        go None e fault = absurd fault
        go (Some p) e fault = rw fault.1 (table_found is.0 p.column p.table fault.0 e fault.2 (λ m l. is.4 m (omega arith) l))
