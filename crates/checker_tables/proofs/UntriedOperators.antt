-- An operator whose effects are among its conditions leaves each abstract state as it is, so it lowers no value.
use Rattle.std.proofs.Common.{◌≡◌, ◌⊎◌, ℕ, zero, suc, ◌*◌, ◌/◌, ◌%◌, ◌<◌, ◌≤◌, Bool, true, false, ◌&&◌, not, List, [], ◌∷◌, length, get_or, Option, Some, None, refl, sym, ap, subst, ◌∙◌, arith, cond, eqb, inl, inr, ⊎_elim}
use Rattle.std.specs.Prelude.{IfSome, nat_le, slice_get, slice_index, slice_index_or, option_map}
use Rattle.std.specs.List.{list_all}
use Rattle.std.specs.List.Sorted.{IsStrictlyIncreasing}
use Rattle.std.proofs.lemmas.Bool.{eqb-true, eq-eqb, and_parts, and_from, or_cases, false≢true}
use Rattle.std.proofs.lemmas.Nat.{div_below}
use Rattle.std.proofs.Math.Nat.{mod-add-div}
use Rattle.std.proofs.lemmas.List.Folds.{list_all-map}
use Rattle.std.proofs.lemmas.Option.{slice_get_cases, slice_get-map, get_or_from_slice_get}
use Rattle.cost.specs.Distances.{Distance}
use Rattle.fdr.specs.declared.fact.Fact.{Fact}
use Rattle.fdr.specs.Tasks.{FiniteDomainTask, Operator, ranges}
use Rattle.abstraction.specs.Abstractions.{Abstraction, IsAbstractionOf}
use Rattle.abstraction.specs.Projections.{size_of, agrees, value_after, index_after}
use Rattle.abstraction.proofs.DigitLaws.{Rising, rising_from}
use Rattle.abstraction.proofs.FactLaws.{agrees_at, facts_told}
use Rattle.abstraction_domain.specs.Domains.{class_fact}
use Rattle.abstraction_mapping.specs.Mappings.{Mapping, Pattern, Domains, variables_of, abstraction_by, counts_by, fact_by, facts_by}
use Rattle.abstraction_mapping.specs.ClassLaws.{size_by, transition_by}
use Rattle.checker_tables.specs.Changes.{is_same, is_among, leaves_states, changes_of, is_tried}
use Rattle.checker_tables.specs.TableFaults.{falls_within}
use Rattle.checker_tables.proofs.FallLaws.{falls_nowhere, falls_to_itself}

-- ---- facts

same_fact : (f g : Fact) → is_same f g ≡ true → f ≡ g
same_fact f g e =
    let parts = and_parts (eqb f.variable g.variable) (eqb f.value g.value) e in
    ap (λ (v : ℕ). record { variable = v; value = f.value }) (eqb-true f.variable g.variable parts.0)
    ∙ ap (λ (x : ℕ). record { variable = g.variable; value = x }) (eqb-true f.value g.value parts.1)

among_one : (test : Fact → Bool) (facts : List Fact) (f : Fact) → is_among facts f ≡ true → list_all test facts ≡ true → test f ≡ true
among_one test [] f e all = absurd (false≢true e)
among_one test (g ∷ gs) f e all =
    let parts = and_parts (test g) (list_all test gs) all in
    ⊎_elim
    (λ (same : is_same f g ≡ true). subst (λ (h : Fact). test h ≡ true) (sym (same_fact f g same)) parts.0)
    (λ (later : is_among gs f ≡ true). among_one test gs f later parts.1)
    (or_cases (is_same f g) (is_among gs f) e)

-- what holds of all facts holds of those among them
among_all : (test : Fact → Bool) (facts others : List Fact) → list_all (is_among facts) others ≡ true → list_all test facts ≡ true → list_all test others ≡ true
among_all test facts [] e all = refl
among_all test facts (f ∷ fs) e all =
    let parts = and_parts (is_among facts f) (list_all (is_among facts) fs) e in
    and_from (test f) (list_all test fs) (among_one test facts f parts.0 all) (among_all test facts fs parts.1 all)

-- what holds of all conditions of an operator that leaves states holds of its effects
pub effects_hold : (test : Fact → Bool) (op : Operator) → leaves_states op ≡ true → list_all test op.precondition ≡ true → list_all test op.effect ≡ true
effects_hold test op leaves =
    among_all test op.precondition op.effect (and_parts (nat_le (length op.effect) 64) (list_all (is_among op.precondition) op.effect) leaves).1

-- ---- abstract states

-- facts that agree with a value leave it
value_stays : (p x : ℕ) (fs : List Fact) → list_all (agrees_at p x) fs ≡ true → value_after fs p x ≡ x
value_stays p x [] h = refl
value_stays p x (f ∷ fs) h = let parts = and_parts (agrees_at p x f) (list_all (agrees_at p x) fs) h in go (eqb f.variable p) refl parts.0 (value_stays p x fs parts.1)
  where
    go : (b : Bool) → eqb f.variable p ≡ b → agrees_at p x f ≡ true → value_after fs p x ≡ x → value_after fs p (cond b f.value x) ≡ x
    go false e here rest = rest
    go true e here rest =
        let same : p ≡ f.variable = sym (eqb-true f.variable p e) in
        let met : eqb x f.value ≡ true = subst (λ (b : Bool). cond b (eqb x f.value) true ≡ true) (eq-eqb p f.variable same) here in
        subst (λ (y : ℕ). value_after fs p y ≡ x) (eqb-true x f.value met) rest

module _ (rs : List ℕ) where
  positive : (i r q : ℕ) → i < r * q → 0 < r
  positive i zero q h = absurd (omega arith)
  positive i (suc r) q h = omega arith

  pub index_stays : (ps : List ℕ) (i : ℕ) (fs : List Fact) → Rising ps → i < size_of rs ps → list_all (agrees rs ps i) fs ≡ true → index_after rs ps i fs ≡ i
  index_stays [] i fs rising l h = omega arith
  index_stays (p ∷ ps) i fs rising l h =
      let parts = (facts_told rs p ps i fs rising).0 h in
      let some : 0 < slice_index rs p = positive i (slice_index rs p) (size_of rs ps) l in
      let high : i / slice_index rs p < size_of rs ps = div_below i (slice_index rs p) (size_of rs ps) some (omega arith) in
      rw (value_stays p (i % slice_index rs p) fs parts.0, index_stays ps (i / slice_index rs p) fs rising.1 high parts.1) (mod-add-div i (slice_index rs p))

all_by : (mapping : Mapping) (test : Fact → Bool) (facts : List Fact) → list_all test (facts_by mapping facts) ≡ list_all (λ f. test (fact_by mapping f)) facts
all_by (Pattern pattern) test facts = refl
all_by (Domains rows) test facts = list_all-map test (class_fact rows) facts

module _ (task : FiniteDomainTask) (mapping : Mapping) (increasing : IsStrictlyIncreasing (variables_of mapping)) (i o : ℕ) (l : i < (abstraction_by task mapping).size) where
  abbrev abs : Abstraction
  abs = abstraction_by task mapping

  abbrev agree : Fact → Bool
  agree = agrees (counts_by mapping (ranges task)) (variables_of mapping) i

  -- the transition of an operator that leaves states leads from an abstract state to itself
  transition_stays : (op : Operator) → slice_get task.operators o ≡ Some op → leaves_states op ≡ true → IfSome (abs.transition i o) (λ j. j ≡ i)
  transition_stays op is leaves = subst (λ (r : Option ℕ). IfSome r (λ j. j ≡ i)) (sym (transition_by task mapping i o op is)) (go (list_all agree (facts_by mapping op.precondition)) refl)
    where
      effects_agree : list_all agree (facts_by mapping op.precondition) ≡ true → list_all agree (facts_by mapping op.effect) ≡ true
      effects_agree h =
          all_by mapping agree op.effect
          ∙ effects_hold (λ f. agree (fact_by mapping f)) op leaves (sym (all_by mapping agree op.precondition) ∙ h)

      go : (b : Bool) → list_all agree (facts_by mapping op.precondition) ≡ b
          → IfSome (cond b (Some (index_after (counts_by mapping (ranges task)) (variables_of mapping) i (facts_by mapping op.effect))) None) (λ j. j ≡ i)
      go false e = tt
      go true e =
          index_stays (counts_by mapping (ranges task)) (variables_of mapping) i (facts_by mapping op.effect)
          (rising_from (variables_of mapping) increasing) (omega (arith, l, size_by task mapping)) (effects_agree e)

  -- no value falls by an operator that is not tried
  pub untried_falls : IsAbstractionOf task abs → (values : List Distance) (share : ℕ) → is_tried (changes_of task) abs.touches o ≡ false
      → falls_within abs values i o share ≡ true
  untried_falls abstracts values share untried = cases (slice_get_cases task.operators o).1
    where
      changes : (op : Operator) → slice_get task.operators o ≡ Some op → slice_index_or (changes_of task) o false ≡ not (leaves_states op)
      changes op is =
          get_or_from_slice_get (changes_of task) o (not (leaves_states op)) false
          (slice_get-map (λ (x : Operator). not (leaves_states x)) task.operators o ∙ ap (option_map (λ (x : Operator). not (leaves_states x))) is)

      go : (op : Operator) → slice_get task.operators o ≡ Some op → (b : Bool) → leaves_states op ≡ b → falls_within abs values i o share ≡ true
      go op is true leaves = falls_to_itself abs values i o share (transition_stays op is leaves)
      go op is false leaves =
          let flag : slice_index_or (changes_of task) o false ≡ true = changes op is ∙ ap not leaves in
          falls_to_itself abs values i o share (abstracts.untouched i o l (sym (ap (λ (b : Bool). b && abs.touches o) flag) ∙ untried))

      cases : ((op : Operator) × (o < length task.operators) × (slice_get task.operators o ≡ Some op) × (get_or task.operators o op ≡ op)) ⊎ ((length task.operators ≤ o) × (slice_get task.operators o ≡ None))
          → falls_within abs values i o share ≡ true
      cases (inl h) = go h.0 h.2 (leaves_states h.0) refl
      cases (inr h) = falls_nowhere abs values i o share (abstracts.operators i o h.0)
