-- What the moves of an operator, or of the goal, tell of a table.
use Rattle.std.proofs.Common.{◌≡◌, ℕ, zero, suc, ◌+◌, ◌*◌, ◌<◌, ◌≤◌, Bool, true, false, List, [], ◌∷◌, length, get_or, Some, None, refl, sym, ap, ◌∙◌, arith, cond, subst, Result, Ok, Err}
use Rattle.std.specs.Prelude.{slice_get, IfOk}
use Rattle.std.specs.List.{list_all}
use Rattle.std.proofs.lemmas.Bool.{cond_both, lt-leb, ne_eqb}
use Rattle.cost.specs.Distances.{Distance, Finite, Infinite, ◌+ᵈ◌, is_at_most}
use Rattle.fdr.specs.declared.fact.Fact.{Fact}
use Rattle.fdr.specs.Tasks.{FiniteDomainTask, Operator, ranges, IsAssignment, IsOperator}
use Rattle.abstraction.specs.Abstractions.{Abstraction}
use Rattle.abstraction.specs.Steps.{found, at_some}
use Rattle.abstraction.specs.Projections.{size_of, agrees, index_after}
use Rattle.abstraction.specs.ProjectionLaws.{index_after_below}
use Rattle.abstraction_mapping.specs.declared.table.TableAbstraction.{TableAbstraction}
use Rattle.abstraction_mapping.specs.Mappings.{Mapping, variables_of, abstraction_by, counts_by, facts_by}
use Rattle.abstraction_mapping.specs.Views.{task_in, mapping_in, abstraction_in, counts_in}
use Rattle.abstraction_mapping.specs.MappingLaws.{mapping_abstracts}
use Rattle.abstraction_mapping.specs.ClassLaws.{size_by, goal_by, transition_by, is_task_in, classes_assigned}
use Rattle.checker_clauses.specs.Clauses.{is_zero}
use Rattle.checker_tables.specs.declared.moves.Moves.{Moves}
use Rattle.checker_tables.specs.Moves.{Leads, AreMoves, IsGathered, AreGoals, StaysBelow, IsLeast, IsLeastFailing}
use Rattle.checker_tables.specs.TableFaults.{is_fall_within, falls_within, has_goal_value, IsFirstGoal}
use Rattle.checker_tables.proofs.ReachLaws.{moved}
use Rattle.checker_tables.proofs.FallLaws.{falls_by, falls_nowhere}

times_one : (n : ℕ) → n * 1 ≡ n
times_one n = omega arith

-- the moves of a whole pattern stay within its abstract states
pub moves_stay : (rs ps : List ℕ) (precondition effect : List Fact) (m : Moves) → IsAssignment rs effect → AreMoves rs ps 1 precondition effect m
    → StaysBelow m.free.items m.source m.target (size_of rs ps) (size_of rs ps)
moves_stay rs ps precondition effect m effects made =
    record {
      positive = made.positive;
      below = λ a b h.
          let f = made.from a b h in
          let next = index_after_below rs ps f.0 effect effects.in_range f.1 in
          (omega (arith, f.1, f.3), omega (arith, f.4, next));
    }

-- an operator of the task sets values in range, and so it does with classes for values
pub effect_in_range : (a : TableAbstraction) (o : ℕ) (op : Operator) → slice_get (task_in a).operators o ≡ Some op → IsAssignment (counts_in a) (facts_by (mapping_in a) op.effect)
effect_in_range a o op is =
    let well : IsOperator (ranges (task_in a)) op =
    at_some (IsOperator (ranges (task_in a))) (slice_get (task_in a).operators o) op is (found (IsOperator (ranges (task_in a))) (task_in a).operators o (is_task_in a).operators) in
    classes_assigned a op.effect well.effect

-- an operator that does not exist has no transition
pub no_operator : (a : TableAbstraction) (values : List Distance) (o share limit : ℕ) → length (task_in a).operators ≤ o → IsLeastFailing (λ i. falls_within (abstraction_in a) values i o share) limit limit
no_operator a values o share limit e =
    record {
      within = omega arith;
      before = λ i l. falls_nowhere (abstraction_in a) values i o share ((mapping_abstracts a).operators i o e);
      there = λ l. absurd (omega arith);
    }

-- the transitions of an operator
module _ (task : FiniteDomainTask) (mapping : Mapping) (values : List Distance) (o share limit : ℕ) (fits : limit ≤ (abstraction_by task mapping).size)
    (op : Operator) (is : slice_get task.operators o ≡ Some op) (m : Moves)
    (made : AreMoves (counts_by mapping (ranges task)) (variables_of mapping) 1 (facts_by mapping op.precondition) (facts_by mapping op.effect) m) where
  abbrev abs : Abstraction
  abs = abstraction_by task mapping

  abbrev agree : ℕ → Bool
  agree a = list_all (agrees (counts_by mapping (ranges task)) (variables_of mapping) a) (facts_by mapping op.precondition)

  abbrev after : ℕ → ℕ
  after a = index_after (counts_by mapping (ranges task)) (variables_of mapping) a (facts_by mapping op.effect)

  leads_to : (a : ℕ) → agree a ≡ true → abs.transition a o ≡ Some (after a)
  leads_to a e = transition_by task mapping a o op is ∙ ap (λ (b : Bool). cond b (Some (after a)) None) e

  leads_nowhere : (a : ℕ) → agree a ≡ false → abs.transition a o ≡ None
  leads_nowhere a e = transition_by task mapping a o op is ∙ ap (λ (b : Bool). cond b (Some (after a)) None) e

  pub operator_falls : (least : ℕ) → IsLeast (is_fall_within values values share) m.free.items m.source m.target limit least
      → IsLeastFailing (λ a. falls_within abs values a o share) limit least
  operator_falls least found =
      record { within = found.within; before = before; there = there }
    where
      before : (a : ℕ) → a < least → falls_within abs values a o share ≡ true
      before a l = go (agree a) refl
        where
          go : (b : Bool) → agree a ≡ b → falls_within abs values a o share ≡ true
          go true e =
              falls_by abs values a o share (after a) (leads_to a e)
              ∙ found.before a (after a)
              (moved m.free.items m.source m.target m.source m.target (a * 1) (after a * 1) a (after a)
              refl refl (times_one a) (times_one (after a)) (made.to a (omega (arith, found.within, fits, l, size_by task mapping)) e)) l
          go false e = falls_nowhere abs values a o share (leads_nowhere a e)

      there : least < limit → falls_within abs values least o share ≡ false
      there l =
          let t = found.there l in
          let f = made.from least t.0 t.1 in
          let same : f.0 ≡ least = sym (times_one f.0) ∙ sym f.3 in
          let meets : agree least ≡ true = subst (λ (a : ℕ). agree a ≡ true) same f.2 in
          let next : after least ≡ t.0 = ap after (sym same) ∙ sym (times_one (after f.0)) ∙ sym f.4 in
          falls_by abs values least o share (after least) (leads_to least meets)
          ∙ ap (λ (b : ℕ). is_fall_within values values share least b) next ∙ t.2

-- ---- goals

no_more_than_zero : (d : Distance) → is_at_most d (Finite 0 +ᵈ Finite 0) ≡ is_zero d
no_more_than_zero Infinite = refl
no_more_than_zero (Finite zero) = refl
no_more_than_zero (Finite (suc n)) = lt-leb (suc n) (0 + 0) (omega arith) ∙ sym (ne_eqb (suc n) 0 (λ (e : suc n ≡ 0). omega arith))

-- what an `Ok` has, by what it had
pub ok_through : {X E : Type 0} (P Q : X → Type 0) (r : Result X E) → ((x : X) → P x → Q x) → IfOk r P → IfOk r Q
ok_through P Q (Ok x) f h = f x h
ok_through P Q (Err e) f h = h

pub goals_are : (task : FiniteDomainTask) (mapping : Mapping) (effect : List Fact) (goals m : Moves)
    → AreMoves (counts_by mapping (ranges task)) (variables_of mapping) 1 (facts_by mapping task.goal) effect goals → IsGathered goals m → AreGoals (abstraction_by task mapping) m
goals_are task mapping effect goals m made gathered =
    record { leads = λ a b. (to a b, from a b); positive = gathered.positive made.positive }
  where
    to : (a b : ℕ) → Leads m a b → (a < (abstraction_by task mapping).size) × ((abstraction_by task mapping).is_goal a ≡ true) × (b ≡ 0)
    to a b h =
        let old = (gathered.leads a b).0 h in
        let f = made.from a old.1 old.2 in
        let same : f.0 ≡ a = sym (times_one f.0) ∙ sym f.3 in (
          omega (arith, f.1, f.3, size_by task mapping),
          goal_by task mapping a
              ∙ subst (λ (x : ℕ). list_all (agrees (counts_by mapping (ranges task)) (variables_of mapping) x) (facts_by mapping task.goal) ≡ true) same f.2,
          old.0,
        )

    from : (a b : ℕ) → (a < (abstraction_by task mapping).size) × ((abstraction_by task mapping).is_goal a ≡ true) × (b ≡ 0) → Leads m a b
    from a b h =
        let next : ℕ = index_after (counts_by mapping (ranges task)) (variables_of mapping) a effect * 1 in
        (gathered.leads a b).1 (
          h.2,
          next,
          moved goals.free.items goals.source goals.target goals.source goals.target (a * 1) next a next
              refl refl (times_one a) refl (made.to a (omega (arith, h.0, size_by task mapping)) (sym (goal_by task mapping a) ∙ h.1)),
        )

module _ (abs : Abstraction) (values zeros : List Distance) (one : zeros ≡ Finite 0 ∷ []) (m : Moves) (goals : AreGoals abs m) where
  pub goals_stay : StaysBelow m.free.items m.source m.target abs.size (length zeros)
  goals_stay =
      record {
        positive = goals.positive;
        below = λ a b h. let g = (goals.leads a b).0 h in (g.0, omega (arith, g.2, ap length one));
      }

  test_is : (a : ℕ) → is_fall_within values zeros 0 a 0 ≡ is_zero (get_or values a Infinite)
  test_is a =
      ap (λ (ds : List Distance). is_at_most (get_or values a Infinite) (Finite 0 +ᵈ get_or ds 0 Infinite)) one
      ∙ no_more_than_zero (get_or values a Infinite)

  module _ (size least : ℕ) (is : size ≡ abs.size) (found : IsLeast (is_fall_within values zeros 0) m.free.items m.source m.target size least) where
    passes : (a : ℕ) → a < least → has_goal_value abs values a ≡ true
    passes a l =
        cond_both (abs.is_goal a) (is_zero (get_or values a Infinite)) true (λ b. b ≡ true)
        (λ e. sym (test_is a) ∙ found.before a 0 ((goals.leads a 0).1 (omega (arith, found.within, is, l), e, refl)) l)
        (λ e. refl)

    pub goal_found : least < size → IsFirstGoal abs values (Some least)
    goal_found l =
        let t = found.there l in
        let g = (goals.leads least t.0).0 t.1 in (
          omega arith,
          ap (λ (b : Bool). cond b (is_zero (get_or values least Infinite)) true) g.1 ∙ sym (test_is least)
              ∙ ap (λ (b : ℕ). is_fall_within values zeros 0 least b) (sym g.2) ∙ t.2,
          passes,
        )

    pub goals_hold : size ≤ least → IsFirstGoal abs values None
    goals_hold l = λ a k. passes a (omega arith)
