-- Successors that are reached at a cost at the bound or past it are treated by doing nothing.
use Rattle.std.proofs.Common.{◌≡◌, ℕ, ◌+◌, ◌≤◌, Bool, true, false, ◌==◌, List, [], ◌∷◌, length, Option, Some, None, refl, sym, ap, ◌∙◌, subst, arith, cond}
use Rattle.std.specs.Prelude.{filter, filter_map, nat_le}
use Rattle.std.specs.List.{cons_option, range_with_len}
use Rattle.std.specs.Option.{option_map}
use Rattle.std.proofs.lemmas.Bool.{and_parts, leb-true}
use Rattle.cost.specs.Distances.{Distance, Finite, is_at_most, ◌≤ᵈ◌}
use Rattle.cost.proofs.DistanceLaws.{at_most_through, below_more, left_at_most_sum, is_at_most-true, is_at_most-from}
use Rattle.fdr.specs.Tasks.{FiniteDomainTask, cost_of, step}
use Rattle.owner_theory.specs.Owners.{SearchSpace, Message, Node, Owner, f_value, message_to, successor_by, successors, took, posted, treat, treat_all}
use Rattle.owner_theory.proofs.States.{step_there}
use Rattle.openlist.specs.declared.entry.Rank.{Rank}
use Rattle.owner_space.specs.Costs.{least_cost, greatest_cost}
use Rattle.scp.proofs.Applying.{applied_step}
use Rattle.owner_space.proofs.CostBounds.{least_at_most, at_most_greatest}
use Rattle.owner.specs.Owned.{max_total, HasSmallSuccessors}
use Rattle.owner_space.specs.Late.{all_are_late}

-- ---- some messages are left out

treat_bound : (space : SearchSpace) (me : ℕ) (w : Owner) (m : Message) → (treat space me w m).bound ≡ w.bound
treat_bound space me w m = go (is_at_most w.bound (f_value space m.state m.cost)) (space.owner_of m.state == me)
  where
    go : (p q : Bool) → (cond p w (cond q (took space w m) (posted space w m))).bound ≡ w.bound
    go true q = refl
    go false true = refl
    go false false = refl

past_treats : (space : SearchSpace) (me : ℕ) (w : Owner) (m : Message) → is_at_most w.bound (f_value space m.state m.cost) ≡ true
    → treat space me w m ≡ w
past_treats space me w m past =
    λ j. cond (past j) w (cond (space.owner_of m.state == me) (took space w m) (posted space w m))

-- from an owner with this bound, the operators that `keep` keeps and all of them come to the same
abbrev TreatSame : SearchSpace → ℕ → (ℕ → Option Message) → (ℕ → Bool) → Distance → List ℕ → Type 0
TreatSame space me by keep bound os = (x : Owner) → x.bound ≡ bound
    → treat_all space me x (filter_map by (filter keep os)) ≡ treat_all space me x (filter_map by os)

-- operators are left out whose messages reach the bound
pub late_dropped : (space : SearchSpace) (me : ℕ) (by : ℕ → Option Message) (keep : ℕ → Bool) (bound : Distance)
    → ((o : ℕ) (m : Message) → keep o ≡ false → by o ≡ Some m → is_at_most bound (f_value space m.state m.cost) ≡ true)
    → (os : List ℕ) (w : Owner) → w.bound ≡ bound
    → treat_all space me w (filter_map by (filter keep os)) ≡ treat_all space me w (filter_map by os)
late_dropped space me by keep bound late [] w same = refl
late_dropped space me by keep bound late (o ∷ os) w same = go (keep o) refl (late_dropped space me by keep bound late os)
  where
    kept : (r : Option Message) → TreatSame space me by keep bound os
        → treat_all space me w (cons_option r (filter_map by (filter keep os))) ≡ treat_all space me w (cons_option r (filter_map by os))
    kept None rest = rest w same
    kept (Some m) rest = rest (treat space me w m) (treat_bound space me w m ∙ same)

    dropped : (r : Option Message) → by o ≡ r → keep o ≡ false
        → treat_all space me w (filter_map by os) ≡ treat_all space me w (cons_option r (filter_map by os))
    dropped None is out = refl
    dropped (Some m) is out =
        ap (λ (x : Owner). treat_all space me x (filter_map by os))
        (sym (past_treats space me w m (ap (λ (b : Distance). is_at_most b (f_value space m.state m.cost)) same ∙ late o m out is)))

    go : (k : Bool) → keep o ≡ k → TreatSame space me by keep bound os
        → treat_all space me w (filter_map by (cond k (o ∷ filter keep os) (filter keep os))) ≡ treat_all space me w (cons_option (by o) (filter_map by os))
    go true is rest = kept (by o) rest
    go false is rest = rest w same ∙ dropped (by o) refl is

-- ---- f is at least g

-- a successor of the node that is reached at a cost at the bound or past it has an f-value there, too
pub late_by : (space : SearchSpace) (me index : ℕ) (n : Node) (bound : Distance) (o : ℕ) (m : Message)
    → is_at_most bound (Finite (n.cost + cost_of space.task o)) ≡ true → successor_by space.task me index n o ≡ Some m
    → is_at_most bound (f_value space m.state m.cost) ≡ true
late_by space me index n bound o m late leads = go (step space.task n.state o) leads
  where
    go : (r : Option (List ℕ)) → option_map (message_to space.task me index n o) r ≡ Some m → is_at_most bound (f_value space m.state m.cost) ≡ true
    go None is = absurd cc
    go (Some t) is =
        let same : message_to space.task me index n o t ≡ m = cc in
        subst (λ (x : Message). is_at_most bound (f_value space x.state x.cost) ≡ true) same
        (is_at_most-from bound (f_value space t (n.cost + cost_of space.task o))
        (at_most_through bound (Finite (n.cost + cost_of space.task o)) (f_value space t (n.cost + cost_of space.task o))
        (is_at_most-true bound (Finite (n.cost + cost_of space.task o)) late)
        (left_at_most_sum (Finite (n.cost + cost_of space.task o)) (space.heuristic t))))

-- ---- all successors are late

-- what the test of all says
record AllLate (task : FiniteDomainTask) (bound : Distance) (rank : Rank) : Type 0 where
  pub cost : rank.cost + greatest_cost task ≤ max_total
  pub steps : rank.steps + 1 ≤ max_total
  pub late : bound ≤ᵈ Finite (rank.cost + least_cost task)

all_late : (task : FiniteDomainTask) (bound : Distance) (rank : Rank) → all_are_late task bound rank ≡ true → AllLate task bound rank
all_late task bound rank h =
    let (costs, rest) = and_parts (nat_le (rank.cost + greatest_cost task) max_total) _ h in
    let (steps, late) = and_parts (nat_le (rank.steps + 1) max_total) (is_at_most bound (Finite (rank.cost + least_cost task))) rest in
    record {
      cost = leb-true (rank.cost + greatest_cost task) max_total costs;
      steps = leb-true (rank.steps + 1) max_total steps;
      late = is_at_most-true bound (Finite (rank.cost + least_cost task)) late;
    }

pub late_small : (task : FiniteDomainTask) (bound : Distance) (rank : Rank) (n : Node) → all_are_late task bound rank ≡ true
    → n.cost ≡ rank.cost → n.steps ≡ rank.steps → HasSmallSuccessors task n
late_small task bound rank n h cost steps o applies =
    let (t, leads) = applied_step task n.state o applies in
    let most = at_most_greatest task o (step_there task n.state t o leads) in
    let all = all_late task bound rank h in
    let most_cost = all.cost in
    let most_steps = all.steps in
    (omega arith, omega arith)

filter_none : (os : List ℕ) → filter (λ o. false) os ≡ []
filter_none [] = refl
filter_none (o ∷ os) = filter_none os

pub late_treated : (space : SearchSpace) (me index : ℕ) (n : Node) (rank : Rank) (bound : Distance) (w : Owner) → w.bound ≡ bound
    → all_are_late space.task bound rank ≡ true → n.cost ≡ rank.cost
    → treat_all space me w (successors space.task me index n) ≡ w
late_treated space me index n rank bound w same h cost =
    sym (late_dropped space me by (λ o. false) bound (λ o m _ leads. late_by space me index n bound o m (late o m leads) leads) all w same)
    ∙ ap (λ (os : List ℕ). treat_all space me w (filter_map by os)) (filter_none all)
  where
    by : ℕ → Option Message
    by = successor_by space.task me index n

    all : List ℕ
    all = range_with_len 0 (length space.task.operators)

    late : (o : ℕ) (m : Message) → by o ≡ Some m → is_at_most bound (Finite (n.cost + cost_of space.task o)) ≡ true
    late o m leads = go (step space.task n.state o) refl leads
      where
        go : (r : Option (List ℕ)) → step space.task n.state o ≡ r → option_map (message_to space.task me index n o) r ≡ Some m
            → is_at_most bound (Finite (n.cost + cost_of space.task o)) ≡ true
        go None is none = absurd cc
        go (Some t) is some =
            let least = least_at_most space.task o (step_there space.task n.state t o is) in
            is_at_most-from bound (Finite (n.cost + cost_of space.task o))
            (below_more bound (rank.cost + least_cost space.task) (n.cost + cost_of space.task o)
            (all_late space.task bound rank h).late (omega arith))
