-- The successors of a node.
use Rattle.std.proofs.Common.{◌≡◌, ℕ, Bool, true, false, List, length, Option, Some, None, refl, ap, arith, true≢false, cond}
use Rattle.std.specs.Prelude.{slice_get, option_and_then, filter, filter_map}
use Rattle.std.specs.List.{range_with_len}
use Rattle.std.specs.Option.{option_map, option_map_or}
use Rattle.fdr.specs.Tasks.{FiniteDomainTask, Operator, applies, applies_at, successor, step}
use Rattle.owner_theory.specs.Owners.{Node, Message, message_to, successor_by, successors}
use Rattle.owner_theory.specs.Families.{In}
use Rattle.owner_theory.proofs.Lists.{in_range, in_filter_map, filter_map_in, filter_map-filter}
use Rattle.owner_theory.proofs.States.{step_there}

-- each step of a node's state is among its successors
pub successor_in : (T : FiniteDomainTask) (me i : ℕ) (n : Node) (o : ℕ) (t : List ℕ) → step T n.state o ≡ Some t → In
    (message_to T me i n o t) (successors T me i n)
successor_in T me i n o t e =
    in_filter_map (successor_by T me i n) (range_with_len 0 (length T.operators)) o (message_to T me i n o t)
    (in_range 0 (length T.operators) o (omega arith) (let lt = step_there T n.state t o e in omega arith))
    (ap (option_map (message_to T me i n o)) e)

-- and each successor is a step
pub successor_is : (T : FiniteDomainTask) (me i : ℕ) (n : Node) (m : Message) → In m (successors T me i n) → (o : ℕ)
    × (t : List ℕ) × (step T n.state o ≡ Some t) × (message_to T me i n o t ≡ m)
successor_is T me i n m h =
    let (o, e) = filter_map_in (successor_by T me i n) (range_with_len 0 (length T.operators)) m h in
    go o (step T n.state o) refl e
  where
    go : (o : ℕ) (r : Option (List ℕ)) → step T n.state o ≡ r → option_map (message_to T me i n o) r ≡ Some m → (o : ℕ)
        × (t : List ℕ) × (step T n.state o ≡ Some t) × (message_to T me i n o t ≡ m)
    go o None is e = absurd (cc)
    go o (Some t) is e = let same : message_to T me i n o t ≡ m = cc in (o, t, is, same)

-- an operator that does not apply leads nowhere
no_step : (T : FiniteDomainTask) (s : List ℕ) (o : ℕ) → applies_at T o s ≡ false → step T s o ≡ None
no_step T s o = go (slice_get T.operators o)
  where
    chosen : (b : Bool) (t : List ℕ) → b ≡ false → cond b (Some t) None ≡ None
    chosen true t e = absurd (true≢false e)
    chosen false t e = refl

    go : (r : Option Operator) → option_map_or (λ op. applies op s) r false ≡ false → option_and_then
        (λ op. cond (applies op s) (Some (successor op s)) None) r ≡ None
    go None e = refl
    go (Some op) e = chosen (applies op s) (successor op s) e

-- the successors are those by the operators that apply, in the order of their numbers
pub successors_by_applicable : (T : FiniteDomainTask) (me i : ℕ) (n : Node)
    → filter_map (successor_by T me i n) (filter (λ o. applies_at T o n.state)
    (range_with_len 0 (length T.operators))) ≡ successors T me i n
successors_by_applicable T me i n =
    filter_map-filter (successor_by T me i n) (λ o. applies_at T o n.state)
    (λ o out. ap (option_map (message_to T me i n o)) (no_step T n.state o out))
    (range_with_len 0 (length T.operators))
