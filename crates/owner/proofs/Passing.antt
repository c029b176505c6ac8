-- Successors of which it is known that nothing changes when they are treated.
use Rattle.std.proofs.Common.{◌≡◌, ℕ, zero, suc, ◌+◌, ◌<◌, Bool, true, false, ◌==◌, List, [], ◌∷◌, ◌++◌, length, map, get_or, take, Option, Some, None, All, refl, sym, ap, ◌∙◌, subst, arith, cond, true≢false, add-one}
use Rattle.std.specs.Prelude.{slice_index_or}
use Rattle.std.proofs.lemmas.Bool.Decides.{nat_tests}
use Rattle.std.proofs.lemmas.List.{get_or-map, map_push, take_more}
use Rattle.std.proofs.lemmas.List.Elements.{All-nil, All-cons, All-head, All-tail}
use Rattle.cost.specs.Distances.{is_at_most}
use Rattle.fdr.specs.Tasks.{cost_of, is_goal_state, step}
use Rattle.owner_theory.specs.Owners.{SearchSpace, Message, Node, Owner, same_state, rank_less, node_of, improve, f_value, message_to, took, posted, treat}
use Rattle.owner_theory.proofs.States.{same_state-true}
use Rattle.closed.specs.declared.table.Outcome.{Outcome}
use Rattle.closed.specs.declared.table.Outcome.TheVariants.{Better, Kept}
use Rattle.openlist.specs.declared.entry.Rank.{Rank}
use Rattle.closed.specs.declared.message.Parent.{Parent}
use Rattle.closed.specs.Tables.{fresh, outcome_from, outcome_of}
use Rattle.owner.specs.declared.successors.Successor.{Successor}
use Rattle.owner.specs.Successors.{ChangesNothing}
use Rattle.owner.proofs.Owning.{kept_treats}

-- ---- ranks only fall

less_than_no_more : (c s c' s' c'' s'' : ℕ) → rank_less c s c' s' ≡ false → rank_less c'' s'' c' s' ≡ true → rank_less c s c'' s'' ≡ false
less_than_no_more c s c' s' c'' s'' h l = grind (arith, nat_tests)

-- a state that is known at no greater rank stays so when another is taken
kept_after : (k : ℕ) (ns : List Node) (m : Node) (x : Message) → outcome_from k ns m ≡ Kept → outcome_from k (improve ns x) m ≡ Kept
kept_after k [] m x h = absurd (cc)
kept_after k (n ∷ ns) m x h =
    go (same_state n.state m.state) (rank_less m.cost m.steps n.cost n.steps) (same_state n.state x.state) (rank_less x.cost x.steps n.cost n.steps)
    refl refl refl refl (kept_after (suc k) ns m x) h
  where
    at_front : Bool → Bool → List Node → Outcome
    at_front same less rest = cond same (cond less (Better k) Kept) (outcome_from (suc k) rest m)

    front : (p : Node) (rest : List Node) (same less : Bool) → same_state p.state m.state ≡ same → rank_less m.cost m.steps p.cost p.steps ≡ less
        → outcome_from k (p ∷ rest) m ≡ cond same (cond less (Better k) Kept) (outcome_from (suc k) rest m)
    front p rest same less e l = λ j. cond (e j) (cond (l j) (Better k) Kept) (outcome_from (suc k) rest m)

    go : (a r b s : Bool) → same_state n.state m.state ≡ a → rank_less m.cost m.steps n.cost n.steps ≡ r → same_state n.state x.state ≡ b
        → rank_less x.cost x.steps n.cost n.steps ≡ s → (outcome_from (suc k) ns m ≡ Kept → outcome_from (suc k) (improve ns x) m ≡ Kept)
        → cond a (cond r (Better k) Kept) (outcome_from (suc k) ns m) ≡ Kept
        → outcome_from k (cond b (cond s (node_of x ∷ ns) (n ∷ ns)) (n ∷ improve ns x)) m ≡ Kept
    go true true b s ea er eb es rest h' = absurd (cc)
    go true false true true ea er eb es rest h' =
        front (node_of x) ns true false (ap (λ (st : List ℕ). same_state st m.state) (sym (same_state-true n.state x.state eb)) ∙ ea)
        (less_than_no_more m.cost m.steps n.cost n.steps x.cost x.steps er es)
    go true false true false ea er eb es rest h' = front n ns true false ea er
    go true false false s ea er eb es rest h' = front n (improve ns x) true false ea er
    go false r true true ea er eb es rest h' =
        front (node_of x) ns false (rank_less m.cost m.steps x.cost x.steps)
        (ap (λ (st : List ℕ). same_state st m.state) (sym (same_state-true n.state x.state eb)) ∙ ea) refl
        ∙ h'
    go false r true false ea er eb es rest h' = front n ns false r ea er ∙ h'
    go false r false s ea er eb es rest h' = front n (improve ns x) false r ea er ∙ rest h'

pub still_nothing : (space : SearchSpace) (me : ℕ) (o o' : Owner) (x m : Message) → o' ≡ treat space me o x → ChangesNothing space me o.nodes m
    → ChangesNothing space me o'.nodes m
still_nothing space me o o' x m is h =
    subst (λ (p : Owner). ChangesNothing space me p.nodes m) (sym is)
    (record {
      own = h.own;
      no_goal = h.no_goal;
      kept = go (is_at_most o.bound (f_value space x.state x.cost)) (space.owner_of x.state == me);
    })
  where
    go : (p q : Bool) → outcome_of ((cond p o (cond q (took space o x) (posted space o x))).nodes) (node_of m) ≡ Kept
    go true q = h.kept
    go false true = kept_after 0 o.nodes (node_of m) x h.kept
    go false false = h.kept

pub nothing_treats : (space : SearchSpace) (me : ℕ) (o : Owner) (m : Message) → ChangesNothing space me o.nodes m → o ≡ treat space me o m
nothing_treats space me o m h = kept_treats space me o m h.kept h.no_goal h.own

-- ---- states that an operator leads to

pub same_some : {X : Type 0} (x y : X) → Some x ≡ Some y → x ≡ y
same_some x y e = cc

-- ---- what is known of successors, one after the other

pub none_known : (P : ℕ → Type 0) (k : ℕ) → slice_index_or [] k false ≡ true → P k
none_known P k h = absurd (true≢false (sym h))

pub known_more : (P : ℕ → Type 0) (known : List Bool) (b : Bool) → ((k : ℕ) → slice_index_or known k false ≡ true → P k) → (b ≡ true → P (length known))
    → (k : ℕ) → slice_index_or (known ++ b ∷ []) k false ≡ true → P k
known_more P [] b h here zero e = here e
known_more P [] b h here (suc k) e = absurd (true≢false (sym e))
known_more P (x ∷ xs) b h here zero e = h zero e
known_more P (x ∷ xs) b h here (suc k) e = known_more (λ i. P (suc i)) xs b (λ i. h (suc i)) here k e

-- the operators of successors
pub operator_at : {F : Type 0} (ss : List (Successor F)) (k : ℕ) (s : Successor F) → k < length ss → s ≡ get_or ss k s
    → get_or (map (λ x. x.operator) ss) k 0 ≡ s.operator
operator_at ss k s lt at = get_or-map (λ x. x.operator) ss k s 0 lt ∙ ap (λ x. x.operator) (sym at)

pub all_by_operator : {F : Type 0} (P : ℕ → Type 0) (ss : List (Successor F)) (os : List ℕ) → map (λ s. s.operator) ss ≡ os → All P os
    → All (λ s. P s.operator) ss
all_by_operator {F = F} P ss os is all = go ss (subst (λ (l : List ℕ). All P l) (sym is) all)
  where
    go : (ss : List (Successor F)) → All P (map (λ s. s.operator) ss) → All (λ s. P s.operator) ss
    go [] h = All-nil (λ s. P s.operator)
    go (s ∷ ss) h =
        All-cons (λ s. P s.operator) s ss (All-head P s.operator (map (λ x. x.operator) ss) h) (go ss (All-tail P s.operator (map (λ x. x.operator) ss) h))

pub all_operators : {F : Type 0} (P : ℕ → Type 0) (ss : List (Successor F)) → All (λ s. P s.operator) ss → All P (map (λ s. s.operator) ss)
all_operators P [] h = All-nil P
all_operators P (s ∷ ss) h =
    All-cons P s.operator (map (λ x. x.operator) ss) (All-head (λ x. P x.operator) s ss h) (all_operators P ss (All-tail (λ x. P x.operator) s ss h))

-- the successor that leads to a state of its own that is known and no goal state
pub nothing_by : (space : SearchSpace) (me index : ℕ) (s0 : List ℕ) (rank : Rank) (nodes : List Node) (state : List ℕ) (o : ℕ) (t : List ℕ)
    → step space.task s0 o ≡ Some state → step space.task s0 o ≡ Some t → space.owner_of state ≡ me → is_goal_state space.task state ≡ false
    → ((after : Rank) (parent : Option Parent) → after.cost ≡ rank.cost + cost_of space.task o → after.steps ≡ rank.steps + 1
    → outcome_of nodes (fresh state after parent) ≡ Kept)
    → ChangesNothing space me nodes (message_to space.task me index (fresh s0 rank None) o t)
nothing_by space me index s0 rank nodes state o t leads leads' own no_goal kept =
    let same : state ≡ t = same_some state t (sym leads ∙ leads') in
    record {
      own = subst (λ (v : List ℕ). space.owner_of v ≡ me) same own;
      no_goal = subst (λ (v : List ℕ). is_goal_state space.task v ≡ false) same no_goal;
      kept = (λ j. outcome_of nodes (record {
        state = sym same j;
        cost = rank.cost + cost_of space.task o;
        steps = sym (add-one rank.steps) j;
        parent = Some (record { worker = me; index = index; operator = o });
        expanded = false;
      }))
          ∙ kept (record { cost = rank.cost + cost_of space.task o; steps = rank.steps + 1 }) (Some (record { worker = me; index = index; operator = o })) refl refl;
    }

pub operators_more : {F : Type 0} (ss : List (Successor F)) (s : Successor F) (os : List ℕ) (i : ℕ) → i < length os
    → map (λ x. x.operator) ss ≡ take i os → s.operator ≡ get_or os i 0 → map (λ x. x.operator) (ss ++ s ∷ []) ≡ take (i + 1) os
operators_more ss s os i lt so_far at =
    map_push (λ x. x.operator) ss s
    ∙ ((λ j. so_far j ++ at j ∷ []) ∙ sym (take_more os i 0 lt))
