-- What was taken was handed out, and what was handed out was taken or is left.
use Rattle.std.proofs.Common.{◌≡◌, ◌⊎◌, ℕ, zero, suc, ◌+◌, ◌<◌, Bool, true, false, ◌&&◌, ◌==◌, List, [], ◌∷◌, refl, sym, ap, subst, inl, inr, ⊎_elim, arith, cond}
use Rattle.std.proofs.lemmas.Bool.{and_parts, and_from, eqb-true, eq-eqb}
use Rattle.owner_theory.specs.Owners.{At, SearchSpace, Message, Packet}
use Rattle.owner_theory.specs.Families.{In, same_message, copies, copies_from, Family, IsLawful}
use Rattle.owner_theory.proofs.Lists.{in_cons}
use Rattle.owner_theory.proofs.States.{same_state-true, same_state_refl}

pub same_message-true : (m n : Message) → same_message m n ≡ true → m ≡ n
same_message-true m n h =
    let after_state = and_parts _ _ h in
    let after_cost = and_parts _ _ after_state.1 in
    let after_steps = and_parts _ _ after_cost.1 in
    let after_worker = and_parts _ _ after_steps.1 in
    let after_index = and_parts _ _ after_worker.1 in
    let state = same_state-true m.state n.state after_state.0 in
    let cost = eqb-true m.cost n.cost after_cost.0 in
    let steps = eqb-true m.steps n.steps after_steps.0 in
    let worker = eqb-true m.parent.worker n.parent.worker after_worker.0 in
    let index = eqb-true m.parent.index n.parent.index after_index.0 in
    let operator = eqb-true m.parent.operator n.parent.operator after_index.1 in
    λ j. record {
      state = state j;
      cost = cost j;
      steps = steps j;
      parent = record
          { worker = worker j; index = index j; operator = operator j };
    }

pub same_message_refl : (m : Message) → same_message m m ≡ true
same_message_refl m = and_from _ _ (same_state_refl m.state)
    (and_from _ _ (eq-eqb m.cost m.cost refl) (and_from _ _ (eq-eqb m.steps m.steps refl)
    (and_from _ _ (eq-eqb m.parent.worker m.parent.worker refl)
    (and_from _ _ (eq-eqb m.parent.index m.parent.index refl) (eq-eqb m.parent.operator m.parent.operator refl)))))

-- 1 where the test passes
abbrev pub unit : Bool → ℕ
unit b = cond b 1 0

pub unit_cases : (b : Bool) → ((b ≡ true) × (unit b ≡ 1)) ⊎ (unit b ≡ 0)
unit_cases true = inl (refl, refl)
unit_cases false = inr refl

pub copies_in : (m : Message) (xs : List Message) → 0 < copies m xs → In m xs
copies_in m [] h = absurd (omega arith)
copies_in m (x ∷ xs) h =
    ⊎_elim
    (λ (q : (same_message m x ≡ true) × (unit (same_message m x) ≡ 1)). (zero, sym (same_message-true m x q.0)))
    (λ (q : unit (same_message m x) ≡ 0). in_cons m x xs (copies_in m xs (omega arith)))
    (unit_cases (same_message m x))

pub in_copies : (m : Message) (xs : List Message) (i : ℕ) → At xs i m → 0 < copies m xs
in_copies m [] i h = absurd h
in_copies m (x ∷ xs) zero h =
    let one : same_message m x ≡ true = subst (λ y. same_message m y ≡ true) (sym h) (same_message_refl m) in
    let e : unit (same_message m x) ≡ 1 = ap unit one in omega arith
in_copies m (x ∷ xs) (suc i) h = let rec = in_copies m xs i h in omega arith

pub copies_from_in : (w : ℕ) (m : Message) (ps : List Packet) → 0 < copies_from w m ps → In
    (record { sender = w; message = m }) ps
copies_from_in w m [] h = absurd (omega arith)
copies_from_in w m (p ∷ ps) h =
    ⊎_elim
    (λ (q : (((w == p.sender) && same_message m p.message) ≡ true) × (unit ((w == p.sender) && same_message m p.message) ≡ 1)).
    let parts = and_parts (w == p.sender) (same_message m p.message) q.0 in
    let a = eqb-true w p.sender parts.0 in
    let b = same_message-true m p.message parts.1 in
    (zero, λ j. record { sender = sym a j; message = sym b j }))
    (λ (q : unit ((w == p.sender) && same_message m p.message) ≡ 0). in_cons (record { sender = w; message = m }) p ps
    (copies_from_in w m ps (omega arith)))
    (unit_cases ((w == p.sender) && same_message m p.message))

pub in_copies_from : (p : Packet) (ps : List Packet) (i : ℕ) → At ps i p → 0 < copies_from p.sender p.message ps
in_copies_from p [] i h = absurd h
in_copies_from p (x ∷ ps) zero h =
    let one : ((p.sender == x.sender) && same_message p.message x.message) ≡ true = subst
    (λ (y : Packet). ((p.sender == y.sender) && same_message p.message y.message) ≡ true) (sym h)
    (and_from _ _ (eq-eqb p.sender p.sender refl) (same_message_refl p.message)) in
    let e : unit ((p.sender == x.sender) && same_message p.message x.message) ≡ 1 = ap unit one in omega arith
in_copies_from p (x ∷ ps) (suc i) h = let rec = in_copies_from p ps i h in omega arith

-- what was taken by the owner of its state was handed out by the sender
pub taken_handed : (S : SearchSpace) (F : Family) → IsLawful S F → (p : Packet) → In p
    (F.logs (S.owner_of p.message.state)).taken → In p.message (F.logs p.sender).handed
taken_handed S F law p (i, at) =
    let some = in_copies_from p (F.logs (S.owner_of p.message.state)).taken i at in
    let link = law.links p.sender p.message in
    copies_in p.message (F.logs p.sender).handed (omega arith)

sum_pos : (a b : ℕ) → 0 < a + b → (0 < a) ⊎ (0 < b)
sum_pos a b h = grind arith

-- what was handed out was taken by the owner of its state, or is left
pub handed_taken : (S : SearchSpace) (F : Family) → IsLawful S F → (w : ℕ) (m : Message) → In m (F.logs w).handed
    → In (record { sender = w; message = m }) (F.logs (S.owner_of m.state)).taken ⊎ In (record { sender = w; message = m }) F.left
handed_taken S F law w m (i, at) =
    let some = in_copies m (F.logs w).handed i at in
    let link = law.links w m in
    ⊎_elim
    (λ (q : 0 < copies_from w m (F.logs (S.owner_of m.state)).taken). inl
    (copies_from_in w m (F.logs (S.owner_of m.state)).taken q))
    (λ (q : 0 < copies_from w m F.left). inr (copies_from_in w m F.left q))
    (sum_pos _ _ (subst (λ k. 0 < k) link some))
