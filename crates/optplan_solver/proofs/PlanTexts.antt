-- The operators of a plan exist.
use Rattle.std.proofs.Common.{◌≡◌, ℕ, zero, suc, ◌<◌, List, [], ◌∷◌, length, Option, Some, None, IsSomeAnd, refl, arith}
use Rattle.std.specs.Prelude.{option_and_then, slice_get, All, true, if◌then◌else◌}
use Rattle.std.proofs.lemmas.List.Elements.{All-cons, All-nil}
use Rattle.fdr.specs.Tasks.{FiniteDomainTask, Operator, IsPlan, step, state_after, applies, successor, is_goal_state}

in_range : {X : Type 0} (xs : List X) (o : ℕ) (x : X) → slice_get xs o ≡ Some x → o < length xs
in_range [] o x e = absurd cc
in_range (y ∷ ys) zero x e = omega arith
in_range (y ∷ ys) (suc o) x e = let lt = in_range ys o x e in omega (arith, lt)

found_exists : (task : FiniteDomainTask) (P : List ℕ → Type 0) (state : List ℕ) (o : ℕ) (rest : List ℕ) (found : Option Operator) → slice_get task.operators o ≡ found
    → IsSomeAnd (option_and_then (λ s. state_after task s rest) (option_and_then (λ op. if applies op state then Some (successor op state) else None) found)) P → o < length task.operators
found_exists task P state o rest None e leads = absurd leads
found_exists task P state o rest (Some op) e leads = in_range task.operators o op e

next_leads : (task : FiniteDomainTask) (P : List ℕ → Type 0) (rest : List ℕ) (next : Option (List ℕ))
    → IsSomeAnd (option_and_then (λ s. state_after task s rest) next) P → (s : List ℕ) × IsSomeAnd (state_after task s rest) P
next_leads task P rest None leads = absurd leads
next_leads task P rest (Some s) leads = (s, leads)

operators_exist : (task : FiniteDomainTask) (P : List ℕ → Type 0) (plan state : List ℕ) → IsSomeAnd (state_after task state plan) P → All (λ o. o < length task.operators) plan
operators_exist task P [] state leads = All-nil (λ o. o < length task.operators)
operators_exist task P (o ∷ plan) state leads =
    let (s, rest) = next_leads task P plan (step task state o) leads in
    All-cons (λ o. o < length task.operators) o plan (found_exists task P state o plan (slice_get task.operators o) refl leads) (operators_exist task P plan s rest)

pub plan_operators_exist : (task : FiniteDomainTask) (plan : List ℕ) → IsPlan task plan → All (λ o. o < length task.operators) plan
plan_operators_exist task plan leads = operators_exist task (λ s. is_goal_state task s ≡ true) plan task.initial leads
