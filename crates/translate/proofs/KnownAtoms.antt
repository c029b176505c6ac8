-- Every atom of the least closed set is an atom of the task, where those that the task names are.
use Rattle.std.proofs.Common.{◌≡◌, ℕ, ◌<◌, true, false, ◌&&◌, List, [], ◌∷◌, Option, Some, None, refl, ap, arith, inl, inr}
use Rattle.std.specs.Prelude.{All, length, slice_get, nat_lt, ◌==◌, if◌then◌else◌}
use Rattle.std.specs.List.{list_all}
use Rattle.std.specs.Option.{option_map_or}
use Rattle.std.proofs.lemmas.Bool.{and_parts, and_from, eqb-true, eq-eqb}
use Rattle.std.proofs.lemmas.Bool.Decides.{nat_tests}
use Rattle.std.proofs.lemmas.List.Elements.{All-nil, All-cons, All-head, All-tail}
use Rattle.pddl_task.specs.Atoms.{Atom, State, Literal, contains}
use Rattle.pddl_task.specs.Planning.{PlanningTask, Action, IsActionOf, IsAtomOf}
use Rattle.pddl_task.proofs.Lists.{Mem, all_mem, all_from, if_from}
use Rattle.pddl_task.proofs.AtomLaws.{mem_contains}
use Rattle.ground_theory.specs.Grounding.{IsClosedSet, IsLeastClosedSet}

-- whether the atom is one of the task
abbrev is_known : PlanningTask → State
is_known task p = option_map_or (λ n. n == length p.objects) (slice_get task.arities p.predicate) false && list_all (λ o. nat_lt o (length task.object_types)) p.objects

lt_true : (o n : ℕ) → o < n → nat_lt o n ≡ true
lt_true o n l = grind (arith, nat_tests)

lt_from : (o n : ℕ) → nat_lt o n ≡ true → o < n
lt_from o n e = grind (arith, nat_tests)

within_true : (n : ℕ) (os : List ℕ) → All (λ o. o < n) os → list_all (λ o. nat_lt o n) os ≡ true
within_true n [] h = refl
within_true n (o ∷ os) h =
    and_from (nat_lt o n) (list_all (λ o. nat_lt o n) os) (lt_true o n (All-head (λ p. p < n) o os h)) (within_true n os (All-tail (λ p. p < n) o os h))

within_from : (n : ℕ) (os : List ℕ) → list_all (λ o. nat_lt o n) os ≡ true → All (λ o. o < n) os
within_from n [] h = All-nil (λ o. o < n)
within_from n (o ∷ os) h =
    let parts = and_parts (nat_lt o n) (list_all (λ o. nat_lt o n) os) h in
    All-cons (λ p. p < n) o os (lt_from o n parts.0) (within_from n os parts.1)

arity_true : (r : Option ℕ) (n : ℕ) → r ≡ Some n → option_map_or (λ m. m == n) r false ≡ true
arity_true None n e = absurd cc
arity_true (Some m) n e = eq-eqb m n cc

arity_from : (r : Option ℕ) (n : ℕ) → option_map_or (λ m. m == n) r false ≡ true → r ≡ Some n
arity_from None n e = absurd cc
arity_from (Some m) n e = ap Some (eqb-true m n e)

known_true : (task : PlanningTask) (p : Atom) → IsAtomOf task p → is_known task p ≡ true
known_true task p h =
    and_from _ _ (arity_true (slice_get task.arities p.predicate) (length p.objects) h.places) (within_true (length task.object_types) p.objects h.objects)

known_from : (task : PlanningTask) (p : Atom) → is_known task p ≡ true → IsAtomOf task p
known_from task p h =
    let parts = and_parts _ _ h in
    record {
      places = arity_from (slice_get task.arities p.predicate) (length p.objects) parts.0;
      objects = within_from (length task.object_types) p.objects parts.1;
    }

all_known : (task : PlanningTask) (atoms : List Atom) → All (IsAtomOf task) atoms → list_all (is_known task) atoms ≡ true
all_known task atoms h = all_from (is_known task) atoms (λ p m. known_true task p (all_mem (IsAtomOf task) atoms p h m))

-- the atoms of the task are a closed set
known_closed : (task : PlanningTask) → All (IsAtomOf task) task.initial → All (λ (l : Literal). IsAtomOf task l.atom) task.goal
    → ((a : Action) → IsActionOf task a → All (IsAtomOf task) a.adds) → IsClosedSet task (is_known task)
known_closed task initial goals added =
    record {
      initial = all_known task task.initial initial;
      goal = all_from (λ (l : Literal). if l.positive then is_known task l.atom else true) task.goal
          (λ l m. if_from l.positive (is_known task l.atom) (λ e. known_true task l.atom (all_mem (λ (k : Literal). IsAtomOf task k.atom) task.goal l goals m)));
      closed = λ a is over. all_known task a.adds (added a is);
    }

all_listed : (P : Atom → Type 0) (atoms : List Atom) → ((p : Atom) → Mem p atoms → P p) → All P atoms
all_listed P [] h = All-nil P
all_listed P (p ∷ atoms) h = All-cons P p atoms (h p (inl refl)) (all_listed P atoms (λ q m. h q (inr m)))

pub least_known : (task : PlanningTask) (atoms : List Atom) → All (IsAtomOf task) task.initial → All (λ (l : Literal). IsAtomOf task l.atom) task.goal
    → ((a : Action) → IsActionOf task a → All (IsAtomOf task) a.adds) → IsLeastClosedSet task (contains atoms) → All (IsAtomOf task) atoms
least_known task atoms initial goals added least =
    all_listed (IsAtomOf task) atoms
    (λ p m. known_from task p (least.least (is_known task) (known_closed task initial goals added) p (mem_contains atoms p m)))
