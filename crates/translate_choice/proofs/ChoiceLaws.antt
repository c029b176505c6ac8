-- Choices that grow by variables, and what is chosen in the end.
use Rattle.std.proofs.Common.{◌≡◌, ◌≢◌, ℕ, zero, suc, ◌+◌, ◌<◌, ◌≤◌, Bool, true, false, ◌||◌, not, cond, List, [], ◌∷◌, ◌++◌, length, Some, refl, sym, ap, ◌∙◌, arith, eqb, get_or, ◌⊎◌, inl, inr}
use Rattle.std.specs.Prelude.{slice_get, slice_index_or, count_by, filter, nat_lt, All, AllPairs}
use Rattle.std.specs.List.{list_all}
use Rattle.std.specs.List.Sorted.{IsPermutation, IsStrictlyIncreasing}
use Rattle.std.proofs.lemmas.Bool.{eq-eqb, not-true, both_ways, or_cases, false_from_ne_true, ltb-true, ltb-false}
use Rattle.std.proofs.lemmas.List.Elements.{All-nil, All-head, All-tail, All-push, All-map, All-filter}
use Rattle.std.proofs.lemmas.List.Kept.{AllPairs-from_increasing, IsStrictlyIncreasing-filter}
use Rattle.std.proofs.lemmas.List.Sums.{sum_by_push, sum_by-cons}
use Rattle.std.proofs.lemmas.List.Sorted.{All-permutation, sum_by-IsPermutation}
use Rattle.std.proofs.lemmas.Option.{slice_get_within}
use Rattle.pddl_task.specs.Atoms.{Atom, contains}
use Rattle.pddl_task.proofs.Lists.{Mem, mem_get, get_of_mem, all_mem, all_from, filter_mem}
use Rattle.pddl_task.proofs.AtomLaws.{mem_contains}
use Rattle.ground_atoms.specs.Order.{AreDistinct}
use Rattle.mutex_index.specs.Groups.{is_constant}
use Rattle.index_rows.specs.Numbers.{has}
use Rattle.mutex_index.specs.Places.{Indexed, atoms_at}
use Rattle.index_rows.proofs.NumberLaws.{has_mem}
use Rattle.mutex_index.proofs.TestLaws.{group_mem}
use Rattle.translate_theory.specs.Translations.{Variable, IsVariableOf, AreVariables}
use Rattle.translate_theory.specs.Variables.{PlacedVariable, IsPlaced, variable_at, variables_at}
use Rattle.mutex.specs.Proposals.{is_movable, IsProposal}
use Rattle.translate_choice.specs.declared.choice.Choice.{Choice}
use Rattle.translate_choice.specs.Choices.{is_constant_at, IsRest, IsVariableAt, IsNext, IsChoice, AddsVariable, IsDoneBelow}
use Rattle.translate_choice.specs.Greedy.{is_in, group_at, left_of}
use Rattle.translate_choice.proofs.PlacedLaws.{all_of, contains_at, distinct_at, constant_is}

-- what is left of a group
pub rest_of : (index : Indexed) (groups : List (List ℕ)) (taken : List Bool) (number : ℕ) → All (IsProposal index) groups
    → IsRest index taken (left_of taken (group_at groups number))
rest_of index groups taken number proposed = go groups number proposed
  where
    left : ℕ → Bool
    left p = not (slice_index_or taken p false)

    of_group : (group : List ℕ) → IsStrictlyIncreasing group → All (λ p. is_movable index p ≡ true) group → IsRest index taken (left_of taken group)
    of_group group rising movable = record {
      rising = IsStrictlyIncreasing-filter left group rising;
      movable = All-filter left (λ p. is_movable index p ≡ true) group movable;
      free = all_of (λ p. slice_index_or taken p false ≡ false) (filter left group) (λ p m.
          not-true (slice_index_or taken p false) (filter_mem left group p m).1);
    }

    go : (gs : List (List ℕ)) (n : ℕ) → All (IsProposal index) gs → IsRest index taken (left_of taken (group_at gs n))
    go [] n h = of_group [] (λ k l. absurd (omega (arith, l))) (All-nil (λ p. is_movable index p ≡ true))
    go (g ∷ gs) zero h = let p = All-head (IsProposal index) g gs h in of_group g p.rising p.movable
    go (g ∷ gs) (suc n) h = go gs n (All-tail (IsProposal index) g gs h)

-- the flags after a variable has been added, at every place
pub flags_after : (count : ℕ) (old new : Choice) (v : PlacedVariable) → length old.taken.items ≡ count → All (λ p. p < count) v.places → AddsVariable old new v
    → (p : ℕ) → slice_index_or new.taken.items p false ≡ (slice_index_or old.taken.items p false || has v.places p)
flags_after count old new v size within adds p = go (nat_lt p count) refl
  where
    past : (flags : List Bool) (p : ℕ) → length flags ≤ p → slice_index_or flags p false ≡ false
    past [] p l = refl
    past (b ∷ flags) zero l = absurd (omega (arith, l))
    past (b ∷ flags) (suc p) l = past flags p (omega (arith, l))

    go : (b : Bool) → nat_lt p count ≡ b → slice_index_or new.taken.items p false ≡ (slice_index_or old.taken.items p false || has v.places p)
    go true e = let low = ltb-true p count e in adds.taken p (omega (arith, size, low))
    go false e =
        let high = ltb-false p count e in
        let grown = adds.size in
        let none : has v.places p ≡ false = false_from_ne_true (has v.places p) (λ h.
        let l = all_mem (λ q. q < count) v.places p within (has_mem v.places p h) in omega (arith, l, high)) in
        past new.taken.items p (omega (arith, size, grown, high)) ∙ sym (rw (past old.taken.items p (omega (arith, size, high)), none) refl)

is_in-more : (vs : List PlacedVariable) (v : PlacedVariable) (p : ℕ) → is_in (vs ++ v ∷ []) p ≡ (is_in vs p || has v.places p)
is_in-more [] v p = or_false (has v.places p)
  where
    or_false : (b : Bool) → (b || false) ≡ b
    or_false true = refl
    or_false false = refl
is_in-more (u ∷ vs) v p = ap (λ (b : Bool). has u.places p || b) (is_in-more vs v p) ∙ or_assoc (has u.places p) (is_in vs p) (has v.places p)
  where
    or_assoc : (a b c : Bool) → (a || (b || c)) ≡ ((a || b) || c)
    or_assoc true b c = refl
    or_assoc false b c = refl

-- one more variable
pub one_more : (index : Indexed) (old new : Choice) (v : PlacedVariable) → IsChoice index old → IsNext index old.taken.items v → AddsVariable old new v → IsChoice index new
one_more index old new v choice next adds =
    record {
      size = adds.size ∙ choice.size;
      placed = rw adds.variables (All-push (IsPlaced (length index.atoms)) old.variables.items v choice.placed next.placed);
      fit = rw adds.variables (All-push (IsVariableAt index) old.variables.items v choice.fit next.fit);
      counted = λ p l.
          ap (count_by (λ (u : PlacedVariable). has u.places p)) adds.variables
          ∙ sum_by_push (λ (u : PlacedVariable). cond (has u.places p) 1 0) old.variables.items v
          ∙ added p (has v.places p) (slice_index_or old.taken.items p false) refl refl (choice.counted p l)
          ∙ ap (λ b. cond b 1 0) (sym (adds.taken p (rw choice.size l)));
      told = λ p.
          flags_after (length index.atoms) old new v choice.size next.placed.within adds p
          ∙ ap (λ (b : Bool). b || has v.places p) (choice.told p)
          ∙ sym (ap (λ (vs : List PlacedVariable). is_in vs p) adds.variables ∙ is_in-more old.variables.items v p);
      changing = λ p l e. changed p l (or_cases (slice_index_or old.taken.items p false) (has v.places p) (sym (adds.taken p (rw choice.size l)) ∙ e));
    }
  where
    taken_already : (p : ℕ) → has v.places p ≡ true → slice_index_or old.taken.items p false ≡ false
    taken_already p h = all_mem (λ q. slice_index_or old.taken.items q false ≡ false) v.places p next.free (has_mem v.places p h)

    added : (p : ℕ) (b t : Bool) → has v.places p ≡ b → slice_index_or old.taken.items p false ≡ t
        → count_by (λ (u : PlacedVariable). has u.places p) old.variables.items ≡ cond t 1 0
        → count_by (λ (u : PlacedVariable). has u.places p) old.variables.items + cond b 1 0 ≡ cond (t || b) 1 0
    added p true true e f c = absurd (both_ways (slice_index_or old.taken.items p false) (taken_already p e) f)
    added p true false e f c = omega arith
    added p false true e f c = omega arith
    added p false false e f c = omega arith

    changed : (p : ℕ) → p < length index.atoms → (slice_index_or old.taken.items p false ≡ true) ⊎ (has v.places p ≡ true) → is_constant_at index p ≡ false
    changed p l (inl e) = choice.changing p l e
    changed p l (inr e) = all_mem (λ q. is_constant_at index q ≡ false) v.places p next.changing (has_mem v.places p e)

-- the count of variables that have an atom, by the atom's place
counts_same : (atoms : List Atom) → AreDistinct atoms → (k : ℕ) (x : Atom) → slice_get atoms k ≡ Some x → (vs : List PlacedVariable)
    → count_by (λ v. contains v.atoms x) (variables_at atoms vs) ≡ count_by (λ v. has v.places k) vs
counts_same atoms distinct k x e [] = refl
counts_same atoms distinct k x e (v ∷ vs) =
    sum_by-cons (λ (u : Variable). cond (contains u.atoms x) 1 0) (variable_at atoms v) (variables_at atoms vs)
    ∙ rw (contains_at atoms distinct v.places k x e, counts_same atoms distinct k x e vs) refl
    ∙ sym (sum_by-cons (λ (u : PlacedVariable). cond (has u.places k) 1 0) v vs)

-- a choice that is done, in any order
pub are_variables : (index : Indexed) (choice : Choice) (vs : List PlacedVariable) → AreDistinct index.atoms → IsChoice index choice
    → IsDoneBelow index choice (length index.atoms) → IsPermutation choice.variables.items vs
    → AreVariables index.task index.atoms index.actions (variables_at index.atoms vs)
are_variables index choice vs distinct chosen done order =
    record {
      each = All-map (IsVariableOf index.task index.actions) (variable_at index.atoms) vs (All-permutation (IsVariableAt index) choice.variables.items vs order chosen.fit);
      listed = All-map (λ v. list_all (contains index.atoms) v.atoms ≡ true) (variable_at index.atoms) vs (λ k d l. listed (get_or vs k d));
      distinct = All-map (λ v. AllPairs (λ p q. p ≢ q) v.atoms) (variable_at index.atoms) vs (λ k d l.
          distinct_at index.atoms distinct (get_or vs k d).places (AllPairs-from_increasing (get_or vs k d).places (placed k d l).rising));
      covered = all_from (λ p. eqb (count_by (λ v. contains v.atoms p) (variables_at index.atoms vs)) (cond (is_constant index.task index.actions p) 0 1)) index.atoms (λ x m.
          eq-eqb (count_by (λ v. contains v.atoms x) (variables_at index.atoms vs)) (cond (is_constant index.task index.actions x) 0 1) (covered x m));
    }
  where
    placed : All (IsPlaced (length index.atoms)) vs
    placed = All-permutation (IsPlaced (length index.atoms)) choice.variables.items vs order chosen.placed

    listed : (v : PlacedVariable) → list_all (contains index.atoms) (atoms_at index.atoms v.places) ≡ true
    listed v = all_from (contains index.atoms) (atoms_at index.atoms v.places) (λ x m.
        let w = group_mem index.atoms v.places x m in mem_contains index.atoms x (mem_get index.atoms w.0 x w.2))

    known : (k : ℕ) → k < length index.atoms → (t : Bool) → slice_index_or choice.taken.items k false ≡ t → ◌≡◌ {A = ℕ} (cond t 1 0) (cond (is_constant_at index k) 0 1)
    known k l true e = rw (chosen.changing k l e) refl
    known k l false e = rw (done k l e) refl

    covered : (x : Atom) → Mem x index.atoms → count_by (λ v. contains v.atoms x) (variables_at index.atoms vs) ≡ cond (is_constant index.task index.actions x) 0 1
    covered x m =
        let w = get_of_mem index.atoms x m in
        let within = slice_get_within index.atoms w.0 x w.1 in
        counts_same index.atoms distinct w.0 x w.1 vs
        ∙ sum_by-IsPermutation (λ (u : PlacedVariable). cond (has u.places w.0) 1 0) choice.variables.items vs order
        ∙ chosen.counted w.0 within
        ∙ known w.0 within (slice_index_or choice.taken.items w.0 false) refl
        ∙ ap (λ b. cond b 0 1) (constant_is index w.0 x w.1)
