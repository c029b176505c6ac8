-- Lists of the same atoms, in any order and with repeats, are the same group.
use Rattle.std.proofs.Common.{◌≡◌, ℕ, ◌<◌, Bool, true, ◌&&◌, ◌||◌, cond, List, get_or, eqb, sym, ap, ◌∙◌}
use Rattle.std.specs.Prelude.{All}
use Rattle.std.specs.List.{list_all, list_any, dedup}
use Rattle.std.specs.List.Sorted.{IsPermutation}
use Rattle.std.proofs.lemmas.List.Kept.{Contains-dedup_nat, Contains-from_dedup}
use Rattle.std.proofs.lemmas.List.Elements.{Contains-get_or}
use Rattle.std.proofs.lemmas.List.Sorted.{Contains-permutation, IsPermutation-sym}
use Rattle.pddl_task.specs.Atoms.{Atom, State, same_atom, contains, at_most_one, wants}
use Rattle.pddl_task.specs.Planning.{PlanningTask, Action}
use Rattle.pddl_task.proofs.Lists.{Mem, bool_same, all_at, all_from, any_at, any_from, all_mem, mem_from_contains, contains_from_mem}
use Rattle.mutex_index.specs.Groups.{removes, takes_over, starts_inside, is_usable}
use Rattle.index_rows.specs.Numbers.{has, AreSameSet}
use Rattle.mutex_index.specs.Places.{atoms_at}
use Rattle.index_rows.proofs.NumberLaws.{has_mem, mem_has}
use Rattle.mutex_index.proofs.TestLaws.{mem_group, group_mem}

-- each element of one list is one of the other
pub record HaveSame {X : Type 0} (xs ys : List X) : Type 0 where
  pub forth : (x : X) → Mem x xs → Mem x ys
  pub back : (x : X) → Mem x ys → Mem x xs

module _ {X : Type 0} (xs ys : List X) (same : HaveSame xs ys) where
  all_set : (test : X → Bool) → list_all test xs ≡ list_all test ys
  all_set test =
      bool_same (list_all test xs) (list_all test ys)
      (λ h. all_from test ys (λ y m. all_at test xs y h (same.back y m)))
      (λ h. all_from test xs (λ x m. all_at test ys x h (same.forth x m)))

  any_set : (test : X → Bool) → list_any test xs ≡ list_any test ys
  any_set test =
      bool_same (list_any test xs) (list_any test ys)
      (λ h. let w = any_at test xs h in any_from test ys w.0 (same.forth w.0 w.1) w.2)
      (λ h. let w = any_at test ys h in any_from test xs w.0 (same.back w.0 w.1) w.2)

module _ (xs ys : List Atom) (same : HaveSame xs ys) where
  one_set : (test : State) → at_most_one test xs ≡ at_most_one test ys
  one_set test = all_set xs ys same _ ∙ (λ i. list_all (λ p. cond (test p) (all_set xs ys same (λ q. cond (test q) (same_atom p q) true) i) true) ys)

  takes_set : (a : Action) → takes_over xs a ≡ takes_over ys a
  takes_set a =
      all_set xs ys same _
      ∙ (λ i. list_all (λ p. cond (contains a.adds p) (any_set xs ys same (λ r. wants a.precondition r && (same_atom r p || removes a r)) i) true) ys)

  starts_set : (a : Action) → starts_inside xs a ≡ starts_inside ys a
  starts_set a = λ i.
      cond (any_set xs ys same (removes a) i) (any_set xs ys same (contains a.adds) i || any_set xs ys same (wants a.precondition) i) true

  usable_set : (task : PlanningTask) (actions : List Action) → is_usable task actions xs ≡ is_usable task actions ys
  usable_set task actions = λ i.
      (one_set (contains task.initial) i && list_all (λ a. one_set (contains a.adds) i && takes_set a i) actions)
      && list_all (λ a. starts_set a i) actions

same_atoms : (atoms : List Atom) (ps qs : List ℕ) → HaveSame ps qs → HaveSame (atoms_at atoms ps) (atoms_at atoms qs)
same_atoms atoms ps qs same =
    record {
      forth = λ x m. let w = group_mem atoms ps x m in mem_group atoms qs w.0 x (same.forth w.0 w.1) w.2;
      back = λ x m. let w = group_mem atoms qs x m in mem_group atoms ps w.0 x (same.back w.0 w.1) w.2;
    }

by_has : (ps qs : List ℕ) → AreSameSet ps qs → HaveSame ps qs
by_has ps qs same =
    record {
      forth = λ p m. has_mem qs p (sym (same p) ∙ mem_has ps p m);
      back = λ p m. has_mem ps p (same p ∙ mem_has qs p m);
    }

pub usable_same : (task : PlanningTask) (actions : List Action) (atoms : List Atom) (ps qs : List ℕ) → AreSameSet ps qs
    → is_usable task actions (atoms_at atoms ps) ≡ is_usable task actions (atoms_at atoms qs)
usable_same task actions atoms ps qs same =
    usable_set (atoms_at atoms ps) (atoms_at atoms qs) (same_atoms atoms ps qs (by_has ps qs same)) task actions

-- the same places are within the list
pub within_same : (count : ℕ) (ps qs : List ℕ) → AreSameSet ps qs → All (λ p. p < count) qs → All (λ p. p < count) ps
within_same count ps qs same within k d l =
    all_mem (λ p. p < count) qs (get_or ps k d) within ((by_has ps qs same).forth (get_or ps k d) (mem_from_contains ps (get_or ps k d) (Contains-get_or ps k d l)))
