-- The faults of listed atoms and variables, and which of them is the first: the limits, the atoms, the number of
-- actions over them, the atoms that are missing, the variables in their order, and the atoms in no variable.
use Rattle.std.specs.Prelude.{◌≡◌, ◌⊎◌, ⊤, ℕ, suc, ◌<◌, ◌≤◌, Bool, true, false, ◌&&◌, ◌||◌, not, nat_le, if◌then◌else◌, List, take, length, Some, slice_get, find, IsSomeAnd}
use Rattle.std.specs.List.{list_all, list_any}
use Rattle.fdr.specs.declared.task.TaskLimit.{TaskLimit}
use Rattle.fdr.specs.declared.task.TaskLimit.TheVariants as limit
use Rattle.pddl_task.specs.Atoms.{Atom, State, contains, at_most_one, wants, has_wanted}
use Rattle.pddl_task.specs.Planning.{PlanningTask, Action, IsAtomOf}
use Rattle.ground_theory.specs.Grounding.{actions_over, IsClosedSet}
use Rattle.ground_atoms.specs.Order.{AreDistinct}
use Rattle.ground.specs.Search.{max_actions}
use Rattle.ground.specs.Rounds.{max_atoms, wanted_atoms}
use Rattle.ground.specs.Closing.{IsLeastMissing, IsFirstOpen}
use Rattle.mutex_index.specs.Groups.{is_excluded, is_constant, is_usable, is_full}
use Rattle.translate_theory.specs.Translations.{Variable}
use Rattle.translate_theory.specs.Variables.{PlacedVariable, variables_at}
use Rattle.translate_vars.specs.declared.fault.TranslateFault.{TranslateFault}
use Rattle.translate_vars.specs.declared.fault.TranslateFault.TheVariants as fault
use Rattle.translate_vars.specs.Parts.{has_long_range, AreWithinLimits}
use Rattle.fdr.specs.Limits.{max_variables}

-- the first limit that is exceeded
abbrev pub IsPassed : List Atom → List PlacedVariable → TaskLimit → Type 0
IsPassed atoms variables limit.Variables = (length atoms ≤ max_atoms) × (max_variables < length variables)
IsPassed atoms variables limit.Values = (length atoms ≤ max_atoms) × (length variables ≤ max_variables) × (has_long_range variables ≡ true)
IsPassed atoms variables limit.Operators = ⊥

-- distinct atoms of the task
pub record AreAtomsOf (task : PlanningTask) (atoms : List Atom) : Type 0 where
  pub known : (k : ℕ) (p : Atom) → slice_get atoms k ≡ Some p → IsAtomOf task p
  pub distinct : AreDistinct atoms

-- the atoms before index `k` are distinct atoms of the task, and together with the atom at `k` they are not
pub record IsBadAtom (task : PlanningTask) (atoms : List Atom) (k : ℕ) : Type 0 where
  pub there : k < length atoms
  pub before : AreAtomsOf task (take k atoms)
  pub bad : AreAtomsOf task (take (suc k) atoms) → ⊥

-- the least initial atom that is not listed or, if all are, the first atom of the goal that is not
abbrev pub IsMissing : PlanningTask → List Atom → Atom → Type 0
IsMissing task atoms p =
    IsLeastMissing (contains atoms) task.initial p
    ⊎ ((list_all (contains atoms) task.initial ≡ true) × (find (λ q. not (contains atoms q)) (wanted_atoms task.goal) ≡ Some p))

-- the atoms are a closed set of distinct atoms of the task, with few enough actions over them
pub record AreGrounded (task : PlanningTask) (atoms : List Atom) : Type 0 where
  pub known : AreAtomsOf task atoms
  pub few : length (actions_over task (contains atoms)) ≤ max_actions
  pub is_closed : IsClosedSet task (contains atoms)

-- whether there is more than one atom
abbrev pub are_several : List Atom → Bool
are_several atoms = nat_le 2 (length atoms)

module _ (task : PlanningTask) (actions : List Action) where
  -- whether the variable has an atom that it must not have, given the earlier variables, or a single atom and no none
  -- value
  abbrev pub is_misplaced : List Variable → Variable → Bool
  is_misplaced earlier v =
      list_any (λ p. is_constant task actions p || list_any (λ u. contains u.atoms p) earlier) v.atoms
      || (if are_several v.atoms
      then list_any (is_excluded task actions) v.atoms || not (at_most_one (wants task.goal) v.atoms)
      else not v.has_none)

  abbrev pub is_no_group : Variable → Bool
  is_no_group v = are_several v.atoms && not (is_usable task actions v.atoms)

  abbrev pub is_not_full : Variable → Bool
  is_not_full v = are_several v.atoms && not v.has_none && not (is_full task actions v.atoms)

  -- whether the variable has no fault
  abbrev pub is_in_order : List Variable → Variable → Bool
  is_in_order earlier v = not (is_misplaced earlier v) && not (is_no_group v) && not (is_not_full v)

  -- the first `count` variables have no fault
  abbrev pub AreInOrder : List Variable → ℕ → Type 0
  AreInOrder variables count = (k : ℕ) (v : Variable) → k < count → slice_get variables k ≡ Some v → is_in_order (take k variables) v ≡ true

  -- the variable is the first with a fault, and the test holds for it
  abbrev pub IsFirstWrong : List Variable → ℕ → (List Variable → Variable → Bool) → Type 0
  IsFirstWrong variables k test = AreInOrder variables k × IsSomeAnd (slice_get variables k) (λ v. test (take k variables) v ≡ true)

  -- whether the atom is not constant, and in none of the variables
  abbrev pub is_uncovered : List Variable → State
  is_uncovered variables p = not (is_constant task actions p) && not (list_any (λ v. contains v.atoms p) variables)

  -- the index of the first uncovered atom, if the variables have no fault
  pub record IsFirstUncovered (atoms : List Atom) (variables : List Variable) (k : ℕ) : Type 0 where
    pub in_order : AreInOrder variables (length variables)
    pub uncovered : IsSomeAnd (slice_get atoms k) (λ p. is_uncovered variables p ≡ true)
    pub first : list_any (is_uncovered variables) (take k atoms) ≡ false

-- the first fault
abbrev pub IsFirstFault : PlanningTask → List Atom → List PlacedVariable → TranslateFault → Type 0
IsFirstFault task atoms variables fault.OutOfMemory = ⊤
IsFirstFault task atoms variables fault.GroundLimit =
    (max_atoms < length atoms)
    ⊎ (AreWithinLimits atoms variables × AreAtomsOf task atoms × (max_actions < length (actions_over task (contains atoms))))
IsFirstFault task atoms variables (fault.Limit l) = IsPassed atoms variables l
IsFirstFault task atoms variables (fault.BadAtom k) = AreWithinLimits atoms variables × IsBadAtom task atoms k
IsFirstFault task atoms variables (fault.Missing p) =
    AreWithinLimits atoms variables × AreAtomsOf task atoms × (length (actions_over task (contains atoms)) ≤ max_actions) × IsMissing task atoms p
IsFirstFault task atoms variables (fault.NotClosed p) =
    AreWithinLimits atoms variables × AreAtomsOf task atoms × (length (actions_over task (contains atoms)) ≤ max_actions)
    × (list_all (contains atoms) task.initial ≡ true) × (has_wanted (contains atoms) task.goal ≡ true)
    × ((a : Action) × IsFirstOpen task (contains atoms) a p)
IsFirstFault task atoms variables (fault.Uncovered k) =
    AreWithinLimits atoms variables × AreGrounded task atoms
    × IsFirstUncovered task (actions_over task (contains atoms)) atoms (variables_at atoms variables) k
IsFirstFault task atoms variables (fault.NotGroup k) =
    AreWithinLimits atoms variables × AreGrounded task atoms
    × IsFirstWrong task (actions_over task (contains atoms)) (variables_at atoms variables) k
    (λ earlier v. not (is_misplaced task (actions_over task (contains atoms)) earlier v) && is_no_group task (actions_over task (contains atoms)) v)
IsFirstFault task atoms variables (fault.NotFull k) =
    AreWithinLimits atoms variables × AreGrounded task atoms
    × IsFirstWrong task (actions_over task (contains atoms)) (variables_at atoms variables) k
    (λ earlier v. not (is_misplaced task (actions_over task (contains atoms)) earlier v)
    && not (is_no_group task (actions_over task (contains atoms)) v) && is_not_full task (actions_over task (contains atoms)) v)
IsFirstFault task atoms variables (fault.Misplaced k) =
    AreWithinLimits atoms variables × AreGrounded task atoms
    × IsFirstWrong task (actions_over task (contains atoms)) (variables_at atoms variables) k (is_misplaced task (actions_over task (contains atoms)))
