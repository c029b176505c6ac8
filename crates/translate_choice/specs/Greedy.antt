-- The greedy choice of variables (Helmert 2009): the group with the most atoms that the variables before it leave comes
-- first.
use Rattle.std.specs.Prelude.{◌≡◌, ℕ, ◌<◌, ◌≤◌, ◌⊎◌, ⊤, Bool, true, false, ◌&&◌, not, nat_lt, List, [], ◌∷◌, ◌++◌, length, slice_index_or, filter, All, Contains}
use Rattle.std.specs.List.{list_any}
use Rattle.std.specs.List.Sorted.{IsPermutation}
use Rattle.pddl_task.specs.Atoms.{wants, at_most_one}
use Rattle.mutex_index.specs.Groups.{is_usable, is_full}
use Rattle.index_rows.specs.Numbers.{has, row}
use Rattle.mutex_index.specs.Places.{Indexed, atoms_at}
use Rattle.translate_theory.specs.Variables.{PlacedVariable}
use Rattle.translate_choice.specs.declared.queue.Candidate.{Candidate}

-- there are several atoms, at most one of them a goal, and they are a usable group
abbrev pub is_fit : Indexed → List ℕ → Bool
is_fit index places =
    nat_lt 1 (length places) && at_most_one (wants index.task.goal) (atoms_at index.atoms places)
    && is_usable index.task index.actions (atoms_at index.atoms places)

-- the variable of these atoms, which has the none value unless they are a full group
abbrev pub variable_of : Indexed → List ℕ → PlacedVariable
variable_of index places =
    record { places = places; has_none = not (is_full index.task index.actions (atoms_at index.atoms places)) }

-- the group with this number, or an empty one if there is none
abbrev pub group_at : List (List ℕ) → ℕ → List ℕ
group_at groups number = row groups number

-- whether the index is in one of the variables
abbrev pub is_in : List PlacedVariable → ℕ → Bool
is_in variables p = list_any (λ v. has v.places p) variables

-- the indices of the group that are in none of the variables
abbrev pub left_by : List PlacedVariable → List ℕ → List ℕ
left_by variables group = filter (λ p. not (is_in variables p)) group

-- the indices of the group that are not taken
abbrev pub left_of : List Bool → List ℕ → List ℕ
left_of taken group = filter (λ p. not (slice_index_or taken p false)) group

-- a group of this size goes before another one, or is the same: it is larger, or as large and not later
abbrev pub GoesFirst : ℕ → ℕ → ℕ → ℕ → Type 0
GoesFirst size number other_size other = (other_size < size) ⊎ ((other_size ≡ size) × (number ≤ other))

-- given the rest that is left of each group: the rest of the group with this number is fit, it goes before all other
-- rests that are fit, and the variable is that of its atoms
pub record IsLargest (index : Indexed) (groups : List (List ℕ)) (left : List ℕ → List ℕ) (number : ℕ) (v : PlacedVariable) : Type 0 where
  pub fit : is_fit index (left (group_at groups number)) ≡ true
  pub first : (other : ℕ) → is_fit index (left (group_at groups other)) ≡ true
      → GoesFirst (length (left (group_at groups number))) number (length (left (group_at groups other))) other
  pub is : v ≡ variable_of index (left (group_at groups number))

-- given the rest that is left of each group: no group has a rest that is fit
abbrev pub NoneFits : Indexed → List (List ℕ) → (List ℕ → List ℕ) → Type 0
NoneFits index groups left = (number : ℕ) → is_fit index (left (group_at groups number)) ≡ false

-- each variable is that of the group that goes first by the rest that the variables before it leave
abbrev pub AreTakenAfter : Indexed → List (List ℕ) → List PlacedVariable → List PlacedVariable → Type 0
AreTakenAfter index groups earlier [] = ⊤
AreTakenAfter index groups earlier (v ∷ variables) =
    ((number : ℕ) × IsLargest index groups (left_by earlier) number v) × AreTakenAfter index groups (earlier ++ v ∷ []) variables

-- a variable of one atom, with the none value
pub record IsSingle (v : PlacedVariable) : Type 0 where
  pub one : length v.places ≡ 1
  pub none : v.has_none ≡ true

-- the variables are, in some order, those that are taken from the groups, one after the other as long as the rest of a
-- group is fit, and variables of one atom
pub record AreChosen (index : Indexed) (groups : List (List ℕ)) (variables : List PlacedVariable) : Type 0 where
  pub taken : List PlacedVariable
  pub singles : List PlacedVariable
  pub all : IsPermutation (taken ++ singles) variables
  pub in_turn : AreTakenAfter index groups [] taken
  pub none_left : NoneFits index groups (left_by taken)
  pub single : All IsSingle singles

-- ---- the queue of groups

-- a group of this size with this number is queued
abbrev pub IsQueued : List Candidate → ℕ → ℕ → Type 0
IsQueued queue size number = (c : Candidate) × Contains queue c × (c.size ≡ size) × (c.group.0 ≡ number)

-- if the rest of the group is fit, the group is queued with the number of atoms in its rest
abbrev pub IsQueuedIfFit : Indexed → List (List ℕ) → List Bool → List Candidate → ℕ → Type 0
IsQueuedIfFit index groups taken queue number =
    is_fit index (left_of taken (group_at groups number)) ≡ true → IsQueued queue (length (left_of taken (group_at groups number))) number

abbrev pub AreQueued : Indexed → List (List ℕ) → List Bool → List Candidate → Type 0
AreQueued index groups taken queue = (number : ℕ) → IsQueuedIfFit index groups taken queue number

-- each group that is queued stays queued
abbrev pub Keeps : List Candidate → List Candidate → Type 0
Keeps old new = (size number : ℕ) → IsQueued old size number → IsQueued new size number

-- the variable is that of the group that goes first, and the other groups are queued
pub record IsFound (index : Indexed) (groups : List (List ℕ)) (taken : List Bool) (queue : List Candidate) (v : PlacedVariable) : Type 0 where
  pub number : ℕ
  pub largest : IsLargest index groups (left_of taken) number v
  pub others : (other : ℕ) → (other ≡ number → ⊥) → IsQueuedIfFit index groups taken queue other

-- each group that has an atom at one of the indices is listed
abbrev pub HasEach : List (List ℕ) → List ℕ → List ℕ → Type 0
HasEach groups_at places groups = (p g : ℕ) → has places p ≡ true → has (row groups_at p) g ≡ true → has groups g ≡ true
