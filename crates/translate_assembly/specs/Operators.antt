-- Conditions, effects and operators, computed from the literals of an action.
use Rattle.std.specs.Prelude.{ℕ, ◌+◌, Bool, true, ◌||◌, ◌==◌, not, if◌then◌else◌, List, [], ◌∷◌, Option, Some, None, option_and_then, filter}
use Rattle.std.specs.List.{list_all}
use Rattle.std.specs.Option.{option_map, option_map_or}
use Rattle.fdr.specs.declared.fact.Fact.{Fact}
use Rattle.fdr.specs.Tasks.{Operator}
use Rattle.pddl_task.specs.Atoms.{Atom, Literal}
use Rattle.pddl_task.specs.Planning.{Vocabulary, Action}
use Rattle.translate_theory.specs.Names.{action_name}
use Rattle.translate_assembly.specs.declared.slot.Slot.{Slot}
use Rattle.translate_assembly.specs.Slots.{Lookup}
use Rattle.translate_assembly.specs.Facts.{has_fact, assigned}

-- the fact that the atom is true, and the fact that none of the variable's atoms is
abbrev pub own_fact : Slot → Fact
own_fact s = record { variable = s.variable; value = s.value }

abbrev pub none_fact : Slot → Fact
none_fact s = record { variable = s.variable; value = s.count }

module _ (slots : Lookup) where
  abbrev pub fact_of : Atom → Option Fact
  fact_of p = option_map own_fact (slots p)

  abbrev pub wanted_fact : Literal → Option Fact
  wanted_fact l = if l.positive then fact_of l.atom else None

  abbrev pub excluded_fact : Literal → Option Fact
  excluded_fact l = if l.positive then None else option_map none_fact (slots l.atom)

  -- excluded atoms first: a wanted atom of the same variable then replaces the none value
  abbrev pub condition_facts : List Literal → List Fact
  condition_facts literals = assigned wanted_fact (assigned excluded_fact [] literals) literals

  -- whether the fact of a wanted atom is one of these, or that of an excluded atom is not
  abbrev pub agrees : List Fact → Literal → Bool
  agrees facts l = option_map_or (λ f. if l.positive then has_fact facts f else not (has_fact facts f)) (fact_of l.atom) true

  -- the none value for a deleted atom that the condition requires, or that is the only one of its variable
  abbrev pub removed_fact : List Fact → Atom → Option Fact
  removed_fact condition p =
      option_and_then (λ s. if s.count == 1 || has_fact condition (own_fact s) then Some (none_fact s) else None) (slots p)

  -- deleted atoms first: an added atom of the same variable then replaces the none value
  abbrev pub target_facts : List Fact → Action → List Fact
  target_facts condition a = assigned fact_of (assigned (removed_fact condition) [] a.deletes) a.adds

  abbrev pub effect_facts : List Fact → Action → List Fact
  effect_facts condition a = filter (λ f. not (has_fact condition f)) (target_facts condition a)

  -- the operator of an action, unless its precondition cannot hold in a reachable state
  abbrev pub made_operator : Vocabulary → Action → Option Operator
  made_operator names a =
      if list_all (agrees (condition_facts a.precondition)) a.precondition then Some (record {
        name = action_name names a;
        precondition = condition_facts a.precondition;
        effect = effect_facts (condition_facts a.precondition) a;
        cost = a.cost;
      }) else None

-- the indices of the elements that pass the test, counted from `place`
abbrev pub places_where : {X : Type 0} → (X → Bool) → ℕ → List X → List ℕ
places_where test place [] = []
places_where test place (x ∷ xs) =
    if test x then place ∷ places_where test (place + 1) xs else places_where test (place + 1) xs
