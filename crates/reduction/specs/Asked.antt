-- Asked facts: the values that a search for the goal has to distinguish. They are the least set that holds the facts of
-- the goal and the conditions of each operator with an effect that changes a class, if each asked value of a variable
-- is a class of its own and its other values share one.
use Rattle.std.specs.Prelude.{◌≡◌, ℕ, ◌<◌, ◌↔◌, ◌==◌, ◌&&◌, ◌||◌, Bool, true, false, not, List, All, IsSomeAnd, slice_get, slice_index, length}
use Rattle.std.specs.List.{list_any, range_with_len}
use Rattle.std.specs.Option.{option_map_or}
use Rattle.fdr.specs.declared.fact.Fact.{Fact}
use Rattle.fdr.specs.Tasks.{FiniteDomainTask, Operator, ranges}
use Rattle.abstraction.specs.Facts.{value_in}
use Rattle.abstraction_domain.specs.Rows.{AreNumbered}
use Rattle.reduction_classes.specs.Classes.{class_of, AreClassesFor}
use Rattle.reduction.specs.Facts.{Facts, fact, Includes}

-- whether two values of a variable are in different classes: they differ, and one of them is asked for
abbrev pub are_apart : Facts → ℕ → ℕ → ℕ → Bool
are_apart asked v x y = not (x == y) && (asked (fact v x) || asked (fact v y))

-- whether a variable has two classes: some value is in another class than the first
abbrev pub has_two_classes : List ℕ → Facts → ℕ → Bool
has_two_classes ranges asked v = list_any (are_apart asked v 0) (range_with_len 0 (slice_index ranges v))

-- whether an effect changes the class of its variable: there is a condition on the variable whose value is in another
-- class, or none and the variable has two classes
abbrev pub changes_class : List ℕ → Facts → List Fact → Fact → Bool
changes_class ranges asked precondition e =
    option_map_or (λ x. are_apart asked e.variable x e.value) (value_in precondition e.variable) (has_two_classes ranges asked e.variable)

-- whether an effect of the operator changes a class
abbrev pub changes_classes : List ℕ → Facts → Operator → Bool
changes_classes ranges asked op = list_any (changes_class ranges asked op.precondition) op.effect

-- the operator with this number exists and changes a class
abbrev pub ChangesClass : FiniteDomainTask → Facts → ℕ → Type 0
ChangesClass task asked o = IsSomeAnd (slice_get task.operators o) (λ op. changes_classes (ranges task) asked op ≡ true)

-- each of the facts is in the set
abbrev pub AllAsked : Facts → List Fact → Type 0
AllAsked asked facts = All (λ f. asked f ≡ true) facts

-- the set has the facts of the goal, and the conditions of each operator that changes a class
pub record IsClosed (task : FiniteDomainTask) (asked : Facts) : Type 0 where
  pub goal : AllAsked asked task.goal
  pub conditions : All (λ op. changes_classes (ranges task) asked op ≡ true → AllAsked asked op.precondition) task.operators

-- the least closed set
pub record AreAsked (task : FiniteDomainTask) (asked : Facts) : Type 0 where
  pub closed : IsClosed task asked
  pub least : (other : Facts) → IsClosed task other → Includes other asked

-- the classes by a set of facts: two values of a variable share one exactly if they are not apart
pub record AreClassesBy (ranges : List ℕ) (asked : Facts) (classes : List (List ℕ)) : Type 0 where
  pub fit : AreClassesFor ranges classes
  pub numbered : All AreNumbered classes
  pub shared : (v x y : ℕ) → v < length ranges → x < slice_index ranges v → y < slice_index ranges v →
      (class_of classes v x ≡ class_of classes v y) ↔ (are_apart asked v x y ≡ false)
