-- The transitions of a group, listed: from one with the least values, copies with each other value at each digit that
-- may have any value before.
use Rattle.std.specs.Prelude.{◌≡◌, ℕ, zero, suc, ◌+◌, ◌*◌, ◌^◌, ◌<◌, ◌≤◌, List, [], ◌∷◌, ◌++◌, map, All, Contains}
use Rattle.keyed_lists.specs.declared.lists.Keyed.{Keyed}
use Rattle.abstraction.specs.declared.digit.Digit.{Digit}
use Rattle.abstraction_groups.specs.declared.backward.Transition.{Transition}
use Rattle.abstraction_groups.specs.declared.change.Change.{Change}
use Rattle.abstraction_groups.specs.declared.change.Change.TheVariants.{Kept, Required, Moved, Assigned}
use Rattle.abstraction_groups.specs.declared.change.DigitChange.{DigitChange}
use Rattle.abstraction_groups.specs.Changes.{least_before, least_after, IsFit, size_by}

-- a transition to the abstract state `key`, with more added to the source and to the target
abbrev pub shifted : ℕ → ℕ → Keyed Transition → Keyed Transition
shifted source target e =
    record { key = e.key + target; item = record { class = e.item.class; source = e.item.source + source } }

-- copies with each value below n at a digit, of which the source and the target have these multiples
abbrev pub copies : ℕ → ℕ → ℕ → List (Keyed Transition) → List (Keyed Transition)
copies zero source target es = []
copies (suc n) source target es = copies n source target es ++ map (shifted (n * source) (n * target)) es

-- copies for the values that the digit may have before
abbrev pub copies_at : Change → Digit → List (Keyed Transition) → List (Keyed Transition)
copies_at Kept d es = copies d.range d.weight d.weight es
copies_at (Required c) d es = es
copies_at (Moved from to) d es = es
copies_at (Assigned e) d es = copies d.range d.weight 0 es

abbrev pub entries_from : Keyed Transition → List DigitChange → List (Keyed Transition)
entries_from first [] = first ∷ []
entries_from first (c ∷ cs) = copies_at c.change c.digit (entries_from first cs)

-- the least source, and its target
abbrev pub least_source : List DigitChange → ℕ
least_source [] = 0
least_source (c ∷ cs) = least_before c.change * c.digit.weight + least_source cs

abbrev pub least_target : List DigitChange → ℕ
least_target [] = 0
least_target (c ∷ cs) = least_after c.change * c.digit.weight + least_target cs

abbrev pub first_entry : ℕ → List DigitChange → Keyed Transition
first_entry class cs = record { key = least_target cs; item = record { class = class; source = least_source cs } }

-- the transitions of the group
abbrev pub group_entries : ℕ → List DigitChange → List (Keyed Transition)
group_entries class cs = entries_from (first_entry class cs) cs

-- each digit's weight is the product of `w`, the weight of the first, and the ranges below it
abbrev pub IsChain : ℕ → List DigitChange → Type 0
IsChain w [] = Unit {0}
IsChain w (c ∷ cs) = (c.digit.weight ≡ w) × IsChain (w * c.digit.range) cs

-- changes at the digits of an abstraction with at most 2^24 abstract states
pub record IsRow (cs : List DigitChange) : Type 0 where
  pub fit : All IsFit cs
  pub small : size_by cs ≤ 2 ^ 24
  pub chain : IsChain 1 cs

-- the copies with the values below `range` have small sources and targets
abbrev pub AreSmall : ℕ → ℕ → ℕ → List (Keyed Transition) → Type 0
AreSmall range source target es =
    (e : Keyed Transition) (x : ℕ) → Contains es e → x < range → (e.item.source + x * source < 2 ^ 24) × (e.key + x * target < 2 ^ 24)
