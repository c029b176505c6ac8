-- The pairs of abstract states between which an operator has a transition, described by the digits that it leaves free.
use Rattle.std.specs.Prelude.{◌≡◌, ℕ, ◌+◌, ◌*◌, ◌<◌, ◌≤◌, ◌↔◌, Bool, true, false, List, [], ◌∷◌, Option, All, IfSome, unwrap_or}
use Rattle.std.specs.List.{list_all}
use Rattle.fdr.specs.declared.fact.Fact.{Fact}
use Rattle.abstraction.specs.declared.digit.Digit.{Digit}
use Rattle.abstraction.specs.Abstractions.{Abstraction}
use Rattle.abstraction.specs.Projections.{size_of, agrees, index_after}
use Rattle.checker_tables.specs.declared.moves.FreeDigit.{FreeDigit}
use Rattle.checker_tables.specs.declared.moves.Moves.{Moves}

-- some values of the free digits move `source` to `a` and `target` to `b`
abbrev pub Reaches : List FreeDigit → ℕ → ℕ → ℕ → ℕ → Type 0
Reaches [] source target a b = (a ≡ source) × (b ≡ target)
Reaches (d ∷ ds) source target a b =
    (x : ℕ) × (x < d.range) × Reaches ds (source + x * d.source) (target + x * d.target) a b

-- the moves contain a transition from the first abstract state to the second
abbrev pub Leads : Moves → ℕ → ℕ → Type 0
Leads m a b = Reaches m.free.items m.source m.target a b

-- each free digit has a value, and all pairs that are reached are below these limits
pub record StaysBelow (ds : List FreeDigit) (source target sources targets : ℕ) : Type 0 where
  pub positive : All (λ d. 0 < d.range) ds
  pub below : (a b : ℕ) → Reaches ds source target a b → (a < sources) × (b < targets)

-- `x` satisfies the condition, if there is one, and the effect changes it to `y`
abbrev pub Changes : Option ℕ → Option ℕ → ℕ → ℕ → Type 0
Changes condition effect x y = IfSome condition (λ c. x ≡ c) × (unwrap_or effect x ≡ y)

-- a transition of `old`, extended by a change of the value of one more digit
pub record IsExtended (old : Moves) (d : Digit) (condition effect : Option ℕ) (a b : ℕ) : Type 0 where
  pub before : ℕ
  pub after : ℕ
  pub source : ℕ
  pub target : ℕ
  pub in_range : before < d.range
  pub changes : Changes condition effect before after
  pub leads : Leads old source target
  pub from : a ≡ source + before * d.weight
  pub to : b ≡ target + after * d.weight

-- the moves of a part of a pattern, scaled by `weight`: the transitions under this precondition and effect
pub record AreMoves (ranges pattern : List ℕ) (weight : ℕ) (precondition effect : List Fact) (m : Moves) : Type 0 where
  pub to : (i : ℕ) → i < size_of ranges pattern → list_all (agrees ranges pattern i) precondition ≡ true
      → Leads m (i * weight) (index_after ranges pattern i effect * weight)
  pub from : (a b : ℕ) → Leads m a b → (i : ℕ) × (i < size_of ranges pattern)
      × (list_all (agrees ranges pattern i) precondition ≡ true) × (a ≡ i * weight) × (b ≡ index_after ranges pattern i effect * weight)
  pub positive : All (λ d. 0 < d.range) m.free.items

-- the digit without weight in the target
abbrev pub without_target : FreeDigit → FreeDigit
without_target d = record { range = d.range; source = d.source; target = 0 }

-- the same moves with all targets replaced by the abstract state 0
pub record IsGathered (old new : Moves) : Type 0 where
  pub leads : (a b : ℕ) → Leads new a b ↔ ((b ≡ 0) × (c : ℕ) × Leads old a c)
  pub positive : All (λ d. 0 < d.range) old.free.items → All (λ d. 0 < d.range) new.free.items

-- the moves are one transition from each abstract goal to 0
pub record AreGoals (abs : Abstraction) (m : Moves) : Type 0 where
  pub leads : (a b : ℕ) → Leads m a b ↔ ((a < abs.size) × (abs.is_goal a ≡ true) × (b ≡ 0))
  pub positive : All (λ d. 0 < d.range) m.free.items

-- The least source of a pair that fails the test, or `limit` if there is none below it.
pub record IsLeast (test : ℕ → ℕ → Bool) (ds : List FreeDigit) (source target limit least : ℕ) : Type 0 where
  pub within : least ≤ limit
  pub before : (a b : ℕ) → Reaches ds source target a b → a < least → test a b ≡ true
  pub there : least < limit → (b : ℕ) × Reaches ds source target least b × (test least b ≡ false)

-- the least number that fails the test, or the limit if there is none below it
pub record IsLeastFailing (test : ℕ → Bool) (limit least : ℕ) : Type 0 where
  pub within : least ≤ limit
  pub before : (a : ℕ) → a < least → test a ≡ true
  pub there : least < limit → test least ≡ false
