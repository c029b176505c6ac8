-- The first fault of a list, found one by one.
use Rattle.std.proofs.Common.{◌≡◌, ℕ, suc, List, [], ◌∷◌, Option, Some, None, refl}
use Rattle.engine_round.specs.declared.fault.TurnFault.{TurnFault}
use Rattle.engine_round.specs.Rounds.{first_fault, earlier}

-- the first fault of those so far and of those at the next places
abbrev pub first_of : Option (ℕ × TurnFault) → ℕ → List (Option TurnFault) → Option (ℕ × TurnFault)
first_of (Some first) v faults = Some first
first_of None v faults = first_fault v faults

pub first_more : (first : Option (ℕ × TurnFault)) (v : ℕ) (f : Option TurnFault) (fs : List (Option TurnFault))
    → first_of (earlier first v f) (suc v) fs ≡ first_of first v (f ∷ fs)
first_more (Some first) v f fs = refl
first_more None v None fs = refl
first_more None v (Some fault) fs = refl

pub first_all : (first : Option (ℕ × TurnFault)) (v : ℕ) → first_of first v [] ≡ first
first_all (Some first) v = refl
first_all None v = refl
