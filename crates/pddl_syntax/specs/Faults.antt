-- Faults with their places, and their order.
use Rattle.std.specs.Prelude.{◌≡◌, ℕ, ◌⊎◌, ◌==◌, nat_lt, ◌||◌, ◌&&◌, Bool, true, false, if◌then◌else◌, List, [], ◌∷◌, Option, Some, None}
use Rattle.pddl_syntax.specs.declared.fault.Fault.{Fault}
use Rattle.pddl_syntax.specs.declared.fault.FaultKind.{FaultKind}
use Rattle.pddl_syntax.specs.declared.fault.FaultKind.TheVariants.{Shape, Unsupported, UnknownName, Arity, TwiceDeclared, TypeCycle, NotWhole, CostRange, Limit, GoalBothWays}

abbrev pub number : FaultKind → ℕ
number Shape = 10
number Unsupported = 11
number UnknownName = 12
number Arity = 13
number TwiceDeclared = 14
number TypeCycle = 15
number NotWhole = 16
number CostRange = 17
number (Limit table) = 18
number GoalBothWays = 19

-- a lower place, or the same place and a lower number
abbrev pub precedes : Fault → Fault → Bool
precedes e f = nat_lt e.at f.at || (e.at == f.at && nat_lt (number e.kind) (number f.kind))

-- the earlier of the recorded fault, if there is one, and another
abbrev pub earlier : Option Fault → Fault → Option Fault
earlier None f = Some f
earlier (Some e) f = if precedes f e then Some f else Some e

-- the earliest of the recorded fault `known`, if there is one, and others
unfoldable pub first_of : Option Fault → List Fault → Option Fault
first_of known [] = known
first_of known (f ∷ fs) = first_of (earlier known f) fs

abbrev pub fault : FaultKind → ℕ → Fault
fault kind at = record { at = at; kind = kind }

-- the fault, if the condition holds, followed by others
abbrev pub faults_if : Bool → Fault → List Fault → List Fault
faults_if true f fs = f ∷ fs
faults_if false f fs = fs

-- the fault is one of these
abbrev pub IsOneOf : List Fault → Fault → Type 0
IsOneOf [] e = ⊥
IsOneOf (f ∷ fs) e = (e ≡ f) ⊎ IsOneOf fs e

-- one of these faults, and none of them precedes it
pub record IsFirst (fs : List Fault) (e : Fault) : Type 0 where
  pub there : IsOneOf fs e
  pub least : (f : Fault) → IsOneOf fs f → precedes f e ≡ false
