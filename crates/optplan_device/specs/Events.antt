-- The reads and writes of a program.
use Rattle.std.specs.Prelude.{◌≡◌, ℕ, List, [], ◌∷◌, ◌++◌, Option}
use Rattle.std.specs.Option.{option_map}
use Rattle.optplan_device.specs.declared.device.DeviceFault.{DeviceFault}
use Rattle.optplan_device.specs.declared.device.DeviceFault.TheVariants.{Memory, Failed}

-- a file was read whole or written whole, or bytes were written to standard output or standard error
pub data Event : Type 0 where
  HasRead : List ℕ → List ℕ → Event
  HasWritten : List ℕ → List ℕ → Event
  HasPut : List ℕ → Event
  HasReported : List ℕ → Event

-- the history of a device that specifies one has one more event
abbrev pub Adds : Option (List Event) → Option (List Event) → Event → Type 0
Adds old new e = new ≡ option_map (λ h. h ++ e ∷ []) old

-- the number of failures that a fault adds to the count
abbrev pub failure_of : DeviceFault → ℕ
failure_of Memory = 0
failure_of Failed = 1
