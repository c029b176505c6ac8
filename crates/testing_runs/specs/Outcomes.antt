-- The output and the reports of a run.
use Rattle.std.specs.Prelude.{ℕ, List, [], ◌∷◌, ◌++◌}
use Rattle.optplan_device.specs.Events.{Event, HasRead, HasWritten, HasPut, HasReported}

-- what an event writes to standard output
abbrev pub put_by : Event → List ℕ
put_by (HasPut bytes) = bytes
put_by (HasReported bytes) = []
put_by (HasRead name bytes) = []
put_by (HasWritten name bytes) = []

-- what an event writes to standard error
abbrev pub reported_by : Event → List ℕ
reported_by (HasReported bytes) = bytes
reported_by (HasPut bytes) = []
reported_by (HasRead name bytes) = []
reported_by (HasWritten name bytes) = []

-- what is written to standard output
abbrev pub put_of : List Event → List ℕ
put_of [] = []
put_of (e ∷ events) = put_by e ++ put_of events

-- what is written to standard error
abbrev pub reported_of : List Event → List ℕ
reported_of [] = []
reported_of (e ∷ events) = reported_by e ++ reported_of events
