-- The events that a device in memory recorded.
use Rattle.std.specs.Prelude.{string_bytes}
use Rattle.optplan_device.specs.declared.memory.Recorded.{Recorded}
use Rattle.optplan_device.specs.declared.memory.Recorded.TheVariants.{Read, Written, Put, Reported}
use Rattle.optplan_device.specs.Events.{Event, HasRead, HasWritten, HasPut, HasReported}

abbrev pub event_of : Recorded → Event
event_of (Read name bytes) = HasRead (string_bytes name) bytes.items
event_of (Written name bytes) = HasWritten (string_bytes name) bytes.items
event_of (Put bytes) = HasPut bytes.items
event_of (Reported bytes) = HasReported bytes.items
