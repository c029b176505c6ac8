use Rattle.std.proofs.Common.{◌≡◌, map, drop, ◌++◌, string_bytes}
use Rattle.optplan_device.specs.Memory.{event_of}
use Rattle.testing_runs.specs.Outcomes.{put_of, reported_of}
use Rattle.testing_runs.proofs.outcome.recorded.Given as goal

abbrev pub invariant-loop-event : goal.invariant-loop-event
invariant-loop-event l = record {
  out : string_bytes l.outcome.out ++ put_of (map event_of (drop l.event-index l.events)) ≡ put_of (map event_of l.events);
  err : string_bytes l.outcome.err ++ reported_of (map event_of (drop l.event-index l.events)) ≡ reported_of (map event_of l.events);
  status : l.outcome.status ≡ l.fn.status;
}
