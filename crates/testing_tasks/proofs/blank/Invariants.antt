use Rattle.std.proofs.Common.{◌≡◌, [], map}
use Rattle.std.specs.Prelude.{replicate, string_bytes}
use Rattle.testing_tasks.proofs.blank.Given as goal

abbrev pub invariant-loop : goal.invariant-loop
invariant-loop l = map string_bytes l.names.items ≡ replicate l.counter []
