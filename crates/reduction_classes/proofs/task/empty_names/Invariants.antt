use Rattle.std.proofs.Common.{◌≡◌, ℕ, List, [], map, replicate, string_bytes}
use Rattle.reduction_classes.proofs.task.empty_names.Given as goal

abbrev pub invariant-loop : goal.invariant-loop
invariant-loop l = map string_bytes l.names.items ≡ replicate {A = List ℕ} l.counter []
