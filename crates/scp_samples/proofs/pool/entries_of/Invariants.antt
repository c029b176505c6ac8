use Rattle.std.proofs.Common.{◌≡◌}
use Rattle.std.specs.Prelude.{All}
use Rattle.scp_samples.specs.Tasks.{task_of}
use Rattle.scp_samples.proofs.pool.entries_of.Given as goal

abbrev pub invariant-loop-number : goal.invariant-loop-number
invariant-loop-number g l = All (λ e. task_of e.listed ≡ l.task) l.entries.items
