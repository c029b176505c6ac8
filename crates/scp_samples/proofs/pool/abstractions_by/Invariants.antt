use Rattle.std.proofs.Common.{◌≡◌}
use Rattle.std.specs.Prelude.{All}
use Rattle.abstraction_mapping.specs.Views.{task_in}
use Rattle.scp_samples.proofs.pool.abstractions_by.Given as goal

abbrev pub invariant-loop-mapping : goal.invariant-loop-mapping
invariant-loop-mapping l = All (λ a. task_in a ≡ l.task) l.made.items
