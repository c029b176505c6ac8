use Rattle.fdr.specs.Tasks.{ranges, IsState}
use Rattle.scp_samples.proofs.walks.walk_end.Given as goal

abbrev pub invariant-loop : goal.invariant-loop
invariant-loop l = IsState (ranges l.task) l.state.items
