use Rattle.std.proofs.Common.{◌≡◌, List, ℕ, Some, subst}
use Rattle.fdr.specs.Tasks.{step}
use Rattle.scp.proofs.Applying.{leads_to_state}
use Rattle.scp.proofs.places.write_successor.Goals as goal

pub returns-clause-step : goal.returns-clause-step
returns-clause-step c =
    subst (λ (s : List ℕ). step c.args.task.now s c.args.operator ≡ Some c.advance.new.state) c.copy_from_slice.ensures.after c.advance.ensures

pub returns-clause-state : goal.returns-clause-state
returns-clause-state c =
    leads_to_state c.args.task.now c.copy_from_slice.new.self c.args.state.now c.advance.new.state c.args.operator c.recall.ensures.task
    c.requires.state c.copy_from_slice.ensures.after c.advance.ensures
