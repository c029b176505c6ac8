use Rattle.std.proofs.Common.{sym, ◌∙◌}
use Rattle.checker_states.proofs.Successors.{next_is_state}
use Rattle.checker_states.proofs.UnchangedStates.{unchanged_passes}
use Rattle.checker_states.proofs.coverage.Coverage.covers.Goals as goal

pub is_covered-requires : goal.is_covered-requires
is_covered-requires c =
    let inside = c.self.inside in
    rw (← c.self.view_is)
    (next_is_state inside.task.now inside.certificate.now c.args.place c.args.operator c.args.state.now (rw (← c.self.view_is) at c.requires.here)
    (rw (← c.self.view_is) at c.requires.state) c.self.invariant.well c.apply.new.state (rw c.copy_from_slice.ensures.after at c.apply.ensures.state))

pub returns-then-not-can_change : goal.returns-then-not-can_change
returns-then-not-can_change c =
    let passed_over = sym c.can_change.ensures ∙ c.if-not-can_change.true in
    sym (unchanged_passes c.args.self.now.task c.args.self.now.certificate c.args.place c.args.operator passed_over)
