use Rattle.std.proofs.Common.{sym, ◌∙◌, subst, true≢false}
use Rattle.fdr.specs.Tasks.{ranges, IsState}
use Rattle.closed.specs.Tables.{message_of}
use Rattle.owner.specs.Spaces.{searched}
use Rattle.worker.proofs.Fits.{no_state}
use Rattle.worker.proofs.fitting.is_for.Goals as goal

pub returns-then-not-holds_state-clause-not : goal.returns-then-not-holds_state-clause-not
returns-then-not-holds_state-clause-not g c = λ _.
    no_state (searched g.S.Spread.owner c.args.space.now c.args.owners) c.args.number
    (message_of (g.F.StateForm.values (ranges c.args.space.now.task)) c.args.message.now)
    (λ state. true≢false (sym (c.holds_state.ensures.1
    (subst (λ rs. IsState rs (g.F.StateForm.values rs c.args.message.now.state)) (sym c.layout-layout.ensures) state)) ∙ c.if-not-holds_state.true))
