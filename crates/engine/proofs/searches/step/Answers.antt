use Rattle.std.proofs.Common.{◌∙◌, length, map, Some, sym, ap, subst}
use Rattle.std.proofs.lemmas.Result.{IfOk-weaker, MatchResult-weaker}
use Rattle.owner.specs.Spaces.{searched}
use Rattle.engine.specs.Steps.{no_stop, IsHalt, IsOutcome}
use Rattle.engine.proofs.Endings.{unsettled, drained_ready, through, fault_through, searched_under, fault_under, settled_end, gate_end}
use Rattle.engine.proofs.searches.step.Goals as goal

pub returns-then-is_some-clause-outcome : goal.returns-then-is_some-clause-outcome
returns-then-is_some-clause-outcome g c =
    let ready = drained_ready g.S.Spread.owner c.args.team.space (length c.args.team.workers) g.F.StateForm.values c.in_ok-played.played c.in_ok-drained.drained
    c.in_ok-played.ensures.team c.in_ok-drained.ensures in
    settled_end g.S.Spread.owner c.args.team.space (length c.args.team.workers) c.in_ok-drained.drained ready.is_in c.in_ok-joined.joined
    c.in_ok-joined.ensures.space c.in_ok-joined.ensures.owners c.in_ok-joined.ensures.left
    c.recall.ensures.form c.recall.ensures.lawful (g.G.Gate.may_stop c.args.gate.now)
    c.in_ok-settled.field-0 c.in_ok-settled.ensures (sym c.is_some.ensures ∙ c.if-is_some.true)

pub after_refusal-requires-clause-none_aside : goal.after_refusal-requires-clause-none_aside
after_refusal-requires-clause-none_aside g c =
    (drained_ready g.S.Spread.owner c.args.team.space (length c.args.team.workers) g.F.StateForm.values c.in_ok-played.played c.in_ok-drained.drained
    c.in_ok-played.ensures.team c.in_ok-drained.ensures).none_aside

pub after_refusal-requires-clause-unsettled : goal.after_refusal-requires-clause-unsettled
after_refusal-requires-clause-unsettled g c =
    unsettled (searched g.S.Spread.owner c.in_ok-drained.drained.space (length c.in_ok-drained.drained.workers))
    (map (λ w. w.owner) c.in_ok-drained.drained.workers) c.in_ok-settled.field-0 c.in_ok-settled.ensures (sym c.is_some.ensures ∙ c.if-is_some.false)

pub returns-in-None-clause-outcome : goal.returns-in-None-clause-outcome
returns-in-None-clause-outcome g c =
    drained_ready g.S.Spread.owner c.args.team.space (length c.args.team.workers) g.F.StateForm.values c.in_ok-played.played c.in_ok-drained.drained
    c.in_ok-played.ensures.team c.in_ok-drained.ensures

pub returns-in-Some-Refused-clause-outcome : goal.returns-in-Some-Refused-clause-outcome
returns-in-Some-Refused-clause-outcome g c =
    let ready = drained_ready g.S.Spread.owner c.args.team.space (length c.args.team.workers) g.F.StateForm.values c.in_ok-played.played c.in_ok-drained.drained
    c.in_ok-played.ensures.team c.in_ok-drained.ensures in
    IfOk-weaker c.after_refusal.result
    (IsOutcome g.S.Spread.owner no_stop c.in_ok-drained.drained.space (length c.in_ok-drained.drained.workers))
    (IsOutcome g.S.Spread.owner (g.G.Gate.may_stop c.args.gate.now) c.args.team.space (length c.args.team.workers))
    (λ o out. searched_under g.S.Spread.owner c.args.team.space (length c.args.team.workers) (g.G.Gate.may_stop c.args.gate.now) o
    (through g.S.Spread.owner c.args.team.space (length c.args.team.workers) no_stop c.in_ok-drained.drained o ready.is_in out))
    c.after_refusal.ensures.outcome

pub returns-in-Some-Refused-clause-fault : goal.returns-in-Some-Refused-clause-fault
returns-in-Some-Refused-clause-fault g c =
    let ready = drained_ready g.S.Spread.owner c.args.team.space (length c.args.team.workers) g.F.StateForm.values c.in_ok-played.played c.in_ok-drained.drained
    c.in_ok-played.ensures.team c.in_ok-drained.ensures in
    MatchResult-weaker c.after_refusal.result c.after_refusal.ensures.fault (λ o h. h)
    (λ f out. fault_under g.S.Spread.owner c.args.team.space (length c.args.team.workers) (g.G.Gate.may_stop c.args.gate.now) f
    (fault_through g.S.Spread.owner c.args.team.space (length c.args.team.workers) no_stop c.in_ok-drained.drained f ready.is_in out))

pub returns-in_ok-joined-in-Some-ByGate-clause-outcome : goal.returns-in_ok-joined-in-Some-ByGate-clause-outcome
returns-in_ok-joined-in-Some-ByGate-clause-outcome g c =
    let ready = drained_ready g.S.Spread.owner c.args.team.space (length c.args.team.workers) g.F.StateForm.values c.in_ok-played.played c.in_ok-drained.drained
    c.in_ok-played.ensures.team c.in_ok-drained.ensures in
    let joined = c.in_ok-joined-in-Some-ByGate in
    gate_end g.S.Spread.owner c.args.team.space (length c.args.team.workers) c.in_ok-drained.drained ready.is_in joined.joined
    joined.ensures.space joined.ensures.owners joined.ensures.left
    c.recall-in-Some-ByGate.ensures.form c.recall-in-Some-ByGate.ensures.lawful (g.G.Gate.may_stop c.args.gate.now) c.in-Some-ByGate.cause
    (unsettled (searched g.S.Spread.owner c.in_ok-drained.drained.space (length c.in_ok-drained.drained.workers))
    (map (λ w. w.owner) c.in_ok-drained.drained.workers) c.in_ok-settled.field-0 c.in_ok-settled.ensures (sym c.is_some.ensures ∙ c.if-is_some.false))
    (subst (IsHalt (g.G.Gate.may_stop c.args.gate.now) (length c.args.team.workers)) (c.in-Some-ByGate.is ∙ ap Some (rw c.in-Some-ByGate.is at c.in-Some-ByGate.field-0-is))
    c.in_ok-played.ensures.halt)
