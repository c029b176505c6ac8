use Rattle.std.proofs.Common.{◌≡◌, ◌∙◌, length, Some, refl, ap}
use Rattle.owner.specs.declared.fault.OwnerFault.TheVariants.{TotalTooLarge, LimitReached}
use Rattle.engine.specs.Steps.{no_stop}
use Rattle.engine.proofs.Asked.{asked_in, asked_ready, asked_empty, still_unsettled, refused_by, refused_end}
use Rattle.engine.proofs.Endings.{end_in, limit_end}
use Rattle.engine.proofs.searches.after_refusal.Goals as goal

pub returns-in-None-clause-outcome : goal.returns-in-None-clause-outcome
returns-in-None-clause-outcome g c =
    asked_ready g.S.Spread.owner c.args.number c.args.team (c.in_ok-team.team, c.in_ok-team.refused) c.in_ok-team.ensures c.args.team.space
    (length c.args.team.workers) (record { space = refl; count = refl }) c.requires.none_aside

pub into_joined-requires : goal.into_joined-requires
into_joined-requires g c =
    asked_empty g.S.Spread.owner c.args.number c.args.team (c.in_ok-team.team, c.in_ok-team.refused) c.in_ok-team.ensures g.F.StateForm.values c.requires.empty

pub returns-in-Some-LimitReached-clause-outcome : goal.returns-in-Some-LimitReached-clause-outcome
returns-in-Some-LimitReached-clause-outcome g c =
    let refused : c.in_ok-team.refused ≡ Some LimitReached = c.in-Some-LimitReached.is
    ∙ ap Some (rw c.in-Some-LimitReached.is at c.in-Some-LimitReached.field-0-is) in
    let joined = c.in_ok-joined-in-Some-LimitReached in
    limit_end g.S.Spread.owner c.args.team.space (length c.args.team.workers) c.in_ok-team.team
    (asked_in g.S.Spread.owner c.args.number c.args.team (c.in_ok-team.team, c.in_ok-team.refused) c.in_ok-team.ensures c.args.team.space
    (length c.args.team.workers) (record { space = refl; count = refl }))
    joined.joined joined.ensures.space joined.ensures.owners joined.ensures.left
    c.recall.ensures.form c.recall.ensures.lawful no_stop
    (still_unsettled g.S.Spread.owner c.args.number c.args.team (c.in_ok-team.team, c.in_ok-team.refused) c.in_ok-team.ensures LimitReached refused
    c.requires.unsettled)
    (refused_by g.S.Spread.owner c.args.number c.args.team (c.in_ok-team.team, c.in_ok-team.refused) c.in_ok-team.ensures LimitReached refused
    c.requires.number joined.joined joined.ensures.owners)

pub into_joined-requires-in-Some-TotalTooLarge : goal.into_joined-requires-in-Some-TotalTooLarge
into_joined-requires-in-Some-TotalTooLarge g c =
    asked_empty g.S.Spread.owner c.args.number c.args.team (c.in_ok-team.team, c.in_ok-team.refused) c.in_ok-team.ensures g.F.StateForm.values c.requires.empty

pub returns-in-Some-TotalTooLarge-clause-fault : goal.returns-in-Some-TotalTooLarge-clause-fault
returns-in-Some-TotalTooLarge-clause-fault g c =
    let refused : c.in_ok-team.refused ≡ Some TotalTooLarge = c.in-Some-TotalTooLarge.is
    ∙ ap Some (rw c.in-Some-TotalTooLarge.is at c.in-Some-TotalTooLarge.field-0-is) in
    let joined = c.in_ok-into_joined-in-Some-TotalTooLarge in
    refused_end g.S.Spread.owner c.args.number c.args.team (c.in_ok-team.team, c.in_ok-team.refused) c.in_ok-team.ensures TotalTooLarge refused
    c.requires.number c.args.team.space (length c.args.team.workers) joined.field-0 joined.ensures.owners
    (end_in g.S.Spread.owner c.args.team.space (length c.args.team.workers) c.in_ok-team.team
    (asked_in g.S.Spread.owner c.args.number c.args.team (c.in_ok-team.team, c.in_ok-team.refused) c.in_ok-team.ensures c.args.team.space
    (length c.args.team.workers) (record { space = refl; count = refl }))
    joined.field-0 joined.ensures.space joined.ensures.owners joined.ensures.left
    c.recall-in-Some-TotalTooLarge-2.ensures.form c.recall-in-Some-TotalTooLarge-2.ensures.lawful)
