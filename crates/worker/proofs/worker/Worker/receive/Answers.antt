use Rattle.std.proofs.Common.{◌≡◌, ◌∙◌, refl, true, false, ap, sym, subst, length, arith, add-one}
use Rattle.fdr.specs.Tasks.{ranges}
use Rattle.owner_theory.specs.Owners.{fits}
use Rattle.closed.specs.Tables.{message_of}
use Rattle.owner.specs.Spaces.{SpaceOf}
use Rattle.owner.specs.Owned.{OwnerOf, space_of}
use Rattle.worker.specs.Workers.{WorkerOf, misfits_of, received_from}
use Rattle.worker.proofs.Rows.{put_again}
use Rattle.worker.proofs.Fits.{unfit_as_read, fits_as_read, fits_here}
use Rattle.worker.proofs.Steps.{sets_aside, takes_one, holds}
use Rattle.worker.proofs.Working.{counted, nothing_received, set_aside, received_one, with_owner}
use Rattle.worker.proofs.worker.Worker.receive.Goals as goal

pub invariant_of-self : goal.invariant_of-self
invariant_of-self g c = (
  c.self.invariant.0,
  c.self.invariant.1,
  nothing_received g.S.Spread.owner g.F.StateForm.values _ c.pop.new.ins.items c.in_default.ensures.same.len (c.in_default.ensures.none _) c.self.invariant.2,
)

pub invariant_of-self-then-knows : goal.invariant_of-self-then-knows
invariant_of-self-then-knows g c =
    let o = c.self.inside.owner in
    let m = message_of (g.F.StateForm.values (ranges o.space.task)) c.in-Some.message in (
      c.self.invariant.0,
      c.self.invariant.1,
      counted g.S.Spread.owner g.F.StateForm.values _ _ _ _
          (received_one g.S.Spread.owner g.F.StateForm.values _ o _ c.pop.new.ins.items c.args.from m refl c.self.invariant.2
          (fits_here (space_of g.S.Spread.owner o) o.worker m (c.knows.ensures.state c.if-knows.true) (c.knows.ensures.owner c.if-knows.true))
          (c.knows.ensures.nothing c.if-knows.true) refl refl refl c.in-Some.ensures.same.len (c.in-Some.ensures.some _)),
    )

pub returns-then-knows-clause-received : goal.returns-then-knows-clause-received
returns-then-knows-clause-received g c =
    let o = c.self.inside.owner in
    rw (← c.self.view_is)
    (takes_one g.F.StateForm.values g.S.Spread.owner _ o _ c.pop.new.ins.items c.args.from _
    (message_of (g.F.StateForm.values (ranges o.space.task)) c.in-Some.message) refl
    (c.knows.ensures.nothing c.if-knows.true) refl refl refl
    (add-one c.self.inside.taken) c.in-Some.ensures.same (c.pop.ensures.fewer _) (c.in-Some.ensures.some _))

pub invariant_of-self-then-not-is_for : goal.invariant_of-self-then-not-is_for
invariant_of-self-then-not-is_for g c =
    let many : c.len-owners.result ≡ length c.self.inside.owner.outboxes = omega (arith, c.len-owners.ensures, c.self.inside.outs.ok.0, c.self.invariant.2.outs) in (
      c.self.invariant.0,
      c.is_for.ensures.buffer ∙ c.self.invariant.1,
      set_aside g.S.Spread.owner g.F.StateForm.values _ c.pop.new.ins.items c.args.from (message_of (g.F.StateForm.values (ranges c.self.inside.owner.space.task)) c.in-Some.message) c.self.invariant.2
          (ap (λ (w : WorkerOf g.row.S.Denot g.row.F.Denot). w.misfits) c.self.view_is ∙ c.requires.none_aside)
          (subst (λ (s : SpaceOf g.row.S.Denot). fits (space_of g.S.Spread.owner c.self.inside.owner) c.self.inside.owner.worker
          (message_of (g.F.StateForm.values (ranges s.task)) c.in-Some.message) ≡ false) c.space.ensures
          (unfit_as_read g.S.Spread.owner c.self.inside.owner c.space.result.now c.len-owners.result c.self.inside.number
          (message_of (g.F.StateForm.values (ranges c.space.result.now.task)) c.in-Some.message) c.space.ensures many
          c.self.invariant.0 (c.is_for.ensures.not c.if-not-is_for.true)))
          c.in-Some.ensures.same.len (c.in-Some.ensures.some _),
    )

pub returns-then-not-is_for-clause-received : goal.returns-then-not-is_for-clause-received
returns-then-not-is_for-clause-received g c =
    let many : c.len-owners.result ≡ length c.self.inside.owner.outboxes = omega (arith, c.len-owners.ensures, c.self.inside.outs.ok.0, c.self.invariant.2.outs) in
    rw (← c.self.view_is)
    (sets_aside g.F.StateForm.values g.S.Spread.owner _ c.pop.new.ins.items c.args.from (message_of (g.F.StateForm.values (ranges c.self.inside.owner.space.task)) c.in-Some.message)
    (subst (λ (s : SpaceOf g.row.S.Denot). fits (space_of g.S.Spread.owner c.self.inside.owner) c.self.inside.owner.worker
    (message_of (g.F.StateForm.values (ranges s.task)) c.in-Some.message) ≡ false) c.space.ensures
    (unfit_as_read g.S.Spread.owner c.self.inside.owner c.space.result.now c.len-owners.result c.self.inside.number
    (message_of (g.F.StateForm.values (ranges c.space.result.now.task)) c.in-Some.message) c.space.ensures many
    c.self.invariant.0 (c.is_for.ensures.not c.if-not-is_for.true)))
    c.in-Some.ensures.same (c.pop.ensures.fewer _) (c.in-Some.ensures.some _))

pub invariant_of-self-in-Ok : goal.invariant_of-self-in-Ok
invariant_of-self-in-Ok g c =
    let many : c.len-owners.result ≡ length c.self.inside.owner.outboxes = omega (arith, c.len-owners.ensures, c.self.inside.outs.ok.0, c.self.invariant.2.outs) in (
      c.self.invariant.0 ∙ sym c.in-Ok.ensures.worker,
      c.is_for.ensures.buffer ∙ (c.self.invariant.1 ∙ sym (ap (λ (s : SpaceOf g.row.S.Denot). length s.task.value_names) c.in-Ok.ensures.space)),
      counted g.S.Spread.owner g.F.StateForm.values _ _ _ _
          (received_one g.S.Spread.owner g.F.StateForm.values _ c.take.new.self _ c.pop.new.ins.items c.args.from
          (message_of (g.F.StateForm.values (ranges c.self.inside.owner.space.task)) c.in-Some.message)
          (ap (λ (s : SpaceOf g.row.S.Denot). misfits_of (g.F.StateForm.values (ranges s.task)) c.self.inside.misfit) c.in-Ok.ensures.space) c.self.invariant.2
          (subst (λ (s : SpaceOf g.row.S.Denot). fits (space_of g.S.Spread.owner c.self.inside.owner) c.self.inside.owner.worker
          (message_of (g.F.StateForm.values (ranges s.task)) c.in-Some.message) ≡ true) c.space.ensures
          (fits_as_read g.S.Spread.owner c.self.inside.owner c.space.result.now c.len-owners.result c.self.inside.number
          (message_of (g.F.StateForm.values (ranges c.space.result.now.task)) c.in-Some.message) c.space.ensures many
          c.self.invariant.0 (c.is_for.ensures.state c.if-not-is_for.false) (c.is_for.ensures.owner c.if-not-is_for.false)))
          c.in-Ok.ensures.taken c.in-Ok.ensures.space c.in-Ok.ensures.worker c.in-Ok.ensures.expansions c.in-Some.ensures.same.len
          (c.in-Some.ensures.some _)),
    )

pub returns-in-Ok-clause-received : goal.returns-in-Ok-clause-received
returns-in-Ok-clause-received g c =
    rw (← c.self.view_is)
    (takes_one g.F.StateForm.values g.S.Spread.owner _ c.take.new.self _ c.pop.new.ins.items c.args.from _
    (message_of (g.F.StateForm.values (ranges c.self.inside.owner.space.task)) c.in-Some.message)
    (ap (λ (s : SpaceOf g.row.S.Denot). misfits_of (g.F.StateForm.values (ranges s.task)) c.self.inside.misfit) c.in-Ok.ensures.space)
    c.in-Ok.ensures.taken c.in-Ok.ensures.space c.in-Ok.ensures.worker c.in-Ok.ensures.expansions
    (add-one c.self.inside.taken) c.in-Some.ensures.same (c.pop.ensures.fewer _) (c.in-Some.ensures.some _))

pub invariant_of-self-in-Err : goal.invariant_of-self-in-Err
invariant_of-self-in-Err g c =
    let values = g.F.StateForm.values (ranges c.self.inside.owner.space.task) in
    let refused = c.in-Err.ensures.refused in (
      c.self.invariant.0 ∙ sym c.in-Err.ensures.worker,
      c.is_for.ensures.buffer ∙ (c.self.invariant.1 ∙ sym (ap (λ (s : SpaceOf g.row.S.Denot). length s.task.value_names) c.in-Err.ensures.space)),
      with_owner g.S.Spread.owner g.F.StateForm.values _ c.take.new.self _ refused.1
          (ap (λ (o : OwnerOf g.row.S.Denot). misfits_of (g.F.StateForm.values (ranges o.space.task)) c.self.inside.misfit) refused.1)
          (nothing_received g.S.Spread.owner g.F.StateForm.values _ c.give_back.new.ins.items (c.give_back.ensures.same.len ∙ c.in-Some.ensures.same.len)
          (put_again (received_from values c.self.inside.ins.items) (received_from values c.give_back.new.ins.items) (received_from values c.pop.new.ins.items) c.args.from
          (message_of values c.in-Some.message) (message_of values c.in-Err.returned) (ap (message_of values) refused.0) (c.in-Some.ensures.some values)
          (c.give_back.ensures.taken values))
          c.self.invariant.2),
    )

pub returns-in-Err-clause-refused : goal.returns-in-Err-clause-refused
returns-in-Err-clause-refused g c =
    let values = g.F.StateForm.values (ranges c.self.inside.owner.space.task) in
    let refused = c.in-Err.ensures.refused in
    rw (← c.self.view_is)
    (holds g.F.StateForm.values _ c.take.new.self _ c.pop.new.ins.items c.give_back.new.ins.items c.args.from (message_of values c.in-Some.message)
    (message_of values c.in-Err.returned) (ap (message_of values) refused.0)
    (ap (λ (o : OwnerOf g.row.S.Denot). misfits_of (g.F.StateForm.values (ranges o.space.task)) c.self.inside.misfit) refused.1) refused.1
    c.in-Some.ensures.same (c.in-Some.ensures.some values) c.give_back.ensures.same (c.give_back.ensures.taken values) (c.give_back.ensures.known values))

pub give_back-requires-clause-last : goal.give_back-requires-clause-last
give_back-requires-clause-last g c = rw c.in-Err.ensures.refused.0 c.in-Some.ensures.last

pub give_back-requires-clause-small : goal.give_back-requires-clause-small
give_back-requires-clause-small g c = rw c.in-Err.ensures.refused.0 c.in-Some.ensures.small

pub is_for-requires-clause-fits : goal.is_for-requires-clause-fits
is_for-requires-clause-fits g c =
    subst (λ (s : SpaceOf g.row.S.Denot). g.F.StateForm.Fits (ranges s.task)) (sym c.space.ensures) c.recall.ensures.fits
