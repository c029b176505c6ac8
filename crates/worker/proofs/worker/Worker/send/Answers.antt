use Rattle.std.proofs.Common.{◌∙◌, refl, ap, sym, length, arith}
use Rattle.fdr.specs.Tasks.{ranges}
use Rattle.owner.specs.Owned.{OwnerOf}
use Rattle.worker.specs.Workers.{misfits_of}
use Rattle.worker.proofs.Steps.{sends, sends_none}
use Rattle.worker.proofs.Working.{ends_looked_at, none_to_send, with_owner, sent_one}
use Rattle.worker.proofs.worker.Worker.send.Goals as goal

pub invariant_of-self : goal.invariant_of-self
invariant_of-self g c = (
  c.self.invariant.0,
  c.self.invariant.1,
  ends_looked_at g.S.Spread.owner g.F.StateForm.values _ c.has_room.new.outs.items c.has_room.ensures.same.len (c.has_room.ensures.sent _) c.self.invariant.2,
)

pub returns-then-not-has_room : goal.returns-then-not-has_room
returns-then-not-has_room g c =
    rw (← c.self.view_is)
    (sends_none g.F.StateForm.values _ c.self.inside.owner _ c.has_room.new.outs.items c.args.to refl refl
    (λ o there some. absurd (omega (arith, some, c.has_room.ensures.full c.if-not-has_room.true o there)))
    c.has_room.ensures.same (c.has_room.ensures.sent _))

pub invariant_of-self-in_default : goal.invariant_of-self-in_default
invariant_of-self-in_default g c =
    let same = none_to_send g.S.Spread.owner c.self.inside.owner c.next_out.new.self c.args.to c.in_default.ensures.first c.in_default.ensures.others in (
      c.self.invariant.0 ∙ sym (ap (λ (o : OwnerOf g.row.S.Denot). o.worker) same),
      c.self.invariant.1 ∙ sym (ap (λ (o : OwnerOf g.row.S.Denot). length o.space.task.value_names) same),
      with_owner g.S.Spread.owner g.F.StateForm.values _ c.next_out.new.self _ same (ap (λ (o : OwnerOf g.row.S.Denot). misfits_of (g.F.StateForm.values (ranges o.space.task)) c.self.inside.misfit) same)
          (ends_looked_at g.S.Spread.owner g.F.StateForm.values _ c.has_room.new.outs.items c.has_room.ensures.same.len (c.has_room.ensures.sent _) c.self.invariant.2),
    )

pub returns-in_default : goal.returns-in_default
returns-in_default g c =
    rw (← c.self.view_is)
    (sends_none g.F.StateForm.values _ c.next_out.new.self _ c.has_room.new.outs.items c.args.to
    (ap (λ (o : OwnerOf g.row.S.Denot). misfits_of (g.F.StateForm.values (ranges o.space.task)) c.self.inside.misfit) (none_to_send g.S.Spread.owner c.self.inside.owner c.next_out.new.self c.args.to c.in_default.ensures.first c.in_default.ensures.others))
    (none_to_send g.S.Spread.owner c.self.inside.owner c.next_out.new.self c.args.to c.in_default.ensures.first c.in_default.ensures.others)
    (λ o there some. c.in_default.ensures.none) c.has_room.ensures.same (c.has_room.ensures.sent _))

pub invariant_of-self-2 : goal.invariant_of-self-2
invariant_of-self-2 g c = (
  c.self.invariant.0 ∙ sym (ap (λ (o : OwnerOf g.row.S.Denot). o.worker) c.in-Some.ensures.others),
  c.self.invariant.1 ∙ sym (ap (λ (o : OwnerOf g.row.S.Denot). length o.space.task.value_names) c.in-Some.ensures.others),
  sent_one g.S.Spread.owner g.F.StateForm.values _ c.next_out.new.self _ c.push.new.outs.items c.args.to _
      (ap (λ (o : OwnerOf g.row.S.Denot). misfits_of (g.F.StateForm.values (ranges o.space.task)) c.self.inside.misfit) c.in-Some.ensures.others)
      (ends_looked_at g.S.Spread.owner g.F.StateForm.values _ c.has_room.new.outs.items c.has_room.ensures.same.len (c.has_room.ensures.sent _) c.self.invariant.2)
      c.in-Some.ensures.first c.in-Some.ensures.others c.in-Some.ensures.fits c.push.ensures.same.len (c.push.ensures.sent _),
)

pub returns : goal.returns
returns g c =
    rw (← c.self.view_is)
    (sends g.F.StateForm.values _ c.next_out.new.self _ c.has_room.new.outs.items c.push.new.outs.items c.args.to _
    (ap (λ (o : OwnerOf g.row.S.Denot). misfits_of (g.F.StateForm.values (ranges o.space.task)) c.self.inside.misfit) c.in-Some.ensures.others) c.in-Some.ensures.first c.in-Some.ensures.others
    c.has_room.ensures.same (c.has_room.ensures.sent _) c.push.ensures.same (c.push.ensures.sent _))
