use Rattle.std.proofs.Common.{◌∙◌, ap, subst}
use Rattle.owner.specs.declared.fault.OwnerFault.{OwnerFault}
use Rattle.owner.specs.declared.fault.OwnerFault.TheVariants.{TotalTooLarge, LimitReached}
use Rattle.worker.specs.Workers.{WorkerOf}
use Rattle.worker.specs.Turns.{IsExpandRefusal}
use Rattle.extract.proofs.Places.{at_read}
use Rattle.engine.proofs.Asking.{expanded_asked, refused_asked, limit_not_memory, total_not_memory}
use Rattle.engine.proofs.ask.expand_at.Goals.{in-Ok, in-Err-LimitReached, in-Err-TotalTooLarge}
use Rattle.engine.proofs.ask.expand_at.Goals as goal

pub expand-requires : goal.expand-requires
expand-requires g c =
    ap (λ (w : WorkerOf g.row.S.Denot g.row.F.Denot). w.uncounted) c.in_ok-tell.ensures
    ∙ (c.requires.members.1.each c.args.number c.index_mut-worker.result.now
    (at_read c.args.workers.now.items c.args.number c.index_mut-worker.result.now c.requires.number c.index_mut-worker.ensures.value)).counted

pub returns : goal.returns
returns g c =
    let refused = refused_asked g.S.Spread.owner c.args.number c.args.bound c.args.workers.now.items c.index_mut-worker.result.now c.tell.new.worker c.expand.new.self c.begin_round.new.self c.requires.number
    c.index_mut-worker.ensures.value c.in_ok-tell.ensures c.begin_round.ensures in
    elim c.match-expand.branch [
      | in-Ok w ↦ rw w.refused-is (expanded_asked g.S.Spread.owner c.args.number c.args.bound c.args.workers.now.items c.index_mut-worker.result.now c.tell.new.worker c.expand.new.self
          c.begin_round.new.self c.requires.number c.index_mut-worker.ensures.value c.in_ok-tell.ensures c.begin_round.ensures _ w.in-Ok.ensures.expanded)
      | in-Err-LimitReached w ↦ rw w.refused-is (refused LimitReached limit_not_memory
          (subst (λ (f : OwnerFault). IsExpandRefusal g.S.Spread.owner c.tell.new.worker c.expand.new.self f) w.in-Err-LimitReached.field-0-is
          w.in-Err-LimitReached.ensures.refused))
      | in-Err-TotalTooLarge w ↦ rw w.refused-is (refused TotalTooLarge total_not_memory
          (subst (λ (f : OwnerFault). IsExpandRefusal g.S.Spread.owner c.tell.new.worker c.expand.new.self f) w.in-Err-TotalTooLarge.field-0-is
          w.in-Err-TotalTooLarge.ensures.refused))
    ]
