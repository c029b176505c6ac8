use Rattle.std.proofs.Common.{rules, sym, ap, ◌∙◌, subst}
use Rattle.board.specs.Seats.{IsSeatOf, view}
use Rattle.engine_round.proofs.job.begin.Goals as goal
use Rattle.engine_round.proofs.job.begin.Goals.{in-Ok, in-Err}

-- the closure that comes back where no thread can be made is the one that was handed over
pub spawn_with-requires : goal.spawn_with-requires
spawn_with-requires g c κs within =
    (within.0, (within.1.0, (within.1.1.0, (within.1.1.1, (search rules, rw c.in-Err.ensures.err c.requires.job)))))

pub returns-clause-own : goal.returns-clause-own
returns-clause-own g c =
    elim c.match-begun.branch [
      | in-Ok w ↦ (subst (IsSeatOf c.args.board.now) (sym w.own-is) c.requires.own, ap view w.own-is)
      | in-Err w ↦ (subst (IsSeatOf c.args.board.now) (sym w.own-is) w.halt.ensures.seat, ap view w.own-is ∙ w.halt.ensures.view)
    ]
