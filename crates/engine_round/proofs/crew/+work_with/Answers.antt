use Rattle.std.proofs.Common.{◌∙◌, arith, length, sym, subst}
use Rattle.engine_round.specs.Jobs.{BegunOf}
use Rattle.engine_round.proofs.Followed.{all_but_last, one_more, none_left, as_long, empty_is}
use Rattle.engine_round.proofs.crew.+work_with.Goals as goal

pub run-requires : goal.run-requires
run-requires g t c = (all_but_last (g.J.Turns.is_ready c.args.board.now) c.args.jobs.items c.pop.new.self.items c.in-Some.job c.in-Some.ensures.items c.requires.jobs).1

pub begin-begun-requires-clause-job : goal.begin-begun-requires-clause-job
begin-begun-requires-clause-job g t c κs within =
    (all_but_last (g.J.Turns.is_ready c.args.board.now) c.args.jobs.items c.pop.new.self.items c.in-Some.job c.in-Some.ensures.items c.requires.jobs).1

pub work_with-worked-requires-clause-jobs : goal.work_with-worked-requires-clause-jobs
work_with-worked-requires-clause-jobs g t c κs within =
    (all_but_last (g.J.Turns.is_ready c.args.board.now) c.args.jobs.items c.pop.new.self.items c.in-Some.job c.in-Some.ensures.items c.requires.jobs).0

pub with_next-requires-2 : goal.with_next-requires-2
with_next-requires-2 g t c =
    omega (
      arith,
      as_long (g.J.Turns.has_done (g.G.Gate.may_stop c.args.gate.now) c.args.board.now) c.pop.new.self.items c.work_with-worked.result.items c.work_with-worked.ensures.worked,
      c.work_with-worked.ensures.room,
      c.requires.room.1,
      c.in-Some.ensures.cases,
      c.work_with-worked.result.ok.0,
      c.pop.new.self.ok.0,
    )

pub returns-clause-own : goal.returns-clause-own
returns-clause-own g t c = (c.work_with-worked.ensures.own.0, c.work_with-worked.ensures.own.1 ∙ c.begin-begun.ensures.own.1)

pub returns-clause-worked : goal.returns-clause-worked
returns-clause-worked g t c =
    one_more (g.J.Turns.has_done (g.G.Gate.may_stop c.args.gate.now) c.args.board.now) c.args.jobs.items c.pop.new.self.items c.in-Some.job c.work_with-worked.result.items
    c.with_next-2.result.items c.finish.result c.in-Some.ensures.items c.with_next-2.ensures.items c.work_with-worked.ensures.worked
    (subst (λ (x : BegunOf g.row.J.Denot g.row.G.Denot). g.J.Turns.has_done (g.G.Gate.may_stop x.gate) x.board x.job c.finish.result) c.begin-begun.ensures.job c.finish.ensures)

pub returns-then-is_empty-clause-worked : goal.returns-then-is_empty-clause-worked
returns-then-is_empty-clause-worked g t c =
    one_more (g.J.Turns.has_done (g.G.Gate.may_stop c.args.gate.now) c.args.board.now) c.args.jobs.items c.pop.new.self.items c.in-Some.job c.args.worked.items
    c.with_next.result.items c.run.result c.in-Some.ensures.items c.with_next.ensures.items
    (none_left (g.J.Turns.has_done (g.G.Gate.may_stop c.args.gate.now) c.args.board.now) c.pop.new.self.items c.args.worked.items (empty_is c.pop.new.self.len (length c.pop.new.self.items) (sym c.is_empty.ensures ∙ c.if-is_empty.true) c.pop.new.self.ok.0) c.requires.room.0)
    c.run.ensures
