use Rattle.worker.proofs.Rows.{taken_some, taken_none, none_known, known_fewer, last_there}
use Rattle.worker.proofs.ends.pop.Goals as goal

pub returns-clause-some : goal.returns-clause-some
returns-clause-some g c =
    taken_some c.pop.result c.args.ins.now.items c.args.from c.index_mut.result.now c.pop.new.self c.requires c.index_mut.ensures.value c.pop.ensures.some

pub returns-clause-none : goal.returns-clause-none
returns-clause-none g c =
    taken_none c.pop.result c.args.ins.now.items c.args.from c.index_mut.result.now c.pop.new.self c.requires c.index_mut.ensures.value c.pop.ensures.none

pub returns-clause-unknown : goal.returns-clause-unknown
returns-clause-unknown g c =
    none_known c.pop.result c.args.ins.now.items c.args.from c.index_mut.result.now c.requires c.index_mut.ensures.value c.pop.ensures.known

pub returns-clause-fewer : goal.returns-clause-fewer
returns-clause-fewer g c = λ values.
    known_fewer values c.args.ins.now.items c.args.from c.index_mut.result.now c.pop.new.self c.requires c.index_mut.ensures.value c.pop.ensures.fewer

pub returns-clause-last : goal.returns-clause-last
returns-clause-last g c = last_there c.pop.result c.args.ins.now.items c.args.from c.pop.new.self c.requires c.pop.ensures.last
