use Rattle.std.proofs.Common.{arith}
use Rattle.reduction.proofs.FactSets.{row_within, written_fact}
use Rattle.reduction.proofs.facts.FactSet.insert.Goals as goal

pub index_mut-requires : goal.index_mut-requires
index_mut-requires c =
    let within = row_within c.self.inside.members.items c.args.self.now c.args.fact c.index_mut-row.result.now c.self.view_is c.requires c.index_mut-row.ensures.value in
    omega (arith, within, c.index_mut-row.result.now.ok.0)

pub returns : goal.returns
returns c = written_fact c.self.inside.members.items c.args.self.now c.args.fact c.index_mut-row.result.now c.self.view_is c.requires c.index_mut-row.ensures.value
