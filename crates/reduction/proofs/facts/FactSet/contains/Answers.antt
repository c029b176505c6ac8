use Rattle.std.proofs.Common.{Bool, List, length, ap, arith}
use Rattle.reduction.proofs.FactSets.{row_within}
use Rattle.reduction.proofs.facts.FactSet.contains.Goals as goal

pub bounds-row-fact : goal.bounds-row-fact
bounds-row-fact c =
    let within = row_within c.self.inside.members.items c.args.self.now c.args.fact c.index.result.now c.self.view_is c.requires c.index.ensures in
    omega (arith, within, ap (λ (r : List Bool). length r) c.deref-row.ensures.value)
