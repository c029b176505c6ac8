use Rattle.std.proofs.Common.{arith}
use Rattle.worker.proofs.Rows.{none_at}
use Rattle.worker.proofs.ends.knows_none.Goals as goal

pub returns : goal.returns
returns g c = λ none.
    let empty = c.knows_none.ensures.0 none in
    none_at c.args.ins.now c.args.from c.index-ins-from.result c.requires c.index-ins-from.is (λ some. omega (arith, empty, some))
