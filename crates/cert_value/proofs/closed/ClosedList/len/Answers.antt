use Rattle.std.proofs.Common.{ap, length, List, arith}
use Rattle.cert_value.specs.Certificates.{Entry}
use Rattle.cert_value.proofs.KeptLaws.{length_entries}
use Rattle.cert_value.proofs.closed.ClosedList.len.Goals as goal

pub returns : goal.returns
returns c =
    let e = length_entries c.self.inside.width c.self.inside.costs.items c.self.inside.values in
    let v = ap (λ (es : List Entry). length es) c.self.view_is in
    omega arith
