use Rattle.std.proofs.Common.{◌≡◌, ◌∙◌, ap, length, List, ℕ, eqb, arith}
use Rattle.std.specs.Vec.{vec_len}
use Rattle.cert_value.specs.Certificates.{Entry}
use Rattle.cert_value.proofs.KeptLaws.{length_entries}
use Rattle.cert_value.proofs.closed.ClosedList.is_empty.Goals as goal

pub returns : goal.returns
returns c =
    let e = length_entries c.self.inside.width c.self.inside.costs.items c.self.inside.values in
    let v = ap (λ (es : List Entry). length es) c.self.view_is in
    let same : vec_len c.self.inside.costs ≡ length c.args.self.now = omega arith in
    c.is_empty.ensures ∙ ap (λ (n : ℕ). eqb n 0) same
