use Rattle.std.proofs.Common.{◌≡◌, ℕ, length, subst, List, arith}
use Rattle.std.specs.Prelude.{All}
use Rattle.cert_value.specs.Certificates.{Entry}
use Rattle.cert_value.specs.Kept.{entries}
use Rattle.cert_value.proofs.KeptLaws.{all_wide}
use Rattle.cert_value.proofs.closed.ClosedList.buffer.Goals as goal

pub returns : goal.returns
returns c =
    let f = c.self.inside in
    let long : f.width ≡ length c.in_ok-buffer.buffer.items = omega (arith, c.in_ok-buffer.ensures.len, c.in_ok-buffer.buffer.ok.0) in
    subst (λ (es : List Entry). All (λ (e : Entry). length e.state ≡ length c.in_ok-buffer.buffer.items) es) c.self.view_is
    (subst (λ (n : ℕ). All (λ (e : Entry). length e.state ≡ n) (entries f.width f.costs.items f.values)) long (all_wide f.width f.costs.items f.values c.self.invariant))
