use Rattle.std.proofs.Common.{◌∙◌, sym, ap, arith}
use Rattle.std.proofs.lemmas.Bool.Decides.{nat_tests}
use Rattle.cert_value.specs.Certificates.{width_of}
use Rattle.cert_value.proofs.KeptLaws.{width_is}
use Rattle.cert_value.proofs.closed.ClosedList.width.Goals as goal

pub returns-else-is_empty : goal.returns-else-is_empty
returns-else-is_empty c =
    sym (width_is c.self.inside.width c.self.inside.costs.items c.self.inside.values (grind (arith, nat_tests)) c.self.invariant) ∙ ap width_of c.self.view_is
