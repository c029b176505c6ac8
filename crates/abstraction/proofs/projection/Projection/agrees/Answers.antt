use Rattle.std.proofs.Common.{refl, ap, eqb}
use Rattle.fdr.specs.Tasks.{ranges}
use Rattle.abstraction.proofs.DigitLaws.{agrees_by_digit}
use Rattle.abstraction.proofs.projection.Projection.agrees.Goals as goal

pub returns-in-Some : goal.returns-in-Some
returns-in-Some c =
    rw (agrees_by_digit (ranges c.args.self.now.task) c.args.self.now.pattern c.args.abstract_state c.args.fact, ← c.digit.ensures.digit, c.in-Some.is)
    (ap (λ v. eqb v c.args.fact.value) c.value.ensures)

pub returns-in-None : goal.returns-in-None
returns-in-None c =
    rw (agrees_by_digit (ranges c.args.self.now.task) c.args.self.now.pattern c.args.abstract_state c.args.fact, ← c.digit.ensures.digit, c.in-None.is) refl
