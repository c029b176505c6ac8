use Rattle.std.proofs.Common.{◌<◌}
use Rattle.fdr.specs.Tasks.{ranges}
use Rattle.abstraction.specs.Projections.{size_of}
use Rattle.abstraction.specs.Digits.{with_fact}
use Rattle.abstraction.proofs.DigitLaws.{with_fact_below}
use Rattle.abstraction.proofs.projection.Projection.with_fact.Goals as goal

pub returns-in-Some-clause-below : goal.returns-in-Some-clause-below
returns-in-Some-clause-below c =
    let below : with_fact (ranges c.args.self.now.task) c.args.self.now.pattern c.args.abstract_state c.args.fact < size_of (ranges c.args.self.now.task) c.args.self.now.pattern =
    with_fact_below (ranges c.args.self.now.task) c.args.self.now.pattern c.args.abstract_state c.args.fact c.requires.fact c.requires.state in
    rw c.with_value.ensures (rw (← c.digit.ensures.digit, c.in-Some.is) at below)
