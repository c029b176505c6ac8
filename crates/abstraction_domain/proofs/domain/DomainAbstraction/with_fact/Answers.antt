use Rattle.abstraction.proofs.DigitLaws.{with_fact_below}
use Rattle.fdr.specs.Tasks.{ranges}
use Rattle.abstraction_domain.specs.Domains.{variables, counts_in, class_fact}
use Rattle.abstraction_domain.specs.DomainLaws.{class_in_range}
use Rattle.abstraction_domain.proofs.RowLaws.{with_fact_at_digit}
use Rattle.abstraction_domain.proofs.domain.DomainAbstraction.with_fact.Goals as goal

pub returns-in-Some-clause-below : goal.returns-in-Some-clause-below
returns-in-Some-clause-below c =
    let next = with_fact_below (counts_in c.args.self.now) (variables c.args.self.now.rows) c.args.abstract_state (class_fact c.args.self.now.rows c.args.fact)
    (class_in_range (ranges c.args.self.now.task) c.args.self.now.rows c.args.self.now.fit c.args.fact c.requires.fact) c.requires.state in
    let is = with_fact_at_digit (counts_in c.args.self.now) (variables c.args.self.now.rows) c.args.abstract_state (class_fact c.args.self.now.rows c.args.fact) c.in-Some.found.digit c.in-Some.ensures.digit in
    rw (c.with_class.ensures, c.in-Some.ensures.class) (rw (← is) at next)
