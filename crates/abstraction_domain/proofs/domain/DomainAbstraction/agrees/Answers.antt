use Rattle.abstraction_domain.specs.Domains.{variables, counts_in, class_fact}
use Rattle.abstraction_domain.proofs.RowLaws.{agrees_at_digit, agrees_at_none}
use Rattle.abstraction_domain.proofs.domain.DomainAbstraction.agrees.Goals as goal

pub returns-in-Some : goal.returns-in-Some
returns-in-Some c =
    rw (c.value.ensures, c.in-Some.ensures.class)
    (agrees_at_digit (counts_in c.args.self.now) (variables c.args.self.now.rows) c.args.abstract_state (class_fact c.args.self.now.rows c.args.fact) c.in-Some.found.digit c.in-Some.ensures.digit)

pub returns-in-None : goal.returns-in-None
returns-in-None c = agrees_at_none (counts_in c.args.self.now) (variables c.args.self.now.rows) c.args.abstract_state (class_fact c.args.self.now.rows c.args.fact) c.in-None.ensures.digit
