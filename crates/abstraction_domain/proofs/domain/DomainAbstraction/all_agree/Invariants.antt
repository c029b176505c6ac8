use Rattle.std.proofs.Common.{◌≡◌, drop}
use Rattle.std.specs.List.{list_all}
use Rattle.abstraction.specs.Projections.{agrees}
use Rattle.abstraction_domain.specs.Domains.{variables, counts_in, class_facts}
use Rattle.abstraction_domain.proofs.domain.DomainAbstraction.all_agree.Given as goal

abbrev pub invariant-loop-fact : goal.invariant-loop-fact
invariant-loop-fact l =
    list_all (agrees (counts_in l.self) (variables l.self.rows) l.abstract_state) (class_facts l.self.rows (drop l.fact-index l.facts))
    ≡ list_all (agrees (counts_in l.self) (variables l.self.rows) l.abstract_state) (class_facts l.self.rows l.facts)
