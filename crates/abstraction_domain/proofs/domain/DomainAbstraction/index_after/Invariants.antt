use Rattle.std.proofs.Common.{◌≡◌, ◌<◌, drop}
use Rattle.abstraction.specs.Projections.{size_of, index_after}
use Rattle.abstraction_domain.specs.Domains.{variables, counts_in, class_facts}
use Rattle.abstraction_domain.proofs.domain.DomainAbstraction.index_after.Given as goal

abbrev pub invariant-loop-fact : goal.invariant-loop-fact
invariant-loop-fact l =
    record {
      index_after : index_after (counts_in l.self) (variables l.self.rows) l.next (class_facts l.self.rows (drop l.fact-index l.effect))
          ≡ index_after (counts_in l.self) (variables l.self.rows) l.abstract_state (class_facts l.self.rows l.effect);
      below : l.next < size_of (counts_in l.self) (variables l.self.rows);
    }
