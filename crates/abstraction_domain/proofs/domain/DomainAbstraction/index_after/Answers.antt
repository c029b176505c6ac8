use Rattle.std.proofs.Common.{◌+◌, List, sym, ◌∙◌, drop, get_or}
use Rattle.std.proofs.lemmas.List.{at_drop_more, at_drop_all}
use Rattle.fdr.specs.declared.fact.Fact.{Fact}
use Rattle.fdr.specs.Tasks.{ranges}
use Rattle.abstraction.specs.Projections as spec
use Rattle.abstraction.proofs.DigitLaws.{index_after_step, index_after_nothing, rising_from}
use Rattle.abstraction_domain.specs.Domains.{variables, counts_in, class_fact, class_facts}
use Rattle.abstraction_domain.specs.DomainLaws.{class_in_range}
use Rattle.abstraction_domain.proofs.domain.DomainAbstraction.index_after.Goals as goal

pub loop-fact-preserved : goal.loop-fact-preserved
loop-fact-preserved c =
    let d = c.args.self.now in
    let f = get_or c.args.effect.now c.loop-fact.fact-index (record { variable = 0; value = 0 }) in
    let rest = drop (c.loop-fact.fact-index + 1) c.args.effect.now in
    let fits = c.requires.effect c.loop-fact.fact-index (record { variable = 0; value = 0 }) c.loop-fact-test.true in
    record {
      index_after = rw c.with_fact-next.ensures.value (
          sym (index_after_step (counts_in d) (variables d.rows) c.loop-fact.next (class_fact d.rows f) (class_facts d.rows rest) (rising_from (variables d.rows) d.increasing) (class_in_range (ranges d.task) d.rows d.fit f fits) c.loop-fact.invariant.below)
          ∙ sym (at_drop_more (λ (fs : List Fact). spec.index_after (counts_in d) (variables d.rows) c.loop-fact.next (class_facts d.rows fs)) c.args.effect.now c.loop-fact.fact-index (record { variable = 0; value = 0 }) c.loop-fact-test.true)
          ∙ c.loop-fact.invariant.index_after);
      below = c.with_fact-next.ensures.below;
    }

pub returns-clause-value : goal.returns-clause-value
returns-clause-value c =
    let d = c.args.self.now in
    sym (index_after_nothing (counts_in d) (variables d.rows) c.loop-fact.next c.loop-fact.invariant.below)
    ∙ sym (at_drop_all (λ (fs : List Fact). spec.index_after (counts_in d) (variables d.rows) c.loop-fact.next (class_facts d.rows fs)) c.args.effect.now c.loop-fact.fact-index c.loop-fact-test.false)
    ∙ c.loop-fact.invariant.index_after
