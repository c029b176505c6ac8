use Rattle.std.proofs.Common.{◌+◌, sym, ◌∙◌, drop, get_or}
use Rattle.std.proofs.lemmas.List.{at_drop_more, at_drop_all}
use Rattle.fdr.specs.Tasks.{ranges}
use Rattle.abstraction.specs.Projections as spec
use Rattle.abstraction.proofs.DigitLaws.{index_after_step, index_after_nothing, rising_from}
use Rattle.abstraction.proofs.projection.Projection.index_after.Goals as goal

pub loop-fact-preserved : goal.loop-fact-preserved
loop-fact-preserved c =
    let rs = ranges c.args.self.now.task in
    let ps = c.args.self.now.pattern in
    let f = get_or c.args.effect.now c.loop-fact.fact-index (record { variable = 0; value = 0 }) in
    let rest = drop (c.loop-fact.fact-index + 1) c.args.effect.now in
    record {
      index_after = rw c.with_fact-next.ensures.value (
          sym (index_after_step rs ps c.loop-fact.next f rest (rising_from ps c.args.self.now.increasing) (c.requires.effect c.loop-fact.fact-index (record { variable = 0; value = 0 }) c.loop-fact-test.true) c.loop-fact.invariant.below)
          ∙ sym (at_drop_more (spec.index_after rs ps c.loop-fact.next) c.args.effect.now c.loop-fact.fact-index (record { variable = 0; value = 0 }) c.loop-fact-test.true)
          ∙ c.loop-fact.invariant.index_after);
      below = c.with_fact-next.ensures.below;
    }

pub returns-clause-value : goal.returns-clause-value
returns-clause-value c =
    let rs = ranges c.args.self.now.task in
    let ps = c.args.self.now.pattern in
    sym (index_after_nothing rs ps c.loop-fact.next c.loop-fact.invariant.below)
    ∙ sym (at_drop_all (spec.index_after rs ps c.loop-fact.next) c.args.effect.now c.loop-fact.fact-index c.loop-fact-test.false)
    ∙ c.loop-fact.invariant.index_after
