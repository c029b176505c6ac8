use Rattle.packed.proofs.Masking.{there, placed_alone, narrow_fact, ask_next}
use Rattle.packed.proofs.masks.tests_of.Goals as goal

pub bounds-fields-fact : goal.bounds-fields-fact
bounds-fields-fact c =
    there c.args.layout.now c.args.facts.now c.loop-fact.fact-index c.fields.result.now c.requires c.loop-fact-test.true c.fields.ensures.limits c.fields.ensures.fields

pub new-requires-clause-field : goal.new-requires-clause-field
new-requires-clause-field c =
    placed_alone c.args.layout.now c.args.facts.now c.loop-fact.fact-index c.fields.result.now c.requires c.loop-fact-test.true c.fields.ensures.limits c.fields.ensures.fields

pub new-requires-clause-value : goal.new-requires-clause-value
new-requires-clause-value c =
    narrow_fact c.args.layout.now c.args.facts.now c.loop-fact.fact-index c.fields.result.now c.requires c.loop-fact-test.true c.fields.ensures.limits c.fields.ensures.fields

pub loop-fact-preserved : goal.loop-fact-preserved
loop-fact-preserved c =
    ask_next c.args.layout.now c.args.facts.now c.loop-fact.fact-index c.fields.result.now c.requires c.loop-fact-test.true c.fields.ensures.limits c.fields.ensures.fields
    c.loop-fact.tests.items c.add_test.new.tests.items c.new.result c.new.ensures c.loop-fact.invariant c.in_ok-add_test.ensures
