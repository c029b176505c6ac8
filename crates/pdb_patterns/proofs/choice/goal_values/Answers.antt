use Rattle.std.proofs.Common.{◌<◌, ◌∙◌, Some, length, get_or, arith, subst}
use Rattle.std.specs.Prelude.{All}
use Rattle.std.proofs.lemmas.List.{take_all, length-map, length-set}
use Rattle.fdr.specs.declared.fact.Fact.{Fact}
use Rattle.pdb_patterns.proofs.GoalValues.{IsNamed, one_more_named}
use Rattle.pdb_patterns.proofs.choice.goal_values.Goals as goal

pub loop-fact-preserved : goal.loop-fact-preserved
loop-fact-preserved c =
    let task = c.args.task.now in
    let facts = c.goal-fact-items.result.now in
    let values = c.loop-fact.values.items in
    let i = c.loop-fact.fact-index in
    let none : Fact = record { variable = 0; value = 0 } in
    let fact = get_or facts i none in
    let in_range = c.goal-fact-items.ensures.assignment.in_range i none c.loop-fact-test.true in
    let within : fact.variable < length values = omega (arith, in_range.0, c.loop-fact.invariant.0, length-map task.value_names (λ names. length names)) in (
      length-set values fact.variable (Some fact.value) ∙ c.loop-fact.invariant.0,
      one_more_named values fact.variable fact.value within facts i none c.loop-fact-test.true (λ i. fact.variable) c.loop-fact.invariant.1,
    )

pub returns-clause-named : goal.returns-clause-named
returns-clause-named c =
    let facts = c.goal-fact-items.result.now in
    rw c.goal-fact-items.ensures.value at
    (subst (All (IsNamed c.loop-fact.values.items)) (take_all c.loop-fact.fact-index facts (omega (arith, c.loop-fact-test.false, c.loop-fact.auto.fact-index-end))) c.loop-fact.invariant.1)
