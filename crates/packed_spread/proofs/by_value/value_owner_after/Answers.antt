use Rattle.std.proofs.Common.{ap, sym, ◌∙◌, ◌%◌, fold, arith}
use Rattle.std.proofs.lemmas.List.{drop_all}
use Rattle.std.proofs.lemmas.Bool.{eqb-true, eqb-false}
use Rattle.packed_spread.proofs.Changes.{first_after, owner_after_none, owner_after_first}
use Rattle.packed_spread.proofs.by_value.value_owner_after.Goals as goal

pub returns-then-is_empty : goal.returns-then-is_empty
returns-then-is_empty c =
    owner_after_none c.args.state.now c.args.facts.now c.args.owners (eqb-true _ 0 (sym c.is_empty.ensures ∙ c.if-is_empty.true))

pub returns : goal.returns
returns c =
    ap (λ value. value % c.args.owners)
    (ap (λ facts. fold first_after c.loop-fact.value facts) (sym (drop_all c.loop-fact.fact-index c.args.facts.now (omega (arith, c.loop-fact-test.false))))
    ∙ c.loop-fact.invariant)
    ∙ owner_after_first c.args.state.now c.args.facts.now c.args.owners (eqb-false _ 0 (sym c.is_empty.ensures ∙ c.if-is_empty.false))
