use Rattle.std.proofs.Common.{◌≡◌, length, sym, ◌∙◌, ap, subst, arith}
use Rattle.std.specs.Prelude.{All}
use Rattle.std.proofs.lemmas.List.{length-map, take_all}
use Rattle.std.proofs.lemmas.List.Elements.{All-more}
use Rattle.fdr.specs.Tasks.{ranges}
use Rattle.abstraction_domain.specs.Domains.{IsFit}
use Rattle.abstraction_domain.proofs.domain.check_rows.Goals as goal

pub loop-place-preserved : goal.loop-place-preserved
loop-place-preserved c =
    let row = c.index-rows-place.result in
    let counted : length (ranges c.args.task.now) ≡ length c.args.task.now.value_names = length-map c.args.task.now.value_names length in
    let fit : IsFit (ranges c.args.task.now) c.index-rows-place.result =
    record {
      exists = omega (arith, counted, c.variable_count.ensures, c.variable-variable.ensures, c.if-variable-variable_count.false);
      as_long = sym (ap length c.classes.ensures.value) ∙ c.if-classes-range.false ∙ rw (← c.variable-variable.ensures) c.range.ensures;
    } in
    All-more (IsFit (ranges c.args.task.now)) c.args.rows.now c.loop-place.place row c.loop-place-test.true c.loop-place.invariant (rw (← c.index-rows-place.is) fit)

pub returns-clause-fit : goal.returns-clause-fit
returns-clause-fit c =
    subst (All (IsFit (ranges c.args.task.now))) (take_all c.loop-place.place c.args.rows.now c.loop-place-test.false) c.loop-place.invariant
