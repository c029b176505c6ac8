use Rattle.std.proofs.Common.{subst, All}
use Rattle.std.proofs.lemmas.List.{take_all}
use Rattle.std.proofs.lemmas.List.Elements.{All-more}
use Rattle.abstraction_domain.specs.Rows.{Row, AreNumbered}
use Rattle.reduction_certs.proofs.columns.recall_rows.Goals as goal

pub loop-row-preserved : goal.loop-row-preserved
loop-row-preserved c =
    All-more (λ (r : Row). AreNumbered r.classes) c.args.rows.now c.loop-row.row-index c.row-item.result c.loop-row-test.true c.loop-row.invariant
    (subst (λ (r : Row). AreNumbered r.classes) c.row-item.is (subst AreNumbered c.classes.ensures.value c.classes.ensures.numbered))

pub returns : goal.returns
returns c = subst (All (λ (r : Row). AreNumbered r.classes)) (take_all c.loop-row.row-index c.args.rows.now c.loop-row-test.false) c.loop-row.invariant
