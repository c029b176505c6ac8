use Rattle.std.proofs.Common.{◌≡◌, List, length, ◌∙◌, ap, sym, subst}
use Rattle.std.proofs.lemmas.Result.{IfOk-weaker}
use Rattle.cert_value.specs.Certificates.{Table}
use Rattle.checker_pieces.specs.Pieces.{IsFirstIn}
use Rattle.checker_pieces.specs.PieceLaws.{first_among}
use Rattle.checker_tables.specs.TablePlaces.{IsListing, says_table}
use Rattle.checker_tables.proofs.TableViolations.{tables_found}
use Rattle.checker_tables.proofs.tables.first_table_violation.Goals as goal

pub returns : goal.returns
returns g c =
    let task = c.args.task.now in
    let places = c.as_slice-places.result.now in
    let listing : IsListing c.args.certificate.now.columns places =
    rw (c.as_slice-places.ensures.value, sym c.columns-columns.ensures) c.in_ok-places.ensures
    in
    let many : length c.deref.result.now ≡ length places = ap length c.deref.ensures.value ∙ c.in_ok-weights.ensures in
    IfOk-weaker c.first_in_weighed_pieces.result _ _
    (λ v h. tables_found task c.args.certificate.now places listing v (rw (sym many)
    (subst (λ (columns : List (List Table)). IsFirstIn (says_table task columns places) 0 (length c.deref.result.now) v) c.columns-columns.ensures
    (first_among (says_table task _ places) _ (length c.deref.result.now) (λ start end p is. is) v h)))) c.first_in_weighed_pieces.ensures
