use Rattle.std.proofs.Common.{◌≡◌, ◌≤◌, List, length, sym, ap, ◌∙◌, subst, arith}
use Rattle.std.specs.Prelude.{All}
use Rattle.std.proofs.lemmas.List.{length-map}
use Rattle.fdr.specs.Limits.{max_operators}
use Rattle.fdr.specs.Tasks.{FiniteDomainTask, ranges}
use Rattle.abstraction.specs.declared.digit.Digit.{Digit}
use Rattle.abstraction.specs.Digits.{digits_from}
use Rattle.abstraction.specs.Projections.{Projection}
use Rattle.abstraction_groups.specs.declared.change.DigitChange.{DigitChange}
use Rattle.abstraction_groups.specs.Changes.{at_digits}
use Rattle.abstraction_groups.specs.FactorLaws.{projection_factors}
use Rattle.abstraction_groups.specs.Factors.{group_changes}
use Rattle.abstraction_groups.proofs.GroupRows.{groups_few}
use Rattle.pdb_regression.specs.Tables.{rows_of, positions_of, IsAlong}
use Rattle.pdb_regression.proofs.Elements.{written}
use Rattle.pdb_regression.proofs.RowLaws.{projection_digits}
use Rattle.pdb_regression.proofs.TransitionLaws.{rows_along}
use Rattle.pdb_regression.proofs.transitions.ProjectionTransitions.new.Goals as goal

pub places_of-requires : goal.places_of-requires
places_of-requires c = rw c.digits-digits.ensures (projection_digits c.args.projection.now)

pub is_read_plainly-plain-requires : goal.is_read_plainly-plain-requires
is_read_plainly-plain-requires c = rw c.digits-digits.ensures (projection_digits c.args.projection.now)

pub add_classes-requires-clause-along : goal.add_classes-requires-clause-along
add_classes-requires-clause-along c =
    let p : Projection = c.args.projection.now in
    let rules : c.deref.result.now ≡ rows_of p = c.deref.ensures.value ∙ c.in_ok-rules.ensures ∙ ap rows_of c.in_ok-groups.ensures in
    subst (λ (rs : List (List DigitChange)). All (IsAlong c.digits-digits.result.now) rs) (sym rules)
    (subst (λ (ds : List Digit). All (IsAlong ds) (rows_of p)) (sym c.digits-digits.ensures) (rows_along p))

pub add_classes-requires-clause-few : goal.add_classes-requires-clause-few
add_classes-requires-clause-few c =
    let p : Projection = c.args.projection.now in
    let rules = ap (λ (rs : List (List DigitChange)). length rs) (c.deref.ensures.value ∙ c.in_ok-rules.ensures ∙ ap rows_of c.in_ok-groups.ensures) in
    let long = length-map (group_changes p.task (projection_factors p)) (at_digits (digits_from (ranges p.task) 1 p.pattern)) in
    let few = groups_few p.task (projection_factors p) in
    let limit : length p.task.operators ≤ max_operators = subst (λ (t : FiniteDomainTask). length t.operators ≤ max_operators) c.task.ensures c.recall.ensures.limits.operators in
    omega arith

pub invariant_of-result : goal.invariant_of-result
invariant_of-result c =
    let indexed = c.in_ok-add_classes.ensures.indexed in
    let long = c.add_classes.auto.places in
    let read = ap length c.deref_mut.ensures.value in
    let ok = c.in_ok-places.places.ok.0 in
    let whole = written c.add_classes.new.places c.in_ok-places.places.items c.in_ok-places.places.len (omega arith) (omega arith) in
    let positions = c.in_ok-add_classes.ensures.positions ∙ ap positions_of c.deref_mut.ensures.value in
    let digits = c.digits-digits.ensures ∙ ap (λ (p : Projection). digits_from (ranges p.task) 1 p.pattern) (sym c.in_ok-groups.ensures) in (
      c.in_ok-rules.ensures,
      rw (whole, ← c.deref.ensures.value) indexed,
      rw (whole, positions, ← digits) c.in_ok-places.ensures,
      λ e. rw (← digits, ← c.deref-2.ensures.value) (c.is_read_plainly-plain.ensures e),
    )
