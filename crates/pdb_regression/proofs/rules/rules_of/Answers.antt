use Rattle.std.proofs.Common.{◌≡◌, ◌<◌, List, [], ◌∷◌, ◌++◌, length, take, get_or, sym, ap, ◌∙◌, subst, arith}
use Rattle.std.proofs.lemmas.List.{get_or-map, length-map, take_all, take_more}
use Rattle.fdr.specs.Tasks.{ranges}
use Rattle.abstraction.specs.declared.digit.Digit.{Digit}
use Rattle.abstraction.specs.Digits.{digits_from}
use Rattle.abstraction.specs.Projections.{Projection, projection}
use Rattle.abstraction_groups.specs.declared.change.Change.{Change}
use Rattle.abstraction_groups.specs.declared.change.DigitChange.{DigitChange}
use Rattle.abstraction_groups.specs.Changes.{at_digits}
use Rattle.abstraction_groups.specs.FactorLaws.{projection_factors, projection_factored}
use Rattle.abstraction_groups.specs.Factors.{group_changes}
use Rattle.abstraction_groups.specs.Pairs.{IsRow}
use Rattle.abstraction_groups.proofs.GroupRows.{group_row}
use Rattle.pdb_regression.specs.Tables.{rows_of}
use Rattle.pdb_regression.proofs.TransitionLaws.{row_long}
use Rattle.pdb_regression.proofs.rules.rules_of.Goals as goal
use Rattle.pdb_regression.proofs.rules.rules_of.Goals.{After-changes_of}

module _ (c : After-changes_of) where
  abbrev p : Projection
  p = c.args.groups.now

  abbrev all : List (List Change)
  all = group_changes p.task (projection_factors p)

  abbrev at : List Digit
  at = digits_from (ranges p.task) 1 p.pattern

  inside : c.loop-group.group < length all
  inside = omega (arith, c.len-group-end.ensures)

  digits : c.digits-digits.result.now ≡ at
  digits = c.digits-digits.ensures ∙ ap (λ (q : Projection). digits_from (ranges q.task) 1 q.pattern) c.abstraction.ensures

  row : at_digits c.digits-digits.result.now c.changes_of.result.now ≡ at_digits at (get_or all c.loop-group.group [])
  row = ap (λ (ds : List Digit). at_digits ds c.changes_of.result.now) digits ∙ ap (at_digits at) c.changes_of.ensures

pub row_of-requires : goal.row_of-requires
row_of-requires c =
    let before = (goal.at.row_of-requires c).After-changes_of in
    ap length c.changes_of.ensures ∙ row_long c.args.groups.now c.loop-group.group (inside before) ∙ sym (ap length (digits before))

pub new-requires : goal.new-requires
new-requires c =
    let before = (goal.at.new-requires c).After-changes_of in
    let p = c.args.groups.now in
    subst IsRow (sym (c.in_ok-row.ensures ∙ row before))
    (group_row p.task (projection_factors p) (projection p.task p.pattern) (projection_factored p) c.loop-group.group (inside before))

pub loop-group-preserved : goal.loop-group-preserved
loop-group-preserved c =
    let before = (goal.at.loop-group-preserved c).After-changes_of in
    let g = c.loop-group.group in
    let p = c.args.groups.now in
    let rules : List (List DigitChange) = rows_of p in
    let within : g < length rules = omega (arith, inside before, length-map (all before) (at_digits (at before))) in
    let made : c.in_ok-new.field-0 ≡ get_or rules g [] = c.in_ok-new.ensures ∙ c.in_ok-row.ensures ∙ row before ∙ sym (get_or-map (at_digits (at before)) (all before) g [] [] (inside before)) in
    c.in_ok-push.ensures.items ∙ ap (λ (rs : List (List DigitChange)). rs ++ c.in_ok-new.field-0 ∷ []) c.loop-group.invariant
    ∙ ap (λ (r : List DigitChange). take g rules ++ r ∷ []) made ∙ sym (take_more rules g [] within)

pub returns : goal.returns
returns c =
    let p = c.args.groups.now in
    let long = length-map (group_changes p.task (projection_factors p)) (at_digits (digits_from (ranges p.task) 1 p.pattern)) in
    c.loop-group.invariant ∙ take_all c.loop-group.group (rows_of p) (omega (arith, c.loop-group-test.false, c.len-group-end.ensures, long))
