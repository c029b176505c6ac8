use Rattle.std.proofs.Common.{◌≡◌, ℕ, ◌<◌, List, length, get_or, Option, Some, sym, ap, subst, ◌∙◌, arith}
use Rattle.std.specs.Prelude.{IsSomeAnd, slice_get}
use Rattle.std.proofs.lemmas.Option.{slice_get-get_or}
use Rattle.fdr.specs.Tasks.{Operator, ranges, IsOperator}
use Rattle.reduction.specs.Images.{IsImageOf, HasImage}
use Rattle.reduction.specs.Groups.{AreGroups, AreGroupsOf}
use Rattle.reduction.specs.Adding.{image_in, images_in}
use Rattle.reduction.proofs.GroupLaws.{groups_skip, groups_add}
use Rattle.reduction.proofs.RepresentedLaws.{grouped_skip, grouped_add}
use Rattle.reduction.proofs.retained.groups_of.Goals as goal

pub loop-number-preserved-then-not-changing-number : goal.loop-number-preserved-then-not-changing-number
loop-number-preserved-then-not-changing-number c = (
  groups_skip c.args.task.now c.args.classes.now c.args.changing.now c.loop-number.number (images_in c.loop-number.groups.images.keys) c.loop-number.groups.best.items c.loop-number.invariant.0 c.if-not-changing-number.true,
  grouped_skip c.args.task.now c.args.classes.now c.args.changing.now c.loop-number.number (images_in c.loop-number.groups.images.keys) c.loop-number.of_operators.items c.push.new.self.items c.loop-number.invariant.1 c.if-not-changing-number.true
      c.in_ok-push.ensures.items,
)

pub images_of-requires : goal.images_of-requires
images_of-requires c =
    let n = c.loop-number.number in
    let op : Operator = c.index-operators-number.result in
    let ops : c.operators-operators.result.now ≡ c.args.task.now.operators = c.operators-operators.ensures.value in
    subst (λ (rs : List ℕ). IsOperator rs op) (sym c.requires.fit)
    (subst (IsOperator (ranges c.args.task.now)) (sym c.index-operators-number.is) (c.operators-operators.ensures.operators n op c.loop-number-test.true))

pub loop-number-preserved : goal.loop-number-preserved
loop-number-preserved c =
    let task = c.args.task.now in
    let n = c.loop-number.number in
    let op : Operator = c.index-operators-number.result in
    let ops : c.operators-operators.result.now ≡ c.args.task.now.operators = c.operators-operators.ensures.value in
    let l : c.loop-number.number < length c.args.task.now.operators = subst (λ (xs : List Operator). c.loop-number.number < length xs) ops c.loop-number-test.true in
    let is : op ≡ get_or c.args.task.now.operators c.loop-number.number op = c.index-operators-number.is ∙ ap (λ (xs : List Operator). get_or xs c.loop-number.number op) ops in
    let at : slice_get c.args.task.now.operators c.loop-number.number ≡ Some op = slice_get-get_or c.args.task.now.operators c.loop-number.number op l ∙ ap Some (sym is) in
    let image : HasImage c.args.task.now c.args.classes.now c.loop-number.number c.in_ok-image.image.precondition.items c.in_ok-image.image.effect.items =
    subst (λ (r : Option Operator). IsSomeAnd r (λ p. IsImageOf c.args.classes.now p c.in_ok-image.image.precondition.items c.in_ok-image.image.effect.items)) (sym at) c.in_ok-image.ensures in (
      groups_add task c.args.classes.now c.args.changing.now n (images_in c.loop-number.groups.images.keys) (images_in c.add.new.self.images.keys) c.loop-number.groups.best.items c.add.new.self.best.items (image_in c.in_ok-image.image)
          c.loop-number.invariant.0 c.if-not-changing-number.false image c.in_ok-group.ensures.added,
      grouped_add task c.args.classes.now c.args.changing.now n (images_in c.loop-number.groups.images.keys) (images_in c.add.new.self.images.keys) c.loop-number.groups.best.items c.add.new.self.best.items (image_in c.in_ok-image.image)
          c.loop-number.of_operators.items c.push-in-loop-number.new.self.items c.in_ok-group.group c.loop-number.invariant.1 c.if-not-changing-number.false c.in_ok-group.ensures.added c.in_ok-group.ensures.group image c.in_ok-push-2.ensures.items,
    )

pub returns-clause-groups : goal.returns-clause-groups
returns-clause-groups c =
    let whole : c.loop-number.number ≡ length c.args.task.now.operators =
    omega (arith, c.loop-number-test.false, c.loop-number.auto.number-end, ap (λ (xs : List Operator). length xs) c.operators-operators.ensures.value) in
    subst (λ (n : ℕ). AreGroups c.args.task.now c.args.classes.now c.args.changing.now n (images_in c.loop-number.groups.images.keys) c.loop-number.groups.best.items) whole c.loop-number.invariant.0

pub returns-clause-of_operators : goal.returns-clause-of_operators
returns-clause-of_operators c =
    let whole : c.loop-number.number ≡ length c.args.task.now.operators =
    omega (arith, c.loop-number-test.false, c.loop-number.auto.number-end, ap (λ (xs : List Operator). length xs) c.operators-operators.ensures.value) in
    subst (λ (n : ℕ). AreGroupsOf c.args.task.now c.args.classes.now c.args.changing.now n (images_in c.loop-number.groups.images.keys) c.loop-number.of_operators.items) whole c.loop-number.invariant.1
