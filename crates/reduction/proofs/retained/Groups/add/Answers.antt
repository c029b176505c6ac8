use Rattle.std.proofs.Common.{◌≡◌, ◌<◌, ◌≤◌, true, false, length, Some, refl, sym, ◌∙◌, arith}
use Rattle.std.specs.Prelude.{slice_get, slice_set}
use Rattle.std.specs.List.{list_any}
use Rattle.std.proofs.lemmas.Bool.{not-true, not-false}
use Rattle.std.proofs.lemmas.Option.{slice_get_read}
use Rattle.fdr.specs.Tasks.{cost_of}
use Rattle.reduction.proofs.GroupSteps.{group_image, images_eq, images_decides, adds_new, adds_same, adds_cheaper, group_within}
use Rattle.reduction.proofs.retained.Groups.add.Goals as goal

pub returns-then-is_new-clause-added : goal.returns-then-is_new-clause-added
returns-then-is_new-clause-added c =
    let absent : list_any (images_eq c.args.images) c.args.self.now.images.keys ≡ false = not-true (list_any (images_eq c.args.images) c.args.self.now.images.keys) (sym c.in_ok-group.ensures.added ∙ c.if-is_new.true) in
    adds_new images_eq images_decides c.args.task.now c.args.self.now.images.keys c.insert_full.new.self.keys c.args.images c.args.operator c.in_ok-group.ensures.keys c.args.self.now.best.items c.push.new.self.items absent c.in_ok-push.ensures.items

pub returns-then-get-clause-added : goal.returns-then-get-clause-added
returns-then-get-clause-added c =
    let there : list_any (images_eq c.args.images) c.args.self.now.images.keys ≡ true = not-false (list_any (images_eq c.args.images) c.args.self.now.images.keys) (sym c.in_ok-group.ensures.added ∙ c.if-is_new.false) in
    let within = group_within images_eq c.args.self.now.images.keys c.insert_full.new.self.keys c.args.images c.args.self.now.best.items c.in_ok-group.group c.in_ok-group.ensures.keys there c.in_ok-group.ensures.stored c.requires in
    let at : slice_get c.args.self.now.best.items c.in_ok-group.group ≡ Some c.index-least.result.now = slice_get_read c.args.self.now.best.items (length c.args.self.now.best.items) c.in_ok-group.group c.index-least.result.now refl within c.index-least.ensures in
    let few : cost_of c.args.task.now c.index-least.result.now ≤ cost_of c.args.task.now c.args.operator = omega (arith, c.if-get.true, c.get.ensures.value, c.cost.ensures, c.get-2.ensures.value, c.cost-2.ensures) in
    adds_same images_eq images_decides c.args.task.now c.args.self.now.images.keys c.insert_full.new.self.keys c.args.images c.args.operator c.in_ok-group.ensures.keys c.args.self.now.best.items c.in_ok-group.group c.index-least.result.now there
    c.in_ok-group.ensures.stored at few

pub returns-clause-added : goal.returns-clause-added
returns-clause-added c =
    let there : list_any (images_eq c.args.images) c.args.self.now.images.keys ≡ true = not-false (list_any (images_eq c.args.images) c.args.self.now.images.keys) (sym c.in_ok-group.ensures.added ∙ c.if-is_new.false) in
    let within = group_within images_eq c.args.self.now.images.keys c.insert_full.new.self.keys c.args.images c.args.self.now.best.items c.in_ok-group.group c.in_ok-group.ensures.keys there c.in_ok-group.ensures.stored c.requires in
    let at : slice_get c.args.self.now.best.items c.in_ok-group.group ≡ Some c.index-least.result.now = slice_get_read c.args.self.now.best.items (length c.args.self.now.best.items) c.in_ok-group.group c.index-least.result.now refl within c.index-least.ensures in
    let cheap : cost_of c.args.task.now c.args.operator < cost_of c.args.task.now c.index-least.result.now = omega (arith, c.if-get.false, c.get.ensures.value, c.cost.ensures, c.get-2.ensures.value, c.cost-2.ensures) in
    adds_cheaper images_eq images_decides c.args.task.now c.args.self.now.images.keys c.insert_full.new.self.keys c.args.images c.args.operator c.in_ok-group.ensures.keys c.args.self.now.best.items c.in_ok-group.group c.index-least.result.now there
    c.in_ok-group.ensures.stored at (slice_set c.args.self.now.best.items c.in_ok-group.group c.args.operator) cheap refl

pub returns-then-is_new-clause-group : goal.returns-then-is_new-clause-group
returns-then-is_new-clause-group c =
    group_image images_eq images_decides c.args.task.now c.args.self.now.images.keys c.insert_full.new.self.keys c.args.images c.args.operator c.in_ok-group.ensures.keys c.in_ok-group.group c.in_ok-group.ensures.stored

pub returns-then-get-clause-group : goal.returns-then-get-clause-group
returns-then-get-clause-group c =
    group_image images_eq images_decides c.args.task.now c.args.self.now.images.keys c.insert_full.new.self.keys c.args.images c.args.operator c.in_ok-group.ensures.keys c.in_ok-group.group c.in_ok-group.ensures.stored

pub returns-clause-group : goal.returns-clause-group
returns-clause-group c =
    group_image images_eq images_decides c.args.task.now c.args.self.now.images.keys c.insert_full.new.self.keys c.args.images c.args.operator c.in_ok-group.ensures.keys c.in_ok-group.group c.in_ok-group.ensures.stored
