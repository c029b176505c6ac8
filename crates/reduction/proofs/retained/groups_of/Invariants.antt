use Rattle.reduction.specs.Groups.{AreGroups, AreGroupsOf}
use Rattle.reduction.specs.Adding.{images_in}
use Rattle.reduction.proofs.retained.groups_of.Given as goal

abbrev pub invariant-loop-number : goal.invariant-loop-number
invariant-loop-number l =
    AreGroups l.task l.classes l.changing l.number (images_in l.groups.images.keys) l.groups.best.items ×
    AreGroupsOf l.task l.classes l.changing l.number (images_in l.groups.images.keys) l.of_operators.items
