use Rattle.std.proofs.Common.{List, [], get_or, ap, ◌∙◌}
use Rattle.abstraction_groups.specs.declared.change.Change.{Change}
use Rattle.abstraction_groups.proofs.groups.Groups.changes_of.Goals as goal

pub get-requires : goal.get-requires
get-requires g c = rw c.self.invariant.0 (rw (← c.self.view_is) at c.requires)

pub returns : goal.returns
returns g c = rw (← c.self.view_is) (c.get.ensures ∙ ap (λ (xs : List (List Change)). get_or xs c.args.group []) c.self.invariant.0)
