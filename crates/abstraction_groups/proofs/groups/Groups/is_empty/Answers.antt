use Rattle.std.proofs.Common.{List, length, eqb, ap, ◌∙◌}
use Rattle.abstraction_groups.specs.declared.change.Change.{Change}
use Rattle.abstraction_groups.proofs.groups.Groups.is_empty.Goals as goal

pub returns : goal.returns
returns g c = rw (← c.self.view_is) (c.is_empty.ensures ∙ ap (λ (xs : List (List Change)). eqb (length xs) 0) c.self.invariant.0)
