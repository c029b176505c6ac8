use Rattle.std.proofs.Common.{ℕ, List, ap, ◌∙◌}
use Rattle.pddl_names.specs.Names.{is_there}
use Rattle.pddl_names.proofs.NameStrings.{list_any-texts}
use Rattle.pddl_names.proofs.Names.contains.Goals as goal

pub returns : goal.returns
returns c =
    c.contains.ensures ∙ list_any-texts c.args.name.now c.self.inside.table.keys
    ∙ ap (λ (l : List (List ℕ)). is_there l c.args.name.now) c.self.view_is
