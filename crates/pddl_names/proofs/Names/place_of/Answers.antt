use Rattle.std.proofs.Common.{ℕ, List, ap, ◌∙◌}
use Rattle.pddl_names.specs.Names.{place_of}
use Rattle.pddl_names.proofs.NameStrings.{place_of-texts}
use Rattle.pddl_names.proofs.Names.place_of.Goals as goal

pub returns-clause-place : goal.returns-clause-place
returns-clause-place c =
    c.get_index_of.ensures.index ∙ place_of-texts c.args.name.now c.self.inside.table.keys
    ∙ ap (λ (l : List (List ℕ)). place_of l c.args.name.now) c.self.view_is
