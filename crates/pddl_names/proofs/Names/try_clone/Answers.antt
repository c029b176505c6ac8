use Rattle.std.proofs.Common.{◌∙◌}
use Rattle.pddl_names.proofs.NameStrings.{texts_of-clones}
use Rattle.pddl_names.proofs.Names.try_clone.Goals as goal

pub returns : goal.returns
returns c = texts_of-clones c.self.inside.table.keys c.in_ok-table.table.keys c.in_ok-table.ensures.cases ∙ c.self.view_is
