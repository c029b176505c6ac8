use Rattle.std.proofs.Common.{subst}
use Rattle.pddl_names.specs.Names.{AreDistinct}
use Rattle.pddl_names.proofs.NameStrings.{AreDistinct-texts}
use Rattle.pddl_names.proofs.Names.are_distinct.Goals as goal

pub returns : goal.returns
returns c = subst AreDistinct c.self.view_is (AreDistinct-texts c.self.inside.table.keys c.len.ensures.unique)
