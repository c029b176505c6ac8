use Rattle.std.proofs.Common.{◌∙◌}
use Rattle.mutex_index.proofs.PlaceLaws.{found_is}
use Rattle.mutex_index.proofs.tables.is_one_of.Goals as goal

pub returns : goal.returns
returns c = c.is_ok.ensures.value ∙ found_is c.args.group.now c.args.place c.binary_search.result c.requires c.binary_search.ensures.position
