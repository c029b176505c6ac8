use Rattle.owner_space.proofs.Keys.{denoted_keyed}
use Rattle.owner_space.proofs.laws.keyed_entries_denote.Goals as goal

pub returns : goal.returns
returns c = denoted_keyed
