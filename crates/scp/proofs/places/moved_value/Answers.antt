use Rattle.scp.proofs.places.moved_value.Goals as goal

pub flat_value_moved-requires-clause-moves : goal.flat_value_moved-requires-clause-moves
flat_value_moved-requires-clause-moves c = rw c.deref.ensures.value ((c.requires.moves c.in-Some.moves c.in-Some.is).1)
