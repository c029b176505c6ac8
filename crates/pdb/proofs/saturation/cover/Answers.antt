use Rattle.pdb.proofs.saturation.cover.Goals as goal

pub raise-requires-2-clause-entering : goal.raise-requires-2-clause-entering
raise-requires-2-clause-entering g c = rw c.deref.ensures.value c.in_ok-entering.ensures
