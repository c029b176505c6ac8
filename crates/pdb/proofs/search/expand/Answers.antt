use Rattle.pdb.proofs.search.expand.Goals as goal

pub relax-requires-2-clause-entering : goal.relax-requires-2-clause-entering
relax-requires-2-clause-entering g c = rw c.deref.ensures.value c.in_ok-entering.ensures
