use Rattle.translate_choice.proofs.GreedyLaws.{more_singles}
use Rattle.translate_choice.proofs.choice.take_atoms.Goals as goal

pub loop-place-preserved : goal.loop-place-preserved
loop-place-preserved c =
    record {
      choice = c.in_ok-take_atom.ensures.choice;
      done = c.in_ok-take_atom.ensures.done c.loop-place.invariant.done;
      single = more_singles _ _ _ c.loop-place.invariant.single c.in_ok-take_atom.ensures.single;
    }
