use Rattle.translate_choice.specs.Choices.{IsChoice, IsDoneBelow, AddsSingles}
use Rattle.translate_choice.proofs.choice.take_atoms.Given as goal

abbrev pub invariant-loop-place : goal.invariant-loop-place
invariant-loop-place l =
    record {
      choice : IsChoice l.index l.choice;
      done : IsDoneBelow l.index l.choice l.place;
      single : AddsSingles l.fn.choice.variables.items l.choice.variables.items;
    }
