use Rattle.std.proofs.Common.{◌≤◌, []}
use Rattle.translate_choice.specs.Choices.{IsChoice}
use Rattle.translate_choice.specs.Greedy.{AreQueued, AreTakenAfter}
use Rattle.translate_choice.proofs.GreedyLaws.{set_count}
use Rattle.translate_choice.proofs.choice.take_groups.Given as goal

abbrev pub invariant-loop-turn : goal.invariant-loop-turn
invariant-loop-turn l =
    record {
      choice : IsChoice l.offers.index.now l.choice;
      in_turn : AreTakenAfter l.offers.index.now l.offers.groups.now [] l.choice.variables.items;
      queued : AreQueued l.offers.index.now l.offers.groups.now l.choice.taken.items l.queue;
      turns : l._turn ≤ set_count l.choice.taken.items;
    }
