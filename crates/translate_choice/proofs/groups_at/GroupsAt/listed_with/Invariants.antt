use Rattle.std.proofs.Common.{take}
use Rattle.translate_choice.specs.Greedy.{HasEach}
use Rattle.translate_choice.proofs.groups_at.GroupsAt.listed_with.Given as goal

abbrev pub invariant-loop-place : goal.invariant-loop-place
invariant-loop-place l = HasEach l.self (take l.place-index l.places) l.groups.items
