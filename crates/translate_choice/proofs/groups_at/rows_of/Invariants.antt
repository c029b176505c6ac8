use Rattle.std.proofs.Common.{◌≡◌, take}
use Rattle.translate_choice.proofs.groups_at.rows_of.Given as goal

abbrev pub invariant-loop-group : goal.invariant-loop-group
invariant-loop-group l = l.rows ≡ take l.group-index l.groups
