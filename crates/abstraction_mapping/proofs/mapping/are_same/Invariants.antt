use Rattle.std.proofs.Common.{◌≡◌, take}
use Rattle.abstraction_mapping.proofs.mapping.are_same.Given as goal

abbrev pub invariant-loop-place : goal.invariant-loop-place
invariant-loop-place l = take l.place l.rows ≡ take l.place l.others
