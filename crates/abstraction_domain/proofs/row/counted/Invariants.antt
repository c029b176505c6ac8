use Rattle.abstraction_domain.proofs.Numbering.{AreCounted}
use Rattle.abstraction_domain.proofs.row.counted.Given as goal

abbrev pub invariant-loop-place : goal.invariant-loop-place
invariant-loop-place l = AreCounted l.classes l.place l.count
