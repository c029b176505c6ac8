use Rattle.std.proofs.Common.{take}
use Rattle.pdb.specs.Classes.{IsLeastOf}
use Rattle.pdb.proofs.least.least_of.Given as goal

abbrev pub invariant-loop-operator : goal.invariant-loop-operator
invariant-loop-operator l = IsLeastOf l.shares (take l.operator-index l.operators) l.most l.least
