use Rattle.std.proofs.Common.{◌≡◌, ◌++◌, drop}
use Rattle.sexp.specs.Forms.{views}
use Rattle.validate.specs.PlanTexts.{steps_of}
use Rattle.validate.specs.PlanWords.{IsPlanWord, AreAll}
use Rattle.validate.proofs.reading.steps.Given as goal

abbrev pub invariant-loop-tree : goal.invariant-loop-tree
invariant-loop-tree l = (l.steps.items ++ steps_of (views (drop l.tree-index l.trees)) ≡ steps_of (views l.trees)) × AreAll IsPlanWord (views (drop l.tree-index l.trees))
