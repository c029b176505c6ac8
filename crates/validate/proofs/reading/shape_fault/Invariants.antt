use Rattle.std.proofs.Common.{◌≡◌, drop}
use Rattle.sexp.specs.Forms.{views}
use Rattle.validate.specs.PlanTexts.{first_of_places, shape_faults}
use Rattle.validate.proofs.reading.shape_fault.Given as goal

abbrev pub invariant-loop-tree : goal.invariant-loop-tree
invariant-loop-tree l = first_of_places (shape_faults (views (drop l.tree-index l.trees))) ≡ first_of_places (shape_faults (views l.trees))
