use Rattle.std.proofs.Common.{◌≡◌, drop}
use Rattle.sexp.specs.Forms.{views}
use Rattle.validate.specs.PlanTexts.{first_of_places, lists_in}
use Rattle.validate.proofs.reading.first_list.Given as goal

abbrev pub invariant-loop-tree : goal.invariant-loop-tree
invariant-loop-tree l = first_of_places (lists_in (views (drop l.tree-index l.items))) ≡ first_of_places (lists_in (views l.items))
