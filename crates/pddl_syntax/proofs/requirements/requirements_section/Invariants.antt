use Rattle.std.proofs.Common.{◌≡◌, drop}
use Rattle.sexp.specs.Forms.{views}
use Rattle.pddl_syntax.specs.Faults.{first_of}
use Rattle.pddl_syntax.specs.Sections.{requirement_faults}
use Rattle.pddl_syntax.proofs.requirements.requirements_section.Given as goal

abbrev pub invariant-loop-tree : goal.invariant-loop-tree
invariant-loop-tree l = first_of l.first (requirement_faults (views (drop l.tree-index l.items))) ≡ first_of l.fn.first (requirement_faults (views l.items))
