use Rattle.std.proofs.Common.{◌≡◌, ◌++◌, drop, map}
use Rattle.sexp.specs.Forms.{views}
use Rattle.pddl_syntax.specs.Sections as spec
use Rattle.pddl_syntax.specs.Sections.{part_of}
use Rattle.pddl_syntax.proofs.sections.all_sections.Given as goal

abbrev pub invariant-loop-tree : goal.invariant-loop-tree
invariant-loop-tree l = map part_of l.all.items ++ spec.all_sections l.name (views (drop l.tree-index l.sections)) ≡ spec.all_sections l.name (views l.sections)
