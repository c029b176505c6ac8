use Rattle.std.proofs.Common.{◌≡◌, drop}
use Rattle.sexp.specs.Forms.{views}
use Rattle.pddl_syntax.specs.Sections as spec
use Rattle.pddl_syntax.proofs.sections.find_section.Given as goal

abbrev pub invariant-loop-tree : goal.invariant-loop-tree
invariant-loop-tree l = spec.section l.name (views (drop l.tree-index l.sections)) ≡ spec.section l.name (views l.sections)
