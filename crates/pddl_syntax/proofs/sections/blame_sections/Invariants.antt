use Rattle.std.proofs.Common.{◌≡◌, [], drop}
use Rattle.sexp.specs.Forms.{views}
use Rattle.pddl_syntax.specs.Faults.{first_of}
use Rattle.pddl_syntax.specs.Sections as spec
use Rattle.pddl_syntax.proofs.sections.blame_sections.Given as goal

abbrev pub invariant-loop-tree : goal.invariant-loop-tree
invariant-loop-tree l = first_of l.first (spec.section_faults l.file l.seen (views (drop l.tree-index l.sections))) ≡ first_of l.fn.first (spec.section_faults l.file [] (views l.sections))
