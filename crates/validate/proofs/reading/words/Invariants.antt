use Rattle.std.proofs.Common.{◌≡◌, ◌++◌, drop}
use Rattle.sexp.specs.Forms.{views}
use Rattle.validate.specs.PlanTexts.{words_of}
use Rattle.pddl_names.specs.Names.{texts_of}
use Rattle.validate.proofs.reading.words.Given as goal

abbrev pub invariant-loop-tree : goal.invariant-loop-tree
invariant-loop-tree l = texts_of l.words.items ++ words_of (views (drop l.tree-index l.items)) ≡ words_of (views l.items)
