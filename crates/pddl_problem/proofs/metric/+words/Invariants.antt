use Rattle.std.proofs.Common.{◌≡◌, drop}
use Rattle.sexp.specs.Forms.{views}
use Rattle.pddl_problem.specs.Goals as spec
use Rattle.pddl_problem.proofs.metric.+words.Given as goal

abbrev pub invariant-first_word-loop-item : goal.invariant-first_word-loop-item
invariant-first_word-loop-item l = spec.first_word (views (drop l.item-index l.items)) ≡ spec.first_word (views l.items)
