use Rattle.std.proofs.Common.{◌≡◌, false, drop}
use Rattle.sexp.specs.Forms.{views}
use Rattle.pddl_problem.specs.Initial as spec
use Rattle.pddl_problem.proofs.initial.ends_in_list.Given as goal

abbrev pub invariant-loop-item : goal.invariant-loop-item
invariant-loop-item l = spec.ends_in_list l.ends_in_list (views (drop l.item-index l.items)) ≡ spec.ends_in_list false (views l.items)
