use Rattle.std.proofs.Common.{◌≡◌, true, drop}
use Rattle.sexp.specs.Forms.{views}
use Rattle.pddl_syntax.specs.Faults.{first_of}
use Rattle.pddl_syntax.specs.Typed.{is_known, reading_of, complaints_of, declared, typed_faults}
use Rattle.pddl_syntax.proofs.typed.typed_list.Given as goal

abbrev pub invariant-loop-tree : goal.invariant-loop-tree
invariant-loop-tree l = record {
  meaning : reading_of l.variables l.typed (views (drop l.tree-index l.items)) ≡ declared l.variables (views l.items);
  faults : first_of l.first (complaints_of l.variables (is_known l.any l.types) l.home l.typed (views (drop l.tree-index l.items)))
      ≡ first_of l.fn.first (typed_faults l.variables (is_known l.any l.types) l.home true (views l.items));
}
