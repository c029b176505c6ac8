use Rattle.std.proofs.Common.{◌≡◌, ◌++◌, drop, map}
use Rattle.std.specs.Prelude.{None}
use Rattle.sexp.specs.Forms.{views}
use Rattle.pddl_syntax.specs.Faults.{first_of}
use Rattle.pddl_action.specs.Keywords as spec
use Rattle.pddl_action.proofs.keyword.parts.Given as goal

abbrev pub invariant-loop-tree : goal.invariant-loop-tree
invariant-loop-tree l = record {
  meaning : map spec.part_of l.list.parts.items ++ spec.parts l.list.waiting (views (drop l.tree-index l.items)) ≡ spec.parts None (views l.items);
  faults : first_of l.first (spec.keyword_faults l.home l.list.seen l.list.waiting (views (drop l.tree-index l.items)))
      ≡ first_of l.fn.first (spec.keyword_faults l.home spec.none_seen None (views l.items));
}
