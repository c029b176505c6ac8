use Rattle.std.proofs.Common.{◌≡◌, ◌≤◌, drop}
use Rattle.sexp.specs.Forms.{views}
use Rattle.pddl_names.specs.Names.{is_there}
use Rattle.pddl_syntax.specs.Faults.{first_of}
use Rattle.pddl_domain.specs.DeclaredHeads.{predicate_heads, predicates_faults}
use Rattle.pddl_domain.proofs.heads_sections.read_predicates.Given as goal

abbrev pub invariant-loop-tree : goal.invariant-loop-tree
invariant-loop-tree l = let left = views (drop l.tree-index l.items) in record {
  count : l.predicates.count ≤ l.tree-index;
  heads : predicate_heads l.predicates.heads left ≡ predicate_heads l.fn.predicates.heads (views l.items);
  faults : first_of l.first (predicates_faults (is_there l.types.names) l.predicates.heads l.predicates.count left)
      ≡ first_of l.fn.first (predicates_faults (is_there l.types.names) l.fn.predicates.heads l.fn.predicates.count (views l.items));
}
