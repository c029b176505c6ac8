use Rattle.std.proofs.Common.{◌≡◌, ◌≤◌, drop}
use Rattle.sexp.specs.Forms.{views}
use Rattle.pddl_names.specs.Names.{is_there}
use Rattle.pddl_syntax.specs.Faults.{first_of}
use Rattle.pddl_domain.specs.DeclaredHeads.{heads_from, faults_from}
use Rattle.pddl_domain.proofs.heads_sections.Functions.read_all.Given as goal

abbrev pub invariant-loop-tree : goal.invariant-loop-tree
invariant-loop-tree l = let left = views (drop l.tree-index l.items) in record {
  count : l.self.declarations.count ≤ l.tree-index;
  heads : heads_from l.self.wants_number l.self.declarations.heads left ≡ heads_from l.fn.self.wants_number l.fn.self.declarations.heads (views l.items);
  faults : first_of l.first (faults_from l.self.wants_number (is_there l.types.names) l.home l.self.is_empty l.self.declarations.heads l.self.declarations.count left)
      ≡ first_of l.fn.first (faults_from l.fn.self.wants_number (is_there l.types.names) l.home l.fn.self.is_empty l.fn.self.declarations.heads l.fn.self.declarations.count (views l.items));
}
