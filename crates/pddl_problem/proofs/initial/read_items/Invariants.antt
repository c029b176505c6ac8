use Rattle.std.proofs.Common.{◌≡◌, ◌++◌, drop}
use Rattle.sexp.specs.Forms.{views}
use Rattle.pddl_syntax.specs.Faults.{first_of}
use Rattle.pddl_problem.specs.Initial.{initial_atoms, stated_values, initial_faults, values_of}
use Rattle.pddl_problem.proofs.initial.read_items.Given as goal

abbrev pub invariant-loop-count : goal.invariant-loop-count
invariant-loop-count l = record {
  atoms : l.state.atoms.items ++ initial_atoms l.reader (views (drop l.count l.items)) ≡ l.fn.state.atoms.items ++ initial_atoms l.reader (views l.items);
  values : stated_values l.reader (values_of l.state.values.entries) (views (drop l.count l.items)) ≡ stated_values l.reader (values_of l.fn.state.values.entries) (views l.items);
  faults : first_of l.first (initial_faults l.reader l.count (values_of l.state.values.entries) (views (drop l.count l.items))) ≡ first_of l.fn.first (initial_faults l.reader 0 (values_of l.fn.state.values.entries) (views l.items));
}
