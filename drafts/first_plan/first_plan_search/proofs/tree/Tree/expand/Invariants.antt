use Rattle.std.proofs.Common.{◌≡◌}
use Rattle.first_plan_search.proofs.tree.Tree.expand.Given as goal

abbrev pub invariant-loop-position : goal.invariant-loop-position
invariant-loop-position g l = record {
  tree : l.self ≡ l.initial.self;
  expander : l.expander ≡ l.initial.expander;
}
