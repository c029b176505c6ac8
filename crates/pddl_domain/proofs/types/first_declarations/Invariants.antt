use Rattle.std.proofs.Common.{◌≡◌, ◌<◌, ℕ, drop, get_or, length}
use Rattle.std.specs.Prelude.{None}
use Rattle.pddl_domain.specs.Types.{first_of_name}
use Rattle.pddl_domain.proofs.types.first_declarations.Given as goal

abbrev pub invariant-loop-index : goal.invariant-loop-index
invariant-loop-index l = record {
  count : length l.firsts.items ≡ l.count;
  firsts : (k : ℕ) → k < l.count → get_or l.firsts.items k None ≡ first_of_name (drop l.index l.subtypes) k;
}
