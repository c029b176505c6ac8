use Rattle.std.proofs.Common.{ℕ, ◌≡◌, ◌+◌, ◌*◌, ◌<◌, length}
use Rattle.std.specs.Prelude.{◌↔◌, ◌⊎◌, Contains}
use Rattle.abstraction_groups.specs.declared.backward.Transition.{Transition}
use Rattle.pdb_regression.specs.Rules.{IsWith}
use Rattle.pdb_regression.proofs.rule.+add_sources.Given as goal

abbrev pub invariant-loop-value : goal.invariant-loop-value
invariant-loop-value l = (t : Transition) → Contains l.transitions.items t ↔
    (Contains l.fn.transitions.items t ⊎ ((t.class ≡ l.class) × ((x : ℕ) × (x < l.value) × IsWith l.others (l.source + x * l.digit.weight) t.source)))

abbrev pub decreases-add_sources : goal.decreases-add_sources
decreases-add_sources l = length l.free.now
