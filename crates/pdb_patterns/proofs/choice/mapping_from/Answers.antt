use Rattle.std.proofs.Common.{◌≡◌, ◌≢◌, ◌==◌, ℕ, true, [], subst}
use Rattle.std.specs.List.{list_any}
use Rattle.pdb_patterns.proofs.Choices.{pattern_within}
use Rattle.pdb_patterns.proofs.choice.mapping_from.Goals as goal

pub returns-then-range-limit-clause-within : goal.returns-then-range-limit-clause-within
returns-then-range-limit-clause-within c =
    let pattern = c.in_ok-pattern.pattern in
    let some : pattern.items ≢ [] = λ e. cc (subst (λ vs. list_any (λ (v : ℕ). v == c.args.first) vs ≡ true) e c.in_ok-pattern.ensures.kept) in
    pattern_within c.args.task.now c.args.limit pattern.items c.requires.small c.in_ok-pattern.ensures.pattern some
