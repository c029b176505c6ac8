use Rattle.std.proofs.Common.{◌≡◌, ℕ, List, ap, ◌∙◌, arith}
use Rattle.fdr.specs.Tasks.{ranges}
use Rattle.packed_spread.specs.Projections.{chosen_in}
use Rattle.packed_spread.proofs.projection.projection_of.Goals as goal

pub returns : goal.returns
returns c =
    let all : c.loop.counter ≡ 20 = omega arith in
    c.loop.invariant.chosen
    ∙ ap (λ (rounds : ℕ). chosen_in rounds (ranges c.args.task.now) c.in_ok-changes.changes.items) all
    ∙ ap (λ (changes : List ℕ). chosen_in 20 (ranges c.args.task.now) changes) c.in_ok-changes.ensures.changes
