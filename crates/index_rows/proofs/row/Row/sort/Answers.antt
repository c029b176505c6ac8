use Rattle.std.proofs.Common.{◌≡◌, ℕ, List, length, ap, subst, ◌∙◌, eqb, rules}
use Rattle.std.specs.List.{dedup}
use Rattle.std.specs.List.Sorted.{IsPermutation}
use Rattle.std.proofs.lemmas.Map.Keys.{IsStrictlyIncreasing-dedup}
use Rattle.index_rows.specs.Numbers.{has}
use Rattle.index_rows.proofs.NumberLaws.{sorted_same, refill_same}
use Rattle.index_rows.proofs.row.Row.sort.Goals as goal

pub returns-clause-rising : goal.returns-clause-rising
returns-clause-rising c =
    let len : length c.sort_unstable.new.self ≡ length c.self.inside.numbers.items = search rules in
    let kept : c.dedup.new.self.items ≡ dedup eqb c.sort_unstable.new.self = c.dedup.ensures.items ∙ ap (dedup eqb) (refill_same c.self.inside.numbers.items c.sort_unstable.new.self len) in
    rw kept (IsStrictlyIncreasing-dedup c.sort_unstable.new.self c.sort_unstable.ensures.sorted)

pub returns-clause-same : goal.returns-clause-same
returns-clause-same c =
    let len : length c.sort_unstable.new.self ≡ length c.self.inside.numbers.items = search rules in
    let kept : c.dedup.new.self.items ≡ dedup eqb c.sort_unstable.new.self = c.dedup.ensures.items ∙ ap (dedup eqb) (refill_same c.self.inside.numbers.items c.sort_unstable.new.self len) in
    let order : IsPermutation c.self.inside.numbers.items c.sort_unstable.new.self = subst (λ (xs : List ℕ). IsPermutation xs c.sort_unstable.new.self) c.as_mut_slice.ensures.value c.sort_unstable.ensures.permutation in
    λ k. sorted_same c.self.inside.numbers.items c.sort_unstable.new.self c.dedup.new.self.items order kept k
    ∙ ap (λ (numbers : List ℕ). has numbers k) c.self.view_is
