use Rattle.std.proofs.Common.{eqb}
use Rattle.std.specs.List.Sorted.{IsPermutation}
use Rattle.std.proofs.lemmas.List.Filters.{dedup_is}
use Rattle.std.proofs.lemmas.Map.Keys.{IsStrictlyIncreasing-dedup}
use Rattle.index_rows.proofs.NumberLaws.{sorted_same}
use Rattle.mutex_index.proofs.index.in_order.Goals as goal

pub returns-clause-rising : goal.returns-clause-rising
returns-clause-rising c =
    let kept = dedup_is eqb c.sort_unstable.new.self.items c.dedup.new.self.items c.dedup.ensures.filtered in
    rw kept (IsStrictlyIncreasing-dedup c.sort_unstable.new.self.items c.sort_unstable.ensures.sorted)

pub returns-clause-same : goal.returns-clause-same
returns-clause-same c =
    let kept = dedup_is eqb c.sort_unstable.new.self.items c.dedup.new.self.items c.dedup.ensures.filtered in
    let order : IsPermutation c.args.numbers.now c.sort_unstable.new.self.items = rw c.in_ok-sorted.ensures.items at c.sort_unstable.ensures.permutation in
    sorted_same c.args.numbers.now c.sort_unstable.new.self.items c.dedup.new.self.items order kept
