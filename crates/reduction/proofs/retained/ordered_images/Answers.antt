use Rattle.std.proofs.Common.{List, subst, rules}
use Rattle.std.specs.List.Sorted.{IsPermutation, IsNonDecreasingBy}
use Rattle.std.proofs.lemmas.List.Sorted.{IsNonDecreasingBy-from_sort_by_key}
use Rattle.fdr.specs.declared.fact.Fact.{Fact}
use Rattle.reduction_classes.specs.Reduced.{reduced_facts}
use Rattle.reduction.proofs.Sorting.{ordered_by_sort, images_distinct}
use Rattle.reduction.proofs.retained.ordered_images.Goals as goal

pub returns : goal.returns
returns c =
    let before = reduced_facts c.args.classes.now c.args.facts.now in
    let sorted : List Fact = c.sort_unstable_by_key.new.self.items in
    let moved : IsPermutation (reduced_facts c.args.classes.now c.args.facts.now) c.sort_unstable_by_key.new.self.items =
    subst (λ (fs : List Fact). IsPermutation fs c.sort_unstable_by_key.new.self.items) c.in_ok-images.ensures c.sort_unstable_by_key.ensures.permutation in
    let rising : IsNonDecreasingBy (λ (f : Fact). f.variable) c.sort_unstable_by_key.new.self.items =
    IsNonDecreasingBy-from_sort_by_key (λ (f : Fact). f.variable) _ c.sort_unstable_by_key.ensures.sorted (λ a r q k. search rules) in
    ordered_by_sort before sorted moved (images_distinct c.args.classes.now c.args.facts.now c.requires) rising
