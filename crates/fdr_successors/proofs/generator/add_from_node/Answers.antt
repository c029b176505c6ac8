use Rattle.std.proofs.Common.{List, ◌≤◌, length, subst}
use Rattle.fdr.specs.declared.fact.Fact.{Fact}
use Rattle.fdr_successors.specs.Listings.{facts_of}
use Rattle.fdr_successors.proofs.Walking.{all_between, facts_there}
use Rattle.fdr_successors.proofs.generator.add_from_node.Goals as goal

pub add_passing-requires-clause-long : goal.add_passing-requires-clause-long
add_passing-requires-clause-long c =
    let facts = c.args.facts.now in
    let cs = c.args.candidates.now in
    let node = c.args.node in
    all_between (λ d. node.tested ≤ length (facts_of facts d)) cs node.first node.end c.requires.shares.within
    (λ i d l m at. subst (λ (fs : List Fact). node.tested ≤ length fs) (facts_there facts cs i d at) (c.requires.shares.long i l m))
