use Rattle.std.proofs.Common.{◌≡◌, ◌≤◌, ◌∙◌, ◌++◌, ℕ, List, [], sym, ap, subst, arith}
use Rattle.fdr.specs.Tasks.{IsPlan, plan_cost}
use Rattle.owner_theory.specs.Owners.{Node}
use Rattle.owner_theory.specs.Families.{IsBelow}
use Rattle.owner.specs.Owned.{max_total}
use Rattle.extract.proofs.Following.{FollowsParent, parent_in, goal_stands, worker_within, index_within, entry_there, next_node, leads_on, all_followed, rank_falls, follows_plan, follows_at_most, follows_exact}
use Rattle.extract.proofs.plan.plan_of.Goals as goal

pub entry_at-entry-requires-clause-worker : goal.entry_at-entry-requires-clause-worker
entry_at-entry-requires-clause-worker g c =
    worker_within c.args.joined.now c.owners-owners.result.now c.owners-owners.ensures c.args.goal.0 c.args.goal.1 c.requires.0
    (goal_stands c.args.joined.now c.args.goal.0 c.args.goal.1 c.requires.0 c.requires.1)

pub entry_at-entry-requires-clause-index : goal.entry_at-entry-requires-clause-index
entry_at-entry-requires-clause-index g c =
    index_within c.args.joined.now c.owners-owners.result.now c.owners-owners.ensures c.args.goal.0 c.args.goal.1 c.requires.0
    (goal_stands c.args.joined.now c.args.goal.0 c.args.goal.1 c.requires.0 c.requires.1)

pub loop-entry-init : goal.loop-entry-init
loop-entry-init g c =
    let stands = goal_stands c.args.joined.now c.args.goal.0 c.args.goal.1 c.requires.0 c.requires.1 in
    let empty : c.new-plan.result.items ≡ [] = c.new-plan.ensures.items in
    record {
      there = (
        c.args.goal.0,
        c.args.goal.1,
        c.requires.0,
        stands,
        entry_there c.args.joined.now c.owners-owners.result.now c.owners-owners.ensures c.args.goal.0 c.args.goal.1 c.requires.0
            stands c.entry_at-entry.result c.entry_at-entry.ensures.entry,
      );
      leads = λ back follows.
          subst (λ (plan : List ℕ). FollowsParent c.args.joined.now (parent_in c.entry_at-entry.result) (plan ++ back)) (sym empty) follows;
    }

pub entry_at-entry-requires-in-Some-clause-worker : goal.entry_at-entry-requires-in-Some-clause-worker
entry_at-entry-requires-in-Some-clause-worker g c =
    let (origin, at, below) = next_node c.args.joined.now g.S.Spread.owner c.recall.ensures.space c.recall.ensures.lawful
    c.loop-entry.entry c.in-Some.parent c.loop-entry.invariant.there c.in-Some.is in
    worker_within c.args.joined.now c.owners-owners.result.now c.owners-owners.ensures c.in-Some.parent.worker c.in-Some.parent.index
    origin at

pub entry_at-entry-requires-in-Some-clause-index : goal.entry_at-entry-requires-in-Some-clause-index
entry_at-entry-requires-in-Some-clause-index g c =
    let (origin, at, below) = next_node c.args.joined.now g.S.Spread.owner c.recall.ensures.space c.recall.ensures.lawful
    c.loop-entry.entry c.in-Some.parent c.loop-entry.invariant.there c.in-Some.is in
    index_within c.args.joined.now c.owners-owners.result.now c.owners-owners.ensures c.in-Some.parent.worker c.in-Some.parent.index
    origin at

pub loop-entry-smaller : goal.loop-entry-smaller
loop-entry-smaller g c =
    let (origin, at, below) = next_node c.args.joined.now g.S.Spread.owner c.recall.ensures.space c.recall.ensures.lawful
    c.loop-entry.entry c.in-Some.parent c.loop-entry.invariant.there c.in-Some.is in
    let is = entry_there c.args.joined.now c.owners-owners.result.now c.owners-owners.ensures c.in-Some.parent.worker
    c.in-Some.parent.index origin at c.entry_at-entry-in-Some.result c.entry_at-entry-in-Some.ensures.entry in
    let small : c.entry_at-entry-in-Some.result.rank.steps ≤ max_total = c.entry_at-entry-in-Some.ensures.small in
    rank_falls 18446744073709551616 c.entry_at-entry-in-Some.result.rank.cost c.entry_at-entry-in-Some.result.rank.steps
    c.loop-entry.entry.rank.cost c.loop-entry.entry.rank.steps (omega arith)
    (subst (λ (x : Node). IsBelow x.cost x.steps c.loop-entry.entry.rank.cost c.loop-entry.entry.rank.steps) is below)

pub loop-entry-preserved : goal.loop-entry-preserved
loop-entry-preserved g c =
    let (origin, at, below) = next_node c.args.joined.now g.S.Spread.owner c.recall.ensures.space c.recall.ensures.lawful
    c.loop-entry.entry c.in-Some.parent c.loop-entry.invariant.there c.in-Some.is in
    let is = entry_there c.args.joined.now c.owners-owners.result.now c.owners-owners.ensures c.in-Some.parent.worker
    c.in-Some.parent.index origin at c.entry_at-entry-in-Some.result c.entry_at-entry-in-Some.ensures.entry in
    record {
      there = (c.in-Some.parent.worker, c.in-Some.parent.index, origin, at, is);
      leads = leads_on c.args.joined.now (parent_in c.entry_at-entry.result) c.loop-entry.entry c.entry_at-entry-in-Some.result
          c.in-Some.parent origin c.loop-entry.plan.items c.push.new.self.items c.loop-entry.invariant.leads c.in-Some.is at is
          c.in_ok-push.ensures.items;
    }

pub returns-clause-plan : goal.returns-clause-plan
returns-clause-plan g c =
    let stands = goal_stands c.args.joined.now c.args.goal.0 c.args.goal.1 c.requires.0 c.requires.1 in
    let first = entry_there c.args.joined.now c.owners-owners.result.now c.owners-owners.ensures c.args.goal.0 c.args.goal.1
    c.requires.0 stands c.entry_at-entry.result c.entry_at-entry.ensures.entry in
    let follows = all_followed c.args.joined.now c.requires.0 c.entry_at-entry.result c.loop-entry.entry c.loop-entry.plan.items first
    c.loop-entry.invariant.leads c.in_default.is in
    subst (IsPlan c.args.joined.now.space.task) (sym c.reverse.ensures.items)
    (follows_plan g.S.Spread.owner c.args.joined.now c.recall.ensures.space c.recall.ensures.lawful c.loop-entry.plan.items
    c.args.goal.0 c.args.goal.1 c.requires.0 c.requires.1 follows)

pub returns-clause-cost : goal.returns-clause-cost
returns-clause-cost g c = λ cost settled.
    let stands = goal_stands c.args.joined.now c.args.goal.0 c.args.goal.1 c.requires.0 c.requires.1 in
    let first = entry_there c.args.joined.now c.owners-owners.result.now c.owners-owners.ensures c.args.goal.0 c.args.goal.1
    c.requires.0 stands c.entry_at-entry.result c.entry_at-entry.ensures.entry in
    let follows = all_followed c.args.joined.now c.requires.0 c.entry_at-entry.result c.loop-entry.entry c.loop-entry.plan.items first
    c.loop-entry.invariant.leads c.in_default.is in
    ap (plan_cost c.args.joined.now.space.task) c.reverse.ensures.items
    ∙ follows_exact g.S.Spread.owner c.args.joined.now c.recall.ensures.space c.recall.ensures.lawful c.recall.ensures.lower
    c.loop-entry.plan.items c.args.goal.0 c.args.goal.1 c.requires follows cost settled

pub returns-clause-bound : goal.returns-clause-bound
returns-clause-bound g c = λ n found.
    let stands = goal_stands c.args.joined.now c.args.goal.0 c.args.goal.1 n found in
    let first = entry_there c.args.joined.now c.owners-owners.result.now c.owners-owners.ensures c.args.goal.0 c.args.goal.1 n stands
    c.entry_at-entry.result c.entry_at-entry.ensures.entry in
    let follows = all_followed c.args.joined.now n c.entry_at-entry.result c.loop-entry.entry c.loop-entry.plan.items first
    c.loop-entry.invariant.leads c.in_default.is in
    subst (λ (plan : List ℕ). plan_cost c.args.joined.now.space.task plan ≤ n.cost) (sym c.reverse.ensures.items)
    (follows_at_most g.S.Spread.owner c.args.joined.now c.recall.ensures.space c.recall.ensures.lawful c.loop-entry.plan.items
    c.args.goal.0 c.args.goal.1 n found follows)
