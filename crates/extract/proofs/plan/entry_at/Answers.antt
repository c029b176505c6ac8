use Rattle.std.proofs.Common.{◌≡◌, ◌≤◌, subst}
use Rattle.owner_theory.specs.Owners.{At, Node}
use Rattle.owner_theory.proofs.Lists as lists
use Rattle.owner.specs.Owned.{OwnerOf, max_total, IsKept, space_of}
use Rattle.extract.proofs.Places.{at_read, at_some, at_get, each_at}
use Rattle.extract.proofs.plan.entry_at.Goals as goal

pub entry-requires : goal.entry-requires
entry-requires g c =
    c.requires.index c.index-owners-worker.result
    (at_read c.args.owners.now c.args.worker c.index-owners-worker.result c.requires.worker c.index-owners-worker.is)

pub returns-clause-entry : goal.returns-clause-entry
returns-clause-entry g c = λ o n at_o at_n.
    let here = at_read c.args.owners.now c.args.worker c.index-owners-worker.result c.requires.worker c.index-owners-worker.is in
    let same : o ≡ c.index-owners-worker.result =
    lists.at_once c.args.owners.now c.args.worker o c.index-owners-worker.result at_o here in
    c.entry.ensures n
    (at_get c.index-owners-worker.result.nodes c.args.index n
    (subst (λ (h : OwnerOf _). At h.nodes c.args.index n) same at_n))

pub returns-clause-small : goal.returns-clause-small
returns-clause-small g c =
    let here = at_read c.args.owners.now c.args.worker c.index-owners-worker.result c.requires.worker c.index-owners-worker.is in
    let (n, at) = at_some c.index-owners-worker.result.nodes c.args.index (c.requires.index c.index-owners-worker.result here) in
    let kept = each_at (IsKept (space_of g.S.Spread.owner c.index-owners-worker.result) c.index-owners-worker.result.worker)
    c.index-owners-worker.result.nodes c.args.index n c.recall.ensures.nodes at in
    subst (λ (x : Node). x.steps ≤ max_total)
    (c.entry.ensures n (at_get c.index-owners-worker.result.nodes c.args.index n at)) kept.steps
