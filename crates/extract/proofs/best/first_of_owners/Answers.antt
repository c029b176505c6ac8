use Rattle.std.proofs.Common.{◌≡◌, ◌∙◌, ap}
use Rattle.owner.specs.Spaces.{SpaceOf}
use Rattle.owner.specs.Owned.{OwnerOf}
use Rattle.extract.specs.Goals.{is_goal_at, first_from}
use Rattle.extract.proofs.FirstPlaces.{found_in_row, not_in_row}
use Rattle.extract.proofs.best.first_of_owners.Goals as goal

pub returns-in-Some : goal.returns-in-Some
returns-in-Some g c =
    let w = c.loop-worker.worker in
    let o = c.index-owners-worker.result in
    let test = is_goal_at c.args.space.now.task c.args.cost in
    let here : o.space ≡ c.args.space.now =
    ap (λ (x : OwnerOf g.row.S.Denot). x.space) c.index-owners-worker.is ∙ c.requires.spaces w o c.loop-worker-test.true in
    let found : c.first_of_owner.result ≡ first_from test 0 o.nodes =
    c.first_of_owner.ensures ∙ ap (λ (s : SpaceOf g.row.S.Denot). first_from (is_goal_at s.task c.args.cost) 0 o.nodes) here in
    found_in_row (λ (x : OwnerOf g.row.S.Denot). x.nodes) test c.args.owners.now w c.in-Some.index o c.first_of_owner.result
    c.loop-worker-test.true c.index-owners-worker.is found c.in-Some.is
    ∙ c.loop-worker.invariant

pub loop-worker-preserved : goal.loop-worker-preserved
loop-worker-preserved g c =
    let w = c.loop-worker.worker in
    let o = c.index-owners-worker.result in
    let test = is_goal_at c.args.space.now.task c.args.cost in
    let here : o.space ≡ c.args.space.now =
    ap (λ (x : OwnerOf g.row.S.Denot). x.space) c.index-owners-worker.is ∙ c.requires.spaces w o c.loop-worker-test.true in
    let found : c.first_of_owner.result ≡ first_from test 0 o.nodes =
    c.first_of_owner.ensures ∙ ap (λ (s : SpaceOf g.row.S.Denot). first_from (is_goal_at s.task c.args.cost) 0 o.nodes) here in
    not_in_row (λ (x : OwnerOf g.row.S.Denot). x.nodes) test c.args.owners.now w o c.first_of_owner.result
    c.loop-worker-test.true c.index-owners-worker.is found c.in_default.not-Some
    ∙ c.loop-worker.invariant
