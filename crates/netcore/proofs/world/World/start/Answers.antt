use Rattle.std.proofs.Common.{◌≡◌, ◌∙◌, ap, replicate, false}
use Rattle.cost.specs.Distances.{Infinite}
use Rattle.fdr.specs.Tasks.{ranges}
use Rattle.netcore.proofs.Starting.{start_shown, start_kept}
use Rattle.netcore.proofs.world.World.start.Goals as goal

pub invariant_of-result : goal.invariant_of-result
invariant_of-result g c =
    let seen : c.in_ok-vec.field-0.items ≡ replicate c.args.owners Infinite =
    c.in_ok-vec.ensures.items_if_clones_equal (λ y e. e) ∙ ap (λ d. replicate c.args.owners d) c.inf.ensures in
    let flags : c.in_ok-vec-2.field-0.items ≡ replicate c.args.owners false = c.in_ok-vec-2.ensures.items_if_clones_equal (λ y e. e) in
    rw (c.in_ok-empty_queues.ensures (g.F.StateForm.values (ranges c.args.space.now.task)), seen, c.inf-2.ensures, flags)
    (start_kept g.S.Spread.owner c.args.space.now c.in_ok-first_owners.field-0.items c.args.owners c.in_ok-first_owners.ensures.len
    c.in_ok-first_owners.ensures.each (λ state. g.met.S.Spread.is_below c.args.space.now.spread state c.args.owners c.requires.owners) c.requires.owners)

pub returns-clause-started : goal.returns-clause-started
returns-clause-started g c =
    let seen : c.in_ok-vec.field-0.items ≡ replicate c.args.owners Infinite =
    c.in_ok-vec.ensures.items_if_clones_equal (λ y e. e) ∙ ap (λ d. replicate c.args.owners d) c.inf.ensures in
    let flags : c.in_ok-vec-2.field-0.items ≡ replicate c.args.owners false = c.in_ok-vec-2.ensures.items_if_clones_equal (λ y e. e) in
    rw (c.in_ok-empty_queues.ensures (g.F.StateForm.values (ranges c.args.space.now.task)), seen, c.inf-2.ensures, flags)
    (start_shown g.S.Spread.owner c.args.space.now c.in_ok-first_owners.field-0.items c.args.owners c.in_ok-first_owners.ensures.len
    c.in_ok-first_owners.ensures.each (λ state. g.met.S.Spread.is_below c.args.space.now.spread state c.args.owners c.requires.owners))
