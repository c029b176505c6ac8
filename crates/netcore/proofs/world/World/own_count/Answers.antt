use Rattle.std.proofs.Common.{◌≡◌, ◌∙◌, length, arith, rules, tests}
use Rattle.std.specs.Prelude.{filter}
use Rattle.std.proofs.lemmas.Iterator.{YieldsList-from_range}
use Rattle.std.proofs.lemmas.Iterator.Consumers.{YieldsList-from_filter, count_from_yields_List}
use Rattle.netcore.specs.Worlds.{would_change}
use Rattle.netcore.specs.Possible.{own_step, below}
use Rattle.netcore.proofs.Choosing.{count_passing}
use Rattle.netcore.proofs.world.World.own_count.Goals as goal

pub returns : goal.returns
returns g c =
    let n = length c.args.self.now.owners in
    let counted : c.count.result ≡ length (filter (λ v. would_change g.S.Spread.owner c.args.self.now (own_step c.args.kind v)) (below n)) =
    count_from_yields_List c.filter.result _ c.count.ensures.ran
    (YieldsList-from_filter _ (λ v. would_change g.S.Spread.owner c.args.self.now (own_step c.args.kind v)) (YieldsList-from_range 0 c.owner_count.result n (cc) (omega (arith, c.owner_count.ensures)))
    c.filter.ensures.closure (λ x b q k. search (rules, tests))) in
    counted ∙ count_passing (would_change g.S.Spread.owner c.args.self.now) (own_step c.args.kind) (below n)
