use Rattle.std.proofs.Common.{ℕ, List, [], ◌∷◌, length, length-append, sym, ap, subst, arith}
use Rattle.owner_theory.specs.Owners.{At}
use Rattle.owner.specs.Owned.{OwnerOf}
use Rattle.netcore.specs.Starts.{IsFirstOwner}
use Rattle.netcore.proofs.Starting.{first_more}
use Rattle.netcore.proofs.world.first_owners.Goals as goal

pub loop-worker-preserved : goal.loop-worker-preserved
loop-worker-preserved g c =
    let os = c.loop-worker.owners.items in
    let o = c.in_ok-start.field-0 in
    let long = length-append os (o ∷ []) in
    let was = c.loop-worker.invariant.0 in
    let is = ap length c.in_ok-push.ensures.items in
    let one = subst (λ (k : ℕ). IsFirstOwner g.S.Spread.owner c.args.space.now c.args.count k o) (sym was)
    (record { started = c.in_ok-start.ensures.started; space = c.in_ok-start.ensures.space; worker = c.in_ok-start.ensures.worker; expansions = c.in_ok-start.ensures.expansions }) in (
      omega (arith, long, was, is),
      λ v p at. first_more g.S.Spread.owner c.args.space.now c.args.count os o c.loop-worker.invariant.1 one v p (subst (λ (xs : List (OwnerOf g.row.S.Denot)). At xs v p) c.in_ok-push.ensures.items at),
    )
