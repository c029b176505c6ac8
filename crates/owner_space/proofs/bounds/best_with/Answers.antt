use Rattle.std.proofs.Common.{sym, ap, ◌∙◌, cond}
use Rattle.cost.specs.Distances.{Finite, lesser}
use Rattle.cost.proofs.DistanceLaws.{ord_min-is_lesser}
use Rattle.owner_space.proofs.bounds.best_with.Goals as goal

pub returns-then-is_goal : goal.returns-then-is_goal
returns-then-is_goal c =
    c.min.ensures ∙ (ord_min-is_lesser c.args.best c.finite.result ∙ (ap (lesser c.args.best) c.finite.ensures
    ∙ ap (λ b. cond b (lesser c.args.best (Finite c.args.cost)) c.args.best) (sym c.if-is_goal.true)))
