use Rattle.std.proofs.Common.{◌≡◌, ℕ, List, subst}
use Rattle.std.specs.Prelude.{IfOk, string_bytes}
use Rattle.optplan_solve.proofs.Printed.{in_parts}
use Rattle.optplan_solve.proofs.outputs.limit_text.Goals as goal

pub returns : goal.returns
returns g c =
    rw (← c.best_text-best.ensures)
    (subst (λ (text : List ℕ). IfOk c.format.result (λ s. string_bytes s ≡ text)) (in_parts c.args.known.now.bound c.best_text-best.result.now) c.format.ensures.ok)
