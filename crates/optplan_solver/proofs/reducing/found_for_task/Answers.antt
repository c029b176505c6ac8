use Rattle.std.proofs.Common.{ℕ, sym, subst}
use Rattle.std.specs.Option.{option_map}
use Rattle.packed_spread.specs.Spreads.{zobrist_owner}
use Rattle.optplan_search.specs.SearchEnds.{least_best_of}
use Rattle.optplan_search.specs.Findings.{plain, IsFoundFor, IsShortEnd}
use Rattle.optplan_solver.proofs.reducing.found_for_task.Goals as goal

pub returns-in_ok-known-in-Limit : goal.returns-in_ok-known-in-Limit
returns-in_ok-known-in-Limit c = λ wanted es found.
    let told = c.in_ok-known-in-Limit.ensures in
    let stopped = subst (IsFoundFor c.args.reduction.now.task zobrist_owner es (option_map plain wanted)) c.in-Limit.is found in
    (told.known wanted (least_best_of es) stopped.0, subst (λ (n : ℕ). IsShortEnd zobrist_owner es n) (sym told.bound) stopped.1)
