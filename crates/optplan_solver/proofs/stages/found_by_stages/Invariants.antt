use Rattle.std.proofs.Common.{map}
use Rattle.std.specs.Option.{option_map}
use Rattle.scp.specs.Partitions.{mappings_of}
use Rattle.scp_orders.specs.Orders.{AreOrders}
use Rattle.optplan_search.specs.Findings.{plain}
use Rattle.optplan_solver.proofs.KnownByStages.{HaveEnded}
use Rattle.optplan_solver.proofs.stages.found_by_stages.Given as goal

abbrev pub invariant-loop-stage : goal.invariant-loop-stage
invariant-loop-stage g l =
    HaveEnded l.fn.options (g.G.Gate.may_stop l.fn.gate) l.fn.task (option_map plain l.fn.wanted) l.stage l.known
    × AreOrders l.fn.task (map mappings_of l.orders.items)
