use Rattle.std.proofs.Common.{◌≡◌, ◌++◌, ◌-◌, length, map}
use Rattle.std.specs.Prelude.{slice_index}
use Rattle.checker_tables.specs.Changes.{is_tried}
use Rattle.checker_tables.specs.TableFaults.{touching_from, spender_of}
use Rattle.checker_tables.proofs.transitions.spenders.Given as goal

abbrev pub invariant-loop-operator : goal.invariant-loop-operator
invariant-loop-operator g l =
    l.made.items ++ map (spender_of (slice_index l.shares.sums)) (touching_from (is_tried l.changes (g.A.Abstraction.abstraction l.abstraction).touches) l.operator (length l.changes - l.operator))
    ≡ map (spender_of (slice_index l.shares.sums)) (touching_from (is_tried l.changes (g.A.Abstraction.abstraction l.abstraction).touches) 0 (length l.changes))
