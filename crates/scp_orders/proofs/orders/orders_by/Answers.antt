use Rattle.std.proofs.Common.{◌≢◌, [], ◌∷◌, map, arith, rules}
use Rattle.std.proofs.lemmas.List.{length-append}
use Rattle.abstraction_mapping.specs.Views.{mapping_of}
use Rattle.scp_orders.proofs.OrderLists.{no_choices, one_order_more, are_orders}
use Rattle.scp_orders.proofs.orders.orders_by.Goals as goal
use Rattle.scp_orders.proofs.orders.orders_by.Goals.{then-not-is_empty+in_ok-push, else-not-is_empty}

pub loop-indices-init : goal.loop-indices-init
loop-indices-init c = rw c.new-orders.ensures.items (record { few = omega arith; are = no_choices (map mapping_of c.args.mappings.now) })

pub loop-indices-preserved : goal.loop-indices-preserved
loop-indices-preserved c = elim c.if-not-is_empty.branch [
  | then-not-is_empty+in_ok-push w ↦
      let some : c.in_ok-order.order.items ≢ [] = search rules in
      rw (w.orders-is, w.in_ok-push.ensures.items) (record {
        few = omega (arith, length-append c.loop-indices.orders.items (c.in_ok-order.order ∷ []), c.len.ensures, c.if-len-ge-MAX_COLUMNS.false);
        are = one_order_more (map mapping_of c.args.mappings.now) c.loop-indices.orders.items c.in_ok-order.order c.in_ok-order.ensures.choice c.in_ok-order.ensures.few some c.loop-indices.invariant.are;
      })
  | else-not-is_empty w ↦ rw w.orders-is c.loop-indices.invariant
]

pub returns : goal.returns
returns c = record {
  orders = are_orders c.args.mappings.now c.loop-indices.orders.items c.loop-indices.invariant.are c.loop-indices.invariant.few;
  choices = c.loop-indices.invariant.are.choices;
}
