use Rattle.std.proofs.Common.{◌≡◌, [], ◌∷◌, ◌++◌, length, map, sym, arith, rules}
use Rattle.std.proofs.lemmas.List.{length-append}
use Rattle.abstraction_mapping.specs.Views.{mapping_of}
use Rattle.scp_orders.proofs.OrderLists.{AreChoices, is_given, only_order, are_orders}
use Rattle.scp_orders.proofs.orders.orders_or_first.Goals as goal
use Rattle.scp_orders.proofs.orders.orders_or_first.Goals.{then-is_empty+in-Some+in_ok-order_of+in_ok-push, then-is_empty+in_default, else-is_empty}

pub returns-clause-orders : goal.returns-clause-orders
returns-clause-orders c task all = elim c.if-is_empty.branch [
  | then-is_empty+in-Some+in_ok-order_of+in_ok-push w ↦
      let found = rw w.in-Some.is at w.first.ensures.item in
      let mappings = c.args.mappings.now in
      let first = w.in-Some.first.now in
      let orders = c.in_ok-orders.orders.items in
      let order = w.in_ok-order_of.field-0 in
      let none : length orders ≡ 0 = search rules in
      let are : AreChoices (map mapping_of mappings) (orders ++ order ∷ []) =
      only_order (map mapping_of mappings) order (mapping_of first) w.in_ok-order_of.ensures (is_given mappings 0 first found.3.0 (sym found.1)) orders none in
      rw (w.orders-is, w.in_ok-push.ensures.items) (are_orders mappings (orders ++ order ∷ []) are (omega (arith, none, length-append orders (order ∷ []))) task all)
  | then-is_empty+in_default w ↦ rw w.orders-is (c.in_ok-orders.ensures.orders task all)
  | else-is_empty w ↦ rw w.orders-is (c.in_ok-orders.ensures.orders task all)
]

pub returns-clause-choices : goal.returns-clause-choices
returns-clause-choices c = elim c.if-is_empty.branch [
  | then-is_empty+in-Some+in_ok-order_of+in_ok-push w ↦
      let found = rw w.in-Some.is at w.first.ensures.item in
      let mappings = c.args.mappings.now in
      let first = w.in-Some.first.now in
      let orders = c.in_ok-orders.orders.items in
      let order = w.in_ok-order_of.field-0 in
      let none : length orders ≡ 0 = search rules in
      let are : AreChoices (map mapping_of mappings) (orders ++ order ∷ []) =
      only_order (map mapping_of mappings) order (mapping_of first) w.in_ok-order_of.ensures (is_given mappings 0 first found.3.0 (sym found.1)) orders none in
      rw (w.orders-is, w.in_ok-push.ensures.items) are.choices
  | then-is_empty+in_default w ↦ rw w.orders-is c.in_ok-orders.ensures.choices
  | else-is_empty w ↦ rw w.orders-is c.in_ok-orders.ensures.choices
]
