use Rattle.std.proofs.Common.{[], ◌∷◌, map, sym, arith}
use Rattle.std.proofs.lemmas.List.{length-append}
use Rattle.abstraction_mapping.specs.Views.{mapping_of}
use Rattle.scp_orders.proofs.OrderLists.{no_choice, is_given, one_mapping_more}
use Rattle.scp_orders.proofs.orders.order_by.Goals as goal
use Rattle.scp_orders.proofs.orders.order_by.Goals.{in-Some+then-not-has_mapping+in_ok-copied+in_ok-push, in-Some+else-not-has_mapping, in_default}

pub loop-index-init : goal.loop-index-init
loop-index-init c = rw c.new-order.ensures.items (record { few = omega arith; choice = no_choice (map mapping_of c.args.mappings.now) })

pub loop-index-preserved : goal.loop-index-preserved
loop-index-preserved c = elim c.match-get.branch [
  | in-Some+then-not-has_mapping+in_ok-copied+in_ok-push w ↦
      let found = rw w.in-Some.is at c.get.ensures.lookup in
      let mappings = c.args.mappings.now in
      let mapping = w.in-Some.mapping.now in
      let none = rw w.deref.ensures.value at (w.has_mapping.ensures.none w.if-not-has_mapping.true) in
      rw (w.order-is, w.in_ok-push.ensures.items) (record {
        few = omega (arith, length-append c.loop-index.order.items (w.in_ok-copied.field-0 ∷ []), c.len.ensures, c.if-len-ge-MAX_TABLES.false);
        choice = one_mapping_more (map mapping_of mappings) c.loop-index.order.items mapping w.in_ok-copied.field-0 w.in_ok-copied.ensures (is_given mappings _ mapping found.3.0 (sym found.1)) none
            c.loop-index.invariant.choice;
      })
  | in-Some+else-not-has_mapping w ↦ rw w.order-is c.loop-index.invariant
  | in_default w ↦ rw w.order-is c.loop-index.invariant
]
