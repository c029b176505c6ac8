-- The mappings of pools and of orders, as the calls that take them ask.
use Rattle.std.proofs.Common.{◌≡◌, ℕ, ◌<◌, ◌^◌, List, [], ◌∷◌, length, get_or, map, subst, sym}
use Rattle.std.specs.Prelude.{All, Vec}
use Rattle.std.specs.Global.{Global}
use Rattle.std.proofs.lemmas.List.Elements.{All-nil, All-cons, All-head, All-tail}
use Rattle.fdr.specs.Tasks.{FiniteDomainTask}
use Rattle.abstraction_mapping.specs.Mappings.{Mapping}
use Rattle.abstraction_mapping.specs.Views.{mapping_of}
use Rattle.abstraction_mapping.specs.declared.mapping.Mapping.{Mapping as KeptMapping}
use Rattle.pdb_patterns.specs.Choices.{IsMappingWithin}
use Rattle.scp_orders.specs.Orders.{AreOrders, mappings_of}
use Rattle.scp_orders.proofs.ForColumns.{each_mapping_within}

from_image : {X Y : Type 0} (P : Y → Type 0) (f : X → Y) (xs : List X) → All P (map f xs) → All (λ x. P (f x)) xs
from_image P f [] all = All-nil (λ x. P (f x))
from_image P f (x ∷ xs) all = All-cons (λ x. P (f x)) x xs (All-head P (f x) (map f xs) all) (from_image P f xs (All-tail P (f x) (map f xs) all))

pub pool_within : (task of_pool : FiniteDomainTask) (given : List KeptMapping) (mappings : List Mapping) → of_pool ≡ task
    → map mapping_of given ≡ mappings → All (IsMappingWithin of_pool (2 ^ 24)) mappings
    → All (λ m. IsMappingWithin task (2 ^ 24) (mapping_of m)) given
pool_within task of_pool given mappings same are each =
    from_image (IsMappingWithin task (2 ^ 24)) mapping_of given
    (subst (λ t. All (IsMappingWithin t (2 ^ 24)) (map mapping_of given)) same
    (subst (All (IsMappingWithin of_pool (2 ^ 24))) (sym are) each))

pub orders_at : (task : FiniteDomainTask) (orders given : List (Vec KeptMapping Global)) → given ≡ orders
    → AreOrders task (map mappings_of orders) → AreOrders task (map mappings_of given)
orders_at task orders given same are = subst (λ os. AreOrders task (map mappings_of os)) (sym same) are

pub order_within : (task of_pool : FiniteDomainTask) (orders : List (Vec KeptMapping Global)) (i : ℕ) (order : Vec KeptMapping Global) (given : List KeptMapping)
    → of_pool ≡ task → i < length orders → order ≡ get_or orders i order → given ≡ order.items → AreOrders task (map mappings_of orders)
    → All (λ m. IsMappingWithin of_pool (2 ^ 24) (mapping_of m)) given
order_within task of_pool orders i order given same low is value are =
    let P : List KeptMapping → Type 0 = λ ms. All (λ m. IsMappingWithin task (2 ^ 24) (mapping_of m)) ms in
    let at : P (get_or orders i order).items = each_mapping_within task orders are i order low in
    let here : P order.items = subst (λ (o : Vec KeptMapping Global). P o.items) (sym is) at in
    subst (λ t. All (λ m. IsMappingWithin t (2 ^ 24) (mapping_of m)) given) (sym same) (subst P (sym value) here)
