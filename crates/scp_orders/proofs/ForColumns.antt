-- Chosen orders are what `make_columns` of the crate `scp` requires.
use Rattle.std.proofs.Common.{◌≡◌, ◌≢◌, ℕ, ◌≤◌, ◌^◌, List, [], ◌∷◌, length, map, refl, arith}
use Rattle.std.specs.Prelude.{All, Vec}
use Rattle.std.specs.Global.{Global}
use Rattle.std.proofs.lemmas.List.{length-map}
use Rattle.std.proofs.lemmas.List.Elements.{All-nil, All-cons, All-head, All-tail}
use Rattle.fdr.specs.Tasks.{FiniteDomainTask}
use Rattle.abstraction_mapping.specs.Views.{mapping_of}
use Rattle.abstraction_mapping.specs.declared.mapping.Mapping.{Mapping as KeptMapping}
use Rattle.pdb_patterns.specs.Choices.{IsMappingWithin}
use Rattle.scp_orders.specs.Orders.{IsOrder, AreOrders, mappings_of}

from_map : {X Y : Type 0} (P : Y → Type 0) (f : X → Y) (xs : List X) → All P (map f xs) → All (λ x. P (f x)) xs
from_map P f [] all = All-nil (λ x. P (f x))
from_map P f (x ∷ xs) all = All-cons (λ x. P (f x)) x xs (All-head P (f x) (map f xs) all) (from_map P f xs (All-tail P (f x) (map f xs) all))

each : (task : FiniteDomainTask) (orders : List (Vec KeptMapping Global)) → AreOrders task (map mappings_of orders) → All (λ order. IsOrder task (mappings_of order)) orders
each task orders are = from_map (IsOrder task) mappings_of orders are.each

pub each_mapping_within : (task : FiniteDomainTask) (orders : List (Vec KeptMapping Global)) → AreOrders task (map mappings_of orders)
    → All (λ order. All (λ m. IsMappingWithin task (2 ^ 24) (mapping_of m)) order.items) orders
each_mapping_within task orders are k d l = from_map (IsMappingWithin task (2 ^ 24)) mapping_of _ (each task orders are k d l).each

pub few_mappings : (task : FiniteDomainTask) (orders : List (Vec KeptMapping Global)) → AreOrders task (map mappings_of orders) → All (λ order. length order.items ≤ 64) orders
few_mappings task orders are k d l = rw length-map at (each task orders are k d l).few

pub few_orders : (task : FiniteDomainTask) (orders : List (Vec KeptMapping Global)) → AreOrders task (map mappings_of orders) → length orders ≤ 64
few_orders task orders are = let few : length orders ≤ 8 = rw length-map at are.few in omega arith

no_image : (ms : List KeptMapping) → map mapping_of ms ≢ [] → ms ≢ []
no_image [] some e = some refl
no_image (m ∷ ms) some e = cc

pub none_empty : (task : FiniteDomainTask) (orders : List (Vec KeptMapping Global)) → AreOrders task (map mappings_of orders) → All (λ order. order.items ≢ []) orders
none_empty task orders are k d l = no_image _ (each task orders are k d l).some
