-- Orders of chosen mappings are orders that columns can be made from.
use Rattle.std.proofs.Common.{◌≡◌, ◌≢◌, ℕ, zero, suc, ◌<◌, ◌≤◌, ◌^◌, min, List, [], ◌∷◌, length, map, get_or, take, drop, sym, refl, ap, subst, ◌∙◌, arith, length-append}
use Rattle.std.specs.Prelude.{All, Vec}
use Rattle.std.specs.Global.{Global}
use Rattle.std.proofs.lemmas.List.{length-map, length-drop, length-take}
use Rattle.std.proofs.lemmas.List.Elements.{All-nil, All-push, All-append, All-drop, All-take}
use Rattle.fdr.specs.Tasks.{FiniteDomainTask}
use Rattle.abstraction_mapping.specs.Mappings.{Mapping}
use Rattle.abstraction_mapping.specs.Views.{mapping_of}
use Rattle.abstraction_mapping.specs.declared.mapping.Mapping.{Mapping as KeptMapping}
use Rattle.pdb_patterns.specs.Choices.{IsMappingWithin, AreMappings}
use Rattle.scp.specs.Partitions.{mappings_of}
use Rattle.scp.specs.Orders.{order_from, orders_from}
use Rattle.scp.proofs.ChosenMappings.{from_map, within}

-- what holds of the orders from the first places on holds of all of them
each_order : (P : List Mapping → Type 0) (mappings : List Mapping) (places : ℕ) → ((first : ℕ) → first < places → P (order_from first mappings)) → All P (orders_from places mappings)
unfolding orders_from
each_order P mappings zero h = All-nil P
each_order P mappings (suc places) h =
    All-push P (orders_from places mappings) (order_from places mappings) (each_order P mappings places (λ first lt. h first (omega arith))) (h places (omega arith))

as_many_orders : (mappings : List Mapping) (places : ℕ) → length (orders_from places mappings) ≡ places
unfolding orders_from
as_many_orders mappings zero = refl
as_many_orders mappings (suc places) =
    let before = as_many_orders mappings places in let one = length-append (orders_from places mappings) (order_from places mappings ∷ []) in omega (arith, before, one)

order_length : (mappings : List Mapping) (first : ℕ) → length (order_from first mappings) ≡ length mappings
order_length mappings first =
    let both = length-append (drop first mappings) (take first mappings) in
    let behind = length-drop first mappings in let before = length-take first mappings in omega (arith, both, behind, before)

-- the orders are those of the chosen mappings
abbrev pub AreOrdersOf : List Mapping → List (Vec KeptMapping Global) → Type 0
AreOrdersOf mappings orders = map mappings_of orders ≡ orders_from (min 8 (length mappings)) mappings

pub orders_are : (kept given : List KeptMapping) (orders : List (Vec KeptMapping Global)) → given ≡ kept → map mappings_of orders ≡ orders_from (min 8 (length given)) (map mapping_of given)
    → AreOrdersOf (map mapping_of kept) orders
orders_are kept given orders same made =
    made ∙ ap (λ (ms : List KeptMapping). orders_from (min 8 (length ms)) (map mapping_of ms)) same
    ∙ ap (λ (n : ℕ). orders_from (min 8 n) (map mapping_of kept)) (sym (length-map kept mapping_of))

pub each_mapping_within : (task : FiniteDomainTask) (limit : ℕ) (mappings : List Mapping) (orders : List (Vec KeptMapping Global)) → limit ≤ 2 ^ 24 → AreMappings task limit mappings → AreOrdersOf mappings orders
    → All (λ order. All (λ m. IsMappingWithin task (2 ^ 24) (mapping_of m)) order.items) orders
each_mapping_within task limit mappings orders small are same =
    let P : List Mapping → Type 0 = All (IsMappingWithin task (2 ^ 24)) in
    let all : P mappings = λ k d l. within task limit (2 ^ 24) _ small (are.each k d l) in
    let each : All P (map mappings_of orders) = subst (All P) (sym same)
    (each_order P mappings (min 8 (length mappings)) (λ first lt. All-append (IsMappingWithin task (2 ^ 24)) (drop first mappings) (take first mappings)
    (All-drop (IsMappingWithin task (2 ^ 24)) first mappings all) (All-take (IsMappingWithin task (2 ^ 24)) first mappings all))) in
    λ k d l. from_map (IsMappingWithin task (2 ^ 24)) mapping_of _ (from_map P mappings_of orders each k d l)

pub few_mappings : (task : FiniteDomainTask) (limit : ℕ) (mappings : List Mapping) (orders : List (Vec KeptMapping Global)) → AreMappings task limit mappings → AreOrdersOf mappings orders
    → All (λ order. length order.items ≤ 64) orders
few_mappings task limit mappings orders are same =
    let P : List Mapping → Type 0 = λ order. length order ≤ 64 in
    let each : All P (map mappings_of orders) = subst (All P) (sym same)
    (each_order P mappings (min 8 (length mappings)) (λ first lt. omega (arith, order_length mappings first, are.few))) in
    λ k d l. let n = from_map P mappings_of orders each k d l in omega (arith, n, length-map (get_or orders k d).items mapping_of)

pub few_orders : (mappings : List Mapping) (orders : List (Vec KeptMapping Global)) → AreOrdersOf mappings orders → length orders ≤ 64
few_orders mappings orders same =
    let n = sym (length-map orders mappings_of) ∙ ap length same ∙ as_many_orders mappings (min 8 (length mappings)) in omega (arith, n)

has_some : (order : Vec KeptMapping Global) → 0 < length (mappings_of order) → order.items ≢ []
has_some order some none = let n = ap (λ (xs : List KeptMapping). length (map mapping_of xs)) none in absurd (omega (arith, n, some))

pub none_empty : (mappings : List Mapping) (orders : List (Vec KeptMapping Global)) → AreOrdersOf mappings orders → All (λ order. order.items ≢ []) orders
none_empty mappings orders same =
    let P : List Mapping → Type 0 = λ order. 0 < length order in
    let each : All P (map mappings_of orders) = subst (All P) (sym same)
    (each_order P mappings (min 8 (length mappings)) (λ first lt. omega (arith, order_length mappings first, lt))) in
    λ k d l. has_some (get_or orders k d) (from_map P mappings_of orders each k d l)
