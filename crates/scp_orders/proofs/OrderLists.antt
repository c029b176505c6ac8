-- Orders of mappings, mapping by mapping, and lists of orders.
use Rattle.std.proofs.Common.{◌≡◌, ◌≢◌, ◌<◌, ◌≤◌, ◌^◌, List, [], ◌∷◌, ◌++◌, length, map, get_or, sym, subst, refl, ap, ◌∙◌, arith}
use Rattle.std.specs.Prelude.{All, AllPairs, Contains, Vec}
use Rattle.std.specs.Global.{Global}
use Rattle.std.proofs.lemmas.List.{map-append, length-map, get_or-map}
use Rattle.std.proofs.lemmas.List.Elements.{All-nil, All-push, All-map}
use Rattle.std.proofs.lemmas.List.Quantifiers.{all_pairs_push}
use Rattle.fdr.specs.Tasks.{FiniteDomainTask}
use Rattle.abstraction_mapping.specs.Mappings.{Mapping}
use Rattle.abstraction_mapping.specs.Views.{mapping_of}
use Rattle.abstraction_mapping.specs.declared.mapping.Mapping.{Mapping as KeptMapping}
use Rattle.pdb_patterns.specs.Choices.{IsMappingWithin}
use Rattle.scp_orders.specs.Orders.{IsOrder, AreOrders, IsChoice, mappings_of}

-- what holds of all given mappings holds of the mappings of a choice
pub choice_within : (pool order : List Mapping) (P : Mapping → Type 0) → All P pool → IsChoice pool order → All P order
choice_within pool order P all choice k d l =
    let found = choice.given k d l in
    subst P found.2 (all found.0 _ found.1)

-- a mapping in memory is one of the mappings
pub is_given : (mappings : List KeptMapping) (k : _) (m : KeptMapping) → k < length mappings → get_or mappings k m ≡ m → Contains (map mapping_of mappings) (mapping_of m)
is_given mappings k m l is = (k, omega (arith, l, length-map mappings mapping_of), get_or-map mapping_of mappings k m (mapping_of m) l ∙ ap mapping_of is)

-- ---- the mappings of an order

pub no_choice : (pool : List Mapping) → IsChoice pool []
no_choice pool = record { given = All-nil (Contains pool); distinct = λ i j d h l. absurd (omega arith) }

choice_more : (pool order : List Mapping) (m : Mapping) → Contains pool m → All (λ n. n ≢ m) order → IsChoice pool order → IsChoice pool (order ++ m ∷ [])
choice_more pool order m given none choice =
    record {
      given = All-push (Contains pool) order m choice.given given;
      distinct = all_pairs_push (λ n o. n ≢ o) order m choice.distinct none;
    }

-- an order with a copy of one more mapping
pub one_mapping_more : (pool : List Mapping) (order : List KeptMapping) (m copy : KeptMapping) → mapping_of copy ≡ mapping_of m → Contains pool (mapping_of m)
    → All (λ n. mapping_of n ≢ mapping_of m) order → IsChoice pool (map mapping_of order) → IsChoice pool (map mapping_of (order ++ copy ∷ []))
one_mapping_more pool order m copy same given none choice =
    rw (map-append mapping_of order (copy ∷ []), same)
    (choice_more pool (map mapping_of order) (mapping_of m) given (All-map (λ n. n ≢ mapping_of m) mapping_of order none) choice)

-- the order of one of the mappings
pub choice_of_one : (pool : List Mapping) (m : Mapping) → Contains pool m → IsChoice pool (m ∷ [])
choice_of_one pool m given = choice_more pool [] m given (All-nil (λ n. n ≢ m)) (no_choice pool)

-- ---- lists of orders

-- a list that is not empty has an image that is not empty
some_image : (ms : List KeptMapping) → ms ≢ [] → map mapping_of ms ≢ []
some_image [] some e = some refl
some_image (m ∷ ms) some e = cc

-- orders in memory that are choices from the mappings, each of 1 to 64
pub record AreChoices (pool : List Mapping) (orders : List (Vec KeptMapping Global)) : Type 0 where
  pub choices : All (IsChoice pool) (map mappings_of orders)
  pub some : All (λ order. order ≢ []) (map mappings_of orders)
  pub few : All (λ order. length order ≤ 64) (map mappings_of orders)

pub no_choices : (pool : List Mapping) → AreChoices pool []
no_choices pool = record { choices = All-nil (IsChoice pool); some = All-nil (λ order. order ≢ []); few = All-nil (λ order. length order ≤ 64) }

-- one more order
pub one_order_more : (pool : List Mapping) (orders : List (Vec KeptMapping Global)) (order : Vec KeptMapping Global)
    → IsChoice pool (mappings_of order) → length order.items ≤ 64 → order.items ≢ [] → AreChoices pool orders → AreChoices pool (orders ++ order ∷ [])
one_order_more pool orders order choice few some are =
    record {
      choices = rw (map-append mappings_of orders (order ∷ [])) (All-push (IsChoice pool) (map mappings_of orders) (mappings_of order) are.choices choice);
      some = rw (map-append mappings_of orders (order ∷ [])) (All-push (λ o. o ≢ []) (map mappings_of orders) (mappings_of order) are.some (some_image order.items some));
      few = rw (map-append mappings_of orders (order ∷ [])) (All-push (λ o. length o ≤ 64) (map mappings_of orders) (mappings_of order) are.few (omega (arith, few, length-map order.items mapping_of)));
    }

-- the order of one of the mappings, if there was none before
pub only_order : (pool : List Mapping) (order : Vec KeptMapping Global) (m : Mapping) → mappings_of order ≡ m ∷ [] → Contains pool m
    → (orders : List (Vec KeptMapping Global)) → length orders ≡ 0 → AreChoices pool (orders ++ order ∷ [])
only_order pool order m same given [] none =
    let one : length order.items ≡ 1 = omega (arith, ap length same, length-map order.items mapping_of) in
    one_order_more pool [] order (subst (IsChoice pool) (sym same) (choice_of_one pool m given)) (omega (arith, one)) (λ e. absurd (omega (arith, one, ap length e))) (no_choices pool)
only_order pool order m same given (o ∷ orders) none = absurd (omega arith)

pub are_orders : (pool : List KeptMapping) (orders : List (Vec KeptMapping Global)) → AreChoices (map mapping_of pool) orders → length orders ≤ 8
    → (task : FiniteDomainTask) → All (λ m. IsMappingWithin task (2 ^ 24) (mapping_of m)) pool → AreOrders task (map mappings_of orders)
are_orders pool orders are few task all =
    record {
      each = λ k d l. record {
        each = choice_within (map mapping_of pool) _ (IsMappingWithin task (2 ^ 24)) (All-map (IsMappingWithin task (2 ^ 24)) mapping_of pool all) (are.choices k d l);
        some = are.some k d l;
        few = are.few k d l;
      };
      few = rw length-map few;
    }
