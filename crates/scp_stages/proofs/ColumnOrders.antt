-- The mappings of columns of a task are orders of its mappings.
use Rattle.std.proofs.Common.{◌≡◌, ◌≢◌, ℕ, ◌+◌, ◌<◌, ◌≤◌, ◌^◌, zero, suc, Bool, true, false, ◌==◌, ◌&&◌, nat_le, min, List, [], ◌∷◌, ◌++◌, length, get_or, map, take, All, refl, sym, ap, subst, ◌∙◌, arith}
use Rattle.std.specs.Prelude.{Vec}
use Rattle.std.specs.Global.{Global}
use Rattle.std.specs.List.{AllByRecursion}
use Rattle.std.proofs.Math.Bool.{Bool-set}
use Rattle.std.proofs.Math.Logic.{∥∥₁_elim}
use Rattle.std.proofs.lemmas.Bool.Decides.{nat_tests}
use Rattle.std.proofs.lemmas.List.{length-map, map-append, map_more}
use Rattle.std.proofs.lemmas.List.Elements.{All-nil, All-cons, All-head, All-tail}
use native.Mathlib.Bridge.{le_prop}
use Rattle.fdr.specs.Tasks.{FiniteDomainTask}
use Rattle.abstraction_domain.specs.Rows.{Row, are_numbered}
use Rattle.abstraction_domain.specs.Domains.{variables}
use Rattle.abstraction_mapping.specs.Mappings.{Mapping, Pattern, Domains, abstraction_by, variables_of, is_mapping, is_of_task, is_increasing}
use Rattle.abstraction_mapping.specs.declared.mapping.Mapping.{Mapping as KeptMapping}
use Rattle.cert_value.specs.declared.certificate.Version.TheVariants.{Two}
use Rattle.cert_value.specs.Certificates.{Table}
use Rattle.cert_value.specs.Lawful.{IsTable, IsColumn, IsLawfulMapping, IsRow}
use Rattle.checker_clauses.specs.Clauses.{has_form, abstraction_of}
use Rattle.pdb_patterns.specs.Choices.{IsMappingWithin, HasNumberedClasses}
use Rattle.scp_columns.specs.ColumnTables.{ColumnTable, tables_of}
use Rattle.scp.specs.Partitions.{AreCostPartitioned, mappings_of}
use Rattle.scp_orders.specs.Orders.{IsOrder, AreOrders}
use Rattle.scp_stages.specs.StageOrders.{AreOrdersOf, mappings_in, orders_in}

-- ---- one proof at most

at_most_prop : (m n : ℕ) → IsProp (m ≤ n)
at_most_prop m n = hlevel le_prop

nothing_prop : IsProp ⊥
nothing_prop x y = absurd x

none_prop : (A : Type 0) → IsProp (A → ⊥)
none_prop A x y = λ i a. nothing_prop (x a) (y a) i

each_prop : {X : Type 0} (P : X → Type 0) → ((x : X) → IsProp (P x)) → (xs : List X) → IsProp (All P xs)
each_prop P each xs x y = λ i k d low. each _ (x k d low) (y k d low) i

numbered_prop : (m : Mapping) → IsProp (HasNumberedClasses m)
numbered_prop (Pattern pattern) x y = λ i. tt
numbered_prop (Domains rows) x y = each_prop (λ (r : Row). are_numbered r.classes ≡ true) (λ r. Bool-set _ _) rows x y

mapping_prop : (task : FiniteDomainTask) (limit : ℕ) (m : Mapping) → IsProp (IsMappingWithin task limit m)
mapping_prop task limit m x y = λ i. record {
  mapping = Bool-set _ _ x.mapping y.mapping i;
  within = at_most_prop _ _ x.within y.within i;
  some = none_prop _ x.some y.some i;
  numbered = numbered_prop m x.numbered y.numbered i;
}

order_prop : (task : FiniteDomainTask) (order : List Mapping) → IsProp (IsOrder task order)
order_prop task order x y = λ i. record {
  each = each_prop (IsMappingWithin task (2 ^ 24)) (mapping_prop task (2 ^ 24)) order x.each y.each i;
  some = none_prop _ x.some y.some i;
  few = at_most_prop _ _ x.few y.few i;
}

orders_prop : (task : FiniteDomainTask) (orders : List (List Mapping)) → IsProp (AreOrders task orders)
orders_prop task orders x y = λ i. record {
  each = each_prop (IsOrder task) (order_prop task) orders x.each y.each i;
  few = at_most_prop _ _ x.few y.few i;
}

-- ---- mappings

some_variables : (rows : List Row) → rows ≢ [] → variables rows ≢ []
some_variables [] some is = some refl
some_variables (r ∷ rows) some is = let never = ap length is in omega (arith, never)

all_numbered : (rows : List Row) → AllByRecursion IsRow rows → All (λ r. are_numbered r.classes ≡ true) rows
all_numbered [] all = All-nil (λ (r : Row). are_numbered r.classes ≡ true)
all_numbered (r ∷ rows) all = All-cons (λ (r : Row). are_numbered r.classes ≡ true) r rows all.0.numbered (all_numbered rows all.1)

some_in : (m : Mapping) → IsLawfulMapping Two m → variables_of m ≢ []
some_in (Pattern pattern) lawful = lawful.some
some_in (Domains rows) lawful = some_variables rows lawful.some

numbered_in : (m : Mapping) → IsLawfulMapping Two m → HasNumberedClasses m
numbered_in (Pattern pattern) lawful = tt
numbered_in (Domains rows) lawful = all_numbered rows lawful.each

both_true : (a b : Bool) → (a && b) ≡ true → (a ≡ true) × (b ≡ true)
both_true true true is = (refl, refl)
both_true true false is = let never : false ≡ true = is in cc
both_true false b is = let never : false ≡ true = is in cc

small_in : (task : FiniteDomainTask) (m : Mapping) → is_mapping task m ≡ true → (abstraction_by task m).size ≤ 2 ^ 24
small_in task m is =
    let small = (both_true (is_increasing (variables_of m) && is_of_task task m) (nat_le (abstraction_by task m).size (2 ^ 24)) is).1 in
    grind (arith, nat_tests, small)

module _ (task : FiniteDomainTask) where
  mapping_is : (t : Table) → has_form task t ≡ true → IsTable Two t → IsMappingWithin task (2 ^ 24) t.mapping
  mapping_is t form lawful =
      let is = (both_true (is_mapping task t.mapping) (length t.values == (abstraction_of task t).size) form).0 in record {
        mapping = is;
        within = small_in task t.mapping is;
        some = some_in t.mapping lawful.mapping;
        numbered = numbered_in t.mapping lawful.mapping;
      }

  mappings_are : (column : List Table) → All (λ t. has_form task t ≡ true) column → AllByRecursion (IsTable Two) column
      → All (IsMappingWithin task (2 ^ 24)) (mappings_in column)
  mappings_are [] formed lawful = All-nil (IsMappingWithin task (2 ^ 24))
  mappings_are (t ∷ ts) formed lawful =
      All-cons (IsMappingWithin task (2 ^ 24)) t.mapping (mappings_in ts)
      (mapping_is t (All-head (λ (t : Table). has_form task t ≡ true) t ts formed) lawful.0)
      (mappings_are ts (All-tail (λ (t : Table). has_form task t ≡ true) t ts formed) lawful.1)

  some_mappings : (column : List Table) → column ≢ [] → mappings_in column ≢ []
  some_mappings [] some is = some refl
  some_mappings (t ∷ ts) some is = let never = ap length is in omega (arith, never)

  order_is : (column : List Table) → All (λ t. has_form task t ≡ true) column → IsColumn Two column → IsOrder task (mappings_in column)
  order_is column formed lawful = record {
    each = mappings_are column formed lawful.tables;
    some = some_mappings column lawful.some;
    few = let same = length-map column (λ (t : Table). t.mapping) in omega (arith, same, lawful.few);
  }

  abbrev HasForms : List Table → Type 0
  HasForms column = All (λ (t : Table). has_form task t ≡ true) column

  orders_are : (count : ℕ) (columns : List (List Table)) → All HasForms columns → AllByRecursion (IsColumn Two) columns
      → All (IsOrder task) (take count (map mappings_in columns))
  orders_are zero columns formed lawful = All-nil (IsOrder task)
  orders_are (suc count) [] formed lawful = All-nil (IsOrder task)
  orders_are (suc count) (c ∷ cs) formed lawful =
      All-cons (IsOrder task) (mappings_in c) (take count (map mappings_in cs))
      (order_is c (All-head HasForms c cs formed) lawful.0)
      (orders_are count cs (All-tail HasForms c cs formed) lawful.1)

  few_taken : {X : Type 0} (count : ℕ) (xs : List X) → length (take count xs) ≤ count
  few_taken zero xs = omega arith
  few_taken (suc count) [] = omega arith
  few_taken (suc count) (x ∷ xs) = let few = few_taken count xs in omega (arith, few)

  -- the orders of cost-partitioned columns
  orders_of_columns : (columns : List (List Table)) → ∥ AreCostPartitioned task columns ∥₁ → AreOrders task (orders_in columns)
  orders_of_columns columns known = ∥∥₁_elim known (orders_prop task (orders_in columns)) (λ is. record {
    each = orders_are 8 columns is.formed is.lawful.each;
    few = few_taken 8 (map mappings_in columns);
  })

  -- the mappings of as many of the columns as there are, at most `n`
  abbrev mappings_of_column : Vec ColumnTable Global → List Mapping
  mappings_of_column column = mappings_in (tables_of column)

  taken : (m n : ℕ) (tables : List (Vec ColumnTable Global)) → m ≡ min (length tables) n
      → map mappings_of_column (take m tables) ≡ take n (map mappings_in (map tables_of tables))
  taken zero zero tables is = refl
  taken zero (suc n) [] is = refl
  taken zero (suc n) (column ∷ tables) is = absurd (let never : ⊥ = omega (arith, is) in never)
  taken (suc m) n [] is = absurd (let never : ⊥ = omega (arith, is) in never)
  taken (suc m) zero (column ∷ tables) is = absurd (let never : ⊥ = omega (arith, is) in never)
  taken (suc m) (suc n) (column ∷ tables) is =
      ap (λ (orders : List (List Mapping)). mappings_of_column column ∷ orders) (taken m n tables (omega (arith, is)))

  -- copies of the mappings of the first 8 columns
  pub copied_orders : (m : ℕ) (tables : List (Vec ColumnTable Global)) (columns : List (List Table)) (orders : List (List Mapping))
      → ∥ AreCostPartitioned task columns ∥₁ → map tables_of tables ≡ columns → m ≡ min (length tables) 8
      → orders ≡ map mappings_of_column (take m tables) → AreOrdersOf task columns orders
  copied_orders m tables columns orders known in_memory count is =
      let same = is ∙ taken m 8 tables count ∙ ap orders_in in_memory in
      record { same = same; are = subst (AreOrders task) (sym same) (orders_of_columns columns known) }

  -- one more of them
  pub one_more_order : (orders : List (Vec KeptMapping Global)) (order : Vec KeptMapping Global) (tables : List (Vec ColumnTable Global)) (n : ℕ) (column : Vec ColumnTable Global)
      → n < length tables → column ≡ get_or tables n column → map mappings_of orders ≡ map mappings_of_column (take n tables) → mappings_of order ≡ mappings_of_column column
      → map mappings_of (orders ++ order ∷ []) ≡ map mappings_of_column (take (n + 1) tables)
  one_more_order orders order tables n column low there before here =
      map-append mappings_of orders (order ∷ [])
      ∙ (λ i. before i ++ here i ∷ [])
      ∙ ap (λ (c : Vec ColumnTable Global). map mappings_of_column (take n tables) ++ mappings_of_column c ∷ []) there
      ∙ sym (map_more mappings_of_column tables n column low)

  -- where no stage came before
  pub no_orders : AreOrders task []
  no_orders = record { each = All-nil (IsOrder task); few = omega arith }
