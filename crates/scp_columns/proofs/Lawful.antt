-- A mapping of a task and its values make a table that has a text.
use Rattle.std.proofs.Common.{◌≡◌, ℕ, zero, suc, ◌+◌, ◌<◌, ◌≤◌, ◌^◌, true, false, max, List, [], ◌∷◌, length, map, ap, arith, ltb, leb, ltb-true, leb-true, ltb-false}
use Rattle.std.specs.Prelude.{All, slice_index}
use Rattle.std.specs.List.{AllByRecursion}
use Rattle.std.proofs.lemmas.Bool.{and_parts, or_parts}
use Rattle.std.proofs.lemmas.List.{length-map}
use Rattle.std.proofs.lemmas.List.Elements.{All-head, All-tail}
use Rattle.cost.specs.Distances.{Distance, IsWithin}
use Rattle.fdr.specs.Tasks.{FiniteDomainTask, ranges, IsTask, IsWithinLimits, has_long_range}
use Rattle.abstraction_domain.specs.Rows.{Row, are_numbered, numbered_from}
use Rattle.abstraction_domain.specs.Domains.{variables, IsFit}
use Rattle.abstraction_mapping.specs.Mappings.{Mapping, Pattern, Domains, abstraction_by, is_increasing}
use Rattle.cert_value.specs.declared.certificate.Version.TheVariants.{Two}
use Rattle.cert_value.specs.declared.table.Share.{Share}
use Rattle.cert_value.specs.Lawful.{IsShort, IsIncreasing, IsRow, IsLawfulMapping, AreShares, IsTable}
use Rattle.pdb_patterns.specs.Choices.{IsMappingWithin}
use Rattle.abstraction_mapping.specs.TestedMappings.{rises, of_task, exist, fit}

pub by_recursion : {X : Type 0} (P : X → Type 0) (xs : List X) → All P xs → AllByRecursion P xs
by_recursion P [] all = tt
by_recursion P (x ∷ xs) all = (All-head P x xs all, by_recursion P xs (All-tail P x xs all))

-- ---- variables

increasing_by_test : (xs : List ℕ) → is_increasing xs ≡ true → IsIncreasing xs
increasing_by_test [] h = tt
increasing_by_test (x ∷ []) h = tt
increasing_by_test (x ∷ y ∷ ys) h = let parts = and_parts (ltb x y) (is_increasing (y ∷ ys)) h in (ltb-true x y parts.0, increasing_by_test (y ∷ ys) parts.1)

-- numbers that increase from one on, all below another, are no more than lie between
few_between : (xs : List ℕ) (x n : ℕ) → IsIncreasing (x ∷ xs) → AllByRecursion (λ v. v < n) (x ∷ xs) → length (x ∷ xs) + x ≤ n
few_between [] x n h all = omega (arith, all.0)
few_between (y ∷ ys) x n h all = omega (arith, h.0, few_between ys y n h.1 all.1)

few_below : (xs : List ℕ) (n : ℕ) → IsIncreasing xs → AllByRecursion (λ v. v < n) xs → length xs ≤ n
few_below [] n h all = omega arith
few_below (x ∷ xs) n h all = omega (arith, few_between xs x n h all)

short_each : (n : ℕ) (xs : List ℕ) → n ≤ 2 ^ 32 → AllByRecursion (λ v. v < n) xs → AllByRecursion IsShort xs
short_each n [] l all = tt
short_each n (x ∷ xs) l all = (omega (arith, all.0), short_each n xs l all.1)

-- ---- classes

-- a class is not greater than its place allows
classes_below : (n : ℕ) (classes : List ℕ) → numbered_from n classes ≡ true → AllByRecursion (λ c. c < n + length classes) classes
classes_below n [] h = tt
classes_below n (c ∷ cs) h =
    let parts = and_parts (leb c n) (numbered_from (max n (c + 1)) cs) h in
    let low : c ≤ n = leb-true c n parts.0 in
    (omega (arith, low), raised (max n (c + 1) + length cs) (n + length (c ∷ cs)) cs (omega (arith, low)) (classes_below (max n (c + 1)) cs parts.1))
  where
    raised : (m k : ℕ) (xs : List ℕ) → m ≤ k → AllByRecursion (λ x. x < m) xs → AllByRecursion (λ x. x < k) xs
    raised m k [] l all = tt
    raised m k (x ∷ xs) l all = (omega (arith, all.0), raised m k xs l all.1)

range_small : (names : List (List (List ℕ))) (v : ℕ) → has_long_range names ≡ false → slice_index (map length names) v ≤ 65536
range_small [] v few = omega arith
range_small (n ∷ names) zero few = ltb-false 65536 (length n) (or_parts _ _ few).0
range_small (n ∷ names) (suc v) few = range_small names v (or_parts _ _ few).1

module _ (task : FiniteDomainTask) (well : IsTask task) (limits : IsWithinLimits task) where
  few_variables : length (ranges task) ≤ 2 ^ 16
  few_variables = omega (arith, limits.variables, length-map task.value_names (λ names. length names))

  row_lawful : (r : Row) → IsFit (ranges task) r → are_numbered r.classes ≡ true → IsRow r
  row_lawful r is numbered =
      let some : 0 < length r.classes = omega (arith, well.initial.in_range r.variable is.exists, is.as_long) in
      let few : length r.classes ≤ 65536 = omega (arith, is.as_long, range_small task.value_names r.variable limits.values) in
      record {
        variable = omega (arith, is.exists, few_variables);
        some = λ e. absurd (omega (arith, some, ap length e));
        few = omega (arith, few);
        classes = short_each (0 + length r.classes) r.classes (omega (arith, few)) (classes_below 0 r.classes numbered);
        numbered = numbered;
      }

  rows_lawful : (rows : List Row) → All (IsFit (ranges task)) rows → All (λ r. are_numbered r.classes ≡ true) rows → AllByRecursion IsRow rows
  rows_lawful [] fit numbered = tt
  rows_lawful (r ∷ rs) fit numbered = (
    row_lawful r (All-head (IsFit (ranges task)) r rs fit) (All-head (λ (r : Row). are_numbered r.classes ≡ true) r rs numbered),
    rows_lawful rs (All-tail (IsFit (ranges task)) r rs fit) (All-tail (λ (r : Row). are_numbered r.classes ≡ true) r rs numbered),
  )

  rows_exist : (rows : List Row) → All (IsFit (ranges task)) rows → AllByRecursion (λ v. v < length (ranges task)) (variables rows)
  rows_exist [] fit = tt
  rows_exist (r ∷ rs) fit = ((All-head (IsFit (ranges task)) r rs fit).exists, rows_exist rs (All-tail (IsFit (ranges task)) r rs fit))

  mapping_lawful : (m : Mapping) → IsMappingWithin task (2 ^ 24) m → IsLawfulMapping Two m
  mapping_lawful (Pattern pattern) is =
      let chain = increasing_by_test pattern (rises task (Pattern pattern) is.mapping) in
      let below = by_recursion (λ v. v < length (ranges task)) pattern (exist task pattern (of_task task (Pattern pattern) is.mapping)) in
      record {
        some = is.some;
        few = omega (arith, few_below pattern (length (ranges task)) chain below, few_variables);
        variables = short_each (length (ranges task)) pattern (omega (arith, few_variables)) below;
        increasing = chain;
      }
  mapping_lawful (Domains rows) is =
      let chain = increasing_by_test (variables rows) (rises task (Domains rows) is.mapping) in
      let fits = fit (ranges task) rows (of_task task (Domains rows) is.mapping) in
      record {
        some = λ e. is.some (ap variables e);
        few = omega (arith, few_below (variables rows) (length (ranges task)) chain (rows_exist rows fits), few_variables, length-map rows (λ (r : Row). r.variable));
        each = rows_lawful rows fits is.numbered;
        increasing = chain;
      }

  pub lawful : (m : Mapping) → IsMappingWithin task (2 ^ 24) m → (shares : List Share) (values : List Distance) → length values ≡ (abstraction_by task m).size
      → AreShares shares → All (IsWithin (2 ^ 55)) values → IsTable Two (record { mapping = m; shares = shares; values = values })
  lawful m is shares values as_long are small = record {
    mapping = mapping_lawful m is;
    shares = are;
    values = record { few = omega (arith, as_long, is.within); each = by_recursion (IsWithin (2 ^ 55)) values small };
  }
