-- Consequences of the test of a mapping for a task: its variables are strictly increasing, the mapping fits the task,
-- and the abstraction by it is an abstraction of the task with at most 2^24 abstract states.
use Rattle.std.proofs.Common.{◌≡◌, ℕ, zero, suc, ◌<◌, ◌≤◌, ◌^◌, true, List, [], ◌∷◌, length, arith, add-one, ltb-true, leb-true, eqb-true}
use Rattle.std.specs.Prelude.{All, nat_lt}
use Rattle.std.specs.List.{list_all}
use Rattle.std.specs.List.Sorted.{IsStrictlyIncreasing}
use Rattle.std.proofs.lemmas.Bool.{and_parts}
use Rattle.std.proofs.lemmas.List.{length-map}
use Rattle.std.proofs.lemmas.List.Elements.{All-nil, All-cons}
use Rattle.fdr.specs.Tasks.{FiniteDomainTask, ranges, IsTask}
use Rattle.abstraction.specs.Abstractions.{IsAbstractionOf}
use Rattle.abstraction.specs.Projections.{AllExist}
use Rattle.abstraction.specs.ProjectionLaws.{projection_abstracts}
use Rattle.abstraction_domain.specs.Rows.{Row}
use Rattle.abstraction_domain.specs.Domains.{IsFit}
use Rattle.abstraction_domain.specs.DomainLaws.{domain_abstracts}
use Rattle.abstraction_mapping.specs.Mappings.{Mapping, Pattern, Domains, variables_of, abstraction_by, is_increasing, is_fit, is_of_task, is_mapping}

pub increasing_from : (xs : List ℕ) → is_increasing xs ≡ true → IsStrictlyIncreasing xs
increasing_from [] e k l = absurd (omega arith)
increasing_from (x ∷ []) e k l = absurd (omega arith)
increasing_from (x ∷ y ∷ ys) e zero l = let parts = and_parts (nat_lt x y) (is_increasing (y ∷ ys)) e in omega (arith, ltb-true x y parts.0)
increasing_from (x ∷ y ∷ ys) e (suc k) l =
    let parts = and_parts (nat_lt x y) (is_increasing (y ∷ ys)) e in
    let rest = rw add-one at (increasing_from (y ∷ ys) parts.1 k (omega arith)) in
    rw add-one rest

module _ (task : FiniteDomainTask) (m : Mapping) (is : is_mapping task m ≡ true) where
  pub rises : is_increasing (variables_of m) ≡ true
  rises = (and_parts _ _ (and_parts _ _ is).0).0

  pub increasing : IsStrictlyIncreasing (variables_of m)
  increasing = increasing_from (variables_of m) rises

  pub of_task : is_of_task task m ≡ true
  of_task = (and_parts _ _ (and_parts _ _ is).0).1

  pub small : (abstraction_by task m).size ≤ 2 ^ 24
  small = leb-true _ _ (and_parts _ _ is).1

all_below : (n : ℕ) (xs : List ℕ) → list_all (λ v. nat_lt v n) xs ≡ true → All (λ v. v < n) xs
all_below n [] e = All-nil (λ v. v < n)
all_below n (x ∷ xs) e =
    let parts = and_parts (nat_lt x n) (list_all (λ v. nat_lt v n) xs) e in
    All-cons (λ v. v < n) x xs (ltb-true x n parts.0) (all_below n xs parts.1)

pub exist : (task : FiniteDomainTask) (pattern : List ℕ) → is_of_task task (Pattern pattern) ≡ true → AllExist (ranges task) pattern
exist task pattern e = rw (length-map task.value_names (λ names. length names)) (all_below (length task.value_names) pattern e)

fits : (ranges : List ℕ) (r : Row) → is_fit ranges r ≡ true → IsFit ranges r
fits ranges r e = let parts = and_parts (nat_lt r.variable (length ranges)) _ e in record { exists = ltb-true _ _ parts.0; as_long = eqb-true _ _ parts.1 }

pub fit : (ranges : List ℕ) (rows : List Row) → list_all (is_fit ranges) rows ≡ true → All (IsFit ranges) rows
fit ranges [] e = All-nil (IsFit ranges)
fit ranges (r ∷ rs) e =
    let parts = and_parts (is_fit ranges r) (list_all (is_fit ranges) rs) e in
    All-cons (IsFit ranges) r rs (fits ranges r parts.0) (fit ranges rs parts.1)

pub abstracts : (task : FiniteDomainTask) → IsTask task → (m : Mapping) → is_mapping task m ≡ true → IsAbstractionOf task (abstraction_by task m)
abstracts task well (Pattern pattern) is = projection_abstracts task well pattern (exist task pattern (of_task task (Pattern pattern) is))
abstracts task well (Domains rows) is = domain_abstracts task rows well (fit (ranges task) rows (of_task task (Domains rows) is))
