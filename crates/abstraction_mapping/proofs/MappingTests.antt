-- The test whether a task has the abstraction by a mapping.
use Rattle.std.proofs.Common.{◌≡◌, ℕ, suc, ◌<◌, ◌≤◌, ◌^◌, true, false, ◌&&◌, List, [], ◌∷◌, length, get_or, refl, arith, add-one, ltb, eqb, leb, lt-ltb, eq-eqb, le-leb}
use Rattle.std.specs.Prelude.{All}
use Rattle.std.specs.List.{list_all}
use Rattle.std.specs.List.Sorted.{IsStrictlyIncreasing}
use Rattle.std.proofs.lemmas.Bool.{and_from, false_from_ne_true}
use Rattle.std.proofs.lemmas.List.{length-map}
use Rattle.std.proofs.lemmas.List.Elements.{All-head, All-tail}
use Rattle.fdr.specs.Tasks.{FiniteDomainTask, ranges}
use Rattle.abstraction.specs.Projections.{size_of, AllExist}
use Rattle.abstraction_domain.specs.Rows.{Row}
use Rattle.abstraction_domain.specs.declared.fault.DomainFault.{DomainFault}
use Rattle.abstraction_domain.specs.declared.fault.DomainFault.TheVariants.{OutOfMemory, UnknownVariable, WrongRange, TableTooLarge}
use Rattle.abstraction_domain.specs.Domains.{variables, domain, no_row, IsFit, IsFaultOf}
use Rattle.abstraction_mapping.specs.TestedMappings.{increasing, of_task, small, fit}
use Rattle.abstraction_mapping.specs.Mappings.{Mapping, Pattern, Domains, variables_of, abstraction_by, is_increasing, is_fit, is_of_task, is_mapping}

increasing_test : (xs : List ℕ) → IsStrictlyIncreasing xs → is_increasing xs ≡ true
increasing_test [] rises = refl
increasing_test (x ∷ []) rises = refl
increasing_test (x ∷ y ∷ ys) rises =
    and_from (ltb x y) (is_increasing (y ∷ ys)) (lt-ltb x y (rises 0 (omega arith)))
    (increasing_test (y ∷ ys) (λ k l. let later = rw add-one at (rises (suc k) (omega arith)) in rw add-one later))

-- the parts of the test
record IsMapping (task : FiniteDomainTask) (m : Mapping) : Type 0 where
  pub increasing : IsStrictlyIncreasing (variables_of m)
  pub of_task : is_of_task task m ≡ true
  pub small : (abstraction_by task m).size ≤ 2 ^ 24

parts_of : (task : FiniteDomainTask) (m : Mapping) → is_mapping task m ≡ true → IsMapping task m
parts_of task m e = record { increasing = increasing task m e; of_task = of_task task m e; small = small task m e }

from_parts : (task : FiniteDomainTask) (m : Mapping) → IsMapping task m → is_mapping task m ≡ true
from_parts task m parts =
    and_from (is_increasing (variables_of m) && is_of_task task m) (leb (abstraction_by task m).size (2 ^ 24))
    (and_from (is_increasing (variables_of m)) (is_of_task task m) (increasing_test (variables_of m) parts.increasing) parts.of_task)
    (le-leb (abstraction_by task m).size (2 ^ 24) parts.small)

-- no mapping has variables that do not increase
pub none_unless_increasing : (task : FiniteDomainTask) (m : Mapping) → (IsStrictlyIncreasing (variables_of m) → ⊥) → is_mapping task m ≡ false
none_unless_increasing task m otherwise = false_from_ne_true (is_mapping task m) (λ e. otherwise (parts_of task m e).increasing)

-- ---- patterns

all_exist : (task : FiniteDomainTask) (ps : List ℕ) → AllExist (ranges task) ps → list_all (λ v. ltb v (length task.value_names)) ps ≡ true
all_exist task [] all = refl
all_exist task (p ∷ ps) all =
    let here : p < length (ranges task) = All-head (λ v. v < length (ranges task)) p ps all in
    and_from _ _ (lt-ltb p (length task.value_names) (omega (arith, length-map task.value_names length)))
    (all_exist task ps (All-tail (λ v. v < length (ranges task)) p ps all))

pub pattern_from : (task : FiniteDomainTask) (pattern : List ℕ) → IsStrictlyIncreasing pattern → AllExist (ranges task) pattern → size_of (ranges task) pattern ≤ 2 ^ 24 → is_mapping task (Pattern pattern) ≡ true
pattern_from task pattern rises exist small =
    from_parts task (Pattern pattern) (record { increasing = rises; of_task = all_exist task pattern exist; small = small })

-- ---- rows

module _ (ranges : List ℕ) where
  fit_test : (r : Row) → IsFit ranges r → is_fit ranges r ≡ true
  fit_test r fit =
      and_from (ltb r.variable (length ranges)) (eqb (length r.classes) (get_or ranges r.variable 0))
      (lt-ltb r.variable (length ranges) fit.exists) (eq-eqb (length r.classes) (get_or ranges r.variable 0) fit.as_long)

  all_fit_test : (rows : List Row) → All (IsFit ranges) rows → list_all (is_fit ranges) rows ≡ true
  all_fit_test [] all = refl
  all_fit_test (r ∷ rs) all =
      and_from (is_fit ranges r) (list_all (is_fit ranges) rs) (fit_test r (All-head (IsFit ranges) r rs all)) (all_fit_test rs (All-tail (IsFit ranges) r rs all))

pub domain_from : (task : FiniteDomainTask) (rows : List Row) → IsStrictlyIncreasing (variables rows) → All (IsFit (ranges task)) rows → (domain task rows).size ≤ 2 ^ 24 → is_mapping task (Domains rows) ≡ true
domain_from task rows rises fit small =
    from_parts task (Domains rows) (record { increasing = rises; of_task = all_fit_test (ranges task) rows fit; small = small })

-- a fault other than the lack of memory tells that there is no domain abstraction
pub none_by_fault : (task : FiniteDomainTask) (rows : List Row) (fault : DomainFault) → IsFaultOf task rows fault → (fault ≡ OutOfMemory → ⊥) → is_mapping task (Domains rows) ≡ false
none_by_fault task rows fault is other = false_from_ne_true (is_mapping task (Domains rows)) (λ e. clash fault is other (parts_of task (Domains rows) e))
  where
    clash : (fault : DomainFault) → IsFaultOf task rows fault → (fault ≡ OutOfMemory → ⊥) → IsMapping task (Domains rows) → ⊥
    clash OutOfMemory is other m = other refl
    clash (UnknownVariable k) is other m = let fit = fit (ranges task) rows m.of_task k no_row is.0 in omega (arith, fit.exists, is.2)
    clash (WrongRange k) is other m = is.3 (fit (ranges task) rows m.of_task k no_row is.0).as_long
    clash TableTooLarge is other m = omega (arith, m.small, is.1)
