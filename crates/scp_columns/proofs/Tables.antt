-- A table of distances with the least shares that keep them.
use Rattle.std.proofs.Common.{◌≡◌, ℕ, zero, suc, ◌≤◌, List, [], ◌∷◌, refl, sym, subst}
use Rattle.std.specs.Prelude.{slice_index, slice_index_or}
use Rattle.cost.specs.Distances.{Distance, Infinite}
use Rattle.fdr.specs.Tasks.{FiniteDomainTask}
use Rattle.abstraction.specs.Abstractions as abstraction
use Rattle.abstraction_mapping.specs.Mappings.{Mapping, abstraction_by}
use Rattle.cert_value.specs.declared.table.Share.{Share}
use Rattle.checker_clauses.specs.Clauses.{share_of}
use Rattle.pdb_walks.specs.Walks.{AreDistances, IsGreatestFall, IsDistanceFrom, value_in}
use Rattle.pdb_walks.proofs.Saturation.{distances_consistent, saturated_below}
use Rattle.scp_columns.specs.Partitions.{IsNextTable}

value_is : (values : List Distance) (i : ℕ) → value_in values i ≡ slice_index_or values i Infinite
value_is [] i = refl
value_is (d ∷ values) zero = refl
value_is (d ∷ values) (suc i) = value_is values i

values_are : (values : List Distance) → value_in values ≡ (λ i. slice_index_or values i Infinite)
values_are values k i = value_is values i k

module _ (task : FiniteDomainTask) (m : Mapping) (abstracts : abstraction.IsAbstractionOf task (abstraction_by task m)) (left : List ℕ) (values : List Distance) (needed : List ℕ)
    (distances : AreDistances (abstraction_by task m) (λ o. slice_index left o) values)
    (falls : (o : ℕ) → IsGreatestFall (abstraction_by task m) (value_in values) o (slice_index needed o)) where
  abbrev made : (ℕ → ℕ) → abstraction.Table
  made share = record { abstraction = abstraction_by task m; share = share; value = value_in values }

  pub needed_below : (o : ℕ) → slice_index needed o ≤ slice_index left o
  needed_below =
      saturated_below (made (λ o. slice_index needed o)) (λ o. slice_index left o) falls
      (distances_consistent task (made (λ o. slice_index left o)) abstracts distances.exact)

  pub is_next : (shares : List Share) → ((o : ℕ) → share_of shares o ≡ slice_index needed o) → IsNextTable task m (λ o. slice_index left o) (record { mapping = m; shares = shares; values = values })
  is_next shares same = record {
    mapping = refl;
    distances = λ i l. subst (IsDistanceFrom (abstraction_by task m) (λ o. slice_index left o) i) (value_is values i) (distances.exact i l);
    saturated = λ o. subst (IsGreatestFall (abstraction_by task m) (λ i. slice_index_or values i Infinite) o) (sym (same o))
        (subst (λ (f : ℕ → Distance). IsGreatestFall (abstraction_by task m) f o (slice_index needed o)) (values_are values) (falls o));
  }
