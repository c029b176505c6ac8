-- Distinct mappings, and one more.
use Rattle.std.proofs.Common.{◌≡◌, ◌≢◌, ℕ, ◌<◌, ◌≤◌, ◌^◌, true, false, List, [], ◌∷◌, ◌++◌, map, refl, sym, subst, arith}
use Rattle.std.specs.Prelude.{All, AllPairs}
use Rattle.std.proofs.lemmas.List.Elements.{All-nil, All-push, All-map}
use Rattle.std.proofs.lemmas.List.Quantifiers.{all_pairs_push}
use Rattle.std.proofs.lemmas.List.{map-append}
use Rattle.fdr.specs.Tasks.{FiniteDomainTask}
use Rattle.abstraction_mapping.specs.Mappings.{Mapping}
use Rattle.abstraction_mapping.specs.Views.{mapping_of}
use Rattle.abstraction_mapping.specs.declared.mapping.Mapping.{Mapping as KeptMapping}
use Rattle.pdb_patterns.specs.Choices.{IsMappingWithin}
use Rattle.scp_pool.specs.Pools.{PoolOf, AreDistinctMappings, IsPoolWith}

pub distinct_none : (task : FiniteDomainTask) → AreDistinctMappings task []
distinct_none task = record { each = All-nil (IsMappingWithin task (2 ^ 24)); distinct = λ i j d h l. absurd (omega arith) }

pub distinct_more : (task : FiniteDomainTask) (ms : List Mapping) (m : Mapping) → AreDistinctMappings task ms → IsMappingWithin task (2 ^ 24) m → All (λ n. n ≢ m) ms → AreDistinctMappings task (ms ++ m ∷ [])
distinct_more task ms m are is none = record {
  each = All-push (IsMappingWithin task (2 ^ 24)) ms m are.each is;
  distinct = all_pairs_push (λ n o. n ≢ o) ms m are.distinct none;
}

-- a mapping that none of the pool's is the same as is appended to those in memory
module _ (task : FiniteDomainTask) (items pushed : List KeptMapping) (m : KeptMapping) (old : PoolOf) where
  pub pushed_distinct : pushed ≡ items ++ m ∷ [] → AreDistinctMappings task (map mapping_of items) → IsMappingWithin task (2 ^ 24) (mapping_of m) → All (λ n. mapping_of n ≢ mapping_of m) items
      → AreDistinctMappings task (map mapping_of pushed)
  pushed_distinct e are is none =
      rw (e, map-append mapping_of items (m ∷ [])) (distinct_more task (map mapping_of items) (mapping_of m) are is (All-map (λ n. n ≢ mapping_of m) mapping_of items none))

  pub pushed_with : pushed ≡ items ++ m ∷ [] → old ≡ record { task = task; mappings = map mapping_of items } → All (λ n. mapping_of n ≢ mapping_of m) items
      → IsPoolWith (mapping_of m) old (record { task = task; mappings = map mapping_of pushed }) true
  pushed_with e is none =
      subst (λ (p : PoolOf). IsPoolWith (mapping_of m) p (record { task = task; mappings = map mapping_of pushed }) true) (sym is) (record {
        same = λ f. absurd (cc f);
        present = λ f. absurd (cc f);
        longer = λ f. rw (e, map-append mapping_of items (m ∷ [])) refl;
        distinct = λ f. All-map (λ n. n ≢ mapping_of m) mapping_of items none;
      })
