-- Distinct mappings, and one more.
use Rattle.std.proofs.Common.{◌≡◌, ◌≢◌, ℕ, ◌<◌, ◌≤◌, ◌^◌, true, List, [], ◌∷◌, ◌++◌, length, arith, ⊎_elim, length-append, get_or-set_same}
use Rattle.std.specs.Prelude.{All, AllPairs, slice_index, slice_set}
use Rattle.std.proofs.lemmas.Bool.{cases_lt}
use Rattle.std.proofs.lemmas.List.{get_or_append_left, length-map}
use Rattle.std.proofs.Math.Seq.{get_or-append_seam}
use Rattle.std.proofs.lemmas.List.Elements.{All-nil, All-cons, All-append}
use Rattle.fdr.specs.Tasks.{FiniteDomainTask, ranges}
use Rattle.abstraction_domain.specs.Rows.{Row, class_count, are_numbered}
use Rattle.abstraction_domain.specs.Domains.{domain, IsFit}
use Rattle.abstraction_mapping.specs.Mappings.{Mapping, Pattern, Domains}
use Rattle.abstraction_mapping.proofs.MappingTests.{pattern_from, domain_from}
use Rattle.pdb_patterns.specs.Patterns.{IsPattern}
use Rattle.pdb_patterns.specs.Choices.{IsMappingWithin, AreMappings}

pairs_longer : {X : Type 0} (R : X → X → Type 0) (xs : List X) (y : X) → AllPairs R xs → All (λ x. R x y) xs → AllPairs R (xs ++ y ∷ [])
pairs_longer R xs y pairs all i j d h l =
    ⊎_elim
    (λ (low : j < length xs). rw (get_or_append_left xs (y ∷ []) d i (omega arith), get_or_append_left xs (y ∷ []) d j low) (pairs i j d h low))
    (λ (high : length xs ≤ j).
    let last : j ≡ length xs = omega (arith, l, length-append xs (y ∷ [])) in
    rw (last, get_or-append_seam xs y [] d, get_or_append_left xs (y ∷ []) d i (omega arith)) (all i d (omega arith)))
    (cases_lt j (length xs))

pub no_mappings : (task : FiniteDomainTask) (limit : ℕ) → AreMappings task limit []
no_mappings task limit = record { each = All-nil (IsMappingWithin task limit); distinct = λ i j d h l. absurd (omega arith); few = omega arith }

pub mappings_longer : (task : FiniteDomainTask) (limit : ℕ) (ms : List Mapping) (m : Mapping) → AreMappings task limit ms → IsMappingWithin task limit m → length ms < 64
    → All (λ n. n ≢ m) ms → AreMappings task limit (ms ++ m ∷ [])
mappings_longer task limit ms m are is few none =
    record {
      each = All-append (IsMappingWithin task limit) ms (m ∷ []) are.each (All-cons (IsMappingWithin task limit) m [] is (All-nil (IsMappingWithin task limit)));
      distinct = pairs_longer (λ n o. n ≢ o) ms m are.distinct none;
      few = omega (arith, few, length-append ms (m ∷ []));
    }

pub pattern_within : (task : FiniteDomainTask) (limit : ℕ) (pattern : List ℕ) → limit ≤ 2 ^ 24 → IsPattern task limit pattern → pattern ≢ [] → IsMappingWithin task limit (Pattern pattern)
pattern_within task limit pattern small is some =
    record {
      mapping = pattern_from task pattern is.increasing is.exist (omega (arith, small, is.within));
      within = is.within;
      some = some;
      numbered = tt;
    }

-- a row of one variable
module _ (task : FiniteDomainTask) (limit variable : ℕ) (row : Row) (is : row.variable ≡ variable) (exists : variable < length task.value_names)
    (as_long : length row.classes ≡ slice_index (ranges task) variable) (few : class_count row.classes ≤ limit) (small : limit ≤ 2 ^ 24) (numbered : are_numbered row.classes ≡ true) where
  within_ranges : row.variable < length (ranges task)
  within_ranges = omega (arith, is, exists, length-map task.value_names (λ names. length names))

  size : (domain task (row ∷ [])).size ≤ limit
  size =
      let same : slice_index (slice_set (ranges task) row.variable (class_count row.classes)) row.variable ≡ class_count row.classes =
      get_or-set_same (ranges task) row.variable (class_count row.classes) 0 within_ranges in
      omega (arith, same, few)

  fit : All (IsFit (ranges task)) (row ∷ [])
  fit = All-cons (IsFit (ranges task)) row [] (record { exists = within_ranges; as_long = rw is as_long }) (All-nil (IsFit (ranges task)))

  pub row_within : IsMappingWithin task limit (Domains (row ∷ []))
  row_within =
      record {
        mapping = domain_from task (row ∷ []) (λ k l. absurd (omega arith)) fit (omega (arith, size, small));
        within = size;
        some = λ e. cc e;
        numbered = All-cons (λ (r : Row). are_numbered r.classes ≡ true) row [] numbered (All-nil (λ (r : Row). are_numbered r.classes ≡ true));
      }
