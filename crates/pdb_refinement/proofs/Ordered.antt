-- Rows that are put in order, one by one, as far as their classes have few combinations.
use Rattle.std.proofs.Common.{◌≡◌, ℕ, zero, suc, ◌+◌, ◌*◌, ◌^◌, ◌<◌, ◌≤◌, true, List, [], ◌∷◌, ◌++◌, get_or, refl, sym, ap, ◌∙◌, arith}
use Rattle.std.specs.Prelude.{slice_index, All, Contains}
use Rattle.std.specs.List.Sorted.{IsStrictlyIncreasing}
use Rattle.std.proofs.lemmas.List.{get_or_default, map_push}
use Rattle.std.proofs.lemmas.List.Elements.{All-nil, All-head, All-tail, All-push}
use Rattle.fdr.specs.Tasks.{FiniteDomainTask, ranges}
use Rattle.abstraction.specs.Projections.{size_of}
use Rattle.abstraction_domain.specs.Rows.{Row, class_count, are_numbered}
use Rattle.abstraction_domain.specs.Domains.{IsFit, variables, class_counts, domain}
use Rattle.abstraction_domain.proofs.RowLaws.{row_count}
use Rattle.abstraction_mapping.specs.Mappings.{Domains}
use Rattle.abstraction_mapping.proofs.MappingTests.{domain_from}
use Rattle.pdb_patterns.specs.Choices.{IsMappingWithin}
use Rattle.pdb_refinement.specs.Classes.{product_of, AreOrderedWithin}

swap_factors : (a b c : ℕ) → a * (b * c) ≡ b * (a * c)
swap_factors a b c = grind arith

product_of-push : (rows : List Row) (r : Row) → product_of (rows ++ r ∷ []) ≡ class_count r.classes * product_of rows
product_of-push [] r = refl
product_of-push (q ∷ qs) r = rw (product_of-push qs r) (swap_factors (class_count q.classes) (class_count r.classes) (product_of qs))

-- one more above all others
increasing_push : (vs : List ℕ) (v : ℕ) → IsStrictlyIncreasing vs → All (λ (u : ℕ). u < v) vs → IsStrictlyIncreasing (vs ++ v ∷ [])
increasing_push [] v h below k l = absurd (omega arith)
increasing_push (u ∷ []) v h below zero l = All-head (λ (w : ℕ). w < v) u [] below
increasing_push (u ∷ []) v h below (suc k) l = absurd (omega arith)
increasing_push (u ∷ w ∷ ws) v h below zero l = h zero (omega arith)
increasing_push (u ∷ w ∷ ws) v h below (suc k) l =
    let next : suc k + 1 ≡ suc (k + 1) = omega arith in
    let rest : IsStrictlyIncreasing (w ∷ ws) = λ j m. (let step : suc j + 1 ≡ suc (j + 1) = omega arith in rw step at (h (suc j) (omega arith))) in
    rw next (increasing_push (w ∷ ws) v rest (All-tail (λ (x : ℕ). x < v) u (w ∷ ws) below) k (omega arith))

-- ---- the number of abstract states

size_by_counts : (counts : List ℕ) (rows : List Row) → All (λ (r : Row). slice_index counts r.variable ≡ class_count r.classes) rows → size_of counts (variables rows) ≡ product_of rows
size_by_counts counts [] all = refl
size_by_counts counts (r ∷ rs) all =
    rw (All-head (λ (q : Row). slice_index counts q.variable ≡ class_count q.classes) r rs all, size_by_counts counts rs (All-tail (λ (q : Row). slice_index counts q.variable ≡ class_count q.classes) r rs all)) refl

pub size_is_product : (task : FiniteDomainTask) (rows : List Row) → All (IsFit (ranges task)) rows → IsStrictlyIncreasing (variables rows) → (domain task rows).size ≡ product_of rows
size_is_product task rows fit increasing = size_by_counts (class_counts rows (ranges task)) rows told
  where
    told : All (λ (r : Row). slice_index (class_counts rows (ranges task)) r.variable ≡ class_count r.classes) rows
    told = λ k d l.
        let r : Row = get_or rows k d in
        let is : get_or rows k d ≡ get_or rows k (get_or rows k d) = get_or_default rows k d (get_or rows k d) l in
        row_count (ranges task) rows fit increasing k l r is

-- ---- the rows of the variables below v that were put in order

pub record AreOrderedBelow (task : FiniteDomainTask) (limit : ℕ) (rows : List Row) (v size : ℕ) (ordered : List Row) : Type 0 where
  pub are : AreOrderedWithin task limit rows ordered
  pub below : All (λ (u : ℕ). u < v) (variables ordered)
  pub product : size ≡ product_of ordered

module _ (task : FiniteDomainTask) (limit : ℕ) (rows : List Row) where
  pub none_ordered : 1 ≤ limit → AreOrderedBelow task limit rows 0 1 []
  none_ordered some =
      record {
        are = record {
          increasing = λ k l. absurd (omega arith);
          fit = All-nil (IsFit (ranges task));
          numbered = All-nil (λ (r : Row). are_numbered r.classes ≡ true);
          within = some;
          among = All-nil (λ (v : ℕ). Contains (variables rows) v);
        };
        below = All-nil (λ (u : ℕ). u < 0);
        product = refl;
      }

  pub ordered_without : (v size : ℕ) (ordered : List Row) → AreOrderedBelow task limit rows v size ordered → AreOrderedBelow task limit rows (v + 1) size ordered
  ordered_without v size ordered h =
      record { are = h.are; below = λ k d l. (let low = h.below k d l in omega (arith, low)); product = h.product }

  pub ordered_with : (v size larger : ℕ) (ordered : List Row) (r : Row) → AreOrderedBelow task limit rows v size ordered → r.variable ≡ v
      → IsFit (ranges task) r → are_numbered r.classes ≡ true → Contains (variables rows) v
      → (larger ≡ class_count r.classes * size) × (larger ≤ limit) → AreOrderedBelow task limit rows (v + 1) larger (ordered ++ r ∷ [])
  ordered_with v size larger ordered r h is fit numbered among fits =
      let named : variables (ordered ++ r ∷ []) ≡ variables ordered ++ v ∷ [] = rw (map_push (λ (q : Row). q.variable) ordered r, is) refl in
      let product : larger ≡ product_of (ordered ++ r ∷ []) = fits.0 ∙ ap (λ n. class_count r.classes * n) h.product ∙ sym (product_of-push ordered r) in
      record {
        are = record {
          increasing = rw named (increasing_push (variables ordered) v h.are.increasing h.below);
          fit = All-push (IsFit (ranges task)) ordered r h.are.fit fit;
          numbered = All-push (λ (q : Row). are_numbered q.classes ≡ true) ordered r h.are.numbered numbered;
          within = rw product at fits.1;
          among = rw named (All-push (λ (u : ℕ). Contains (variables rows) u) (variables ordered) v h.are.among among);
        };
        below = rw named (All-push (λ (u : ℕ). u < v + 1) (variables ordered) v (λ k d l. (let low = h.below k d l in omega (arith, low))) (omega arith));
        product = product;
      }

pub ordered_within : (task : FiniteDomainTask) (limit : ℕ) (rows ordered : List Row) → AreOrderedWithin task limit rows ordered → limit ≤ 2 ^ 24 → (ordered ≡ [] → ⊥) → IsMappingWithin task limit (Domains ordered)
ordered_within task limit rows ordered are small some =
    let size : (domain task ordered).size ≡ product_of ordered = size_is_product task ordered are.fit are.increasing in
    record {
      mapping = domain_from task ordered are.increasing are.fit (omega (arith, size, are.within, small));
      within = omega (arith, size, are.within);
      some = λ e. some (nil_from_variables ordered e);
      numbered = are.numbered;
    }
  where
    nil_from_variables : (rows : List Row) → variables rows ≡ [] → rows ≡ []
    nil_from_variables [] e = refl
    nil_from_variables (r ∷ rs) e = cc e
