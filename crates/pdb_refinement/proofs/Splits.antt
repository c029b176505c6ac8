-- Splits of the classes of one variable.
use Rattle.std.proofs.Common.{◌≡◌, ℕ, zero, suc, ◌+◌, ◌<◌, max, Bool, true, false, List, [], ◌∷◌, ◌++◌, length, set, refl, sym, ap, ◌∙◌, arith, cond, leb, eqb, eq-eqb, eqb-true, ⊎_elim}
use Rattle.std.specs.Prelude.{slice_index, slice_index_or, All}
use Rattle.std.specs.List.{range_with_len}
use Rattle.std.proofs.lemmas.Bool.{cases_eq, and_from, le-leb}
use Rattle.std.proofs.lemmas.List.{length-set, get_or-set_same, get_or-set_other}
use Rattle.std.proofs.lemmas.List.FromFn.{length-range_with_len, get_or-range_with_len}
use Rattle.fdr.specs.Tasks.{FiniteDomainTask, ranges}
use Rattle.abstraction_domain.specs.Rows.{Row, numbered_from, are_numbered}
use Rattle.pdb_refinement.specs.Refinements.{Refines}
use Rattle.pdb_refinement.specs.Classes.{class_in, with_row, IsRowOf, IsSplitAt, RefineRows}
use Rattle.pdb_refinement.proofs.WithRow.{all_with, class_with}

-- one value gets a class above all others, and then the classes are numbered anew
module _ (classes : List ℕ) (value fresh : ℕ) (within : value < length classes) (above : All (λ c. c < fresh) classes) where
  here : slice_index (set classes value fresh) value ≡ fresh
  here = get_or-set_same classes value fresh 0 within

  there : (x : ℕ) → (x ≡ value → ⊥) → slice_index (set classes value fresh) x ≡ slice_index classes x
  there x other = get_or-set_other classes value x fresh 0 other

  -- the value shares its new class with no other
  single : (x : ℕ) → x < length classes → slice_index (set classes value fresh) x ≡ fresh → x ≡ value
  single x l e =
      ⊎_elim (λ (same : x ≡ value). same)
      (λ (other : x ≡ value → ⊥). let low : slice_index classes x < fresh = above x 0 l in absurd (omega (arith, there x other)))
      (cases_eq x value)

  apart : (v w : ℕ) → v < length classes → w < length classes → slice_index (set classes value fresh) v ≡ slice_index (set classes value fresh) w → slice_index classes v ≡ slice_index classes w
  apart v w l m e =
      ⊎_elim
      (λ (a : v ≡ value). let b : w ≡ value = single w m (sym e ∙ ap (slice_index (set classes value fresh)) a ∙ here) in ap (slice_index classes) (a ∙ sym b))
      (λ (a : v ≡ value → ⊥). ⊎_elim
      (λ (b : w ≡ value). absurd (a (single v l (e ∙ ap (slice_index (set classes value fresh)) b ∙ here))))
      (λ (b : w ≡ value → ⊥). sym (there v a) ∙ e ∙ there w b)
      (cases_eq w value))
      (cases_eq v value)

  pub split_from : (new : List ℕ) → Refines (set classes value fresh) new → are_numbered new ≡ true → IsSplitAt classes value new
  split_from new refines numbered =
      let long : length (set classes value fresh) ≡ length classes = length-set classes value fresh in
      record {
        refines = record {
          as_long = refines.as_long ∙ long;
          apart = λ v w l m e. apart v w l m (refines.apart v w (omega arith) (omega arith) e);
        };
        numbered = numbered;
        alone = λ x l e. single x l (refines.apart x value (omega arith) (omega arith) e ∙ here);
      }

-- each value gets a class of its own
pub numbered_up : (a n : ℕ) → numbered_from a (range_with_len a n) ≡ true
numbered_up a zero = refl
numbered_up a (suc n) =
    let next : max a (a + 1) ≡ a + 1 = omega arith in and_from (leb a a) _ (le-leb a a (omega arith)) (rw next (numbered_up (a + 1) n))

own : (n x : ℕ) → x < n → slice_index (range_with_len 0 n) x ≡ x
own n x l = omega (arith, get_or-range_with_len 0 n x 0 l)

pub split_own : (classes : List ℕ) (value : ℕ) → value < length classes → IsSplitAt classes value (range_with_len 0 (length classes))
split_own classes value within =
    record {
      refines = record {
        as_long = length-range_with_len 0 (length classes);
        apart = λ v w l m e. ap (slice_index classes) (sym (own (length classes) v l) ∙ e ∙ own (length classes) w m);
      };
      numbered = numbered_up 0 (length classes);
      alone = λ x l e. sym (own (length classes) x l) ∙ e ∙ own (length classes) value within;
    }

-- ---- the split of one of many variables
module _ (task : FiniteDomainTask) (rows : List Row) (r : Row) (classes : List ℕ) (value : ℕ) (split : IsSplitAt classes value r.classes)
    (as_long : length classes ≡ slice_index (ranges task) r.variable) (are : (x : ℕ) → slice_index classes x ≡ class_in rows r.variable x) where
  pub refine_with : RefineRows task rows (with_row r rows)
  refine_with v x y l m e = go (eqb r.variable v) refl (sym (class_with r rows v x) ∙ e ∙ class_with r rows v y)
    where
      go : (b : Bool) → eqb r.variable v ≡ b → cond b (slice_index r.classes x) (class_in rows v x) ≡ cond b (slice_index r.classes y) (class_in rows v y) → class_in rows v x ≡ class_in rows v y
      go true is h =
          let same : r.variable ≡ v = eqb-true r.variable v is in
          let long : length classes ≡ slice_index (ranges task) v = rw same at as_long in
          let at : (z : ℕ) → slice_index classes z ≡ class_in rows v z = rw same at are in
          sym (at x) ∙ split.refines.apart x y (omega arith) (omega arith) h ∙ at y
      go false is h = h

  -- a value that shares the class of the split value is that value
  pub apart_with : (x : ℕ) → x < length classes → class_in (with_row r rows) r.variable value ≡ class_in (with_row r rows) r.variable x → value ≡ x
  apart_with x l e =
      let own : (z : ℕ) → class_in (with_row r rows) r.variable z ≡ slice_index r.classes z =
      λ z. class_with r rows r.variable z ∙ ap (λ (b : Bool). cond b (slice_index r.classes z) (class_in rows r.variable z)) (eq-eqb r.variable r.variable refl) in
      sym (split.alone x l (sym (own x) ∙ sym e ∙ own value))

  pub rows_with : (banned : List Bool) → r.variable < length (ranges task) → slice_index_or banned r.variable false ≡ false → All (IsRowOf task banned) rows → All (IsRowOf task banned) (with_row r rows)
  rows_with banned exists allowed all =
      all_with (IsRowOf task banned) r rows (record {
        fit = record { exists = exists; as_long = split.refines.as_long ∙ as_long };
        numbered = split.numbered;
        allowed = allowed;
      }) all

pub refine_same : (task : FiniteDomainTask) (rows : List Row) → RefineRows task rows rows
refine_same task rows v x y l m e = e

pub range_more : (a n : ℕ) → range_with_len a (n + 1) ≡ range_with_len a n ++ (a + n) ∷ []
range_more a zero = let e : a ≡ a + 0 = omega arith in ap (λ (b : ℕ). b ∷ []) e
range_more a (suc n) =
    let next : suc n + 1 ≡ suc (n + 1) = omega arith in
    let last : a + 1 + n ≡ a + suc n = omega arith in
    rw next (ap (λ (xs : List ℕ). a ∷ xs) (range_more (a + 1) n ∙ ap (λ (b : ℕ). range_with_len (a + 1) n ++ b ∷ []) last))
