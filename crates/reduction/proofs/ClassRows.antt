-- The rows of the variables of a task, variable by variable.
use Rattle.std.proofs.Common.{◌≡◌, ℕ, zero, suc, ◌+◌, ◌<◌, ◌≤◌, Bool, false, List, [], ◌∷◌, ◌++◌, length, map, take, get_or, refl, sym, ap, subst, ◌∙◌, arith, ⊎_elim}
use Rattle.std.specs.Prelude.{All, nat_lt, slice_index, slice_index_or}
use Rattle.std.specs.List.{range_with_len}
use Rattle.std.proofs.lemmas.Bool.{ltb-false, or_parts, cases_eq}
use Rattle.std.proofs.lemmas.List.{length-map, length-take-le, map-append, take_more, take_all, get_or_append_left, get_or_push}
use Rattle.std.proofs.lemmas.List.Elements.{All-nil, All-push}
use Rattle.fdr.specs.Tasks.{FiniteDomainTask, ranges, IsWithinLimits, has_long_range}
use Rattle.abstraction_domain.specs.Rows.{Row, AreNumbered, classes_in}
use Rattle.abstraction_domain.specs.Domains.{variables}
use Rattle.reduction_classes.specs.Classes.{row_of}
use Rattle.reduction_classes.proofs.Staying.{range_more}
use Rattle.reduction.specs.Facts.{is_in}
use Rattle.reduction.specs.Asked.{AreClassesBy}
use Rattle.reduction.specs.Rows.{ShareBy}
use Rattle.reduction.proofs.ClosingLaws.{row_length}

-- the rows of the first n variables
pub record AreRows (rs : List ℕ) (asked : List (List Bool)) (n : ℕ) (rows : List Row) : Type 0 where
  pub in_order : variables rows ≡ range_with_len 0 n
  pub fit : map length (classes_in rows) ≡ take n rs
  pub numbered : All AreNumbered (classes_in rows)
  pub shared : (v : ℕ) → v < n → ShareBy (slice_index_or asked v []) (row_of (classes_in rows) v)

pub rows_none : (rs : List ℕ) (asked : List (List Bool)) → AreRows rs asked 0 []
rows_none rs asked = record { in_order = refl; fit = refl; numbered = All-nil AreNumbered; shared = λ v l. absurd (omega arith) }

-- one variable more
pub rows_more : (rs : List ℕ) (asked : List (List Bool)) (n : ℕ) (rows more : List Row) (row : Row) (classes : List ℕ) → AreRows rs asked n rows → n < length rs → map length asked ≡ rs → row ≡ record { variable = n; classes = classes } →
    AreNumbered classes → length classes ≡ length (slice_index_or asked n []) → ShareBy (slice_index_or asked n []) classes → more ≡ rows ++ row ∷ [] → AreRows rs asked (n + 1) more
rows_more rs asked n rows more row classes are l shape is numbered long shared e =
    subst (AreRows rs asked (n + 1)) (sym (e ∙ ap (λ (r : Row). rows ++ r ∷ []) is))
    (record {
      in_order = map-append (λ (r : Row). r.variable) rows (made ∷ []) ∙ ap (λ (vs : List ℕ). vs ++ n ∷ []) are.in_order ∙ sym (range_more n);
      fit = ap (map length) as_lists ∙ map-append length (classes_in rows) (classes ∷ []) ∙ ap (λ (ns : List ℕ). ns ++ length classes ∷ []) are.fit ∙ ap (λ (k : ℕ). take n rs ++ k ∷ []) size ∙ sym (take_more rs n 0 l);
      numbered = subst (All AreNumbered) (sym as_lists) (All-push AreNumbered (classes_in rows) classes are.numbered numbered);
      shared = λ v k. ⊎_elim
          (λ (q : v ≡ n). subst (λ (w : ℕ). ShareBy (slice_index_or asked w []) (row_of (classes_in (rows ++ made ∷ [])) w)) (sym q) (subst (ShareBy (slice_index_or asked n [])) (sym here) shared))
          (λ (q : v ≡ n → ⊥). let m : v < n = omega arith in subst (ShareBy (slice_index_or asked v [])) (sym (there v m)) (are.shared v m))
          (cases_eq v n);
    })
  where
    made : Row
    made = record { variable = n; classes = classes }

    as_lists : classes_in (rows ++ made ∷ []) ≡ classes_in rows ++ classes ∷ []
    as_lists = map-append (λ (r : Row). r.classes) rows (made ∷ [])

    exists : n < length asked
    exists = omega (arith, l, length-map asked length, ap (λ (ns : List ℕ). length ns) shape)

    size : length classes ≡ get_or rs n 0
    size = long ∙ sym (row_length asked n exists) ∙ ap (λ (ns : List ℕ). slice_index ns n) shape

    as_long : length (classes_in rows) ≡ n
    as_long = sym (length-map (classes_in rows) length) ∙ ap (λ (ns : List ℕ). length ns) are.fit ∙ length-take-le n rs (omega arith)

    here : row_of (classes_in (rows ++ made ∷ [])) n ≡ classes
    here = ap (λ (cs : List (List ℕ)). row_of cs n) as_lists ∙ get_or_push (classes_in rows) classes [] n as_long

    there : (v : ℕ) → v < n → row_of (classes_in (rows ++ made ∷ [])) v ≡ row_of (classes_in rows) v
    there v m = ap (λ (cs : List (List ℕ)). row_of cs v) as_lists ∙ get_or_append_left (classes_in rows) (classes ∷ []) [] v (omega (arith, m, as_long))

-- the classes of all variables
pub classes_by_rows : (rs : List ℕ) (asked : List (List Bool)) (n : ℕ) (rows : List Row) (classes : List (List ℕ)) → AreRows rs asked n rows → length rs ≤ n → map length asked ≡ rs → classes ≡ classes_in rows → AreClassesBy rs (is_in asked) classes
classes_by_rows rs asked n rows classes are l shape e =
    subst (AreClassesBy rs (is_in asked)) (sym e)
    (record {
      fit = are.fit ∙ take_all n rs l;
      numbered = are.numbered;
      shared = λ v x y k a b. are.shared v (omega (arith, k, l)) x y (within v x k a) (within v y k b);
    })
  where
    within : (v x : ℕ) → v < length rs → x < slice_index rs v → x < length (slice_index_or asked v [])
    within v x k a =
        let exists : v < length asked = omega (arith, k, length-map asked length, ap (λ (ns : List ℕ). length ns) shape) in
        omega (arith, a, row_length asked v exists, ap (λ (ns : List ℕ). slice_index ns v) shape)

-- a variable has few values
range_small : (names : List (List (List ℕ))) (v : ℕ) → has_long_range names ≡ false → slice_index (map length names) v ≤ 65536
range_small [] v h = omega arith
range_small (n ∷ ns) zero h = let parts = or_parts (nat_lt 65536 (length n)) (has_long_range ns) h in let few = ltb-false 65536 (length n) parts.0 in omega (arith, few)
range_small (n ∷ ns) (suc v) h = range_small ns v (or_parts (nat_lt 65536 (length n)) (has_long_range ns) h).1

pub row_small : (task : FiniteDomainTask) (asked : List (List Bool)) (v : ℕ) → map length asked ≡ ranges task → IsWithinLimits task → v < length task.value_names → length (slice_index_or asked v []) ≤ 65536
row_small task asked v shape limits l =
    let exists : v < length asked = omega (arith, l, length-map asked length, ap (λ (ns : List ℕ). length ns) shape, length-map task.value_names length) in
    omega (arith, range_small task.value_names v limits.values, row_length asked v exists, ap (λ (ns : List ℕ). slice_index ns v) shape)
