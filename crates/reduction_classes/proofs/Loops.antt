-- Steps of the loops that make the images and the numbers of variables.
use Rattle.std.proofs.Common.{◌≡◌, ℕ, ◌+◌, ◌<◌, ◌||◌, Bool, true, false, List, [], ◌∷◌, ◌++◌, length, map, take, get_or, Option, Some, None, refl, sym, ap, ◌∙◌, arith, not, add-one}
use Rattle.std.specs.Prelude.{All, nat_lt, slice_get, slice_index}
use Rattle.std.specs.List.{list_any, cons_option, range_with_len}
use Rattle.std.proofs.lemmas.List.{take_more, append-nil, map-append, get_or-map, get_or_default}
use Rattle.std.proofs.lemmas.List.FromFn.{map-range_with_len_more}
use Rattle.std.proofs.lemmas.List.Elements.{filter_map-append}
use Rattle.fdr.specs.declared.fact.Fact.{Fact}
use Rattle.fdr.specs.Tasks.{Operator}
use Rattle.abstraction_domain.specs.Rows.{Row, class_count, shares_class, classes_in}
use Rattle.reduction_classes.specs.Classes.{row_of, stays, staying, staying_below, number_of}
use Rattle.reduction_classes.specs.Reduced.{reduced_fact, reduced_facts, reduced_operator, chosen}
use Rattle.reduction_classes.proofs.Staying.{passing_yes, passing_no, number_at, number_if_stays, none_if_left_out}

-- the images of one fact more
facts_more : (classes : List (List ℕ)) (fs : List Fact) (i : ℕ) (r : Option Fact) (xs : List Fact) → i < length fs → xs ≡ reduced_facts classes (take i fs) →
    r ≡ reduced_fact classes (get_or fs i (record { variable = 0; value = 0 })) → xs ++ cons_option r [] ≡ reduced_facts classes (take (i + 1) fs)
facts_more classes fs i r xs l so_far e =
    let f : Fact = get_or fs i (record { variable = 0; value = 0 }) in
    ap (λ (ys : List Fact). ys ++ cons_option r []) so_far
    ∙ ap (λ (q : Option Fact). reduced_facts classes (take i fs) ++ cons_option q []) e
    ∙ sym (filter_map-append (reduced_fact classes) (take i fs) (f ∷ []))
    ∙ sym (ap (reduced_facts classes) (take_more fs i (record { variable = 0; value = 0 }) l))

pub facts_some : (classes : List (List ℕ)) (fs : List Fact) (i : ℕ) (g : Fact) (xs : List Fact) → i < length fs → xs ≡ reduced_facts classes (take i fs) →
    Some g ≡ reduced_fact classes (get_or fs i (record { variable = 0; value = 0 })) → xs ++ g ∷ [] ≡ reduced_facts classes (take (i + 1) fs)
facts_some classes fs i g xs l so_far e = facts_more classes fs i (Some g) xs l so_far e

pub facts_none : (classes : List (List ℕ)) (fs : List Fact) (i : ℕ) (xs : List Fact) → i < length fs → xs ≡ reduced_facts classes (take i fs) →
    None ≡ reduced_fact classes (get_or fs i (record { variable = 0; value = 0 })) → xs ≡ reduced_facts classes (take (i + 1) fs)
facts_none classes fs i xs l so_far e = sym (append-nil xs) ∙ facts_more classes fs i None xs l so_far e

-- the variables that stay exist
pub all_staying_exist : (classes : List (List ℕ)) → All (λ v. v < length classes) (staying classes)
all_staying_exist classes k d l = let at = number_at classes k l in omega (arith, at.0, get_or_default (staying classes) k d 0 l)

-- a row's part in whether its variable stays
module _ (rows : List Row) (v : ℕ) (r : Row) (l : v < length rows) (is : r ≡ get_or rows v r) (all : Bool) (all_is : all ≡ not (list_any shares_class (classes_in rows))) where
  stays_is : (nat_lt 1 (class_count r.classes) || all) ≡ stays (classes_in rows) v
  stays_is =
      let here : get_or (classes_in rows) v [] ≡ r.classes = get_or-map (λ (q : Row). q.classes) rows v r [] l ∙ ap (λ (q : Row). q.classes) (sym is) in
      ap (λ (cs : List ℕ). nat_lt 1 (class_count cs) || all) (sym here) ∙ ap (λ (b : Bool). nat_lt 1 (class_count (row_of (classes_in rows) v)) || b) all_is

  module _ (xs : List ℕ) (ns : List (Option ℕ)) (so_far : xs ≡ staying_below (classes_in rows) v) (numbers : ns ≡ map (number_of (classes_in rows)) (range_with_len 0 v)) where
    more : (q : Option ℕ) → number_of (classes_in rows) v ≡ q → ns ++ q ∷ [] ≡ map (number_of (classes_in rows)) (range_with_len 0 (v + 1))
    more q e =
        ap (λ (ms : List (Option ℕ)). ms ++ q ∷ []) numbers
        ∙ ap (λ (p : Option ℕ). map (number_of (classes_in rows)) (range_with_len 0 v) ++ p ∷ []) (sym e)
        ∙ sym (map-range_with_len_more (number_of (classes_in rows)) 0 v v (omega arith))

    pub staying_more : (nat_lt 1 (class_count r.classes) || all) ≡ true → xs ++ v ∷ [] ≡ staying_below (classes_in rows) (v + 1)
    staying_more h =
        ap (λ (ys : List ℕ). ys ++ v ∷ []) so_far ∙ sym (passing_yes (stays (classes_in rows)) v (sym stays_is ∙ h)) ∙ ap (staying_below (classes_in rows)) (sym (add-one v))

    pub staying_same : (nat_lt 1 (class_count r.classes) || all) ≡ false → xs ≡ staying_below (classes_in rows) (v + 1)
    staying_same h =
        so_far ∙ sym (append-nil (staying_below (classes_in rows) v)) ∙ sym (passing_no (stays (classes_in rows)) v (sym stays_is ∙ h)) ∙ ap (staying_below (classes_in rows)) (sym (add-one v))

    pub numbers_some : (n : ℕ) → n ≡ length xs → (nat_lt 1 (class_count r.classes) || all) ≡ true → ns ++ Some n ∷ [] ≡ map (number_of (classes_in rows)) (range_with_len 0 (v + 1))
    numbers_some n e h = more (Some n) (number_if_stays (classes_in rows) v (sym stays_is ∙ h) ∙ ap (λ (ys : List ℕ). Some (length ys)) (sym so_far) ∙ ap Some (sym e))

    pub numbers_none : (nat_lt 1 (class_count r.classes) || all) ≡ false → ns ++ None ∷ [] ≡ map (number_of (classes_in rows)) (range_with_len 0 (v + 1))
    numbers_none h = more None (none_if_left_out (classes_in rows) v (sym stays_is ∙ h))

-- ---- whether classes are shared, in all rows
pub any_of_rows : (rows : List Row) → list_any (λ (r : Row). shares_class r.classes) rows ≡ list_any shares_class (classes_in rows)
any_of_rows [] = refl
any_of_rows (r ∷ rs) = rw (any_of_rows rs) refl

-- the image of one chosen operator more
pub operators_more : (classes : List (List ℕ)) (ops : List Operator) (ns : List ℕ) (i : ℕ) (op image : Operator) (xs : List Operator) → i < length ns → slice_get ops (slice_index ns i) ≡ Some op →
    image ≡ reduced_operator classes op → xs ≡ map (reduced_operator classes) (chosen ops (take i ns)) → xs ++ image ∷ [] ≡ map (reduced_operator classes) (chosen ops (take (i + 1) ns))
operators_more classes ops ns i op image xs l at is so_far =
    ap (λ (ys : List Operator). ys ++ image ∷ []) so_far
    ∙ ap (λ (y : Operator). map (reduced_operator classes) (chosen ops (take i ns)) ++ y ∷ []) is
    ∙ sym (map-append (reduced_operator classes) (chosen ops (take i ns)) (op ∷ []))
    ∙ ap (λ (r : Option Operator). map (reduced_operator classes) (chosen ops (take i ns) ++ cons_option r [])) (sym at)
    ∙ ap (map (reduced_operator classes)) (sym (filter_map-append (slice_get ops) (take i ns) (slice_index ns i ∷ [])))
    ∙ sym (ap (λ (ms : List ℕ). map (reduced_operator classes) (chosen ops ms)) (take_more ns i 0 l))
