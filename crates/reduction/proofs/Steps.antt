-- What holds in an image holds in the state, if it is asked for; and operators that change no class change no image.
use Rattle.std.proofs.Common.{◌≡◌, ℕ, ◌<◌, ◌≤◌, true, false, List, [], ◌∷◌, length, get_or, Option, Some, None, refl, sym, ap, subst, ◌∙◌, arith, ltb, ⊎_elim}
use Rattle.std.specs.Prelude.{not, All, Contains, IfSome, unwrap_or, slice_index}
use Rattle.std.specs.List.{list_all, list_any, cons_option, range_with_len}
use Rattle.std.specs.Option.{option_map_or}
use Rattle.std.proofs.lemmas.Bool.{eqb-true, eq-eqb, ltb-false, and_parts, and_from, or_parts, cases_Bool}
use Rattle.std.proofs.lemmas.Option.{none-some}
use Rattle.std.proofs.lemmas.List.{ext_get_or}
use Rattle.std.proofs.lemmas.List.Elements.{All-head, All-tail, All-contains, All-weaker}
use Rattle.fdr.specs.declared.fact.Fact.{Fact}
use Rattle.fdr.specs.Tasks.{FiniteDomainTask, Operator, ranges, IsState, IsOperator, IsInRange, holds, applies, successor}
use Rattle.abstraction.specs.Facts.{value_in}
use Rattle.abstraction_domain.specs.Rows.{class_count, shares_class}
use Rattle.reduction_classes.specs.Classes.{row_of, class_of, stays, staying, number_of}
use Rattle.reduction_classes.specs.Reduced.{reduced_state, reduced_fact, reduced_facts}
use Rattle.reduction_classes.proofs.Staying.{number_if_stays, number_at}
use Rattle.reduction_classes.proofs.Images.{image_at, read_image, length-image}
use Rattle.reduction_classes.proofs.Runs.{as_many, class_below}
use Rattle.reduction.specs.Facts.{Facts, fact}
use Rattle.reduction.specs.Asked.{are_apart, has_two_classes, changes_class, changes_classes, AllAsked, AreClassesBy}
use Rattle.reduction.proofs.Members.{all_at, none_at}
use Rattle.reduction.proofs.FactLists.{value_has, read_after}
use Rattle.reduction.proofs.AskedLaws.{Contains-range, same_if_asked}

module _ (task : FiniteDomainTask) (classes : List (List ℕ)) (asked : Facts) (by : AreClassesBy (ranges task) asked classes) where
  -- values of a variable that is left out are in one class
  one_class : (v x y : ℕ) → v < length (ranges task) → x < slice_index (ranges task) v → y < slice_index (ranges task) v → number_of classes v ≡ None → class_of classes v x ≡ class_of classes v y
  one_class v x y l k m e = ⊎_elim retained out (cases_Bool (stays classes v))
    where
      exists : v < length classes
      exists = omega (arith, l, as_many task classes by.fit)

      retained : stays classes v ≡ true → class_of classes v x ≡ class_of classes v y
      retained h = absurd (none-some _ (sym e ∙ number_if_stays classes v h))

      out : stays classes v ≡ false → class_of classes v x ≡ class_of classes v y
      out h =
          let few : class_count (row_of classes v) ≤ 1 = ltb-false 1 (class_count (row_of classes v)) (or_parts (ltb 1 (class_count (row_of classes v))) (not (list_any shares_class classes)) h).0 in
          let first : class_of classes v x < class_count (row_of classes v) = class_below task classes by.fit v x exists k in
          let second : class_of classes v y < class_count (row_of classes v) = class_below task classes by.fit v y exists m in
          omega (arith, few, first, second)

  module _ (s : List ℕ) (is : IsState (ranges task) s) where
    -- an asked fact holds in a state if its image does
    fact_holds : (f : Fact) → IsInRange (ranges task) f → asked f ≡ true → IfSome (reduced_fact classes f) (λ g. holds (reduced_state classes s) g ≡ true) → holds s f ≡ true
    fact_holds f range a h = eq-eqb (slice_index s f.variable) f.value (same_if_asked asked f.variable (slice_index s f.variable) f.value ((by.shared f.variable (slice_index s f.variable) f.value range.0 inside range.1).0 same) a)
      where
        inside : slice_index s f.variable < slice_index (ranges task) f.variable
        inside = is.in_range f.variable range.0

        go : (r : Option ℕ) → number_of classes f.variable ≡ r → IfSome (image_at classes f r) (λ g. holds (reduced_state classes s) g ≡ true) → class_of classes f.variable (slice_index s f.variable) ≡ class_of classes f.variable f.value
        go None e k = one_class f.variable (slice_index s f.variable) f.value range.0 inside range.1 e
        go (Some n) e k =
            sym (read_image classes s f.variable n (omega (arith, range.0, as_many task classes by.fit)) e)
            ∙ eqb-true (slice_index (reduced_state classes s) n) (class_of classes f.variable f.value) k

        same : class_of classes f.variable (slice_index s f.variable) ≡ class_of classes f.variable f.value
        same = go (number_of classes f.variable) refl h

    pub facts_hold : (fs : List Fact) → All (IsInRange (ranges task)) fs → AllAsked asked fs → list_all (holds (reduced_state classes s)) (reduced_facts classes fs) ≡ true → list_all (holds s) fs ≡ true
    facts_hold [] range a h = refl
    facts_hold (f ∷ fs) range a h =
        let rest = facts_hold fs (All-tail (IsInRange (ranges task)) f fs range) (All-tail (λ (g : Fact). asked g ≡ true) f fs a) in
        go (reduced_fact classes f) h (fact_holds f (All-head (IsInRange (ranges task)) f fs range) (All-head (λ (g : Fact). asked g ≡ true) f fs a)) rest
      where
        go : (r : Option Fact) → list_all (holds (reduced_state classes s)) (cons_option r (reduced_facts classes fs)) ≡ true →
            (IfSome r (λ g. holds (reduced_state classes s) g ≡ true) → holds s f ≡ true) →
            (list_all (holds (reduced_state classes s)) (reduced_facts classes fs) ≡ true → list_all (holds s) fs ≡ true) → list_all (holds s) (f ∷ fs) ≡ true
        go None k here rest = and_from (holds s f) (list_all (holds s) fs) (here tt) (rest k)
        go (Some g) k here rest =
            let parts = and_parts (holds (reduced_state classes s) g) (list_all (holds (reduced_state classes s)) (reduced_facts classes fs)) k in
            and_from (holds s f) (list_all (holds s) fs) (here parts.0) (rest parts.1)

    -- values of a variable with one class are in it
    pub all_in_one : (v x y : ℕ) → v < length (ranges task) → x < slice_index (ranges task) v → y < slice_index (ranges task) v → has_two_classes (ranges task) asked v ≡ false → class_of classes v x ≡ class_of classes v y
    all_in_one v x y l k m h = sym (to_first x k) ∙ to_first y m
      where
        to_first : (z : ℕ) → z < slice_index (ranges task) v → class_of classes v 0 ≡ class_of classes v z
        to_first z j =
            (by.shared v 0 z l (omega (arith, j)) j).1
            (none_at (are_apart asked v 0) (range_with_len 0 (slice_index (ranges task) v)) z h (Contains-range (slice_index (ranges task) v) z j))

    module _ (op : Operator) (well : IsOperator (ranges task) op) (applies' : applies op s ≡ true) (unchanging : changes_classes (ranges task) asked op ≡ false) where
      -- an effect does not change a class
      class_stays : (v x : ℕ) → v < length (ranges task) → value_in op.effect v ≡ Some x → class_of classes v x ≡ class_of classes v (slice_index s v)
      class_stays v x l e = go (value_in op.precondition v) refl unchanged
        where
          has : Contains op.effect (fact v x)
          has = value_has op.effect v x e

          range : IsInRange (ranges task) (fact v x)
          range = All-contains (IsInRange (ranges task)) op.effect (fact v x) well.effect.in_range has

          unchanged : changes_class (ranges task) asked op.precondition (fact v x) ≡ false
          unchanged = none_at (changes_class (ranges task) asked op.precondition) op.effect (fact v x) unchanging has

          go : (r : Option ℕ) → value_in op.precondition v ≡ r → option_map_or (λ y. are_apart asked v y x) r (has_two_classes (ranges task) asked v) ≡ false → class_of classes v x ≡ class_of classes v (slice_index s v)
          go None q h = all_in_one v x (slice_index s v) l range.1 (is.in_range v l) h
          go (Some y) q h =
              let held : slice_index s v ≡ y = eqb-true (slice_index s v) y (all_at (holds s) op.precondition (fact v y) applies' (value_has op.precondition v y q)) in
              sym ((by.shared v (slice_index s v) x l (is.in_range v l) range.1).1 (subst (λ (z : ℕ). are_apart asked v z x ≡ false) (sym held) h))

      -- the image of the successor is that of the state
      pub image_stays : reduced_state classes (successor op s) ≡ reduced_state classes s
      image_stays =
          ext_get_or 0 (reduced_state classes (successor op s)) (reduced_state classes s)
          (length-image classes (successor op s) ∙ sym (length-image classes s))
          (λ i k.
          let j : i < length (staying classes) = omega (arith, k, length-image classes (successor op s)) in
          let at = number_at classes i j in
          let v : ℕ = get_or (staying classes) i 0 in
          let l : v < length (ranges task) = omega (arith, at.0, as_many task classes by.fit) in
          read_image classes (successor op s) v i at.0 at.2 ∙ same v l ∙ sym (read_image classes s v i at.0 at.2))
        where
          on : All (λ f. f.variable < length s) op.effect
          on = All-weaker (IsInRange (ranges task)) (λ (f : Fact). f.variable < length s) (λ f h. omega (arith, h.0, is.as_long)) op.effect well.effect.in_range

          same : (v : ℕ) → v < length (ranges task) → class_of classes v (slice_index (successor op s) v) ≡ class_of classes v (slice_index s v)
          same v l = ap (class_of classes v) (read_after op.effect s v well.effect.distinct on) ∙ go (value_in op.effect v) refl
            where
              go : (r : Option ℕ) → value_in op.effect v ≡ r → class_of classes v (unwrap_or r (slice_index s v)) ≡ class_of classes v (slice_index s v)
              go None e = refl
              go (Some x) e = class_stays v x l e
