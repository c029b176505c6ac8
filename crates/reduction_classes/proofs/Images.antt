-- Images of states, of facts and of what effects do.
use Rattle.std.proofs.Common.{◌≡◌, ℕ, ◌<◌, true, List, [], ◌∷◌, length, Option, Some, None, refl, sym, ap, ◌∙◌, arith, get_or, ⊎_elim}
use Rattle.std.specs.Prelude.{IfSome, slice_index, slice_set, All, option_map}
use Rattle.std.specs.List.{list_all, cons_option}
use Rattle.std.specs.Option.{option_map_or}
use Rattle.std.proofs.lemmas.Bool.{eqb-true, eq-eqb, and_parts, and_from, cases_eq}
use Rattle.std.proofs.lemmas.Option.{same_Some}
use Rattle.std.proofs.lemmas.List.{length-map, length-set, get_or-map, get_or-set_same, get_or-set_other, ext_get_or}
use Rattle.std.proofs.lemmas.List.Elements.{All-head, All-tail}
use Rattle.fdr.specs.declared.fact.Fact.{Fact}
use Rattle.fdr.specs.Tasks.{Operator, holds, applies, with_values, successor}
use Rattle.reduction_classes.specs.Classes.{class_of, staying, number_of}
use Rattle.reduction_classes.specs.Reduced.{reduced_state, reduced_fact, reduced_facts, reduced_operator}
use Rattle.reduction_classes.proofs.Staying.{at_number, number_at}

-- the fact is on one of the first n variables
abbrev pub IsOn : ℕ → Fact → Type 0
IsOn n f = f.variable < n

-- the state after one fact, if there is one
abbrev pub with_value : Option Fact → List ℕ → List ℕ
with_value r state = option_map_or (λ f. slice_set state f.variable f.value) r state

module _ (classes : List (List ℕ)) where
  -- the value of a variable in the image, at its number
  pub read_image : (s : List ℕ) (v n : ℕ) → v < length classes → number_of classes v ≡ Some n → slice_index (reduced_state classes s) n ≡ class_of classes v (slice_index s v)
  read_image s v n l e =
      let at = at_number classes v n l e in
      get_or-map (λ (w : ℕ). class_of classes w (slice_index s w)) (staying classes) n 0 0 at.0 ∙ ap (λ (w : ℕ). class_of classes w (slice_index s w)) at.1

  pub length-image : (s : List ℕ) → length (reduced_state classes s) ≡ length (staying classes)
  length-image s = length-map (staying classes) (λ (w : ℕ). class_of classes w (slice_index s w))

  -- the image of a fact, by the number of its variable
  abbrev pub image_at : Fact → Option ℕ → Option Fact
  image_at f r = option_map (λ n. record { variable = n; value = class_of classes f.variable f.value }) r

  -- the image of a fact that holds in a state holds in the image of the state
  pub image_holds : (s : List ℕ) (f : Fact) → IsOn (length classes) f → holds s f ≡ true → IfSome (reduced_fact classes f) (λ g. holds (reduced_state classes s) g ≡ true)
  image_holds s f l h = go (number_of classes f.variable) refl
    where
      same : slice_index s f.variable ≡ f.value
      same = eqb-true (slice_index s f.variable) f.value h

      go : (r : Option ℕ) → number_of classes f.variable ≡ r → IfSome (image_at f r) (λ g. holds (reduced_state classes s) g ≡ true)
      go None e = tt
      go (Some n) e =
          eq-eqb (slice_index (reduced_state classes s) n) (class_of classes f.variable f.value)
          (read_image s f.variable n l e ∙ ap (class_of classes f.variable) same)

  pub images_hold : (s : List ℕ) (fs : List Fact) → All (IsOn (length classes)) fs → list_all (holds s) fs ≡ true → list_all (holds (reduced_state classes s)) (reduced_facts classes fs) ≡ true
  images_hold s [] all h = refl
  images_hold s (f ∷ fs) all h =
      let parts = and_parts (holds s f) (list_all (holds s) fs) h in
      let rest = images_hold s fs (All-tail (IsOn (length classes)) f fs all) parts.1 in
      go (reduced_fact classes f) (image_holds s f (All-head (IsOn (length classes)) f fs all) parts.0) rest
    where
      go : (r : Option Fact) → IfSome r (λ g. holds (reduced_state classes s) g ≡ true) → list_all (holds (reduced_state classes s)) (reduced_facts classes fs) ≡ true →
          list_all (holds (reduced_state classes s)) (cons_option r (reduced_facts classes fs)) ≡ true
      go None here rest = rest
      go (Some g) here rest = and_from _ _ here rest

  -- a value is set in a state as its class is in the image
  pub image_set : (s : List ℕ) (f : Fact) → IsOn (length classes) f → length s ≡ length classes →
      reduced_state classes (slice_set s f.variable f.value) ≡ with_value (reduced_fact classes f) (reduced_state classes s)
  image_set s f l long = go (number_of classes f.variable) refl
    where
      after : List ℕ
      after = slice_set s f.variable f.value

      short : f.variable < length s
      short = omega (arith, long, l)

      -- at another variable nothing changes
      other : (i : ℕ) → i < length (staying classes) → (get_or (staying classes) i 0 ≡ f.variable → ⊥) → slice_index (reduced_state classes (slice_set s f.variable f.value)) i ≡ slice_index (reduced_state classes s) i
      other i k ne =
          let at = number_at classes i k in
          let v : ℕ = get_or (staying classes) i 0 in
          read_image (slice_set s f.variable f.value) v i at.0 at.2
          ∙ ap (class_of classes v) (get_or-set_other s f.variable v f.value 0 ne)
          ∙ sym (read_image s v i at.0 at.2)

      go : (r : Option ℕ) → number_of classes f.variable ≡ r → reduced_state classes (slice_set s f.variable f.value) ≡ with_value (image_at f r) (reduced_state classes s)
      go None e =
          ext_get_or 0 (reduced_state classes (slice_set s f.variable f.value)) (reduced_state classes s)
          (length-image (slice_set s f.variable f.value) ∙ sym (length-image s))
          (λ i k.
          let j : i < length (staying classes) = omega (arith, k, length-image (slice_set s f.variable f.value)) in
          let at = number_at classes i j in
          other i j (λ q. let no : None ≡ Some i = sym e ∙ ap (number_of classes) (sym q) ∙ at.2 in cc))
      go (Some n) e =
          let numbered = at_number classes f.variable n l e in
          let c : ℕ = class_of classes f.variable f.value in
          ext_get_or 0 (reduced_state classes (slice_set s f.variable f.value)) (slice_set (reduced_state classes s) n c)
          (length-image (slice_set s f.variable f.value) ∙ sym (length-image s) ∙ sym (length-set (reduced_state classes s) n c))
          (λ i k.
          let j : i < length (staying classes) = omega (arith, k, length-image (slice_set s f.variable f.value)) in
          let at = number_at classes i j in
          let inside : n < length (reduced_state classes s) = omega (arith, numbered.0, length-image s) in
          ⊎_elim
          (λ (q : i ≡ n).
          rw q (read_image (slice_set s f.variable f.value) f.variable n l e ∙ ap (class_of classes f.variable) (get_or-set_same s f.variable f.value 0 short) ∙ sym (get_or-set_same (reduced_state classes s) n c 0 inside)))
          (λ (q : i ≡ n → ⊥).
          other i j (λ p. q (same_Some i n (sym at.2 ∙ ap (number_of classes) p ∙ e))) ∙ sym (get_or-set_other (reduced_state classes s) n i c 0 q))
          (cases_eq i n))

  -- the image of the state after an effect is the state after the effect's image
  pub image_after : (fs : List Fact) (s : List ℕ) → All (IsOn (length classes)) fs → length s ≡ length classes →
      reduced_state classes (with_values fs s) ≡ with_values (reduced_facts classes fs) (reduced_state classes s)
  image_after [] s all long = refl
  image_after (f ∷ fs) s all long =
      let longer : length (slice_set s f.variable f.value) ≡ length classes = length-set s f.variable f.value ∙ long in
      image_after fs (slice_set s f.variable f.value) (All-tail (IsOn (length classes)) f fs all) longer
      ∙ ap (with_values (reduced_facts classes fs)) (image_set s f (All-head (IsOn (length classes)) f fs all) long)
      ∙ go (reduced_fact classes f)
    where
      go : (r : Option Fact) → with_values (reduced_facts classes fs) (with_value r (reduced_state classes s)) ≡ with_values (cons_option r (reduced_facts classes fs)) (reduced_state classes s)
      go None = refl
      go (Some g) = refl

  -- the image of an operator that applies applies in the image, and leads to the image of the successor
  pub image_applies : (op : Operator) (s : List ℕ) → All (IsOn (length classes)) op.precondition → applies op s ≡ true → applies (reduced_operator classes op) (reduced_state classes s) ≡ true
  image_applies op s on h = images_hold s op.precondition on h

  pub image_successor : (op : Operator) (s : List ℕ) → All (IsOn (length classes)) op.effect → length s ≡ length classes →
      successor (reduced_operator classes op) (reduced_state classes s) ≡ reduced_state classes (successor op s)
  image_successor op s on long = sym (image_after op.effect s on long)
