-- How the code finds the group of an operator.
use Rattle.std.proofs.Common.{◌≡◌, ℕ, zero, suc, ◌<◌, ◌≤◌, Bool, true, false, List, [], ◌∷◌, ◌++◌, length, map, ltb, Some, refl, sym, ap, ◌∙◌, arith, eqb, inl, inr, ⊎_elim}
use Rattle.std.specs.Prelude.{◌&&◌, Contains, slice_get, slice_set}
use Rattle.std.specs.Bool.{Decides}
use Rattle.std.specs.List.{list_any}
use Rattle.std.specs.Cmp.Lexicographic.{pointwise}
use Rattle.std.proofs.lemmas.Bool.{eqb-true, eq-eqb, ltb-true, ltb-false, and_parts, and_from, cond-true, cond-false, false≢true, cases_Bool}
use Rattle.std.proofs.lemmas.Option.{none-some, same_Some, slice_get_within, get_or_from_slice_get}
use Rattle.std.proofs.lemmas.List.{map-append}
use Rattle.std.proofs.lemmas.Slice.Eq.{slice_eq-Decides}
use Rattle.indexmap.specs.IndexSet.{insert_key}
use Rattle.fdr.specs.declared.fact.Fact.{Fact}
use Rattle.fdr.specs.Tasks.{FiniteDomainTask, cost_of}
use Rattle.reduction.specs.declared.retained.Images.{Images}
use Rattle.reduction.specs.Facts.{fact}
use Rattle.reduction.specs.Adding.{image_in, images_in, Adds}
use Rattle.reduction.proofs.Members.{none_at}

at_map : {X Y : Type 0} (f : X → Y) (xs : List X) (g : ℕ) (x : X) → slice_get xs g ≡ Some x → slice_get (map f xs) g ≡ Some (f x)
at_map f [] g x h = absurd (none-some x h)
at_map {X = X} f (y ∷ ys) zero x h = ap (λ (z : X). Some (f z)) (same_Some y x h)
at_map f (y ∷ ys) (suc g) x h = at_map f ys g x h

map_at : {X Y : Type 0} (f : X → Y) (xs : List X) (g : ℕ) (y : Y) → slice_get (map f xs) g ≡ Some y → (x : X) × (slice_get xs g ≡ Some x) × (f x ≡ y)
map_at f [] g y h = absurd (none-some y h)
map_at f (x ∷ xs) zero y h = (x, refl, same_Some (f x) y h)
map_at f (x ∷ xs) (suc g) y h = map_at f xs g y h

contained : {X : Type 0} (xs : List X) (g : ℕ) (x : X) → slice_get xs g ≡ Some x → Contains xs x
contained xs g x h = (g, slice_get_within xs g x h, get_or_from_slice_get xs g x x h)

-- a test of both lists of facts decides whether the images are the same
pub decides_images : {E : Fact → Fact → Bool} → ((a b : Fact) → Decides (E a b) (a ≡ b)) → (a b : Images) →
    Decides (pointwise E a.precondition.items b.precondition.items && pointwise E a.effect.items b.effect.items) (image_in a ≡ image_in b)
decides_images {E = E} decides a b =
    let first = slice_eq-Decides decides a.precondition.items b.precondition.items (pointwise E a.precondition.items b.precondition.items) refl in
    let second = slice_eq-Decides decides a.effect.items b.effect.items (pointwise E a.effect.items b.effect.items) refl in (
      λ h.
          let parts = and_parts (pointwise E a.precondition.items b.precondition.items) (pointwise E a.effect.items b.effect.items) h in
          ap (λ (x : List Fact). (x, a.effect.items)) (first.0 parts.0) ∙ ap (λ (y : List Fact). (b.precondition.items, y)) (second.0 parts.1),
      λ e.
          and_from (pointwise E a.precondition.items b.precondition.items) (pointwise E a.effect.items b.effect.items)
          (first.1 (ap (λ (i : List Fact × List Fact). i.0) e)) (second.1 (ap (λ (i : List Fact × List Fact). i.1) e)),
    )

abbrev fact_eq : Fact → Fact → Bool
fact_eq x y = eqb x.variable y.variable && eqb x.value y.value

fact_decides : (x y : Fact) → Decides (fact_eq x y) (x ≡ y)
fact_decides x y = (
  λ h.
      let parts = and_parts (eqb x.variable y.variable) (eqb x.value y.value) h in
      ap (λ (v : ℕ). fact v x.value) (eqb-true x.variable y.variable parts.0) ∙ ap (λ (n : ℕ). fact y.variable n) (eqb-true x.value y.value parts.1),
  λ e. and_from (eqb x.variable y.variable) (eqb x.value y.value) (eq-eqb x.variable y.variable (ap (λ (f : Fact). f.variable) e)) (eq-eqb x.value y.value (ap (λ (f : Fact). f.value) e)),
)

abbrev pub images_eq : Images → Images → Bool
images_eq a b = pointwise fact_eq a.precondition.items b.precondition.items && pointwise fact_eq a.effect.items b.effect.items

pub images_decides : (a b : Images) → Decides (images_eq a b) (image_in a ≡ image_in b)
images_decides a b = decides_images fact_decides a b

module _ (eq : Images → Images → Bool) (decides : (a b : Images) → Decides (eq a b) (image_in a ≡ image_in b)) (task : FiniteDomainTask) (old new : List Images) (i : Images) (o : ℕ) (made : new ≡ insert_key eq old i) where
  pub adds_new : (before after : List ℕ) → list_any (eq i) old ≡ false → after ≡ before ++ o ∷ [] → Adds task (images_in old) (images_in new) before after (image_in i) o
  adds_new before after absent best =
      inl (record {
        absent = λ g h.
            let found = map_at image_in old g (image_in i) h in
            let apart : eq i found.0 ≡ false = none_at (eq i) old found.0 absent (contained old g found.0 found.1) in
            false≢true (sym apart ∙ (decides i found.0).1 (sym found.2));
        images = ap images_in (made ∙ cond-false (list_any (eq i) old) old (old ++ i ∷ []) absent) ∙ map-append image_in old (i ∷ []);
        best = best;
      })

  -- the images of the group are those of the operator
  pub group_image : (g : ℕ) → (k : Images) × (slice_get new g ≡ Some k) × (eq i k ≡ true) → slice_get (images_in new) g ≡ Some (image_in i)
  group_image g stored = at_map image_in new g stored.0 stored.1 ∙ ap Some (sym ((decides i stored.0).0 stored.2))

  module _ (before : List ℕ) (g least : ℕ) (there : list_any (eq i) old ≡ true) (stored : (k : Images) × (slice_get new g ≡ Some k) × (eq i k ≡ true)) (is : slice_get before g ≡ Some least) where
    same : new ≡ old
    same = made ∙ cond-true (list_any (eq i) old) old (old ++ i ∷ []) there

    known : slice_get (images_in old) g ≡ Some (image_in i)
    known =
        at_map image_in old g stored.0 (ap (λ (ks : List Images). slice_get ks g) (sym same) ∙ stored.1)
        ∙ ap Some (sym ((decides i stored.0).0 stored.2))

    pub adds_same : cost_of task least ≤ cost_of task o → Adds task (images_in old) (images_in new) before before (image_in i) o
    adds_same few =
        let no_less : ltb (cost_of task o) (cost_of task least) ≡ false =
        ⊎_elim (λ (e : ltb (cost_of task o) (cost_of task least) ≡ true). let l = ltb-true (cost_of task o) (cost_of task least) e in absurd (omega (arith, l, few))) (λ (e : ltb (cost_of task o) (cost_of task least) ≡ false). e)
        (cases_Bool (ltb (cost_of task o) (cost_of task least))) in
        inr (record {
          group = g;
          least = least;
          known = known;
          images = ap images_in same;
          least_is = is;
          best = sym (cond-false (ltb (cost_of task o) (cost_of task least)) (slice_set before g o) before no_less);
        })

    pub adds_cheaper : (after : List ℕ) → cost_of task o < cost_of task least → after ≡ slice_set before g o → Adds task (images_in old) (images_in new) before after (image_in i) o
    adds_cheaper after cheap e =
        let less : ltb (cost_of task o) (cost_of task least) ≡ true =
        ⊎_elim (λ (e : ltb (cost_of task o) (cost_of task least) ≡ true). e) (λ (e : ltb (cost_of task o) (cost_of task least) ≡ false). let l = ltb-false (cost_of task o) (cost_of task least) e in absurd (omega (arith, l, cheap)))
        (cases_Bool (ltb (cost_of task o) (cost_of task least))) in
        inr (record {
          group = g;
          least = least;
          known = known;
          images = ap images_in same;
          least_is = is;
          best = e ∙ sym (cond-true (ltb (cost_of task o) (cost_of task least)) (slice_set before g o) before less);
        })

-- the group of known images has a best operator
pub group_within : (eq : Images → Images → Bool) (old new : List Images) (i : Images) (best : List ℕ) (g : ℕ) → new ≡ insert_key eq old i → list_any (eq i) old ≡ true → (k : Images) × (slice_get new g ≡ Some k) × (eq i k ≡ true) →
    length best ≡ length old → g < length best
group_within eq old new i best g made there stored long =
    let same : new ≡ old = made ∙ cond-true (list_any (eq i) old) old (old ++ i ∷ []) there in
    let at : slice_get old g ≡ Some stored.0 = ap (λ (ks : List Images). slice_get ks g) (sym same) ∙ stored.1 in
    let within = slice_get_within old g stored.0 at in omega (arith, within, long)
