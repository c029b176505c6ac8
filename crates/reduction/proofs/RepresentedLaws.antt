-- Representatives of operators, and why operators without one leave the states of the reduced task.
use Rattle.std.proofs.Common.{◌≡◌, ℕ, zero, suc, ◌+◌, ◌<◌, ◌≤◌, Bool, true, false, List, [], ◌∷◌, ◌++◌, length, map, get_or, Option, Some, None, refl, sym, ap, subst, ◌∙◌, arith, inl, inr, ⊎_elim}
use Rattle.std.specs.Prelude.{◌↔◌, All, Contains, IfSome, IsSomeAnd, option_map, slice_get, slice_index, slice_set}
use Rattle.std.specs.List.{list_any, cons_option}
use Rattle.std.specs.Option.{option_map_or}
use Rattle.std.proofs.lemmas.Bool.{or_parts, false≢true, cases_Bool, cases_eq, cases_lt}
use Rattle.std.proofs.lemmas.Option.{none-some, slice_get-map, slice_get-get_or, slice_get_within, get_or_from_slice_get}
use Rattle.std.proofs.lemmas.List.{length-map, length_push, length-set, get_or-set_same, get_or-set_other, get_or_default}
use Rattle.std.proofs.lemmas.List.Elements.{All-nil, All-cons, All-head, All-tail, All-contains, Contains-get_or}
use Rattle.fdr.specs.declared.fact.Fact.{Fact}
use Rattle.fdr.specs.Tasks.{FiniteDomainTask, Operator, ranges, IsTask, IsOperator, IsInRange, cost_of}
use Rattle.abstraction.specs.Facts.{value_in}
use Rattle.abstraction.specs.Steps.{found, at_some}
use Rattle.abstraction_domain.specs.Rows.{class_count, AreNumbered}
use Rattle.reduction_classes.specs.Classes.{row_of, class_of, number_of}
use Rattle.reduction_classes.specs.Reduced.{reduced_fact, reduced_facts, reduced_operator, reduced_with}
use Rattle.reduction_classes.proofs.Staying.{at_number}
use Rattle.reduction_classes.proofs.Runs.{as_many, row_long, read_reduced_range}
use Rattle.reduction.specs.Facts.{Facts, fact}
use Rattle.reduction.specs.Asked.{are_apart, has_two_classes, changes_class, changes_classes, ChangesClass, AreClassesBy}
use Rattle.reduction.specs.Retained.{AreEqualAt}
use Rattle.reduction.specs.Images.{HasImage}
use Rattle.reduction.specs.Groups.{AreGroups, IsGroupOf, AreGroupsOf}
use Rattle.reduction.specs.Adding.{Adds}
use Rattle.reduction.specs.Closing.{is_marked}
use Rattle.reduction.specs.Represented.{IsGiven, LeavesStates, IsRepresentedBy, AreRepresented}
use Rattle.reduction.proofs.Members.{Contains-here, Contains-there, Contains-cases, none_in}
use Rattle.reduction.proofs.FactLists.{value_has}
use Rattle.reduction.proofs.Steps.{all_in_one}
use Rattle.reduction.proofs.GroupLaws.{push_old, has_element, equal_at}

-- ---- groups of operators

-- what holds of each element by its index still does after a push
push_each : {X : Type 0} (P : ℕ → X → Type 0) (xs : List X) (x : X) → ((k : ℕ) → IfSome (slice_get xs k) (P k)) → P (length xs) x → (o : ℕ) → IfSome (slice_get (xs ++ x ∷ []) o) (P o)
push_each P [] x h p zero = p
push_each P [] x h p (suc o) = tt
push_each P (y ∷ ys) x h p zero = h zero
push_each P (y ∷ ys) x h p (suc o) = push_each (λ k. P (suc k)) ys x (λ k. h (suc k)) p o

if_some_weaker : {X : Type 0} (P Q : X → Type 0) (r : Option X) → ((x : X) → P x → Q x) → IfSome r P → IfSome r Q
if_some_weaker P Q None h p = tt
if_some_weaker P Q (Some x) h p = h x p

module _ (task : FiniteDomainTask) (classes : List (List ℕ)) (marks : List Bool) where
  pub grouped_none : AreGroupsOf task classes marks 0 [] []
  grouped_none = record { as_many = refl; each = λ o. tt }

  pub grouped_skip : (n : ℕ) (images : List (List Fact × List Fact)) (groups more : List (Option ℕ)) → AreGroupsOf task classes marks n images groups → is_marked marks n ≡ false → more ≡ groups ++ None ∷ [] →
      AreGroupsOf task classes marks (n + 1) images more
  grouped_skip n images groups more are h e =
      subst (AreGroupsOf task classes marks (n + 1) images) (sym e)
      (record {
        as_many = omega (arith, length_push groups no_group, are.as_many);
        each = push_each (IsGroupOf task classes marks images) groups None are.each (subst (λ (k : ℕ). is_marked marks k ≡ false) (sym are.as_many) h);
      })
    where
      no_group : Option ℕ
      no_group = None

  -- groups stay with the operators as others are added
  group_stays : (old new : List (List Fact × List Fact)) → ((g : ℕ) (i : List Fact × List Fact) → slice_get old g ≡ Some i → slice_get new g ≡ Some i) →
      (o : ℕ) (r : Option ℕ) → IsGroupOf task classes marks old o r → IsGroupOf task classes marks new o r
  group_stays old new keeps o None h = h
  group_stays old new keeps o (Some g) h = (h.0, go (slice_get old g) refl h.1)
    where
      go : (q : Option (List Fact × List Fact)) → slice_get old g ≡ q → IsSomeAnd q (λ i. HasImage task classes o i.0 i.1) → IsSomeAnd (slice_get new g) (λ i. HasImage task classes o i.0 i.1)
      go None e k = absurd k
      go (Some i) e k = subst (λ (q : Option (List Fact × List Fact)). IsSomeAnd q (λ j. HasImage task classes o j.0 j.1)) (sym (keeps g i e)) k

  kept : (old new : List (List Fact × List Fact)) (best after : List ℕ) (q : List Fact × List Fact) (n : ℕ) → Adds task old new best after q n →
      (g : ℕ) (i : List Fact × List Fact) → slice_get old g ≡ Some i → slice_get new g ≡ Some i
  kept old new best after q n (inl begins) g i h = subst (λ (xs : List (List Fact × List Fact)). slice_get xs g ≡ Some i) (sym begins.images) (push_old old q g i h)
  kept old new best after q n (inr joins) g i h = subst (λ (xs : List (List Fact × List Fact)). slice_get xs g ≡ Some i) (sym joins.images) h

  pub grouped_add : (n : ℕ) (old new : List (List Fact × List Fact)) (best after : List ℕ) (q : List Fact × List Fact) (groups more : List (Option ℕ)) (g : ℕ) → AreGroupsOf task classes marks n old groups → is_marked marks n ≡ true →
      Adds task old new best after q n → slice_get new g ≡ Some q → HasImage task classes n q.0 q.1 → more ≡ groups ++ Some g ∷ [] → AreGroupsOf task classes marks (n + 1) new more
  grouped_add n old new best after q groups more g are marked adds at image e =
      subst (AreGroupsOf task classes marks (n + 1) new) (sym e)
      (record {
        as_many = omega (arith, length_push groups (Some g), are.as_many);
        each = push_each (IsGroupOf task classes marks new) groups (Some g)
            (λ k. if_some_weaker (IsGroupOf task classes marks old k) (IsGroupOf task classes marks new k) (slice_get groups k) (group_stays old new (kept old new best after q n adds) k) (are.each k)) (
              subst (λ (k : ℕ). is_marked marks k ≡ true) (sym are.as_many) marked,
              subst (λ (r : Option (List Fact × List Fact)). IsSomeAnd r (λ i. HasImage task classes (length groups) i.0 i.1)) (sym at) (subst (λ (k : ℕ). HasImage task classes k q.0 q.1) (sym are.as_many) image),
            );
      })

  -- the groups exist
  pub groups_exist : (n : ℕ) (images : List (List Fact × List Fact)) (best : List ℕ) (groups : List (Option ℕ)) → AreGroups task classes marks n images best → AreGroupsOf task classes marks n images groups →
      All (λ r. IfSome r (λ g. g < length best)) groups
  groups_exist n images best groups are of k d l =
      go (get_or groups k d) (at_some (IsGroupOf task classes marks images k) (slice_get groups k) (get_or groups k d) (slice_get-get_or groups k d l) (of.each k))
    where
      inside : (g : ℕ) (q : Option (List Fact × List Fact)) → slice_get images g ≡ q → IsSomeAnd q (λ i. HasImage task classes k i.0 i.1) → g < length best
      inside g None e h = absurd h
      inside g (Some i) e h = let within = slice_get_within images g i e in omega (arith, within, are.as_many)

      go : (r : Option ℕ) → IsGroupOf task classes marks images k r → IfSome r (λ g. g < length best)
      go None h = tt
      go (Some g) h = inside g (slice_get images g) refl h.1

-- ---- operators that change no class

-- a row of zeros has one class
zeros : (row : List ℕ) → ((k : ℕ) → k < length row → slice_index row k ≡ 0) → class_count row ≤ 1
zeros [] h = omega arith
zeros (c ∷ cs) h =
    let first : c ≡ 0 = h zero (omega arith) in
    let rest = zeros cs (λ k l. h (suc k) (omega arith)) in
    omega (arith, first, rest)

-- the first class is 0
first_class : (row : List ℕ) → AreNumbered row → 0 < length row → slice_index row 0 ≡ 0
first_class row numbered l =
    ⊎_elim (λ c. absurd (none_in (slice_index row 0) c))
    (λ least. ⊎_elim (λ (e : slice_index row 0 ≡ 0). e) (λ (ne : slice_index row 0 ≡ 0 → ⊥). absurd (none_in 0 (least.below 0 (omega (arith, ne))))) (cases_eq (slice_index row 0) 0))
    (numbered 0 l)

module _ (task : FiniteDomainTask) (classes : List (List ℕ)) (asked : Facts) (by : AreClassesBy (ranges task) asked classes) (is_task : IsTask task) where
  abbrev its_ranges : List ℕ
  its_ranges = ranges (reduced_with classes task [])

  -- a variable with one class has at most one
  one_count : (v x : ℕ) → v < length (ranges task) → x < slice_index (ranges task) v → has_two_classes (ranges task) asked v ≡ false → class_count (row_of classes v) ≤ 1
  one_count v x l k h =
      let within : v < length classes = omega (arith, l, as_many task classes by.fit) in
      let long = row_long task classes by.fit v within in
      let numbered : AreNumbered (row_of classes v) = by.numbered v [] within in
      let first : slice_index (row_of classes v) 0 ≡ 0 = first_class (row_of classes v) numbered (omega (arith, k, long)) in
      zeros (row_of classes v) (λ j m. all_in_one task classes asked by task.initial is_task.initial v j 0 l (omega (arith, m, long)) (omega (arith, k)) h ∙ first)

  -- the image of a condition is among the images of the conditions
  image_in_facts : (fs : List Fact) (f g : Fact) → Contains fs f → reduced_fact classes f ≡ Some g → Contains (reduced_facts classes fs) g
  image_in_facts [] f g c e = absurd (none_in f c)
  image_in_facts (h ∷ hs) f g c e =
      ⊎_elim
      (λ (q : h ≡ f). subst (λ (r : Option Fact). Contains (cons_option r (reduced_facts classes hs)) g) (sym (ap (reduced_fact classes) q ∙ e)) (Contains-here g (reduced_facts classes hs)))
      (λ (d : Contains hs f). later (reduced_fact classes h) (image_in_facts hs f g d e))
      (Contains-cases h f hs c)
    where
      later : (r : Option Fact) → Contains (reduced_facts classes hs) g → Contains (cons_option r (reduced_facts classes hs)) g
      later None d = d
      later (Some x) d = Contains-there x g (reduced_facts classes hs) d

  -- the image of an effect that changes no class is given
  given : (precondition : List Fact) (e : Fact) → All (IsInRange (ranges task)) precondition → IsInRange (ranges task) e → changes_class (ranges task) asked precondition e ≡ false →
      IfSome (reduced_fact classes e) (IsGiven its_ranges (reduced_facts classes precondition))
  given precondition e all here h = image (number_of classes e.variable) refl
    where
      on : e.variable < length classes
      on = omega (arith, here.0, as_many task classes by.fit)

      at : ℕ → Fact
      at n = record { variable = n; value = class_of classes e.variable e.value }

      image : (q : Option ℕ) → number_of classes e.variable ≡ q → IfSome (option_map at q) (IsGiven its_ranges (reduced_facts classes precondition))
      image None q = tt
      image (Some n) q = go (value_in precondition e.variable) refl h
        where
          go : (r : Option ℕ) → value_in precondition e.variable ≡ r → option_map_or (λ x. are_apart asked e.variable x e.value) r (has_two_classes (ranges task) asked e.variable) ≡ false →
              IsGiven its_ranges (reduced_facts classes precondition) (at n)
          go (Some x) p k =
              let has : Contains precondition (fact e.variable x) = value_has precondition e.variable x p in
              let range : IsInRange (ranges task) (fact e.variable x) = All-contains (IsInRange (ranges task)) precondition (fact e.variable x) all has in
              let same : class_of classes e.variable x ≡ class_of classes e.variable e.value = (by.shared e.variable x e.value here.0 range.1 here.1).1 k in
              inl (image_in_facts precondition (fact e.variable x) (at n) has
              (ap (option_map (λ (m : ℕ). fact m (class_of classes e.variable x))) q ∙ ap (λ (c : ℕ). Some (fact n c)) same))
          go None p k =
              let few = one_count e.variable e.value here.0 here.1 k in
              let place = at_number classes e.variable n on q in
              let read : slice_index its_ranges n ≡ class_count (row_of classes e.variable) =
              read_reduced_range task classes by.fit [] n place.0 ∙ ap (λ (v : ℕ). class_count (row_of classes v)) place.1 in
              inr (omega (arith, few, read, some_class e.variable e.value on here.1))
            where
              some_class : (v x : ℕ) → v < length classes → x < slice_index (ranges task) v → 0 < class_count (row_of classes v)
              some_class v x l m = positive (row_of classes v) (omega (arith, m, row_long task classes by.fit v l))
                where
                  positive : (row : List ℕ) → 0 < length row → 0 < class_count row
                  positive [] l = absurd (omega arith)
                  positive (c ∷ cs) l = omega arith

  -- the image of an operator that changes no class leaves states
  pub leaves_states : (op : Operator) → IsOperator (ranges task) op → changes_classes (ranges task) asked op ≡ false → LeavesStates its_ranges (reduced_operator classes op)
  leaves_states op well h = go op.effect well.effect.in_range h
    where
      go : (fs : List Fact) → All (IsInRange (ranges task)) fs → list_any (changes_class (ranges task) asked op.precondition) fs ≡ false → All (IsGiven its_ranges (reduced_facts classes op.precondition)) (reduced_facts classes fs)
      go [] all h = All-nil (IsGiven its_ranges (reduced_facts classes op.precondition))
      go (f ∷ fs) all h =
          let parts = or_parts (changes_class (ranges task) asked op.precondition f) (list_any (changes_class (ranges task) asked op.precondition) fs) h in
          join (reduced_fact classes f) (given op.precondition f well.precondition.in_range (All-head (IsInRange (ranges task)) f fs all) parts.0) (go fs (All-tail (IsInRange (ranges task)) f fs all) parts.1)
        where
          join : (r : Option Fact) → IfSome r (IsGiven its_ranges (reduced_facts classes op.precondition)) → All (IsGiven its_ranges (reduced_facts classes op.precondition)) (reduced_facts classes fs) →
              All (IsGiven its_ranges (reduced_facts classes op.precondition)) (cons_option r (reduced_facts classes fs))
          join None k rest = rest
          join (Some g) k rest = All-cons (IsGiven its_ranges (reduced_facts classes op.precondition)) g (reduced_facts classes fs) k rest

-- ---- representatives

-- the best operators of groups represent their operators
pub represented : (task : FiniteDomainTask) (classes : List (List ℕ)) (asked : Facts) (marks : List Bool) (images : List (List Fact × List Fact)) (best retained places : List ℕ) (groups representatives : List (Option ℕ)) →
    IsTask task → AreClassesBy (ranges task) asked classes → ((o : ℕ) → (is_marked marks o ≡ true) ↔ ChangesClass task asked o) → AreGroups task classes marks (length task.operators) images best →
    AreGroupsOf task classes marks (length task.operators) images groups → ((n : ℕ) → Contains best n → slice_get retained (slice_index places n) ≡ Some n) →
    representatives ≡ map (option_map (λ g. slice_index places (slice_index best g))) groups → AreRepresented task classes retained representatives
represented task classes asked marks images best retained places groups representatives well by marked are of at e =
    subst (AreRepresented task classes retained) (sym e)
    (record {
      as_many = length-map groups (option_map place) ∙ of.as_many;
      each = λ o. subst (λ (r : Option (Option ℕ)). IfSome r (IsRepresentedBy task classes retained o)) (sym (slice_get-map (option_map place) groups o)) (each o (slice_get groups o) refl (of.each o));
    })
  where
    place : ℕ → ℕ
    place g = slice_index places (slice_index best g)

    unmarked : (o : ℕ) → o < length task.operators → is_marked marks o ≡ false → IsRepresentedBy task classes retained o None
    unmarked o l h = go (slice_get task.operators o) refl (found (IsOperator (ranges task)) task.operators o well.operators)
      where
        go : (r : Option Operator) → slice_get task.operators o ≡ r → IfSome r (IsOperator (ranges task)) → IsSomeAnd r (λ op. LeavesStates (ranges (reduced_with classes task [])) (reduced_operator classes op))
        go None q ok = let none : ⊥ = none-some (get_or task.operators o (record { name = []; precondition = []; effect = []; cost = 0 })) (sym q ∙ slice_get-get_or task.operators o (record { name = []; precondition = []; effect = []; cost = 0 }) l) in absurd none
        go (Some op) q ok =
            leaves_states task classes asked by well op ok
            (⊎_elim
            (λ (t : changes_classes (ranges task) asked op ≡ true).
            absurd (false≢true (sym h ∙ (marked o).1 (subst (λ (r : Option Operator). IsSomeAnd r (λ p. changes_classes (ranges task) asked p ≡ true)) (sym q) t))))
            (λ (f : changes_classes (ranges task) asked op ≡ false). f)
            (cases_Bool (changes_classes (ranges task) asked op)))

    by_best : (o g : ℕ) (i : List Fact × List Fact) → o < length task.operators → is_marked marks o ≡ true → slice_get images g ≡ Some i → HasImage task classes o i.0 i.1 → IsRepresentedBy task classes retained o (Some (place g))
    by_best o g i l m a image =
        let b = has_element best g (let within = slice_get_within images g i a in omega (arith, within, are.as_many)) in
        let is = are.bests g b.0 i a b.1 in
        let read : slice_index best g ≡ b.0 = get_or_from_slice_get best g b.0 0 b.1 in
        let there : Contains best b.0 = (g, slice_get_within best g b.0 b.1, get_or_from_slice_get best g b.0 b.0 b.1) in
        let stands : slice_get retained (place g) ≡ Some b.0 = ap (λ (n : ℕ). slice_get retained (slice_index places n)) read ∙ at b.0 there in
        let cheap : cost_of task b.0 ≤ cost_of task o =
        ⊎_elim (λ (k : cost_of task o < cost_of task b.0). absurd (is.first o l m image (inl k))) (λ (k : cost_of task b.0 ≤ cost_of task o). k) (cases_lt (cost_of task o) (cost_of task b.0)) in
        subst (λ (r : Option ℕ). IsSomeAnd r (λ p. AreEqualAt task classes o p × (cost_of task p ≤ cost_of task o))) (sym stands) (equal_at task classes o b.0 i image is.image, cheap)

    each : (o : ℕ) (r : Option (Option ℕ)) → slice_get groups o ≡ r → IfSome r (IsGroupOf task classes marks images o) → IfSome (option_map (option_map place) r) (IsRepresentedBy task classes retained o)
    each o None q h = tt
    each o (Some None) q h = unmarked o (let within = slice_get_within groups o None q in omega (arith, within, of.as_many)) h
    each o (Some (Some g)) q h = go (slice_get images g) refl h.1
      where
        within : o < length task.operators
        within = let l = slice_get_within groups o (Some g) q in omega (arith, l, of.as_many)

        go : (r : Option (List Fact × List Fact)) → slice_get images g ≡ r → IsSomeAnd r (λ i. HasImage task classes o i.0 i.1) → IsRepresentedBy task classes retained o (Some (place g))
        go None a k = absurd k
        go (Some i) a k = by_best o g i within h.0 a k

-- ---- places

-- numbers that are among others are below their limit
pub below_same : (count : ℕ) (xs ys : List ℕ) → ((n : ℕ) → Contains ys n ↔ Contains xs n) → All (λ o. o < count) xs → All (λ o. o < count) ys
below_same count xs ys same all k d l = All-contains (λ o. o < count) xs (get_or ys k d) all ((same (get_or ys k d)).0 (Contains-get_or ys k d l))

-- the places of the first i of the numbers
pub record ArePlaces (count i : ℕ) (numbers places : List ℕ) : Type 0 where
  pub long : length places ≡ count
  pub each : (k : ℕ) → k < i → slice_get numbers (slice_index places (slice_index numbers k)) ≡ Some (slice_index numbers k)

pub places_none : (count : ℕ) (numbers places : List ℕ) → length places ≡ count → ArePlaces count 0 numbers places
places_none count numbers places e = record { long = e; each = λ k l. absurd (omega (arith, l)) }

pub places_more : (count i : ℕ) (numbers places : List ℕ) → i < length numbers → slice_index numbers i < count → ArePlaces count i numbers places → ArePlaces count (i + 1) numbers (slice_set places (slice_index numbers i) i)
places_more count i numbers places l within are =
    record {
      long = length-set places (slice_index numbers i) i ∙ are.long;
      each = λ k m. ⊎_elim (λ (e : slice_index numbers k ≡ slice_index numbers i). same k e) (λ (ne : slice_index numbers k ≡ slice_index numbers i → ⊥). other k ne m) (cases_eq (slice_index numbers k) (slice_index numbers i));
    }
  where
    here : slice_get numbers (slice_index (slice_set places (slice_index numbers i) i) (slice_index numbers i)) ≡ Some (slice_index numbers i)
    here = ap (slice_get numbers) (get_or-set_same places (slice_index numbers i) i 0 (omega (arith, within, are.long))) ∙ slice_get-get_or numbers i 0 l

    same : (k : ℕ) → slice_index numbers k ≡ slice_index numbers i → slice_get numbers (slice_index (slice_set places (slice_index numbers i) i) (slice_index numbers k)) ≡ Some (slice_index numbers k)
    same k e = subst (λ (n : ℕ). slice_get numbers (slice_index (slice_set places (slice_index numbers i) i) n) ≡ Some n) (sym e) here

    other : (k : ℕ) → (slice_index numbers k ≡ slice_index numbers i → ⊥) → k < i + 1 → slice_get numbers (slice_index (slice_set places (slice_index numbers i) i) (slice_index numbers k)) ≡ Some (slice_index numbers k)
    other k ne m =
        let before : k < i = ⊎_elim (λ (e : k ≡ i). absurd (ne (ap (slice_index numbers) e))) (λ (q : k ≡ i → ⊥). omega (arith, m, q)) (cases_eq k i) in
        ap (slice_get numbers) (get_or-set_other places (slice_index numbers i) (slice_index numbers k) i 0 ne) ∙ are.each k before

pub places_all : (count i : ℕ) (numbers places : List ℕ) → length numbers ≤ i → ArePlaces count i numbers places → (n : ℕ) → Contains numbers n → slice_get numbers (slice_index places n) ≡ Some n
places_all count i numbers places l are n h =
    let within : h.0 < i = omega (arith, l, h.1) in
    let same : slice_index numbers h.0 ≡ n = get_or_default numbers h.0 0 n h.1 ∙ h.2 in
    subst (λ (m : ℕ). slice_get numbers (slice_index places m) ≡ Some m) same (are.each h.0 within)
