-- The atoms at places, and the variables of such atoms.
use Rattle.std.proofs.Common.{◌≡◌, ◌≢◌, ℕ, zero, suc, ◌<◌, Bool, true, false, ◌&&◌, ◌||◌, not, List, [], ◌∷◌, length, get_or, Option, Some, None, refl, sym, ap, ◌∙◌, arith}
use Rattle.std.specs.Prelude.{slice_get, slice_index_or, nat_le, nat_lt, count_by, All, AllPairs}
use Rattle.std.specs.List.Sorted.{IsStrictlyIncreasing}
use Rattle.std.specs.List.{list_any, cons_option}
use Rattle.std.specs.Option.{option_map_or}
use Rattle.std.proofs.lemmas.Bool.{and_parts, not-true, false≢true, false_from_ne_true, both_ways, leb-true, le-leb, ltb-true}
use Rattle.std.proofs.lemmas.List.Elements.{All-cons, All-nil, All-head, All-tail, Contains-get_or}
use Rattle.std.proofs.lemmas.List.Kept.{AllPairs-cons, AllPairs-from_increasing}
use Rattle.std.proofs.lemmas.Option.{slice_get_within}
use Rattle.pddl_task.specs.Atoms.{Atom, contains, wants, at_most_one}
use Rattle.pddl_task.proofs.Lists.{Mem, bool_same, any_at, all_mem, mem_from_contains}
use Rattle.pddl_task.proofs.AtomLaws.{one_from, one_of, contains_mem, mem_contains}
use Rattle.ground_atoms.specs.Order.{AreDistinct}
use Rattle.mutex_index.specs.Groups.{is_constant, is_excluded, is_usable, is_full}
use Rattle.index_rows.specs.Numbers.{has}
use Rattle.mutex_index.specs.Places.{Indexed, atoms_at, literal_places}
use Rattle.index_rows.proofs.NumberLaws.{has_mem, mem_has}
use Rattle.mutex_index.proofs.TestLaws.{mem_group, group_mem}
use Rattle.mutex_index.proofs.IndexLaws.{counted_one, one_counted, get_of_within, one_place, has_wanted_places}
use Rattle.translate_theory.specs.Translations.{Variable, IsGroupVariable, IsVariableOver}
use Rattle.mutex.specs.Proposals.{is_movable}
use Rattle.translate_choice.specs.Choices.{is_constant_at, is_left, AreGoals, IsRest, IsNext}
use Rattle.translate_choice.specs.Greedy.{is_fit, variable_of}

-- what holds of each member holds of all
pub all_of : {X : Type 0} (P : X → Type 0) (xs : List X) → ((x : X) → Mem x xs → P x) → All P xs
all_of P xs h k d l = h (get_or xs k d) (mem_from_contains xs (get_or xs k d) (Contains-get_or xs k d l))

-- the atoms at places

-- each place within the list gives an atom
length_at : (atoms : List Atom) (places : List ℕ) → All (λ p. p < length atoms) places → length (atoms_at atoms places) ≡ length places
length_at atoms [] h = refl
length_at atoms (p ∷ places) h =
    let x = get_of_within atoms p (All-head (λ q. q < length atoms) p places h) in
    go (slice_get atoms p) x.0 x.1 (length_at atoms places (All-tail (λ q. q < length atoms) p places h))
  where
    go : (o : Option Atom) (x : Atom) → o ≡ Some x → length (atoms_at atoms places) ≡ length places → length (cons_option o (atoms_at atoms places)) ≡ suc (length places)
    go None x e ih = cc e
    go (Some y) x e ih = ap suc ih

-- the atoms at the places are those of the places that are among them
pub contains_at : (atoms : List Atom) → AreDistinct atoms → (places : List ℕ) (k : ℕ) (x : Atom) → slice_get atoms k ≡ Some x → contains (atoms_at atoms places) x ≡ has places k
contains_at atoms distinct places k x e =
    bool_same (contains (atoms_at atoms places) x) (has places k)
    (λ h. let w = group_mem atoms places x (contains_mem (atoms_at atoms places) x h) in
    mem_has places k (rw (one_place atoms distinct k w.0 x e w.2) w.1))
    (λ h. mem_contains (atoms_at atoms places) x (mem_group atoms places k x (has_mem places k h) e))

-- atoms at places that differ
pub distinct_at : (atoms : List Atom) → AreDistinct atoms → (places : List ℕ) → AllPairs (λ p q. p < q) places → AllPairs (λ x y. x ≢ y) (atoms_at atoms places)
distinct_at atoms distinct [] h = λ i j d l m. absurd (omega arith)
distinct_at atoms distinct (p ∷ places) h =
    go (slice_get atoms p) refl (distinct_at atoms distinct places (λ i j d l m. h (suc i) (suc j) d (omega arith) (omega arith)))
  where
    later : (q : ℕ) → Mem q places → p < q
    later q m = all_mem (λ r. p < r) places q (λ k d l. h zero (suc k) d (omega arith) (omega arith)) m

    go : (o : Option Atom) → slice_get atoms p ≡ o → AllPairs (λ x y. x ≢ y) (atoms_at atoms places) → AllPairs (λ x y. x ≢ y) (cons_option o (atoms_at atoms places))
    go None e ih = ih
    go (Some x) e ih =
        AllPairs-cons (λ y z. y ≢ z) x (atoms_at atoms places)
        (all_of (λ y. x ≢ y) (atoms_at atoms places) (λ y m same.
        let w = group_mem atoms places y m in
        let there : slice_get atoms w.0 ≡ Some x = w.2 ∙ ap Some (sym same) in
        let one : p ≡ w.0 = one_place atoms distinct p w.0 x e there in
        let low : p < w.0 = later w.0 w.1 in
        omega arith))
        ih

module _ (index : Indexed) where
  -- what is told of a place that may be moved
  movable_at : (p : ℕ) → is_movable index p ≡ true
      → (x : Atom) × (slice_get index.atoms p ≡ Some x) × (is_constant index.task index.actions x ≡ false) × (is_excluded index.task index.actions x ≡ false)
  movable_at p h = go (slice_get index.atoms p) refl h
    where
      go : (o : Option Atom) → slice_get index.atoms p ≡ o
          → option_map_or (λ q. not (is_constant index.task index.actions q) && not (is_excluded index.task index.actions q)) o false ≡ true
          → (x : Atom) × (slice_get index.atoms p ≡ Some x) × (is_constant index.task index.actions x ≡ false) × (is_excluded index.task index.actions x ≡ false)
      go None e h = absurd (false≢true h)
      go (Some x) e h =
          let parts = and_parts (not (is_constant index.task index.actions x)) (not (is_excluded index.task index.actions x)) h in
          (x, e, not-true (is_constant index.task index.actions x) parts.0, not-true (is_excluded index.task index.actions x) parts.1)

  pub movable_within : (places : List ℕ) → All (λ p. is_movable index p ≡ true) places → All (λ p. p < length index.atoms) places
  movable_within places h k d l = let w = movable_at (get_or places k d) (h k d l) in slice_get_within index.atoms (get_or places k d) w.0 w.1

  pub constant_is : (p : ℕ) (x : Atom) → slice_get index.atoms p ≡ Some x → is_constant_at index p ≡ is_constant index.task index.actions x
  constant_is p x e = ap (λ (o : Option Atom). option_map_or (is_constant index.task index.actions) o false) e

  not_constant : (p : ℕ) → is_movable index p ≡ true → is_constant_at index p ≡ false
  not_constant p h = let w = movable_at p h in constant_is p w.0 w.1 ∙ w.2

  none_excluded : (places : List ℕ) → All (λ p. is_movable index p ≡ true) places → list_any (is_excluded index.task index.actions) (atoms_at index.atoms places) ≡ false
  none_excluded places h =
      false_from_ne_true (list_any (is_excluded index.task index.actions) (atoms_at index.atoms places)) (λ e.
      let x = any_at (is_excluded index.task index.actions) (atoms_at index.atoms places) e in
      let p = group_mem index.atoms places x.0 x.1 in
      let w = movable_at p.0 (all_mem (λ q. is_movable index q ≡ true) places p.0 h p.1) in
      let same : w.0 ≡ x.0 = cc (w.1, p.2) in
      both_ways (is_excluded index.task index.actions x.0) (rw same at w.3) x.2)

  -- flags at the places of the goal's atoms
  pub goals_from : (flags : List Bool) (places : List ℕ) → AreDistinct index.atoms → places ≡ literal_places index.atoms true index.task.goal
      → ((p : ℕ) → p < length index.atoms → slice_index_or flags p false ≡ has places p) → AreGoals index flags
  goals_from flags places distinct e told p x at_p =
      told p (slice_get_within index.atoms p x at_p) ∙ ap (λ (ps : List ℕ). has ps p) e ∙ has_wanted_places index.atoms distinct p x at_p index.task.goal

  -- at most one flag of the places is set exactly where at most one of their atoms is a goal
  pub one_goal_is : (goals : List Bool) (places : List ℕ) → AreDistinct index.atoms → AreGoals index goals → IsStrictlyIncreasing places
      → All (λ p. p < length index.atoms) places
      → nat_le (count_by (λ p. slice_index_or goals p false) places) 1 ≡ at_most_one (wants index.task.goal) (atoms_at index.atoms places)
  one_goal_is goals places distinct told rising within =
      let goal_at = (λ (p : ℕ). slice_index_or goals p false) in
      let group = atoms_at index.atoms places in
      bool_same (nat_le (count_by goal_at places) 1) (at_most_one (wants index.task.goal) group)
      (λ few. one_from (wants index.task.goal) group (λ x y mx my wx wy.
      let p = group_mem index.atoms places x mx in
      let q = group_mem index.atoms places y my in
      let one : p.0 ≡ q.0 = counted_one goal_at places (leb-true (count_by goal_at places) 1 few)
      p.0 q.0 p.1 q.1 (told p.0 x p.2 ∙ wx) (told q.0 y q.2 ∙ wy) in
      let e = p.2 in let f = q.2 in cc))
      (λ h. le-leb (count_by goal_at places) 1
      (one_counted goal_at places (λ i j l m. AllPairs-from_increasing places rising i j 0 l m) (λ p q mp mq tp tq.
      let x = get_of_within index.atoms p (all_mem (λ r. r < length index.atoms) places p within mp) in
      let y = get_of_within index.atoms q (all_mem (λ r. r < length index.atoms) places q within mq) in
      let same : x.0 ≡ y.0 = one_of (wants index.task.goal) group h x.0 y.0 (mem_group index.atoms places p x.0 mp x.1) (mem_group index.atoms places q y.0 mq y.1)
      (sym (told p x.0 x.1) ∙ tp) (sym (told q y.0 y.1) ∙ tq) in
      one_place index.atoms distinct p q y.0 (x.1 ∙ ap Some same) y.1)))

  pub fit_parts : (places : List ℕ) → is_fit index places ≡ true
      → (1 < length places) × (at_most_one (wants index.task.goal) (atoms_at index.atoms places) ≡ true)
      × (is_usable index.task index.actions (atoms_at index.atoms places) ≡ true)
  fit_parts places h =
      let parts = and_parts _ _ h in
      let first = and_parts (nat_lt 1 (length places)) (at_most_one (wants index.task.goal) (atoms_at index.atoms places)) parts.0 in
      (ltb-true 1 (length places) first.0, first.1, parts.1)

  pub fit_several : (places : List ℕ) → is_fit index places ≡ true → 1 < length places
  fit_several places h = (fit_parts places h).0

  -- several atoms are judged as a group
  several_over : (v : Variable) (atoms : List Atom) → 1 < length atoms → IsGroupVariable index.task index.actions v → IsVariableOver index.task index.actions v atoms
  several_over v [] l g = absurd (omega arith)
  several_over v (x ∷ []) l g = absurd (omega arith)
  several_over v (x ∷ y ∷ rest) l g = g

  pub group_next : (taken : List Bool) (places : List ℕ) → IsRest index taken places → is_fit index places ≡ true → IsNext index taken (variable_of index places)
  group_next taken places rest fit =
      let within = movable_within places rest.movable in
      let parts = fit_parts places fit in
      let many = parts.0 in
      record {
        placed = record { some = omega (arith, many); rising = rest.rising; within = within };
        fit = several_over (record { atoms = atoms_at index.atoms places; has_none = (variable_of index places).has_none }) (atoms_at index.atoms places)
            (omega (arith, length_at index.atoms places within, many))
            (record {
              usable = parts.2;
              kind = either (is_full index.task index.actions (atoms_at index.atoms places));
              positive = none_excluded places rest.movable;
              one_goal = parts.1;
            });
        changing = λ k d l. not_constant (get_or places k d) (rest.movable k d l);
        free = rest.free;
      }
    where
      either : (b : Bool) → (not b || b) ≡ true
      either true = refl
      either false = refl

  pub single_next : (taken : List Bool) (p : ℕ) → p < length index.atoms → is_left index taken p ≡ true → IsNext index taken (record { places = p ∷ []; has_none = true })
  single_next taken p l left =
      let parts = and_parts (not (slice_index_or taken p false)) (not (is_constant_at index p)) left in
      let free = not-true (slice_index_or taken p false) parts.0 in
      let changing = not-true (is_constant_at index p) parts.1 in
      record {
        placed = record {
          some = omega arith;
          rising = λ k m. absurd (omega arith);
          within = All-cons (λ q. q < length index.atoms) p [] l (All-nil (λ q. q < length index.atoms));
        };
        fit = alone (slice_get index.atoms p) (get_of_within index.atoms p l);
        changing = All-cons (λ q. is_constant_at index q ≡ false) p [] changing (All-nil (λ q. is_constant_at index q ≡ false));
        free = All-cons (λ q. slice_index_or taken q false ≡ false) p [] free (All-nil (λ q. slice_index_or taken q false ≡ false));
      }
    where
      alone : (o : Option Atom) → (x : Atom) × (o ≡ Some x)
          → IsVariableOver index.task index.actions (record { atoms = cons_option o []; has_none = true }) (cons_option o [])
      alone None w = let e = w.1 in absurd (cc e)
      alone (Some x) w = refl
