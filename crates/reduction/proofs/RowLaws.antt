-- The classes of one variable by its asked values, value by value.
use Rattle.std.proofs.Common.{◌≡◌, ℕ, ◌+◌, ◌<◌, ◌≤◌, max, Bool, true, false, List, [], ◌∷◌, ◌++◌, length, take, get_or, Option, Some, None, refl, sym, ap, subst, ◌∙◌, arith, cond, eqb, ⊎_elim}
use Rattle.std.specs.Prelude.{◌⊎◌, ◌||◌, not, Contains, MatchOption, slice_index, unwrap_or}
use Rattle.std.proofs.lemmas.Bool.{eqb-true, eq-eqb, and_cases, and_left, and_right, or_parts, or_from, not-false, not_from_true, false≢true, cases_eq, cases_Bool}
use Rattle.std.proofs.lemmas.List.{length_push, take-append-le, take_all, get_or_append_left, get_or_push}
use Rattle.std.proofs.lemmas.List.Elements.{Contains-get_or}
use Rattle.abstraction_domain.specs.Rows.{class_count, IsLeastAbsent, AreNumbered}
use Rattle.abstraction_domain.proofs.Numbering.{AreCounted, none_counted, known, fresh}
use Rattle.reduction.specs.Rows.{apart_in, ShareBy}

-- the class of the next value, if the least number that is not used is `next`
abbrev pub next_class : Bool → Option ℕ → ℕ → ℕ
next_class b others next = cond b next (unwrap_or others next)

-- the class that the values share that nobody asks for
abbrev pub next_others : Bool → Option ℕ → ℕ → Option ℕ
next_others b others next = cond b others (Some (next_class b others next))

-- the values of the first k that nobody asks for are in the class c, and there is one
pub record AreIn (asked : List Bool) (k : ℕ) (classes : List ℕ) (next c : ℕ) : Type 0 where
  pub below : c < next
  pub all : (x : ℕ) → x < k → get_or asked x false ≡ false → slice_index classes x ≡ c
  pub first : ℕ
  pub within : first < k
  pub unasked : get_or asked first false ≡ false

-- the first k values have their classes
pub record IsRow (asked : List Bool) (k next : ℕ) (others : Option ℕ) (classes : List ℕ) : Type 0 where
  pub long : length classes ≡ k
  pub counted : AreCounted classes k next
  pub merged : MatchOption others ((x : ℕ) → x < k → get_or asked x false ≡ true) (λ c. AreIn asked k classes next c)
  pub apart : (x y : ℕ) → x < k → y < k → (x ≡ y → ⊥) → get_or asked x false ≡ true → slice_index classes x ≡ slice_index classes y → ⊥

-- a longer list has the same first classes
counted_longer : (cs : List ℕ) (k n c : ℕ) → length cs ≡ k → AreCounted cs k n → AreCounted (cs ++ c ∷ []) k n
counted_longer cs k n c long are =
    record {
      count = are.count ∙ ap class_count (sym front);
      exactly = λ d. (λ l. subst (λ (xs : List ℕ). Contains xs d) (sym front) ((are.exactly d).0 l), λ h. (are.exactly d).1 (subst (λ (xs : List ℕ). Contains xs d) front h));
      numbered = λ j l. subst (λ (xs : List ℕ). Contains xs (slice_index (cs ++ c ∷ []) j) ⊎ IsLeastAbsent xs (slice_index (cs ++ c ∷ []) j)) (sym (shorter j l))
          (subst (λ (x : ℕ). Contains (take j cs) x ⊎ IsLeastAbsent (take j cs) x) (sym (read j l)) (are.numbered j l));
      at_most = are.at_most;
    }
  where
    front : take k (cs ++ c ∷ []) ≡ take k cs
    front = take-append-le k cs (c ∷ []) (omega (arith, long))

    shorter : (j : ℕ) → j < k → take j (cs ++ c ∷ []) ≡ take j cs
    shorter j l = take-append-le j cs (c ∷ []) (omega (arith, l, long))

    read : (j : ℕ) → j < k → slice_index (cs ++ c ∷ []) j ≡ slice_index cs j
    read j l = get_or_append_left cs (c ∷ []) 0 j (omega (arith, l, long))

pub row_none : (asked : List Bool) → IsRow asked 0 0 None []
row_none asked = record { long = refl; counted = none_counted []; merged = λ x l. absurd (omega arith); apart = λ x y l. absurd (omega arith) }

module _ (asked : List Bool) (k next : ℕ) (others : Option ℕ) (classes : List ℕ) (row : IsRow asked k next others classes) where
  -- a class that occurs is below the next
  class_low : (x : ℕ) → x < k → slice_index classes x < next
  class_low x l =
      let whole : take k classes ≡ classes = take_all k classes (omega (arith, row.long)) in
      (row.counted.exactly (slice_index classes x)).1
      (subst (λ (cs : List ℕ). Contains cs (slice_index classes x)) (sym whole) (Contains-get_or classes x 0 (omega (arith, l, row.long))))

  module _ (c : ℕ) where
    abbrev longer : List ℕ
    longer = classes ++ c ∷ []

    old : (x : ℕ) → x < k → slice_index longer x ≡ slice_index classes x
    old x l = get_or_append_left classes (c ∷ []) 0 x (omega (arith, l, row.long))

    new : slice_index longer k ≡ c
    new = get_or_push classes c 0 k row.long

    counted_old : AreCounted longer k next
    counted_old = counted_longer classes k next c row.long row.counted

    inside : k < length longer
    inside = omega (arith, length_push classes c, row.long)

  -- the next value begins a class
  fresh_counted : AreCounted (classes ++ next ∷ []) (k + 1) (max next (next + 1))
  fresh_counted =
      let e : max next (next + 1) ≡ next + 1 = omega arith in
      rw e (fresh (classes ++ next ∷ []) k next next (counted_old next) (inside next) (sym (new next)) refl)

  -- values apart stay apart, and the next is apart from all before it
  fresh_apart : (x y : ℕ) → x < k + 1 → y < k + 1 → (x ≡ y → ⊥) → get_or asked x false ≡ true → slice_index (classes ++ next ∷ []) x ≡ slice_index (classes ++ next ∷ []) y → ⊥
  fresh_apart x y lx ly ne a e =
      ⊎_elim
      (λ (q : x ≡ k).
      let l : y < k = omega arith in
      let here : slice_index (classes ++ next ∷ []) x ≡ next = ap (slice_index (classes ++ next ∷ [])) q ∙ new next in
      let low = class_low y l in let same = old next y l in omega (arith, here, low, same, e))
      (λ (q : x ≡ k → ⊥).
      let l : x < k = omega arith in
      ⊎_elim
      (λ (p : y ≡ k). let here : slice_index (classes ++ next ∷ []) y ≡ next = ap (slice_index (classes ++ next ∷ [])) p ∙ new next in let low = class_low x l in let same = old next x l in omega (arith, here, low, same, e))
      (λ (p : y ≡ k → ⊥). let m : y < k = omega arith in row.apart x y l m ne a (sym (old next x l) ∙ e ∙ old next y m))
      (cases_eq y k))
      (cases_eq x k)

-- an asked value
row_asked : (asked : List Bool) (k next : ℕ) (others : Option ℕ) (classes : List ℕ) → IsRow asked k next others classes → get_or asked k false ≡ true → IsRow asked (k + 1) (max next (next + 1)) others (classes ++ next ∷ [])
row_asked asked k next others classes row a =
    record {
      long = omega (arith, length_push classes next, row.long);
      counted = fresh_counted asked k next others classes row;
      merged = go others row.merged;
      apart = fresh_apart asked k next others classes row;
    }
  where
    go : (r : Option ℕ) → MatchOption r ((x : ℕ) → x < k → get_or asked x false ≡ true) (λ c. AreIn asked k classes next c) →
        MatchOption r ((x : ℕ) → x < k + 1 → get_or asked x false ≡ true) (λ c. AreIn asked (k + 1) (classes ++ next ∷ []) (max next (next + 1)) c)
    go None all = λ x l. ⊎_elim (λ (q : x ≡ k). subst (λ (z : ℕ). get_or asked z false ≡ true) (sym q) a) (λ (q : x ≡ k → ⊥). all x (omega arith)) (cases_eq x k)
    go (Some c) are =
        record {
          below = omega (arith, are.below);
          all = λ x l u. ⊎_elim
              (λ (q : x ≡ k). absurd (false≢true (sym u ∙ subst (λ (z : ℕ). get_or asked z false ≡ true) (sym q) a)))
              (λ (q : x ≡ k → ⊥). let m : x < k = omega arith in old asked k next others classes row next x m ∙ are.all x m u) (cases_eq x k);
          first = are.first;
          within = omega (arith, are.within);
          unasked = are.unasked;
        }

-- the first value that nobody asks for
row_first : (asked : List Bool) (k next : ℕ) (classes : List ℕ) → IsRow asked k next None classes → get_or asked k false ≡ false → IsRow asked (k + 1) (max next (next + 1)) (Some next) (classes ++ next ∷ [])
row_first asked k next classes row u =
    record {
      long = omega (arith, length_push classes next, row.long);
      counted = fresh_counted asked k next None classes row;
      merged = record {
        below = omega arith;
        all = λ x l v. ⊎_elim
            (λ (q : x ≡ k). ap (slice_index (classes ++ next ∷ [])) q ∙ new asked k next None classes row next)
            (λ (q : x ≡ k → ⊥). absurd (false≢true (sym v ∙ row.merged x (omega arith)))) (cases_eq x k);
        first = k;
        within = omega arith;
        unasked = u;
      };
      apart = fresh_apart asked k next None classes row;
    }

-- another one
row_other : (asked : List Bool) (k next c : ℕ) (classes : List ℕ) → IsRow asked k next (Some c) classes → get_or asked k false ≡ false → IsRow asked (k + 1) (max next (c + 1)) (Some c) (classes ++ c ∷ [])
row_other asked k next c classes row u =
    let e : max next (c + 1) ≡ next = omega (arith, row.merged.below) in
    rw e (record {
      long = omega (arith, length_push classes c, row.long);
      counted = known (classes ++ c ∷ []) k next c (counted_old asked k next (Some c) classes row c) (inside asked k next (Some c) classes row c) (sym (new asked k next (Some c) classes row c)) row.merged.below;
      merged = record {
        below = row.merged.below;
        all = λ x l v. ⊎_elim
            (λ (q : x ≡ k). ap (slice_index (classes ++ c ∷ [])) q ∙ new asked k next (Some c) classes row c)
            (λ (q : x ≡ k → ⊥). let m : x < k = omega arith in old asked k next (Some c) classes row c x m ∙ row.merged.all x m v) (cases_eq x k);
        first = k;
        within = omega arith;
        unasked = u;
      };
      apart = apart;
    })
  where
    -- an asked value is not in the class of the others
    not_other : (x : ℕ) → x < k → get_or asked x false ≡ true → slice_index classes x ≡ c → ⊥
    not_other x l a q =
        let f : ℕ = row.merged.first in
        let ne : x ≡ f → ⊥ = λ (p : x ≡ f). false≢true (sym row.merged.unasked ∙ subst (λ (z : ℕ). get_or asked z false ≡ true) p a) in
        row.apart x f l row.merged.within ne a (q ∙ sym (row.merged.all f row.merged.within row.merged.unasked))

    apart : (x y : ℕ) → x < k + 1 → y < k + 1 → (x ≡ y → ⊥) → get_or asked x false ≡ true → slice_index (classes ++ c ∷ []) x ≡ slice_index (classes ++ c ∷ []) y → ⊥
    apart x y lx ly ne a q =
        let other : x ≡ k → ⊥ = λ (p : x ≡ k). false≢true (sym u ∙ subst (λ (z : ℕ). get_or asked z false ≡ true) p a) in
        let l : x < k = omega arith in
        ⊎_elim
        (λ (p : y ≡ k). not_other x l a (sym (old asked k next (Some c) classes row c x l) ∙ q ∙ ap (slice_index (classes ++ c ∷ [])) p ∙ new asked k next (Some c) classes row c))
        (λ (p : y ≡ k → ⊥). let m : y < k = omega arith in row.apart x y l m ne a (sym (old asked k next (Some c) classes row c x l) ∙ q ∙ old asked k next (Some c) classes row c y m))
        (cases_eq y k)

-- one value more
pub row_more : (asked : List Bool) (k next : ℕ) (others : Option ℕ) (classes : List ℕ) (b : Bool) → IsRow asked k next others classes → b ≡ get_or asked k false →
    IsRow asked (k + 1) (max next (next_class b others next + 1)) (next_others b others next) (classes ++ next_class b others next ∷ [])
row_more asked k next others classes true row e = row_asked asked k next others classes row (sym e)
row_more asked k next None classes false row e = row_first asked k next classes row (sym e)
row_more asked k next (Some c) classes false row e = row_other asked k next c classes row (sym e)

-- the same by what the code makes
pub row_step : (asked : List Bool) (k next : ℕ) (others later : Option ℕ) (classes more : List ℕ) (class after : ℕ) → IsRow asked k next others classes → class ≡ next_class (get_or asked k false) others next →
    later ≡ cond (get_or asked k false) others (Some class) → more ≡ classes ++ class ∷ [] → after ≡ max next (class + 1) → IsRow asked (k + 1) after later more
row_step asked k next others later classes more class after row ec el em ea =
    let whole : IsRow asked (k + 1) (max next (next_class (get_or asked k false) others next + 1)) (next_others (get_or asked k false) others next) (classes ++ next_class (get_or asked k false) others next ∷ []) =
    row_more asked k next others classes (get_or asked k false) row refl in
    let is_later : later ≡ next_others (get_or asked k false) others next = el ∙ ap (λ (n : ℕ). cond (get_or asked k false) others (Some n)) ec in
    let is_more : more ≡ classes ++ next_class (get_or asked k false) others next ∷ [] = em ∙ ap (λ (n : ℕ). classes ++ n ∷ []) ec in
    subst (λ (n : ℕ). IsRow asked (k + 1) n later more) (sym (ea ∙ ap (λ (n : ℕ). max next (n + 1)) ec))
    (subst (λ (r : Option ℕ). IsRow asked (k + 1) (max next (next_class (get_or asked k false) others next + 1)) r more) (sym is_later)
    (subst (λ (xs : List ℕ). IsRow asked (k + 1) (max next (next_class (get_or asked k false) others next + 1)) (next_others (get_or asked k false) others next) xs) (sym is_more) whole))

-- the class of a value is at most its number
pub class_small : (asked : List Bool) (k next : ℕ) (others : Option ℕ) (classes : List ℕ) (b : Bool) → IsRow asked k next others classes → next_class b others next ≤ k
class_small asked k next others classes true row = row.counted.at_most
class_small asked k next None classes false row = row.counted.at_most
class_small asked k next (Some c) classes false row = omega (arith, row.merged.below, row.counted.at_most)

-- the classes of all values
module _ (asked : List Bool) (k next : ℕ) (others : Option ℕ) (classes : List ℕ) (row : IsRow asked k next others classes) (all : k ≡ length asked) where
  pub row_numbered : AreNumbered classes
  row_numbered j l = row.counted.numbered j (omega (arith, l, row.long))

  share_others : (x y : ℕ) → x < k → y < k → get_or asked x false ≡ false → get_or asked y false ≡ false → slice_index classes x ≡ slice_index classes y
  share_others x y lx ly ux uy = go others row.merged
    where
      go : (r : Option ℕ) → MatchOption r ((z : ℕ) → z < k → get_or asked z false ≡ true) (λ c. AreIn asked k classes next c) → slice_index classes x ≡ slice_index classes y
      go None h = absurd (false≢true (sym ux ∙ h x lx))
      go (Some c) are = are.all x lx ux ∙ sym (are.all y ly uy)

  pub row_shares : ShareBy asked classes
  row_shares x y lx ly = (forth, back)
    where
      kx : x < k
      kx = omega (arith, lx, all)

      ky : y < k
      ky = omega (arith, ly, all)

      forth : slice_index classes x ≡ slice_index classes y → apart_in asked x y ≡ false
      forth e =
          ⊎_elim
          (λ (q : x ≡ y). and_left (not (eqb x y)) (get_or asked x false || get_or asked y false) (not_from_true (eqb x y) (eq-eqb x y q)))
          (λ (ne : x ≡ y → ⊥). and_right (not (eqb x y)) (get_or asked x false || get_or asked y false) (or_from (get_or asked x false) (get_or asked y false) (first ne) (second ne)))
          (cases_eq x y)
        where
          first : (x ≡ y → ⊥) → get_or asked x false ≡ false
          first ne = ⊎_elim (λ (a : get_or asked x false ≡ true). absurd (row.apart x y kx ky ne a e)) (λ (u : get_or asked x false ≡ false). u) (cases_Bool (get_or asked x false))

          second : (x ≡ y → ⊥) → get_or asked y false ≡ false
          second ne = ⊎_elim (λ (a : get_or asked y false ≡ true). absurd (row.apart y x ky kx (λ (q : y ≡ x). ne (sym q)) a (sym e))) (λ (u : get_or asked y false ≡ false). u) (cases_Bool (get_or asked y false))

      back : apart_in asked x y ≡ false → slice_index classes x ≡ slice_index classes y
      back h =
          ⊎_elim
          (λ (p : not (eqb x y) ≡ false). ap (slice_index classes) (eqb-true x y (not-false (eqb x y) p)))
          (λ (p : (get_or asked x false || get_or asked y false) ≡ false). let parts = or_parts (get_or asked x false) (get_or asked y false) p in share_others x y kx ky parts.0 parts.1)
          (and_cases (not (eqb x y)) (get_or asked x false || get_or asked y false) h)
