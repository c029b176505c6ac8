-- What holds of a search still holds once it has lowered a value.
use Rattle.std.proofs.Common.{◌≡◌, ℕ, zero, suc, ◌+◌, ◌*◌, ◌^◌, ◌<◌, ◌≤◌, ◌⊎◌, List, [], ◌∷◌, length, get_or, slice_index, slice_set, min, nat_lt, cond, refl, ap, sym, ◌∙◌, subst, inl, inr, ⊎_elim, arith}
use Rattle.std.specs.Prelude.{Contains, IsPermutation, sum}
use Rattle.std.proofs.Common.{get_or-set_same, get_or-set_other}
use Rattle.std.proofs.lemmas.List.{get_or_past}
use Rattle.std.proofs.lemmas.List.Elements.{Contains-get_or, Contains-append_right, Contains-append_cases}
use Rattle.std.proofs.lemmas.List.Sorted.{Contains-permutation, IsPermutation-sym, length_permutation}
use Rattle.std.proofs.Math.ListN.{length-set}
use Rattle.std.proofs.lemmas.Bool.{cases_eq, cases_lt}
use Rattle.std.proofs.lemmas.Bool.Decides.{nat_tests}
use Rattle.std.proofs.lemmas.List.Sums.{sum_by-cons, sum_by-set, count_by-le-length}
use Rattle.cost.specs.Distances.{Finite}
use Rattle.abstraction.specs.Abstractions.{Abstraction}
use Rattle.pdb_walks.specs.Walks.{IsTotalFrom}
use Rattle.abstraction_groups.specs.Entrances.{LeadsTo}
use Rattle.pdb.specs.declared.queue.Entry.{Entry}
use Rattle.pdb.specs.declared.search.TheConstants.{UNREACHED}
use Rattle.pdb.specs.Searches.{reached, entry_of, IsSound, IsSettled, IsQueued, IsSearchBut, HasLowered}

-- a value after a write
pub cases_set : (xs : List ℕ) (i y k : ℕ) → i < length xs → ((k ≡ i) × (slice_index (slice_set xs i y) k ≡ y)) ⊎ ((k ≡ i → ⊥) × (slice_index (slice_set xs i y) k ≡ slice_index xs k))
cases_set xs i y k l =
    ⊎_elim
    (λ (e : k ≡ i). inl (e, let same = get_or-set_same xs i y 0 l in subst (λ (p : ℕ). slice_index (slice_set xs i y) p ≡ y) (sym e) same))
    (λ (ne : k ≡ i → ⊥). inr (ne, get_or-set_other xs i k y 0 ne))
    (cases_eq k i)

only_one : {X : Type 0} (x y : X) (k : ℕ) → k < 1 → get_or (x ∷ []) k y ≡ y → x ≡ y
only_one x y zero l e = e
only_one x y (suc k) l e = absurd (omega arith)

-- an element of a list that has one more at its front
pub cases_front : {X : Type 0} (x : X) (xs : List X) (y : X) → Contains (x ∷ xs) y → (x ≡ y) ⊎ Contains xs y
cases_front x xs y has =
    ⊎_elim
    (λ (w : Contains (x ∷ []) y). inl (only_one x y w.0 (omega (arith, w.1)) w.2))
    (λ (w : Contains xs y). inr w)
    (Contains-append_cases (x ∷ []) xs y has)

-- if the numbers of a list are small, so are those past its end, which are 0
pub small_everywhere : (xs : List ℕ) → ((k : ℕ) → k < length xs → slice_index xs k < 2 ^ 31) → (o : ℕ) → slice_index xs o < 2 ^ 31
small_everywhere xs small o =
    ⊎_elim
    (λ (l : o < length xs). small o l)
    (λ (h : length xs ≤ o). omega (arith, get_or_past xs o 0 h))
    (cases_lt o (length xs))

abbrev counted : ℕ → ℕ
counted v = cond (nat_lt v UNREACHED) 1 0

counted_lesser : (m n : ℕ) → m ≤ n → counted n ≤ counted m
counted_lesser m n l = grind (arith, nat_tests)

counted_total : (n : ℕ) → n < UNREACHED → counted n ≡ 1
counted_total n l = grind (arith, nat_tests)

counted_none : (n : ℕ) → UNREACHED ≤ n → counted n ≡ 0
counted_none n l = grind (arith, nat_tests)

-- a step by the operator prolongs a walk
prolonged : (a : Abstraction) (share : ℕ → ℕ) (o i j n : ℕ) → LeadsTo a o i j → IsTotalFrom a share j (Finite n) → IsTotalFrom a share i (Finite (n + share o))
prolonged a share o i j n leads total =
    (o ∷ total.0, rw leads.1 total.1, omega (arith, sum_by-cons share o total.0, total.2))

pub same_total : (a : Abstraction) (share : ℕ → ℕ) (k m n : ℕ) → m ≡ n → IsTotalFrom a share k (Finite m) → IsTotalFrom a share k (Finite n)
same_total a share k m n e total = subst (λ (x : ℕ). IsTotalFrom a share k (Finite x)) e total

pub total_below : (a : Abstraction) (share : ℕ → ℕ) (values : List ℕ) (q : List Entry) (b x : ℕ) → IsSound a share values q → b < a.size → slice_index values b < UNREACHED → x < 2 ^ 31 → slice_index values b + x < UNREACHED
total_below a share values q b x sound inside has small =
    let bound : slice_index values b ≤ 2147483648 * reached values = sound.bounds b inside has in
    let count : reached values ≤ length values = count_by-le-length (λ v. nat_lt v UNREACHED) values in
    let size : a.size ≤ 16777216 = sound.small in
    let long : length values ≡ a.size = sound.as_long in
    omega arith

module _ (a : Abstraction) (share : ℕ → ℕ) (old : List ℕ) (before : List Entry) (new : List ℕ) (after : List Entry) (b o i value : ℕ)
    (search : IsSearchBut a share old before b) (leads : LeadsTo a o i b) (small : share o < 2 ^ 31)
    (shown : value ≡ slice_index old b + share o) (lowered : HasLowered old before new after i value) where
  inside_old : i < length old
  inside_old = omega (arith, leads.0, search.sound.as_long)

  cases_at : (k : ℕ) → ((k ≡ i) × (slice_index new k ≡ min (slice_index old i) value)) ⊎ ((k ≡ i → ⊥) × (slice_index new k ≡ slice_index old k))
  cases_at k = rw lowered.values (cases_set old i (min (slice_index old i) value) k inside_old)

  value_total : value < UNREACHED
  value_total = rw shown (total_below a share old before b (share o) search.sound search.inside search.has_value small)

  pub lowered_at_most : (k : ℕ) → slice_index new k ≤ slice_index old k
  lowered_at_most k =
      ⊎_elim
      (λ (w : (k ≡ i) × (slice_index new k ≡ min (slice_index old i) value)). let e = ap (slice_index old) w.0 in omega arith)
      (λ (w : (k ≡ i → ⊥) × (slice_index new k ≡ slice_index old k)). omega arith)
      (cases_at k)

  pub lowered_same : slice_index new b ≡ slice_index old b
  lowered_same =
      ⊎_elim
      (λ (w : (b ≡ i) × (slice_index new b ≡ min (slice_index old i) value)). let e = ap (slice_index old) w.0 in omega arith)
      (λ (w : (b ≡ i → ⊥) × (slice_index new b ≡ slice_index old b)). omega arith)
      (cases_at b)

  pub lowered_here : slice_index new i ≤ value
  lowered_here =
      ⊎_elim
      (λ (w : (i ≡ i) × (slice_index new i ≡ min (slice_index old i) value)). omega arith)
      (λ (w : (i ≡ i → ⊥) × (slice_index new i ≡ slice_index old i)). absurd (w.0 refl))
      (cases_at i)

  count_set : reached new + counted (slice_index old i) ≡ reached old + counted (min (slice_index old i) value)
  count_set = rw lowered.values (sum_by-set counted old i (min (slice_index old i) value) 0 inside_old)

  reached_at_least : reached old ≤ reached new
  reached_at_least =
      let y = min (slice_index old i) value in
      let l : y ≤ slice_index old i = omega arith in
      omega (arith, count_set, counted_lesser y (slice_index old i) l)

  reached_more : UNREACHED ≤ slice_index old i → reached new ≡ reached old + 1
  reached_more none =
      let y = min (slice_index old i) value in
      let l : y < UNREACHED = omega (arith, value_total) in
      omega (arith, count_set, counted_total y l, counted_none (slice_index old i) none)

  -- the value of the state if it is lowered, and if it is not
  cases_here : ((value < slice_index old i) × (min (slice_index old i) value ≡ value)) ⊎ (min (slice_index old i) value ≡ slice_index old i)
  cases_here = ⊎_elim (λ (l : value < slice_index old i). inl (l, omega arith)) (λ (l : slice_index old i ≤ value). inr (omega arith)) (cases_lt value (slice_index old i))

  totals_new : (k : ℕ) → k < a.size → slice_index new k < UNREACHED → IsTotalFrom a share k (Finite (slice_index new k))
  totals_new k inside has =
      ⊎_elim
      (λ (w : (k ≡ i) × (slice_index new k ≡ min (slice_index old i) value)). at_here w.0 w.1)
      (λ (w : (k ≡ i → ⊥) × (slice_index new k ≡ slice_index old k)). same_total a share k (slice_index old k) (slice_index new k) (sym w.1) (search.sound.totals k inside (omega arith)))
      (cases_at k)
    where
      at_here : k ≡ i → slice_index new k ≡ min (slice_index old i) value → IsTotalFrom a share k (Finite (slice_index new k))
      at_here e m =
          let f = ap (slice_index old) e in
          ⊎_elim
          (λ (w : (value < slice_index old i) × (min (slice_index old i) value ≡ value)).
          let t = prolonged a share o i b (slice_index old b) leads (search.sound.totals b search.inside search.has_value) in
          same_total a share k (slice_index old b + share o) (slice_index new k) (omega arith) (subst (λ (x : ℕ). IsTotalFrom a share x (Finite (slice_index old b + share o))) (sym e) t))
          (λ (w : min (slice_index old i) value ≡ slice_index old i).
          same_total a share k (slice_index old k) (slice_index new k) (omega arith) (search.sound.totals k inside (omega arith)))
          cases_here

  bounds_new : (k : ℕ) → k < a.size → slice_index new k < UNREACHED → slice_index new k ≤ 2 ^ 31 * reached new
  bounds_new k inside has =
      let more = reached_at_least in
      ⊎_elim
      (λ (l : slice_index old k < UNREACHED). omega (arith, lowered_at_most k, search.sound.bounds k inside l))
      (λ (l : UNREACHED ≤ slice_index old k).
      ⊎_elim
      (λ (w : (k ≡ i) × (slice_index new k ≡ min (slice_index old i) value)).
      let f = ap (slice_index old) w.0 in
      omega (arith, reached_more (omega arith), search.sound.bounds b search.inside search.has_value))
      (λ (w : (k ≡ i → ⊥) × (slice_index new k ≡ slice_index old k)). absurd (omega arith))
      (cases_at k))
      (cases_lt (slice_index old k) UNREACHED)

  inside_new : (e : Entry) → Contains after e → e.state < a.size
  inside_new e q =
      ⊎_elim
      (λ (w : (e ≡ entry_of i value) × (value < slice_index old i)). let f : e.state ≡ i = ap (λ (x : Entry). x.state) w.0 in omega (arith, leads.0))
      (λ (w : Contains before e). search.sound.inside e w)
      (lowered.only e q)

  queued_new : (e : Entry) → Contains after e → e.value < UNREACHED
  queued_new e q =
      ⊎_elim
      (λ (w : (e ≡ entry_of i value) × (value < slice_index old i)). let f : e.value ≡ value = ap (λ (x : Entry). x.value) w.0 in omega (arith, value_total))
      (λ (w : Contains before e). search.sound.queued e w)
      (lowered.only e q)

  -- a state whose value is the same is queued or settled as before
  settled_same : (s : ℕ) → s < a.size → (s ≡ b → ⊥) → slice_index new s ≡ slice_index old s → IsQueued new after s ⊎ IsSettled a share new s
  settled_same s inside ne same =
      ⊎_elim
      (λ (q : IsQueued old before s). inl (subst (λ (n : ℕ). Contains after (entry_of s n)) (sym same) (lowered.stay (entry_of s (slice_index old s)) q)))
      (λ (h : IsSettled a share old s). inr (λ p j step. omega (arith, h p j step, same, lowered_at_most j)))
      (search.settled s inside ne)

  settled_new : (s : ℕ) → s < a.size → (s ≡ b → ⊥) → IsQueued new after s ⊎ IsSettled a share new s
  settled_new s inside ne =
      ⊎_elim
      (λ (w : (s ≡ i) × (slice_index new s ≡ min (slice_index old i) value)). at_here w.0 w.1)
      (λ (w : (s ≡ i → ⊥) × (slice_index new s ≡ slice_index old s)). settled_same s inside ne w.1)
      (cases_at s)
    where
      at_here : s ≡ i → slice_index new s ≡ min (slice_index old i) value → IsQueued new after s ⊎ IsSettled a share new s
      at_here e m =
          let f = ap (slice_index old) e in
          ⊎_elim
          (λ (w : (value < slice_index old i) × (min (slice_index old i) value ≡ value)).
          let is : value ≡ slice_index new s = omega arith in
          inl (subst (λ (n : ℕ). Contains after (entry_of s n)) is (subst (λ (x : ℕ). Contains after (entry_of x value)) (sym e) (lowered.here w.0))))
          (λ (w : min (slice_index old i) value ≡ slice_index old i). settled_same s inside ne (omega arith))
          cases_here

  pub IsSearchBut-lowered : IsSearchBut a share new after b
  IsSearchBut-lowered =
      record {
        sound = record {
          as_long = rw lowered.values (length-set old i (min (slice_index old i) value) ∙ search.sound.as_long);
          small = search.sound.small;
          totals = totals_new;
          bounds = bounds_new;
          goals = λ k inside goal. omega (arith, lowered_at_most k, search.sound.goals k inside goal);
          inside = inside_new;
          queued = queued_new;
        };
        inside = search.inside;
        has_value = omega (arith, lowered_same, search.has_value);
        settled = settled_new;
      }

-- the state of a lowered value is added to the queue
pub HasLowered-added : (values : List ℕ) (queue after : List Entry) (state value : ℕ) → state < length values → value < slice_index values state → IsPermutation (entry_of state value ∷ queue) after →
    HasLowered values queue (slice_set values state value) after state value
HasLowered-added values queue after state value inside lower added =
    record {
      values = ap (slice_set values state) least;
      here = λ _. Contains-permutation (x ∷ queue) after x added (Contains-get_or (x ∷ queue) 0 x (omega arith));
      stay = λ e has. Contains-permutation (x ∷ queue) after e added (Contains-append_right (x ∷ []) queue e has);
      only = λ e has. ⊎_elim
          (λ (is : x ≡ e). inl (sym is, lower))
          (λ (h : Contains queue e). inr h)
          (cases_front x queue e (Contains-permutation after (x ∷ queue) e (IsPermutation-sym (x ∷ queue) after added) has));
      no_more =
          let totals : sum (slice_set values state value) + slice_index values state ≡ sum values + value = sum_by-set (λ (v : ℕ). v) values state value 0 inside in
          let long : length after ≡ suc (length queue) = length_permutation (x ∷ queue) after added in
          omega arith;
    }
  where
    x : Entry
    x = entry_of state value

    least : value ≡ min (slice_index values state) value
    least = omega arith
