-- At the end of a search the values are the distances.
use Rattle.std.proofs.Common.{◌≡◌, ℕ, ◌+◌, ◌*◌, ◌^◌, ◌<◌, ◌≤◌, true, List, [], ◌∷◌, length, map, Option, Some, None, slice_index, refl, ap, ◌∙◌, subst, ⊎_elim, arith}
use Rattle.std.proofs.Common.{get_or}
use Rattle.std.proofs.lemmas.List.Elements.{All-map}
use Rattle.std.proofs.lemmas.List.{get_or_default}
use Rattle.std.specs.Prelude.{All, Contains, nat_lt, sum_by, IfSome, IsSomeAnd, option_and_then}
use Rattle.std.specs.Option.{option_map_or}
use Rattle.std.proofs.lemmas.Bool.{cases_lt}
use Rattle.std.proofs.lemmas.Bool.Decides.{nat_tests}
use Rattle.std.proofs.lemmas.List.{length-map, get_or-map}
use Rattle.std.proofs.lemmas.List.Sums.{sum_by-cons, count_by-le-length}
use Rattle.std.proofs.lemmas.Option.{slice_get-get_or}
use Rattle.cost.specs.Distances.{Distance, Finite, Infinite, ◌≤ᵈ◌, ◌+ᵈ◌, IsWithin}
use Rattle.fdr.specs.Tasks.{FiniteDomainTask}
use Rattle.abstraction.specs.Abstractions.{Abstraction, IsAbstractionOf}
use Rattle.cert_value.specs.Kept.{kept_distance}
use Rattle.pdb_walks.specs.Walks.{walk, IsWalkFrom, IsTotalFrom, AreDistances, value_in}
use Rattle.abstraction_groups.specs.Entrances.{LeadsTo}
use Rattle.pdb.specs.declared.queue.Entry.{Entry}
use Rattle.pdb.specs.declared.search.TheConstants.{UNREACHED}
use Rattle.pdb.specs.Searches.{reached, entry_of, IsSearch, IsSettled, IsQueued}

kept_finite : (n : ℕ) → n ≤ 2 ^ 63 → kept_distance n ≡ Finite n
kept_finite n l = grind (arith, nat_tests)

kept_infinite : (n : ℕ) → 2 ^ 63 < n → kept_distance n ≡ Infinite
kept_infinite n l = grind (arith, nat_tests)

-- a step to a value, if a value is small or denotes the infinite one
kept_step : (m n x : ℕ) → m ≤ x + n → (n ≤ 2 ^ 63 → x + n ≤ 2 ^ 63) → kept_distance m ≤ᵈ Finite x +ᵈ kept_distance n
kept_step m n x l small =
    ⊎_elim
    (λ (h : 2 ^ 63 < n). rw (kept_infinite n h) tt)
    (λ (h : n ≤ 2 ^ 63). let k = small h in rw (kept_finite n h, kept_finite m (omega arith)) l)
    (cases_lt (2 ^ 63) n)

at_most_sum : (d e : Distance) (x n : ℕ) → d ≤ᵈ Finite x +ᵈ e → e ≤ᵈ Finite n → d ≤ᵈ Finite (x + n)
at_most_sum d Infinite x n h l = absurd l
at_most_sum Infinite (Finite k) x n h l = absurd h
at_most_sum (Finite m) (Finite k) x n h l = omega arith

pub value_in-map : (values : List ℕ) (i : ℕ) → i < length values → value_in (map kept_distance values) i ≡ kept_distance (slice_index values i)
value_in-map values i l =
    let long : i < length (map kept_distance values) = omega (arith, length-map values kept_distance) in
    ap (λ (o : Option Distance). option_map_or (λ d. d) o Infinite) (slice_get-get_or (map kept_distance values) i Infinite long) ∙ get_or-map kept_distance values i 0 Infinite l

module _ (task : FiniteDomainTask) (a : Abstraction) (share : ℕ → ℕ) (values : List ℕ) (queue : List Entry)
    (abs : IsAbstractionOf task a) (small : (o : ℕ) → share o < 2 ^ 31) (search : IsSearch a share values queue) (empty : queue ≡ []) where
  abbrev value : ℕ → Distance
  value i = kept_distance (slice_index values i)

  settled : (j : ℕ) → j < a.size → IsSettled a share values j
  settled j l =
      ⊎_elim
      (λ (q : IsQueued values queue j).
      let none : Contains [] (entry_of j (slice_index values j)) = subst (λ (es : List Entry). Contains es (entry_of j (slice_index values j))) empty q in
      absurd (omega (arith, none.1)))
      (λ (h : IsSettled a share values j). h)
      (search.settled j l)

  step : (o i j : ℕ) → j < a.size → LeadsTo a o i j → value i ≤ᵈ Finite (share o) +ᵈ value j
  step o i j l leads =
      kept_step (slice_index values i) (slice_index values j) (share o) (settled j l o i leads)
      (λ h. omega (arith, small o, search.sound.bounds j l (omega arith), reached_small))
    where
      reached_small : 2 ^ 31 * reached values ≤ 2 ^ 55
      reached_small = omega (arith, count_by-le-length (λ v. nat_lt v UNREACHED) values, search.sound.as_long, search.sound.small)

  goal_zero : (i : ℕ) → i < a.size → a.is_goal i ≡ true → value i ≡ Finite 0
  goal_zero i l goal = ap kept_distance (search.sound.goals i l goal)

  -- what the rest of a walk shows, the walk shows
  least_more : (o i : ℕ) (os : List ℕ) → i < a.size → ((j : ℕ) → j < a.size → IsWalkFrom a j os → value j ≤ᵈ Finite (sum_by share os)) → (r : Option ℕ) → a.transition i o ≡ r → IfSome r (λ j. j < a.size) → IsSomeAnd (option_and_then (λ j. walk a j os) r) (λ j. a.is_goal j ≡ true) → value i ≤ᵈ Finite (sum_by share (o ∷ os))
  least_more o i os l rest None e below w = absurd w
  least_more o i os l rest (Some j) e below w =
      rw (sum_by-cons share o os) (at_most_sum (value i) (value j) (share o) (sum_by share os) (step o i j below (l, e)) (rest j below w))

  least : (os : List ℕ) (i : ℕ) → i < a.size → IsWalkFrom a i os → value i ≤ᵈ Finite (sum_by share os)
  least [] i l w = rw (goal_zero i l w) (omega arith)
  least (o ∷ os) i l w = least_more o i os l (least os) (a.transition i o) refl (abs.transitions i o l) w

  reached_total : (i : ℕ) → i < a.size → IsTotalFrom a share i (value i)
  reached_total i l =
      ⊎_elim
      (λ (h : 2 ^ 63 < slice_index values i). rw (kept_infinite (slice_index values i) h) tt)
      (λ (h : slice_index values i ≤ 2 ^ 63). rw (kept_finite (slice_index values i) h) (search.sound.totals i l (omega arith)))
      (cases_lt (2 ^ 63) (slice_index values i))

  pub AreDistances-found : AreDistances a share (map kept_distance values)
  AreDistances-found =
      record {
        as_long = length-map values kept_distance ∙ search.sound.as_long;
        exact = λ i l. rw (value_in-map values i (omega (arith, search.sound.as_long))) (record { least = λ os walk. least os i l walk; reached = reached_total i l });
      }

  -- each value is small enough for a certificate
  pub values_small : All (IsWithin (2 ^ 55)) (map kept_distance values)
  values_small = All-map (IsWithin (2 ^ 55)) kept_distance values (λ k d l. each (get_or values k d) k (omega (arith, search.sound.as_long, l)) (get_or_default values k 0 d l))
    where
      each : (v k : ℕ) → k < a.size → slice_index values k ≡ v → IsWithin (2 ^ 55) (kept_distance v)
      each v k l is =
          ⊎_elim
          (λ (h : 2 ^ 63 < v). rw (kept_infinite v h) tt)
          (λ (h : v ≤ 2 ^ 63). rw (kept_finite v h)
          (omega (arith, is, search.sound.bounds k l (omega arith), count_by-le-length (λ v. nat_lt v UNREACHED) values, search.sound.as_long, search.sound.small)))
          (cases_lt (2 ^ 63) v)
