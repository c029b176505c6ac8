-- Whether a step would change something, as it is tested in memory.
use Rattle.std.proofs.Common.{◌≡◌, ℕ, suc, ◌+◌, ◌<◌, ◌≤◌, Bool, true, false, not, ◌&&◌, ◌||◌, ◌==◌, List, [], ◌∷◌, length, min, refl, sym, ap, ◌∙◌, ⊎_elim, arith, cond}
use Rattle.std.specs.Prelude.{nat_lt, nat_le, map, filter}
use Rattle.std.specs.List.{list_all, range_with_len}
use Rattle.std.specs.Option.{option_map_or}
use Rattle.std.specs.Ordering.{is_lt}
use Rattle.std.specs.declared.cmp.Ordering.TheVariants.{Less, Equal, Greater}
use Rattle.std.proofs.lemmas.Bool.{cases_lt, le-leb, lt-leb, le-ltb, lt-ltb}
use Rattle.std.proofs.lemmas.Bool.Decides.{nat_tests}
use Rattle.std.proofs.lemmas.List.Sums.{sum_by-cons}
use Rattle.cost.specs.Distances.{Distance, Finite, Infinite, is_at_most, is_below, distance_cmp, lesser}
use Rattle.owner_theory.specs.Owners.{At, SearchSpace, Node, Message, list_at, f_value}
use Rattle.owner_theory.specs.Worlds.{no_open, idle, is_empty}
use Rattle.owner.specs.Outboxes.{count_in_use}
use Rattle.owner.specs.Owned.{OwnerOf, under, space_of, least_open}
use Rattle.netcore.specs.declared.step.WorldStep.TheVariants.{Expand, Send, Offer, Rest}
use Rattle.netcore.specs.Worlds.{WorldOf, space_in, would_change}
use Rattle.netcore.specs.Possible.{sends_of, below}
use Rattle.netcore.specs.Kept.{IsWorld}
use Rattle.netcore.proofs.Places.{at_read, list_past}
use Rattle.netcore.proofs.Expanding.{at_owner_here, owner_space}

less_of : (a e : Bool) → is_lt (cond a Less (cond e Equal Greater)) ≡ a
less_of true e = refl
less_of false true = refl
less_of false false = refl

pub less : (x y : Distance) → is_lt (distance_cmp x y) ≡ is_below x y
less (Finite m) (Finite n) = less_of (nat_lt m n) (m == n)
less (Finite m) Infinite = refl
less Infinite (Finite n) = refl
less Infinite Infinite = refl

number_below : (m n : ℕ) → nat_lt m n ≡ not (nat_le n m)
number_below m n = ⊎_elim
    (λ (lt : m < n). lt-ltb m n lt ∙ ap not (sym (lt-leb n m lt)))
    (λ (le : n ≤ m). le-ltb m n le ∙ ap not (sym (le-leb n m le)))
    (cases_lt m n)

below_is_not : (x y : Distance) → is_below x y ≡ not (is_at_most y x)
below_is_not (Finite m) (Finite n) = number_below m n
below_is_not (Finite m) Infinite = refl
below_is_not Infinite (Finite n) = refl
below_is_not Infinite Infinite = refl

number_at_most : (b m n : ℕ) → nat_le b (min m n) ≡ (nat_le b m && nat_le b n)
number_at_most b m n = grind (arith, nat_tests)

and_true : (x : Bool) → x ≡ (x && true)
and_true true = refl
and_true false = refl

at_most_both_of : (b x y : Distance) → is_at_most b (lesser x y) ≡ (is_at_most b x && is_at_most b y)
at_most_both_of (Finite b) (Finite m) (Finite n) = number_at_most b m n
at_most_both_of Infinite (Finite m) (Finite n) = refl
at_most_both_of b (Finite m) Infinite = and_true (is_at_most b (Finite m))
at_most_both_of b Infinite y = refl

or_infinite : (b f : Distance) (e : Bool) → is_at_most b (cond e Infinite f) ≡ (e || is_at_most b f)
or_infinite b f true = refl
or_infinite b f false = refl

reaches_all : (space : SearchSpace) (b : Distance) (ns : List Node)
    → is_at_most b (least_open space ns) ≡ list_all (λ n. n.expanded || is_at_most b (f_value space n.state n.cost)) ns
reaches_all space b [] = refl
reaches_all space b (n ∷ ns) =
    let f = f_value space n.state n.cost in
    at_most_both_of b (cond n.expanded Infinite f) (least_open space ns)
    ∙ (ap (λ x. x && is_at_most b (least_open space ns)) (or_infinite b f n.expanded)
    ∙ ap (λ x. (n.expanded || is_at_most b f) && x) (reaches_all space b ns))

some_open : (space : SearchSpace) (b : Distance) (ns : List Node)
    → is_below (least_open space ns) b ≡ not (list_all (λ n. n.expanded || is_at_most b (f_value space n.state n.cost)) ns)
some_open space b ns = below_is_not (least_open space ns) b ∙ ap not (reaches_all space b ns)

-- as many numbers pass a test as there are lists with an element, where the test is whether the list of that number has one
used_from : {X : Type 0} (p : X → Bool) (f : ℕ → X) (bs : List (List Message)) (i : ℕ) → ((k : ℕ) → p (f (i + k)) ≡ not (is_empty (list_at bs k)))
    → count_in_use bs ≡ length (filter p (map f (range_with_len i (length bs))))
used_from p f [] i h = refl
used_from p f (b ∷ bs) i h =
    let first : i + 0 ≡ i = omega arith in
    let here : p (f i) ≡ not (is_empty b) = ap (λ n. p (f n)) (sym first) ∙ h 0 in
    let rest = used_from p f bs (i + 1) (λ k. let next : i + 1 + k ≡ i + suc k = omega arith in ap (λ n. p (f n)) next ∙ h (suc k)) in
    let all = sum_by-cons (λ (l : List Message). cond (not (is_empty l)) 1 0) b bs in
    omega (arith, all, rest, one_of (p (f i)) (f i) (filter p (map f (range_with_len (i + 1) (length bs)))), ap {B = ℕ} (λ t. cond t 1 0) here)
  where
    one_of : {X : Type 0} (t : Bool) (x : X) (xs : List X) → length (cond t (x ∷ xs) xs) ≡ cond t 1 0 + length xs
    one_of true x xs = omega arith
    one_of false x xs = omega arith

some_waiting : {X : Type 0} (q : List X) → nat_lt 0 (length q) ≡ not (is_empty q)
some_waiting [] = refl
some_waiting (x ∷ q) = lt-ltb 0 (length (x ∷ q)) (omega arith)

module _ {S : Type 0} (owner : S → List ℕ → ℕ → ℕ) where
  pub expand_test : (w : WorldOf S) (v : ℕ) (o : OwnerOf S) (b : Distance) → IsWorld owner w → At w.owners v o → At w.seen v b
      → is_below (least_open (space_of owner o) o.nodes) b ≡ would_change owner w (Expand v)
  expand_test w v o b is at seen = some_open (space_of owner o) b o.nodes
      ∙ (ap (λ s. not (no_open s (under o b))) (owner_space owner w v o is at) ∙ sym (at_owner_here owner w v o b _ at seen))

  pub send_test : (w : WorldOf S) (v to : ℕ) (o : OwnerOf S) (b : Distance) → IsWorld owner w → At w.owners v o → At w.seen v b
      → nat_lt 0 (length (list_at o.outboxes to)) ≡ would_change owner w (Send v to)
  send_test w v to o b is at seen = some_waiting (list_at o.outboxes to) ∙ sym (at_owner_here owner w v o b _ at seen)

  pub send_to_past_test : (w : WorldOf S) (v to : ℕ) (o : OwnerOf S) (b : Distance) → IsWorld owner w → At w.owners v o → At w.seen v b
      → length w.owners ≤ to → false ≡ would_change owner w (Send v to)
  send_to_past_test w v to o b is at seen le =
      sym (at_owner_here owner w v o b _ at seen
      ∙ ap (λ q. not (is_empty q)) (list_past o.outboxes to (let n = is.outboxes v o at in omega arith)))

  pub sends_counted : (w : WorldOf S) (v : ℕ) (o : OwnerOf S) (b : Distance) → IsWorld owner w → At w.owners v o → At w.seen v b
      → count_in_use o.outboxes ≡ length (sends_of owner w v)
  sends_counted w v o b is at seen =
      used_from (would_change owner w) (Send v) o.outboxes 0 (λ k. let same : 0 + k ≡ k = omega arith in
      ap (λ n. would_change owner w (Send v n)) same ∙ at_owner_here owner w v o b _ at seen)
      ∙ ap (λ n. length (filter (would_change owner w) (map (Send v) (below n)))) (is.outboxes v o at)

  pub offer_test : (w : WorldOf S) (v : ℕ) (o : OwnerOf S) (b : Distance) → IsWorld owner w → At w.owners v o → At w.seen v b
      → is_below o.best w.bound ≡ would_change owner w (Offer v)
  offer_test w v o b is at seen = sym (at_owner_here owner w v o b _ at seen)

  pub rest_test : (w : WorldOf S) (v : ℕ) (o : OwnerOf S) (b : Distance) → IsWorld owner w → At w.owners v o → At w.seen v b
      → At w.resting v false → idle (space_of owner o) (under o b) ≡ would_change owner w (Rest v)
  rest_test w v o b is at seen awake =
      ap (λ s. idle s (under o b)) (owner_space owner w v o is at)
      ∙ sym (at_owner_here owner w v o b _ at seen
      ∙ ap (λ x. option_map_or not x false && idle (space_in owner w) (under o b)) (at_read w.resting v false awake))
