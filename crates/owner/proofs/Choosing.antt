-- The entry that comes first is of the next node.
use Rattle.std.proofs.Common.{◌≡◌, ℕ, zero, suc, ◌≤◌, Bool, true, false, ◌==◌, ◌&&◌, ◌||◌, not, List, [], ◌∷◌, refl, sym, ap, ◌∙◌, subst, arith, true≢false, cond}
use Rattle.std.specs.Prelude.{nat_lt, nat_le}
use Rattle.std.specs.List.{list_all}
use Rattle.std.proofs.lemmas.Bool.{and_from}
use Rattle.std.proofs.lemmas.Bool.Decides.{nat_tests}
use Rattle.cost.specs.Distances.{Distance, Finite, Infinite, ◌+ᵈ◌, ◌≤ᵈ◌, is_at_most, lesser}
use Rattle.cost.proofs.DistanceLaws.{at_most_itself, at_most_through, at_most_both, at_most_lesser, lesser_at_most_left, lesser_at_most_right, is_at_most-true, is_at_most-from}
use Rattle.owner_theory.specs.Owners.{At, SearchSpace, Node, Owner, f_value, may_expand}
use Rattle.owner_theory.specs.Worlds.{no_open}
use Rattle.openlist.specs.declared.entry.OpenEntry.{OpenEntry}
use Rattle.closed.specs.Tables.{was_expanded}
use Rattle.owner_space.specs.declared.ties.Ties.{Ties}
use Rattle.owner_reached.specs.Queues.{IsLeast, HasNoneOpen}
use Rattle.owner_reached.specs.TieOrders.{ties_first}
use Rattle.owner.specs.Owned.{IsNext, least_open}

-- ---- every node passes, or one fails

one_passes : (bound : Distance) (b : Bool) (d : Distance) → (b ≡ false → (f : ℕ) → d ≡ Finite f → is_at_most bound (Finite f) ≡ true)
    → (b || is_at_most bound d) ≡ true
one_passes bound true d h = refl
one_passes bound false Infinite h = refl
one_passes bound false (Finite f) h = h refl f refl

abbrev PassesFrom : SearchSpace → Distance → List Node → Type 0
PassesFrom space bound ns = (i : ℕ) (n : Node) (f : ℕ) → At ns i n → n.expanded ≡ false → Finite n.cost +ᵈ space.heuristic n.state ≡ Finite f
    → is_at_most bound (Finite f) ≡ true

all_pass : (space : SearchSpace) (bound : Distance) (ns : List Node) → PassesFrom space bound ns
    → list_all (λ n. n.expanded || is_at_most bound (f_value space n.state n.cost)) ns ≡ true
all_pass space bound [] h = refl
all_pass space bound (n ∷ ns) h =
    and_from _ _ (one_passes bound n.expanded (f_value space n.state n.cost) (λ waits f is. h 0 n f refl waits is))
    (all_pass space bound ns (λ i x f at. h (suc i) x f at))

pub both_false : (a b : Bool) → a ≡ false → (a && b) ≡ false
both_false true b e = absurd (true≢false e)
both_false false b e = refl

last_false : (a b : Bool) → b ≡ false → (a && b) ≡ false
last_false true b e = e
last_false false b e = refl

one_fails : (p : Node → Bool) (ns : List Node) (i : ℕ) (n : Node) → At ns i n → p n ≡ false → list_all p ns ≡ false
one_fails p [] i n at e = absurd at
one_fails p (x ∷ ns) zero n at e = both_false (p x) (list_all p ns) (ap p at ∙ e)
one_fails p (x ∷ ns) (suc i) n at e = last_false (p x) (list_all p ns) (one_fails p ns i n at e)

-- ---- which comes first

-- f goes before ties
below_or_tied : (a b : ℕ) (tied : Bool) → (nat_lt a b || ((a == b) && tied)) ≡ true → a ≤ b
below_or_tied a b tied h = grind (arith, nat_tests)

not_above : (a b : ℕ) (tied : Bool) → (nat_lt a b || ((a == b) && tied)) ≡ true → (not (nat_le b a) || (nat_le a b && tied)) ≡ true
not_above a b tied h = grind (arith, nat_tests)

least_passes : {ties : Ties} (space : SearchSpace) (ever : List Bool) (ns : List Node) (e : OpenEntry) (bound : Distance) → IsLeast ties space.heuristic ns ever e
    → bound ≤ᵈ Finite e.f → PassesFrom space bound ns
least_passes {ties = ties} space ever ns e bound l le i n f at waits is =
    is_at_most-from bound (Finite f)
    (at_most_through bound (Finite e.f) (Finite f) le (below_or_tied e.f f (ties_first ties (was_expanded ever e.index) e.index l.node (was_expanded ever i) i n) (l.first i n f at waits is)))

-- ---- what the first entry tells

pub no_open_none : (space : SearchSpace) (o : Owner) → HasNoneOpen space.heuristic o.nodes → no_open space o ≡ true
no_open_none space o h = all_pass space o.bound o.nodes (λ i n f at waits is. absurd (h i n f at waits is))

pub no_open_past : {ties : Ties} (space : SearchSpace) (ever : List Bool) (o : Owner) (e : OpenEntry) → IsLeast ties space.heuristic o.nodes ever e
    → is_at_most o.bound (Finite e.f) ≡ true → no_open space o ≡ true
no_open_past space ever o e l past =
    all_pass space o.bound o.nodes (least_passes space ever o.nodes e o.bound l (is_at_most-true o.bound (Finite e.f) past))

pub no_open_some : {ties : Ties} (space : SearchSpace) (ever : List Bool) (o : Owner) (e : OpenEntry) → IsLeast ties space.heuristic o.nodes ever e
    → is_at_most o.bound (Finite e.f) ≡ false → no_open space o ≡ false
no_open_some space ever o e l below =
    one_fails (λ n. n.expanded || is_at_most o.bound (f_value space n.state n.cost)) o.nodes e.index l.node l.there
    ((λ j. l.waits j || is_at_most o.bound (l.f j)) ∙ below)

finite_or : (b : Bool) (d : Distance) → (not b && not (is_at_most Infinite d)) ≡ true → (b ≡ false) × ((f : ℕ) × (d ≡ Finite f))
finite_or true d h = absurd (true≢false (sym h))
finite_or false Infinite h = absurd (true≢false (sym h))
finite_or false (Finite f) h = (refl, (f, refl))

pub is_next : {ties : Ties} (space : SearchSpace) (ever : List Bool) (ns : List Node) (bound : Distance) (e : OpenEntry) → (l : IsLeast ties space.heuristic ns ever e)
    → is_at_most bound (Finite e.f) ≡ false → IsNext ties space ns ever bound e.index l.node
is_next {ties = ties} space ever ns bound e l below = record {
  there = l.there;
  open_node = (λ j. not (l.waits j) && not (is_at_most Infinite (l.f j)));
  below = ap (is_at_most bound) l.f ∙ below;
  first = λ j x at opened.
      let (waits, (f, is)) = finite_or x.expanded (f_value space x.state x.cost) opened in
      (λ k. not (is_at_most (is k) (l.f k)) || (is_at_most (l.f k) (is k) && ties_first ties (was_expanded ever e.index) e.index l.node (was_expanded ever j) j x))
      ∙ not_above e.f f (ties_first ties (was_expanded ever e.index) e.index l.node (was_expanded ever j) j x) (l.first j x f at waits is);
}

pub may_be_expanded : {ties : Ties} (space : SearchSpace) (ever : List Bool) (o : Owner) (e : OpenEntry) → (l : IsLeast ties space.heuristic o.nodes ever e)
    → is_at_most o.bound (Finite e.f) ≡ false → may_expand space o l.node ≡ true
unfolding may_expand
may_be_expanded space ever o e l below =
    and_from (not l.node.expanded) _ (ap not l.waits)
    (and_from (not (is_at_most o.bound (f_value space l.node.state l.node.cost))) _ (ap not (ap (is_at_most o.bound) l.f ∙ below))
    (all_pass space (f_value space l.node.state l.node.cost) o.nodes
    (least_passes space ever o.nodes e (f_value space l.node.state l.node.cost) l
    (subst (λ (d : Distance). d ≤ᵈ Finite e.f) (sym l.f) (at_most_itself (Finite e.f))))))

-- ---- the least f-value

pub least_open_none : (space : SearchSpace) (ns : List Node) → HasNoneOpen space.heuristic ns → least_open space ns ≡ Infinite
least_open_none space [] h = refl
least_open_none space (n ∷ ns) h =
    (λ j. lesser (none n.expanded (f_value space n.state n.cost) (λ f waits is. h 0 n f refl waits is) j)
    (least_open_none space ns (λ i x f at. h (suc i) x f at) j))
  where
    none : (b : Bool) (d : Distance) → ((f : ℕ) → b ≡ false → d ≡ Finite f → ⊥) → cond b Infinite d ≡ Infinite
    none true d h = refl
    none false Infinite h = refl
    none false (Finite f) h = absurd (h f refl refl)

least_open_below : (space : SearchSpace) (ns : List Node) (i : ℕ) (n : Node) → At ns i n → n.expanded ≡ false
    → least_open space ns ≤ᵈ f_value space n.state n.cost
least_open_below space [] i n at waits = absurd at
least_open_below space (x ∷ ns) zero n at waits =
    subst (λ (d : Distance). lesser (cond x.expanded Infinite (f_value space x.state x.cost)) (least_open space ns) ≤ᵈ d)
    ((λ j. cond (ap (λ (y : Node). y.expanded) at j) Infinite (f_value space ((at j).state) ((at j).cost)))
    ∙ ap (λ b. cond b Infinite (f_value space n.state n.cost)) waits)
    (lesser_at_most_left (cond x.expanded Infinite (f_value space x.state x.cost)) (least_open space ns))
least_open_below space (x ∷ ns) (suc i) n at waits =
    at_most_through _ (least_open space ns) (f_value space n.state n.cost)
    (lesser_at_most_right (cond x.expanded Infinite (f_value space x.state x.cost)) (least_open space ns))
    (least_open_below space ns i n at waits)

least_open_above : (space : SearchSpace) (ns : List Node) (bound : Distance) → PassesFrom space bound ns → bound ≤ᵈ least_open space ns
least_open_above space [] bound h = tt
least_open_above space (n ∷ ns) bound h =
    at_most_lesser bound (cond n.expanded Infinite (f_value space n.state n.cost)) (least_open space ns)
    (one n.expanded (f_value space n.state n.cost) (λ waits f is. h 0 n f refl waits is))
    (least_open_above space ns bound (λ i x f at. h (suc i) x f at))
  where
    one : (b : Bool) (d : Distance) → (b ≡ false → (f : ℕ) → d ≡ Finite f → is_at_most bound (Finite f) ≡ true) → bound ≤ᵈ cond b Infinite d
    one true d h = tt
    one false Infinite h = tt
    one false (Finite f) h = is_at_most-true bound (Finite f) (h refl f refl)

pub least_open_first : {ties : Ties} (space : SearchSpace) (ever : List Bool) (ns : List Node) (e : OpenEntry) → IsLeast ties space.heuristic ns ever e
    → least_open space ns ≡ Finite e.f
least_open_first space ever ns e l =
    at_most_both (least_open space ns) (Finite e.f)
    (subst (λ (d : Distance). least_open space ns ≤ᵈ d) l.f (least_open_below space ns e.index l.node l.there l.waits))
    (least_open_above space ns (Finite e.f) (least_passes space ever ns e (Finite e.f) l (at_most_itself (Finite e.f))))
