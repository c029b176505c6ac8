-- The next node of an owner may be expanded.
use Rattle.std.proofs.Common.{◌≡◌, ℕ, zero, suc, Bool, true, false, not, ◌||◌, List, [], ◌∷◌, refl, ap, ◌∙◌, ⊎_elim}
use Rattle.std.specs.List.{list_all}
use Rattle.std.proofs.lemmas.Bool.{cases_Bool, and_parts, and_from, and_left, and_right, or_cases, or_left, or_right, or_from, not-true, not_from_false}
use Rattle.cost.specs.Distances.{Distance, Infinite, is_at_most}
use Rattle.cost.proofs.DistanceLaws.{at_most_through, at_most_infinite, is_at_most-true, is_at_most-from, is_at_most-false, below_is_at_most}
use Rattle.owner_theory.specs.Owners.{At, SearchSpace, Node, Owner, f_value, may_expand}
use Rattle.owner_theory.specs.Worlds.{no_open}
use Rattle.owner_space.specs.declared.ties.Ties.{Ties}
use Rattle.owner.specs.Owned.{IsNext, is_open, goes_before}

all_from : (test : Node → Bool) (ns : List Node) → ((i : ℕ) (x : Node) → At ns i x → test x ≡ true) → list_all test ns ≡ true
all_from test [] h = refl
all_from test (x ∷ ns) h = and_from _ _ (h zero x refl) (all_from test ns (λ i y at. h (suc i) y at))

one_fails : (test : Node → Bool) (ns : List Node) (i : ℕ) (x : Node) → At ns i x → test x ≡ false → list_all test ns ≡ false
one_fails test [] i x at e = absurd at
one_fails test (y ∷ ns) zero x at e = and_left _ _ (ap test at ∙ e)
one_fails test (y ∷ ns) (suc i) x at e = and_right _ _ (one_fails test ns i x at e)

-- what comes first is of least f-value
first_is_least : (ties : Ties) (space : SearchSpace) (ever : List Bool) (i : ℕ) (n : Node) (j : ℕ) (x : Node) → goes_before ties space ever i n j x ≡ true
    → is_at_most (f_value space n.state n.cost) (f_value space x.state x.cost) ≡ true
first_is_least ties space ever i n j x h =
    let f = f_value space n.state n.cost in
    let e = f_value space x.state x.cost in
    ⊎_elim
    (λ (above : not (is_at_most e f) ≡ true). is_at_most-from f e (below_is_at_most f e (is_at_most-false e f (not-true (is_at_most e f) above))))
    (λ (rest : _ ≡ true). (and_parts (is_at_most f e) _ rest).0)
    (or_cases (not (is_at_most e f)) _ h)

past_or_open : (ties : Ties) (space : SearchSpace) (ever : List Bool) (o : Owner) (i : ℕ) (n : Node) (j : ℕ) (x : Node)
    → (is_open space x ≡ true → goes_before ties space ever i n j x ≡ true)
    → (x.expanded || is_at_most (f_value space n.state n.cost) (f_value space x.state x.cost)) ≡ true
past_or_open ties space ever o i n j x first =
    let f = f_value space n.state n.cost in
    let e = f_value space x.state x.cost in
    ⊎_elim
    (λ (done : x.expanded ≡ true). or_left x.expanded (is_at_most f e) done)
    (λ (there : x.expanded ≡ false). or_right x.expanded (is_at_most f e) (⊎_elim
    (λ (endless : is_at_most Infinite e ≡ true). is_at_most-from f e
    (at_most_through f Infinite e (at_most_infinite f) (is_at_most-true Infinite e endless)))
    (λ (finite : is_at_most Infinite e ≡ false). first_is_least ties space ever i n j x
    (first (and_from (not x.expanded) (not (is_at_most Infinite e)) (not_from_false x.expanded there) (not_from_false (is_at_most Infinite e) finite))))
    (cases_Bool (is_at_most Infinite e))))
    (cases_Bool x.expanded)

pub next_may : {ties : Ties} (space : SearchSpace) (ever : List Bool) (o : Owner) (i : ℕ) (n : Node) → IsNext ties space o.nodes ever o.bound i n → may_expand space o n ≡ true
unfolding may_expand
next_may {ties = ties} space ever o i n next =
    and_from _ _ (and_parts (not n.expanded) _ next.open_node).0
    (and_from _ _ (not_from_false (is_at_most o.bound (f_value space n.state n.cost)) next.below)
    (all_from (λ x. x.expanded || is_at_most (f_value space n.state n.cost) (f_value space x.state x.cost)) o.nodes
    (λ j x at. past_or_open ties space ever o i n j x (next.first j x at))))

pub next_open : {ties : Ties} (space : SearchSpace) (ever : List Bool) (o : Owner) (i : ℕ) (n : Node) → IsNext ties space o.nodes ever o.bound i n → no_open space o ≡ false
next_open space ever o i n next = one_fails (λ x. x.expanded || is_at_most o.bound (f_value space x.state x.cost)) o.nodes i n next.there
    (or_from n.expanded (is_at_most o.bound (f_value space n.state n.cost)) (not-true n.expanded (and_parts (not n.expanded) _ next.open_node).0) next.below)
