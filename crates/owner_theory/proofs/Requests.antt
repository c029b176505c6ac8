-- Each list of steps that are asked for has a run.
use Rattle.std.proofs.Common.{◌≡◌, ◌⊎◌, ℕ, zero, suc, Bool, true, false, ◌||◌, List, [], ◌∷◌, refl, inl, inr, ⊎_elim}
use Rattle.std.specs.List.{list_all}
use Rattle.std.proofs.lemmas.Bool.{and_parts, and_from, or_parts, or_cases, or_left, or_right, cases_Bool, not_from_false}
use Rattle.cost.specs.Distances.{Distance, ◌≤ᵈ◌, is_at_most}
use Rattle.cost.proofs.DistanceLaws.{at_most_itself, at_most_through, is_at_most-true, is_at_most-from, is_at_most-false, below_is_at_most}
use Rattle.owner_theory.specs.Owners.{At, SearchSpace, Node, Owner, f_value, may_expand}
use Rattle.owner_theory.specs.Worlds.{World, Step, Expands, Sends, Delivers, Offers, Looks, Rests, Request, ToExpand, ToSend, ToDeliver, ToOffer, ToLook, ToRest, world_after, no_open, Does, IsRunOf}

other_way : (d e : Distance) → is_at_most d e ≡ false → is_at_most e d ≡ true
other_way d e h = is_at_most-from e d (below_is_at_most e d (is_at_most-false d e h))

-- either every node passes, or there is one that fails, and of those one of least f-value
abbrev LeastOpen : SearchSpace → Owner → List Node → Type 0
LeastOpen S o ns = (i : ℕ) × (e : Node) × At ns i e
    × ((e.expanded || is_at_most o.bound (f_value S e.state e.cost)) ≡ false)
    × (list_all (λ x. x.expanded || is_at_most (f_value S e.state e.cost) (f_value S x.state x.cost)) ns ≡ true)

weaker : (S : SearchSpace) (x y : Distance) (ns : List Node) → x ≤ᵈ y → list_all
    (λ (z : Node). z.expanded || is_at_most y (f_value S z.state z.cost)) ns ≡ true → list_all
    (λ (z : Node). z.expanded || is_at_most x (f_value S z.state z.cost)) ns ≡ true
weaker S x y [] le h = refl
weaker S x y (e ∷ ns) le h = and_from _ _ (one e.expanded (is_at_most y (f_value S e.state e.cost))
    (is_at_most x (f_value S e.state e.cost)) (λ q. is_at_most-from x (f_value S e.state e.cost)
    (at_most_through x y (f_value S e.state e.cost) le (is_at_most-true y (f_value S e.state e.cost) q)))
    (and_parts _ _ h).0) (weaker S x y ns le (and_parts _ _ h).1)
  where
    one : (a b c : Bool) → (b ≡ true → c ≡ true) → (a || b) ≡ true → (a || c) ≡ true
    one true b c f h = refl
    one false b c f h = f h

least_open : (S : SearchSpace) (o : Owner) (ns : List Node)
    → (list_all (λ e. e.expanded || is_at_most o.bound (f_value S e.state e.cost)) ns ≡ true) ⊎ LeastOpen S o ns
least_open S o [] = inl refl
least_open S o (e ∷ ns) =
    let f = f_value S e.state e.cost in
    ⊎_elim
    (λ (pass : (e.expanded || is_at_most o.bound f) ≡ true). ⊎_elim
    (λ (rest : list_all (λ x. x.expanded || is_at_most o.bound (f_value S x.state x.cost)) ns ≡ true). inl
    (and_from _ _ pass rest))
    (λ (found : LeastOpen S o ns). let (i, x, at, fails, least) = found in inr
    (suc i, x, at, fails, and_from _ _ (passes x pass (or_parts _ _ fails).1) least))
    (least_open S o ns))
    (λ (fails : (e.expanded || is_at_most o.bound f) ≡ false). ⊎_elim
    (λ (rest : list_all (λ x. x.expanded || is_at_most o.bound (f_value S x.state x.cost)) ns ≡ true).
    inr (
      zero,
      e,
      refl,
      fails,
      and_from _ _ (or_right e.expanded (is_at_most f f) (is_at_most-from f f (at_most_itself f)))
          (weaker S f o.bound ns (is_at_most-true f o.bound (other_way o.bound f (or_parts _ _ fails).1)) rest),
    ))
    (λ (found : LeastOpen S o ns). let (i, x, at, fails', least) = found in
    ⊎_elim
    (λ (less : is_at_most f (f_value S x.state x.cost) ≡ true). inr (
      zero,
      e,
      refl,
      fails,
      and_from _ _ (or_right e.expanded (is_at_most f f) (is_at_most-from f f (at_most_itself f)))
          (weaker S f (f_value S x.state x.cost) ns (is_at_most-true f (f_value S x.state x.cost) less) least),
    ))
    (λ (more : is_at_most f (f_value S x.state x.cost) ≡ false). inr (
      suc i,
      x,
      at,
      fails',
      and_from _ _ (or_right e.expanded (is_at_most (f_value S x.state x.cost) f)
          (other_way f (f_value S x.state x.cost) more)) least,
    ))
    (cases_Bool (is_at_most f (f_value S x.state x.cost))))
    (least_open S o ns))
    (cases_Bool (e.expanded || is_at_most o.bound f))
  where
    passes : (x : Node) → (e.expanded || is_at_most o.bound (f_value S e.state e.cost)) ≡ true → is_at_most o.bound
        (f_value S x.state x.cost) ≡ false → (e.expanded || is_at_most (f_value S x.state x.cost)
        (f_value S e.state e.cost)) ≡ true
    passes x pass out = ⊎_elim
        (λ (done : e.expanded ≡ true). or_left e.expanded (is_at_most (f_value S x.state x.cost) (f_value S e.state e.cost)) done)
        (λ (le : is_at_most o.bound (f_value S e.state e.cost) ≡ true). or_right e.expanded
        (is_at_most (f_value S x.state x.cost) (f_value S e.state e.cost))
        (is_at_most-from (f_value S x.state x.cost) (f_value S e.state e.cost)
        (at_most_through (f_value S x.state x.cost) o.bound (f_value S e.state e.cost)
        (is_at_most-true (f_value S x.state x.cost) o.bound (other_way o.bound (f_value S x.state x.cost) out))
        (is_at_most-true o.bound (f_value S e.state e.cost) le))))
        (or_cases e.expanded (is_at_most o.bound (f_value S e.state e.cost)) pass)

may_from : (S : SearchSpace) (o : Owner) (e : Node) → (e.expanded || is_at_most o.bound (f_value S e.state e.cost)) ≡ false
    → list_all (λ x. x.expanded || is_at_most (f_value S e.state e.cost) (f_value S x.state x.cost)) o.nodes ≡ true
    → may_expand S o e ≡ true
unfolding may_expand
may_from S o e fails least = and_from _ _ (not_from_false e.expanded (or_parts _ _ fails).0)
    (and_from _ _ (not_from_false (is_at_most o.bound (f_value S e.state e.cost)) (or_parts _ _ fails).1) least)

do_it : (S : SearchSpace) (W : World) (x : Request) → (s : Step) × Does S W x s
do_it S W (ToExpand w) =
    ⊎_elim
    (λ (none : no_open S (W.logs w).owner ≡ true). (Expands w 0, (0, refl, inr none)))
    (λ (found : LeastOpen S (W.logs w).owner (W.logs w).owner.nodes). let (i, e, at, fails, least) = found in
    (Expands w i, (i, refl, inl (e, at, may_from S (W.logs w).owner e fails least))))
    (least_open S (W.logs w).owner (W.logs w).owner.nodes)
do_it S W (ToSend w v) = (Sends w v, refl)
do_it S W (ToDeliver v k) = (Delivers v k, refl)
do_it S W (ToOffer w) = (Offers w, refl)
do_it S W (ToLook w) = (Looks w, refl)
do_it S W (ToRest w) = (Rests w, refl)

pub all_asked : (S : SearchSpace) (W : World) (ws : List Request) → (ss : List Step) × IsRunOf S W ws ss
all_asked S W [] = ([], tt)
all_asked S W (x ∷ xs) =
    let (s, does) = do_it S W x in
    let (ss, rest) = all_asked S (world_after S W s) xs in
    (s ∷ ss, (does, rest))
