-- Bounds that are offered and seen, and owners that rest.
use Rattle.std.proofs.Common.{◌≡◌, ◌≢◌, ◌⊎◌, ℕ, ◌<◌, ◌≤◌, ◌==◌, Bool, true, false, not, ◌&&◌, List, length, refl, sym, ap, ◌∙◌, subst, ⊎_elim, arith, cond}
use Rattle.std.specs.Prelude.{slice_set, nat_lt, nat_le}
use Rattle.std.specs.Ordering.{is_ge, is_eq}
use Rattle.std.specs.declared.cmp.Ordering.TheVariants.{Less, Equal, Greater}
use Rattle.std.specs.Option.{option_map_or}
use Rattle.std.proofs.lemmas.List.{length-set}
use Rattle.std.proofs.lemmas.Bool.{true≢false, and_from, and_parts, and_left, and_right, not-false, eqb-false, eq-eqb, ne_eqb, cond_both, le-ltb, lt-ltb, le-leb, lt-leb, cases_order}
use Rattle.cost.specs.Distances.{Distance, Finite, Infinite, is_at_most, is_below, distance_cmp, lesser, ◌≤ᵈ◌}
use Rattle.cost.proofs.DistanceLaws.{at_most_infinite, at_most_itself, at_most_both, is_at_most-true, is_at_most-from, is_below-true, is_below-false, below_is_at_most, lesser_left, lesser_right}
use Rattle.owner_theory.specs.Owners.{At, Owner, Look as Looking, Offer as Offering, happens, put}
use Rattle.owner_theory.specs.Worlds.{World, Offers, Looks, Rests, idle}
use Rattle.owner_theory.proofs.Lists.{put_cases, at_once}
use Rattle.owner.specs.Owned.{OwnerOf, under}
use Rattle.owner.proofs.Logs.{log_after}
use Rattle.netcore.specs.declared.step.WorldStep.TheVariants.{Offer, Look, Rest}
use Rattle.netcore.specs.Worlds.{WorldOf, space_in, Shows, Steps, differ}
use Rattle.netcore.specs.Kept.{IsStepDone, IsWorld}
use Rattle.netcore.proofs.Places.{at_below, at_read, at_set, set_there, set_elsewhere}
use Rattle.netcore.proofs.Shown.{shown, nothing_done, kept, run_after, same_owners}
use Rattle.netcore.proofs.Expanding.{at_owner_here, at_owner_past}

module _ {S : Type 0} (owner : S → List ℕ → ℕ → ℕ) where
  -- ---- offering
  -- the bound is the lesser of itself and what is offered
  offered : (old : WorldOf S) (v : ℕ) (bound : Distance) (world : World) → Shows owner old world
      → lesser world.bound (world.logs v).owner.best ≡ bound → Steps owner old world (Offer v) (record old { bound = bound })
  offered old v bound world shows is = record {
    step = Offers v;
    does = refl;
    shown = shown owner old (record old { bound = bound }) world v (happens (space_in owner old) v (world.logs v) Offering) world.underway
        (lesser world.bound (world.logs v).owner.best) world.resting shows refl refl
        (λ o b at seen. let log = shows.owners v o b at seen in
        log_after (world.logs v) (happens (space_in owner old) v (world.logs v) Offering) o o b b log log.owner refl refl refl)
        (λ u o b ne at seen. (at, seen))
        (shows.others v) shows.underway is shows.resting;
  }

  pub offer_past : (old : WorldOf S) (v : ℕ) → length old.owners ≤ v → IsStepDone owner old old (Offer v) false
  offer_past old v le = nothing_done owner old (Offer v) false refl (at_owner_past owner old v _ le)
      (λ world shows. offered old v old.bound world shows
      (ap (lesser world.bound) (shows.others v le).best ∙ (lesser_left world.bound Infinite (at_most_infinite world.bound) ∙ shows.bound)))

  offered_best : (old : WorldOf S) (v : ℕ) (o : OwnerOf S) (b : Distance) (world : World) → At old.owners v o → At old.seen v b
      → Shows owner old world → lesser world.bound (world.logs v).owner.best ≡ lesser old.bound o.best
  offered_best old v o b world at seen shows = ap (λ x. lesser x (world.logs v).owner.best) shows.bound
      ∙ ap (λ (w : Owner). lesser old.bound w.best) (shows.owners v o b at seen).owner

  pub offer_none : (old : WorldOf S) (v : ℕ) (o : OwnerOf S) (b : Distance) → At old.owners v o → At old.seen v b
      → is_below o.best old.bound ≡ false → IsStepDone owner old old (Offer v) false
  offer_none old v o b at seen above = nothing_done owner old (Offer v) false refl (at_owner_here owner old v o b _ at seen ∙ above)
      (λ world shows. offered old v old.bound world shows (offered_best old v o b world at seen shows
      ∙ lesser_left old.bound o.best (is_below-false o.best old.bound above)))

  pub offer_done : (old : WorldOf S) (v : ℕ) (o : OwnerOf S) (b : Distance) → At old.owners v o → At old.seen v b
      → is_below o.best old.bound ≡ true → IsStepDone owner old (record old { bound = o.best }) (Offer v) true
  offer_done old v o b at seen less = record {
    stepped = λ world shows. offered old v o.best world shows (offered_best old v o b world at seen shows
        ∙ lesser_right old.bound o.best (below_is_at_most o.best old.bound (is_below-true o.best old.bound less)));
    changed_is = sym (at_owner_here owner old v o b _ at seen ∙ less);
    unchanged = λ e. absurd (true≢false e);
    limited = refl;
    space = refl;
    owners = refl;
  }

  pub offer_kept : (old : WorldOf S) (v : ℕ) (o : OwnerOf S) (b : Distance) → IsWorld owner old → At old.owners v o → At old.seen v b
      → is_below o.best old.bound ≡ true → IsWorld owner (record old { bound = o.best })
  offer_kept old v o b is at seen less =
      let new : WorldOf S = record old { bound = o.best } in
      kept owner old new is refl refl refl refl refl (same_owners owner old new refl) is.messages
      (run_after owner old new (Offer v) true (offer_done old v o b at seen less) is)

  -- ---- looking
  looked : (old : WorldOf S) (v : ℕ) (seen : List Distance) (world : World) → Shows owner old world
      → ((u : ℕ) (c : Distance) → u ≢ v → At seen u c → At old.seen u c)
      → ((o : OwnerOf S) (c : Distance) → At old.owners v o → At seen v c → (b : Distance) × At old.seen v b × (c ≡ old.bound))
      → Steps owner old world (Look v) (record old { seen = seen })
  looked old v seen world shows there here = record {
    step = Looks v;
    does = refl;
    shown = shown owner old (record old { seen = seen }) world v (happens (space_in owner old) v (world.logs v) (Looking world.bound))
        world.underway world.bound world.resting shows refl refl
        (λ o c at at_c. let (b, at_b, is) = here o c at at_c in
        let log = shows.owners v o b at at_b in
        log_after (world.logs v) (happens (space_in owner old) v (world.logs v) (Looking world.bound)) o o b c log
        (ap (λ (w : Owner). let after : Owner = record { nodes = w.nodes; outboxes = w.outboxes; bound = world.bound; best = w.best } in after) log.owner
        ∙ ap (λ z. under o z) (shows.bound ∙ sym is)) refl refl refl)
        (λ u o c ne at at_c. (at, there u c ne at_c))
        (λ le. let void = shows.others v le in record { nodes = void.nodes; outboxes = void.outboxes; best = void.best })
        shows.underway shows.bound shows.resting;
  }

  pub look_past : (old : WorldOf S) (v : ℕ) → length old.owners ≤ v → IsStepDone owner old old (Look v) false
  look_past old v le = nothing_done owner old (Look v) false refl (at_owner_past owner old v _ le)
      (λ world shows. looked old v old.seen world shows (λ u c ne at. at)
      (λ o c at at_c. let lt = at_below old.owners v o at in absurd (omega arith)))

  pub look_none : (old : WorldOf S) (v : ℕ) (o : OwnerOf S) (b : Distance) → At old.owners v o → At old.seen v b → b ≡ old.bound
      → IsStepDone owner old old (Look v) false
  look_none old v o b at seen same = nothing_done owner old (Look v) false refl
      (at_owner_here owner old v o b _ at seen ∙ ap not (and_from (is_at_most b old.bound) (is_at_most old.bound b)
      (is_at_most-from b old.bound (subst (λ z. b ≤ᵈ z) same (at_most_itself b)))
      (is_at_most-from old.bound b (subst (λ z. z ≤ᵈ b) same (at_most_itself b)))))
      (λ world shows. looked old v old.seen world shows (λ u c ne there. there)
      (λ p c there at_c. (c, at_c, at_once old.seen v c b at_c seen ∙ same)))

  pub look_done : (old : WorldOf S) (v : ℕ) (o : OwnerOf S) (b : Distance) → At old.owners v o → At old.seen v b → differ b old.bound ≡ true
      → IsStepDone owner old (record old { seen = slice_set old.seen v old.bound }) (Look v) true
  look_done old v o b at seen other = record {
    stepped = λ world shows. looked old v (slice_set old.seen v old.bound) world shows (λ u c ne there. set_elsewhere old.seen v old.bound u c ne there)
        (λ p c there at_c. (b, seen, sym (set_there old.seen v old.bound c at_c)));
    changed_is = sym (at_owner_here owner old v o b _ at seen ∙ other);
    unchanged = λ e. absurd (true≢false e);
    limited = refl;
    space = refl;
    owners = refl;
  }

  pub look_kept : (old : WorldOf S) (v : ℕ) (o : OwnerOf S) (b : Distance) → IsWorld owner old → At old.owners v o → At old.seen v b
      → differ b old.bound ≡ true → IsWorld owner (record old { seen = slice_set old.seen v old.bound })
  look_kept old v o b is at seen other =
      let new : WorldOf S = record old { seen = slice_set old.seen v old.bound } in
      kept owner old new is refl refl refl (length-set old.seen v old.bound) refl (same_owners owner old new refl) is.messages
      (run_after owner old new (Look v) true (look_done old v o b at seen other) is)

  -- ---- resting
  rested : (old : WorldOf S) (v : ℕ) (resting : List Bool) (world : World) → Shows owner old world
      → ((u : ℕ) (r : Bool) → At resting u r → put world.resting v true u ≡ r)
      → ((u : ℕ) (r : Bool) → At resting u r → idle (space_in owner old) (world.logs v).owner ≡ false → At old.resting u r)
      → Steps owner old world (Rest v) (record old { resting = resting })
  rested old v resting world shows rests otherwise =
      let space = space_in owner old in
      let new : WorldOf S = record old { resting = resting } in
      record {
        step = Rests v;
        does = refl;
        shown = cond_both (idle space (world.logs v).owner) (record world { resting = put world.resting v true }) world (Shows owner new)
            (λ _. record { owners = shows.owners; underway = shows.underway; bound = shows.bound; resting = rests; others = shows.others })
            (λ busy. record {
              owners = shows.owners;
              underway = shows.underway;
              bound = shows.bound;
              resting = λ u r at. shows.resting u r (otherwise u r at busy);
              others = shows.others;
            });
      }

  pub rest_past : (old : WorldOf S) (v : ℕ) → length old.resting ≡ length old.owners → length old.owners ≤ v → IsStepDone owner old old (Rest v) false
  rest_past old v flags le = nothing_done owner old (Rest v) false refl (at_owner_past owner old v _ le)
      (λ world shows. rested old v old.resting world shows
      (λ u r at. put_cases world.resting v true u (λ y. y ≡ r)
      (λ e. let lt = at_below old.resting u r at in absurd (omega arith)) (λ _. shows.resting u r at))
      (λ u r at busy. at))

  -- it rests already
  pub rest_again : (old : WorldOf S) (v : ℕ) (o : OwnerOf S) (b : Distance) → At old.owners v o → At old.seen v b → At old.resting v true
      → IsStepDone owner old old (Rest v) false
  rest_again old v o b at seen rests = nothing_done owner old (Rest v) false refl
      (at_owner_here owner old v o b _ at seen ∙ and_left _ _ (ap (λ x. option_map_or not x false) (at_read old.resting v true rests)))
      (λ world shows. rested old v old.resting world shows
      (λ u r there. put_cases world.resting v true u (λ y. y ≡ r)
      (λ e. at_once old.resting v true r rests (subst (λ k. At old.resting k r) e there)) (λ _. shows.resting u r there))
      (λ u r there busy. there))

  pub rest_busy : (old : WorldOf S) (v : ℕ) (o : OwnerOf S) (b : Distance) → At old.owners v o → At old.seen v b
      → idle (space_in owner old) (under o b) ≡ false → IsStepDone owner old old (Rest v) false
  rest_busy old v o b at seen busy = nothing_done owner old (Rest v) false refl
      (at_owner_here owner old v o b _ at seen ∙ and_right _ _ busy)
      (λ world shows. record {
        step = Rests v;
        does = refl;
        shown = cond_both (idle (space_in owner old) (world.logs v).owner) (record world { resting = put world.resting v true }) world (Shows owner old)
            (λ idles. absurd (true≢false (sym idles ∙ (ap (idle (space_in owner old)) (shows.owners v o b at seen).owner ∙ busy))))
            (λ _. shows);
      })

  pub rest_done : (old : WorldOf S) (v : ℕ) (o : OwnerOf S) (b : Distance) → At old.owners v o → At old.seen v b → At old.resting v false
      → idle (space_in owner old) (under o b) ≡ true → IsStepDone owner old (record old { resting = slice_set old.resting v true }) (Rest v) true
  rest_done old v o b at seen awake idles = record {
    stepped = λ world shows. rested old v (slice_set old.resting v true) world shows
        (λ u r there. ⊎_elim
        (λ (h : (u ≡ v) × (true ≡ r)). put_cases world.resting v true u (λ y. y ≡ r) (λ _. h.1) (λ ne. absurd (eqb-false u v ne h.0)))
        (λ (h : (u ≢ v) × At old.resting u r). put_cases world.resting v true u (λ y. y ≡ r) (λ e. absurd (h.0 e)) (λ _. shows.resting u r h.1))
        (at_set old.resting v true u r there))
        (λ u r there busy. absurd (true≢false (sym idles ∙ (sym (ap (idle (space_in owner old)) (shows.owners v o b at seen).owner) ∙ busy))));
    changed_is = sym (at_owner_here owner old v o b _ at seen ∙ and_from _ _
        (ap (λ x. option_map_or not x false) (at_read old.resting v false awake)) idles);
    unchanged = λ e. absurd (true≢false e);
    limited = refl;
    space = refl;
    owners = refl;
  }

  pub rest_kept : (old : WorldOf S) (v : ℕ) (o : OwnerOf S) (b : Distance) → IsWorld owner old → At old.owners v o → At old.seen v b
      → At old.resting v false → idle (space_in owner old) (under o b) ≡ true → IsWorld owner (record old { resting = slice_set old.resting v true })
  rest_kept old v o b is at seen awake idles =
      let new : WorldOf S = record old { resting = slice_set old.resting v true } in
      kept owner old new is refl refl refl refl (length-set old.resting v true) (same_owners owner old new refl) is.messages
      (run_after owner old new (Rest v) true (rest_done old v o b at seen awake idles) is)

-- ---- tests
ge_of : (a e : Bool) → is_ge (cond a Less (cond e Equal Greater)) ≡ not a
ge_of true e = refl
ge_of false true = refl
ge_of false false = refl

pub not_less : (x y : Distance) → is_ge (distance_cmp x y) ≡ not (is_below x y)
not_less (Finite m) (Finite n) = ge_of (nat_lt m n) (m == n)
not_less (Finite m) Infinite = refl
not_less Infinite (Finite n) = refl
not_less Infinite Infinite = refl

numbers_differ : (m n : ℕ) → is_eq (cond (nat_lt m n) Less (cond (m == n) Equal Greater)) ≡ (nat_le m n && nat_le n m)
numbers_differ m n = ⊎_elim
    (λ (e : m ≡ n). ap (λ a. is_eq (cond a Less (cond (m == n) Equal Greater))) (le-ltb m n (omega arith))
    ∙ (ap (λ a. is_eq (cond a Equal Greater)) (eq-eqb m n e) ∙ sym (and_from (nat_le m n) (nat_le n m) (le-leb m n (omega arith)) (le-leb n m (omega arith)))))
    (λ (other : (m < n) ⊎ (n < m)). ⊎_elim
    (λ (lt : m < n). ap (λ a. is_eq (cond a Less (cond (m == n) Equal Greater))) (lt-ltb m n lt)
    ∙ sym (and_right (nat_le m n) (nat_le n m) (lt-leb n m lt)))
    (λ (lt : n < m). ap (λ a. is_eq (cond a Less (cond (m == n) Equal Greater))) (le-ltb m n (omega arith))
    ∙ (ap (λ a. is_eq (cond a Equal Greater)) (ne_eqb m n (omega arith)) ∙ sym (and_left (nat_le m n) (nat_le n m) (lt-leb m n lt))))
    other)
    (cases_order m n)

pub same_or_differ : (x y : Distance) → is_eq (distance_cmp x y) ≡ not (differ x y)
same_or_differ (Finite m) (Finite n) = numbers_differ m n ∙ sym (twice (nat_le m n && nat_le n m))
  where
    twice : (b : Bool) → not (not b) ≡ b
    twice true = refl
    twice false = refl
same_or_differ (Finite m) Infinite = refl
same_or_differ Infinite (Finite n) = refl
same_or_differ Infinite Infinite = refl

pub not_different : (x y : Distance) → differ x y ≡ false → x ≡ y
not_different x y same =
    let both = and_parts (is_at_most x y) (is_at_most y x) (not-false (is_at_most x y && is_at_most y x) same) in
    at_most_both x y (is_at_most-true x y both.0) (is_at_most-true y x both.1)
