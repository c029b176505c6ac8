-- Expanding a node, and owners that are changed.
use Rattle.std.proofs.Common.{◌≡◌, ◌≢◌, ℕ, zero, suc, ◌+◌, ◌≤◌, Bool, true, false, not, ◌||◌, List, [], ◌∷◌, length, Option, Some, None, refl, sym, ap, ◌∙◌, subst, inl, inr, ⊎_elim, arith, is_some}
use Rattle.std.specs.Prelude.{slice_get, slice_set}
use Rattle.std.specs.List.{list_all}
use Rattle.std.specs.Option.{option_map_or}
use Rattle.std.proofs.lemmas.Option.{slice_get_past}
use Rattle.std.proofs.lemmas.List.{length-set}
use Rattle.std.proofs.lemmas.Bool.{true≢false, cases_Bool, and_parts, and_from, and_left, and_right, or_cases, or_left, or_right, or_from, not-true, not_from_false}
use Rattle.cost.specs.Distances.{Distance, Infinite, is_at_most}
use Rattle.cost.proofs.DistanceLaws.{at_most_through, at_most_infinite, is_at_most-true, is_at_most-from, is_at_most-false, below_is_at_most}
use Rattle.owner_theory.specs.Owners.{At, SearchSpace, Node, Owner, Log, Expand as Expanding, f_value, count_at, expanded_at, happens}
use Rattle.owner_theory.specs.Worlds.{World, Expands, no_open, MayExpandAt}
use Rattle.owner_theory.proofs.Lists.{at_once}
use Rattle.owner.proofs.NextNodes.{next_may, next_open}
use Rattle.owner.proofs.Logs.{log_expanded}
use Rattle.owner.specs.Spaces.{searched}
use Rattle.owner.specs.Owned as owned
use Rattle.owner.specs.Owned.{OwnerOf, IsLogOf, under, space_of, IsNext, IsExpansion, IsRefusal}
use Rattle.owner_space.specs.declared.ties.Ties.{Ties}
use Rattle.owner.specs.declared.fault.OwnerFault.{OwnerFault}
use Rattle.owner.specs.declared.fault.OwnerFault.TheVariants.{OutOfMemory, TotalTooLarge, LimitReached}
use Rattle.netcore.specs.declared.step.WorldStep.{WorldStep}
use Rattle.netcore.specs.declared.step.WorldStep.TheVariants.{Expand}
use Rattle.netcore.specs.Worlds.{WorldOf, space_in, Shows, Steps, IsStepRefusal, at_owner, would_change}
use Rattle.netcore.specs.Kept.{IsStepDone, IsStepRefused, IsWorld}
use Rattle.netcore.proofs.Places.{at_below, at_read, at_set, set_same, set_there, set_elsewhere}
use Rattle.netcore.proofs.Shown.{shown, shown_same, nothing_done, kept, run_after}

no_more : (n : ℕ) → n + 0 ≡ n
no_more n = omega arith

module _ {S : Type 0} (owner : S → List ℕ → ℕ → ℕ) where
  -- ---- one owner and its bound
  pub at_owner_here : (w : WorldOf S) (v : ℕ) (o : OwnerOf S) (b : Distance) (holds : OwnerOf S → Distance → Bool)
      → At w.owners v o → At w.seen v b → at_owner w v holds ≡ holds o b
  at_owner_here w v o b holds at seen =
      ap (λ x. option_map_or (λ (p : OwnerOf S). option_map_or (holds p) (slice_get w.seen v) false) x false) (at_read w.owners v o at)
      ∙ ap (λ x. option_map_or (holds o) x false) (at_read w.seen v b seen)

  pub at_owner_past : (w : WorldOf S) (v : ℕ) (holds : OwnerOf S → Distance → Bool) → length w.owners ≤ v → at_owner w v holds ≡ false
  at_owner_past w v holds le =
      ap (λ x. option_map_or (λ (p : OwnerOf S). option_map_or (holds p) (slice_get w.seen v) false) x false) (slice_get_past w.owners v le)

  pub owner_space : (w : WorldOf S) (v : ℕ) (o : OwnerOf S) → IsWorld owner w → At w.owners v o → space_of owner o ≡ space_in owner w
  owner_space w v o is at = ap (λ s. searched owner s (length o.outboxes)) (is.spaces v o at)
      ∙ ap (λ n. searched owner w.space n) (is.outboxes v o at)

  pub here_one : (old : WorldOf S) (v : ℕ) (p : OwnerOf S) (b : Distance) (l : Log) → At old.seen v b → IsLogOf l p b
      → (q : OwnerOf S) (c : Distance) → At (slice_set old.owners v p) v q → At old.seen v c → IsLogOf l q c
  here_one old v p b l seen is q c at seen2 =
      subst (λ (z : OwnerOf S). IsLogOf l z c) (set_there old.owners v p q at) (subst (λ (z : Distance). IsLogOf l p z) (at_once old.seen v b c seen seen2) is)

  pub there_one : (old : WorldOf S) (v : ℕ) (p : OwnerOf S) (u : ℕ) (q : OwnerOf S) (c : Distance) → u ≢ v
      → At (slice_set old.owners v p) u q → At old.seen u c → At old.owners u q × At old.seen u c
  there_one old v p u q c ne at seen = (set_elsewhere old.owners v p u q ne at, seen)

  pub one_owner : (old : WorldOf S) (v : ℕ) (o p : OwnerOf S) → At old.owners v o → p.space ≡ o.space → p.worker ≡ o.worker
      → length p.outboxes ≡ length o.outboxes → (u : ℕ) (q : OwnerOf S) → At (slice_set old.owners v p) u q
      → (r : OwnerOf S) × At old.owners u r × (q.space ≡ r.space) × (q.worker ≡ r.worker) × (length q.outboxes ≡ length r.outboxes)
  one_owner old v o p at a b c u q there = ⊎_elim
      (λ (h : (u ≡ v) × (p ≡ q)). (
        o,
        subst (λ k. At old.owners k o) (sym h.0) at,
        sym (ap (λ (z : OwnerOf S). z.space) h.1) ∙ a,
        sym (ap (λ (z : OwnerOf S). z.worker) h.1) ∙ b,
        sym (ap (λ (z : OwnerOf S). length z.outboxes) h.1) ∙ c,
      ))
      (λ (h : (u ≢ v) × At old.owners u q). (q, h.1, refl, refl, refl))
      (at_set old.owners v p u q there)

  abbrev pub with_owner : WorldOf S → ℕ → OwnerOf S → WorldOf S
  with_owner w v p = record w { owners = slice_set w.owners v p }

  pub as_it_was : (old : WorldOf S) (v : ℕ) (o p : OwnerOf S) → At old.owners v o → p ≡ o → with_owner old v p ≡ old
  as_it_was old v o p at same =
      ap (λ (os : List (OwnerOf S)). record old { owners = os }) (ap (λ z. slice_set old.owners v z) same ∙ set_same old.owners v o at)

  -- ---- nothing to expand
  pub stays : (old : WorldOf S) (v : ℕ) (world : World) → Shows owner old world → no_open (space_in owner old) (world.logs v).owner ≡ true
      → Steps owner old world (Expand v) old
  stays old v world shows none =
      let space = space_in owner old in
      let i = length (world.logs v).owner.nodes in
      let past : slice_get (world.logs v).owner.nodes i ≡ None = slice_get_past (world.logs v).owner.nodes i (omega arith) in
      record {
        step = Expands v i;
        does = (i, refl, inr none);
        shown = shown_same owner old world v (happens space v (world.logs v) (Expanding i)) shows
            (ap (λ x. expanded_at space v (world.logs v).owner i x) past)
            (ap (λ x. (world.logs v).expansions + count_at space (world.logs v).owner x) past ∙ no_more (world.logs v).expansions);
      }

  pub expand_past : (old : WorldOf S) (v : ℕ) → length old.owners ≤ v → IsStepDone owner old old (Expand v) false
  expand_past old v le = nothing_done owner old (Expand v) false refl (at_owner_past old v _ le)
      (λ world shows. stays old v world shows
      (ap (λ (ns : List Node). list_all (λ n. n.expanded || is_at_most (world.logs v).owner.bound (f_value (space_in owner old) n.state n.cost)) ns) (shows.others v le).nodes))

  -- ---- a node is expanded
  pub expand_one : (old : WorldOf S) (v : ℕ) (o p : OwnerOf S) (b : Distance) (posted : ℕ) → IsWorld owner old → At old.owners v o → At old.seen v b
      → owned.Expands owner b o posted p → IsStepDone owner old (with_owner old v p) (Expand v) true
  expand_one old v o p b posted is at seen done =
      let space = space_in owner old in
      let same = owner_space old v o is at in
      let next : IsNext o.space.ties space o.nodes o.ever b done.index done.node = subst (λ s. IsNext o.space.ties s o.nodes o.ever b done.index done.node) same done.next in
      let after : under p b ≡ expanded_at space v (under o b) done.index (Some done.node) =
      done.after ∙ (ap (λ s. expanded_at s o.worker (under o b) done.index (Some done.node)) same
      ∙ ap (λ k. expanded_at space k (under o b) done.index (Some done.node)) (is.workers v o at)) in
      record {
        stepped = λ world shows.
            let log = shows.owners v o b at seen in
            record {
              step = Expands v done.index;
              does = (
                done.index,
                refl,
                inl (subst (λ w. MayExpandAt space w done.index) (sym log.owner)
                    (done.node, next.there, next_may space o.ever (under o b) done.index done.node next)),
              );
              shown = shown owner old (with_owner old v p) world v (happens space v (world.logs v) (Expanding done.index))
                  world.underway world.bound world.resting shows refl (length-set old.owners v p)
                  (here_one old v p b (happens space v (world.logs v) (Expanding done.index)) seen
                  (log_expanded space (world.logs v) o p b v done.index done.node log next done.allowed after done.space done.counted))
                  (there_one old v p)
                  (λ le. let lt = at_below old.owners v o at in absurd (omega arith))
                  shows.underway shows.bound shows.resting;
            };
        changed_is = sym (at_owner_here old v o b _ at seen ∙ ap not (next_open space o.ever (under o b) done.index done.node next));
        unchanged = λ e. absurd (true≢false e);
        limited = refl;
        space = refl;
        owners = length-set old.owners v p;
      }

  pub expand_done : (old : WorldOf S) (v : ℕ) (o p : OwnerOf S) (b : Distance) (posted : Option ℕ) → IsWorld owner old → At old.owners v o
      → At old.seen v b → IsExpansion owner b o p posted → IsStepDone owner old (with_owner old v p) (Expand v) (is_some posted)
  expand_done old v o p b (Some posted) is at seen done = expand_one old v o p b posted is at seen done
  expand_done old v o p b None is at seen (none, unchanged) =
      let same = owner_space old v o is at in
      let none_in : no_open (space_in owner old) (under o b) ≡ true = subst (λ s. no_open s (under o b) ≡ true) same none in
      subst (λ w. IsStepDone owner old w (Expand v) false) (sym (as_it_was old v o p at unchanged))
      (nothing_done owner old (Expand v) false refl (at_owner_here old v o b _ at seen ∙ ap not none_in)
      (λ world shows. stays old v world shows (subst (λ w. no_open (space_in owner old) w ≡ true) (sym (shows.owners v o b at seen).owner) none_in)))

  pub expand_kept : (old : WorldOf S) (v : ℕ) (o p : OwnerOf S) (b : Distance) (posted : Option ℕ) → IsWorld owner old → At old.owners v o
      → At old.seen v b → IsExpansion owner b o p posted → p.space ≡ o.space → p.worker ≡ o.worker → length p.outboxes ≡ length o.outboxes
      → IsWorld owner (with_owner old v p)
  expand_kept old v o p b posted is at seen done e f n =
      kept owner old (with_owner old v p) is refl (length-set old.owners v p) refl refl refl (one_owner old v o p at e f n) is.messages
      (run_after owner old (with_owner old v p) (Expand v) (is_some posted) (expand_done old v o p b posted is at seen done) is)

  -- ---- refused
  refused_same : (b : Distance) (o p : OwnerOf S) (e : OwnerFault) → IsRefusal owner b o p e → p ≡ o
  refused_same b o p OutOfMemory (some, limit, same) = same
  refused_same b o p LimitReached (some, limit, same) = same
  refused_same b o p TotalTooLarge (i, n, next, allowed, large, same) = same

  refusal_at : (old : WorldOf S) (v : ℕ) (o p : OwnerOf S) (b : Distance) (e : OwnerFault) (new : WorldOf S) → IsWorld owner old
      → At old.owners v o → At old.seen v b → IsRefusal owner b o p e → new ≡ old → IsStepRefusal owner old new (Expand v) e
  refusal_at old v o p b OutOfMemory new is at seen (some, limit, same) unchanged = (
    at_owner_here old v o b _ at seen ∙ ap not (subst (λ s. no_open s (under o b) ≡ false) (owner_space old v o is at) some),
    unchanged,
  )
  refusal_at old v o p b LimitReached new is at seen (some, limit, same) unchanged = (v, o, b, refl, at, seen, is.spaces v o at, (some, limit, refl), unchanged)
  refusal_at old v o p b TotalTooLarge new is at seen (i, n, next, allowed, large, same) unchanged =
      (v, o, b, refl, at, seen, is.spaces v o at, (i, n, next, allowed, large, refl), unchanged)

  expand_refused_same : (old : WorldOf S) (v : ℕ) (o p : OwnerOf S) (b : Distance) (e : OwnerFault) → At old.owners v o
      → IsRefusal owner b o p e → with_owner old v p ≡ old
  expand_refused_same old v o p b e at refusal = as_it_was old v o p at (refused_same b o p e refusal)

  pub expand_refused_kept : (old : WorldOf S) (v : ℕ) (o p : OwnerOf S) (b : Distance) (e : OwnerFault) → IsWorld owner old → At old.owners v o
      → IsRefusal owner b o p e → IsWorld owner (with_owner old v p)
  expand_refused_kept old v o p b e is at refusal = subst (IsWorld owner) (sym (expand_refused_same old v o p b e at refusal)) is

  pub expand_refused : (old : WorldOf S) (v : ℕ) (o p : OwnerOf S) (b : Distance) (e : OwnerFault) → IsWorld owner old → At old.owners v o
      → At old.seen v b → IsRefusal owner b o p e → IsStepRefused owner old (with_owner old v p) (Expand v) e
  expand_refused old v o p b e is at seen refusal = record {
    refused = refusal_at old v o p b e (with_owner old v p) is at seen refusal (expand_refused_same old v o p b e at refusal);
    space = refl;
    owners = length-set old.owners v p;
  }

  -- there is no memory for a step that would change something
  pub refused_whole : (old : WorldOf S) (asked : WorldStep) → would_change owner old asked ≡ true → IsStepRefused owner old old asked OutOfMemory
  refused_whole old asked test = record { refused = (test, refl); space = refl; owners = refl }
