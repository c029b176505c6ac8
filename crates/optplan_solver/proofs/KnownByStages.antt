-- What the stages of a search know together.
use Rattle.std.proofs.Common.{◌≡◌, ℕ, ◌+◌, ◌≤◌, min, max, Bool, true, false, List, [], ◌∷◌, length, Option, Some, None, All, nat_lt, if◌then◌else◌, refl, sym, ap, subst, ◌∙◌, inl, inr, arith}
use Rattle.std.proofs.lemmas.Bool.Decides.{nat_tests}
use Rattle.std.proofs.lemmas.List.Elements.{All-nil, All-cons}
use Rattle.cost.specs.Distances.{Distance, Finite, Infinite, larger, lesser}
use Rattle.fdr.specs.Tasks.{FiniteDomainTask}
use Rattle.packed_spread.specs.Spreads as spread
use Rattle.packed_spread.specs.Spreads.{zobrist_owner}
use Rattle.extract.specs.Ends.{EndOf}
use Rattle.extract.specs.Bounds.{least_best, lower_bound}
use Rattle.engine_round.specs.Turns.{MayStop}
use Rattle.optplan_options.specs.Choices.{Choices}
use Rattle.optplan_search.specs.SearchEnds.{single, least_among, greatest_among}
use Rattle.optplan_solver.specs.ThreadedSearches.{IsStageEnd, stops_in, EndsIn}
use Rattle.optplan_search.specs.Findings.{Found, Wanted, IsPlanAt, IsBestSoFar, IsSoFar, IsFound, IsOwnFinding, IsSettledEnd}
use Rattle.optplan_solver.specs.Stages.{cheaper, better, better_known, with_known, IsUnlimited, IsAllOf, IsKnownOf, IsSearchFound, IsStageFound}
use Rattle.optplan_search.specs.declared.found.FoundPlan.{FoundPlan}
use Rattle.optplan_search.specs.declared.answer.SoFar.{SoFar}
use Rattle.optplan_search.specs.declared.answer.Answer.TheVariants.{Solved, Unsolvable, Limit}
use Rattle.optplan_solver.specs.declared.stages.StageFound.TheVariants.{Answered, Ended}
use Rattle.optplan_options.specs.declared.options.Tables.TheVariants.{Goal, Staged}
use Rattle.optplan_solver.proofs.StageEnds.{Orders, callers_end, callers_unlimited}

-- ---- the better of what two searches know

module _ (task : FiniteDomainTask) where
  cheaper_of : (m n : ℕ) (p q : FoundPlan) (is_cheaper : Bool) → nat_lt q.cost p.cost ≡ is_cheaper → IsPlanAt task p.plan.items p.cost → p.cost ≤ m
      → IsPlanAt task q.plan.items q.cost → q.cost ≤ n → IsBestSoFar task (Finite (min n m)) (if is_cheaper then Some q else Some p)
  cheaper_of m n p q true test p_is within q_is below =
      let both : q.cost ≤ min n m = grind (arith, nat_tests) in (q_is, both)
  cheaper_of m n p q false test p_is within q_is below =
      let both : p.cost ≤ min n m = grind (arith, nat_tests) in (p_is, both)

  -- the cheaper plan costs at most the lesser of what both may cost
  cheaper_best : (a b : Distance) (p q : Option FoundPlan) → IsBestSoFar task a p → IsBestSoFar task b q → IsBestSoFar task (lesser b a) (cheaper p q)
  cheaper_best a Infinite None None is now = is
  cheaper_best a Infinite (Some p) None is now = is
  cheaper_best a Infinite p (Some q) is now = absurd now
  cheaper_best a (Finite n) p None is now = absurd now
  cheaper_best Infinite (Finite n) None (Some q) is now = now
  cheaper_best Infinite (Finite n) (Some p) (Some q) is now = absurd is
  cheaper_best (Finite m) (Finite n) None (Some q) is now = absurd is
  cheaper_best (Finite m) (Finite n) (Some p) (Some q) is now = cheaper_of m n p q (nat_lt q.cost p.cost) refl is.0 is.1 now.0 now.1

  module _ (wanted : Option Wanted) (a b : Distance) (known now : SoFar FoundPlan) (is : IsSoFar task wanted a known) (next : IsSoFar task wanted b now) where
    better_of : (is_greater : Bool)
        → IsSoFar task wanted (lesser b a)
        (if is_greater then (record { bound = now.bound; best = cheaper known.best now.best; certificate = now.certificate })
        else (record { bound = known.bound; best = cheaper known.best now.best; certificate = known.certificate }))
    better_of true = record { least = next.least; certified = next.certified; best_is = cheaper_best a b known.best now.best is.best_is next.best_is }
    better_of false = record { least = is.least; certified = is.certified; best_is = cheaper_best a b known.best now.best is.best_is next.best_is }

    better_is : IsSoFar task wanted (lesser b a) (better known now)
    better_is = better_of (nat_lt known.bound now.bound)

better_bound_of : (known now : SoFar FoundPlan) (is_greater : Bool) → nat_lt known.bound now.bound ≡ is_greater
    → let s : SoFar FoundPlan = if is_greater then (record { bound = now.bound; best = cheaper known.best now.best; certificate = now.certificate })
    else (record { bound = known.bound; best = cheaper known.best now.best; certificate = known.certificate }) in max now.bound known.bound ≡ s.bound
better_bound_of known now true test = grind (arith, nat_tests)
better_bound_of known now false test = grind (arith, nat_tests)

-- the better bound is the greater of both
better_bound : (known now : SoFar FoundPlan) → max now.bound known.bound ≡ (better known now).bound
better_bound known now = better_bound_of known now (nat_lt known.bound now.bound) refl

larger_same : (d e : Distance) (m n : ℕ) → d ≡ Finite m → e ≡ Finite n → larger d e ≡ Finite (max m n)
larger_same d e m n d_is e_is = ap (λ (x : Distance). larger x e) d_is ∙ ap (larger (Finite m)) e_is

-- ---- what the searches with these ends know

module _ (task : FiniteDomainTask) (wanted : Option Wanted) where
  -- with one more search
  module _ (e f : EndOf spread.Zobrist) (es : List (EndOf spread.Zobrist)) (known now : SoFar FoundPlan) where
    better_bound_among : greatest_among zobrist_owner f es ≡ Finite known.bound → lower_bound zobrist_owner e ≡ Finite now.bound
        → greatest_among zobrist_owner e (f ∷ es) ≡ Finite (better known now).bound
    better_bound_among before here =
        larger_same (lower_bound zobrist_owner e) (greatest_among zobrist_owner f es) now.bound known.bound here before
        ∙ ap Finite (better_bound known now)

  all_of_more : (e : EndOf spread.Zobrist) (es : List (EndOf spread.Zobrist)) (known now : Option (SoFar FoundPlan)) → IsAllOf task wanted es known
      → IsAllOf task wanted (e ∷ []) now → IsAllOf task wanted (e ∷ es) (better_known known now)
  all_of_more e [] None now before here = here
  all_of_more e [] (Some known) now before here = absurd before
  all_of_more e (f ∷ es) None now before here = absurd before
  all_of_more e (f ∷ es) (Some known) None before here = absurd here
  all_of_more e (f ∷ es) (Some known) (Some now) before here = (
    better_is task wanted (least_among f es) (least_best e) known now before.0 here.0,
    better_bound_among e f es known now before.1 here.1,
  )

  -- the finding of the last search, with what the earlier ones know
  module _ (e : EndOf spread.Zobrist) (over : e.space.task ≡ task) where
    found_with_all : (es : List (EndOf spread.Zobrist)) (known : Option (SoFar FoundPlan)) (s : SoFar FoundPlan) → IsAllOf task wanted es known
        → IsFound zobrist_owner (single e) wanted (Limit s)
        → IsFound zobrist_owner (record { last = e; earlier = es }) wanted (with_known known (Limit s))
    found_with_all [] None s before found = found
    found_with_all [] (Some known) s before found = absurd before
    found_with_all (f ∷ es) None s before found = absurd before
    found_with_all (f ∷ es) (Some known) s before found = (
      better_is e.space.task wanted (least_among f es) (least_best e) known s
          (subst (λ (t : FiniteDomainTask). IsSoFar t wanted (least_among f es) known) (sym over) before.0) found.0,
      record {
        unsettled = found.1.unsettled;
        bound_is = better_bound_among e f es known s before.1 found.1.bound_is;
      },
    )

    found_with : (choices : Choices) (may_stop : MayStop) (es : List (EndOf spread.Zobrist)) (known : Option (SoFar FoundPlan)) (found : Found)
        → IsKnownOf choices may_stop task wanted es known → (IsUnlimited choices may_stop → (bound : Distance) × IsSettledEnd zobrist_owner e bound)
        → IsFound zobrist_owner (single e) wanted found
        → IsFound zobrist_owner (record { last = e; earlier = es }) wanted (with_known known found)
    found_with choices may_stop es None (Solved s) before settles found = found
    found_with choices may_stop es (Some known) (Solved s) before settles found = found
    found_with choices may_stop es None (Unsolvable c) before settles found = found
    found_with choices may_stop es (Some known) (Unsolvable c) before settles found = found
    found_with choices may_stop es known (Limit s) (inl unlimited) settles found =
        let at = settles unlimited in absurd (found.1.unsettled at.0 at.1)
    found_with choices may_stop es known (Limit s) (inr before) settles found = found_with_all es known s before found

-- ---- the stages so far

module _ (choices : Choices) (may_stop : MayStop) (task : FiniteDomainTask) (wanted : Option Wanted) where
  -- this many stages have ended, and this is stored of what they know
  abbrev pub HaveEnded : ℕ → Option (SoFar FoundPlan) → Type 0
  HaveEnded count known =
      (es : List (EndOf spread.Zobrist)) × (length es ≡ count) × All (IsStageEnd choices (stops_in true may_stop) task) es
      × IsKnownOf choices may_stop task wanted es known

  pub none_ended : HaveEnded 0 None
  none_ended = ([], omega arith, All-nil (IsStageEnd choices (stops_in true may_stop) task), inr tt)

  known_more : (e : EndOf spread.Zobrist) (es : List (EndOf spread.Zobrist)) (known now : Option (SoFar FoundPlan)) → IsKnownOf choices may_stop task wanted es known
      → IsKnownOf choices (stops_in true may_stop) task wanted (e ∷ []) now → IsKnownOf choices may_stop task wanted (e ∷ es) (better_known known now)
  known_more e es known now (inl unlimited) here = inl unlimited
  known_more e es known now (inr before) (inl unlimited) = inl (callers_unlimited true choices may_stop unlimited)
  known_more e es known now (inr before) (inr here) = inr (all_of_more task wanted e es known now before here)

  pub one_more_ended : (count : ℕ) (known now : Option (SoFar FoundPlan)) (orders : Orders) → HaveEnded count known
      → IsStageFound choices (stops_in true may_stop) task wanted (Ended now orders) → HaveEnded (count + 1) (better_known known now)
  one_more_ended count known now orders (es, long, ends, before) (e, ended, here, have) = (
    e ∷ es,
    omega (arith, long),
    All-cons (IsStageEnd choices (stops_in true may_stop) task) e es ended ends,
    known_more e es known now before here,
  )

  -- what the last search has found, after these stages
  pub found_after_stages : (count : ℕ) (known : Option (SoFar FoundPlan)) (found : Found) → count ≤ 3 → HaveEnded count known
      → IsSearchFound choices may_stop task wanted found
      → IsOwnFinding task wanted (EndsIn Staged choices may_stop task) (with_known known found)
  found_after_stages count known found few (es, long, ends, before) (e, ended, over, is, settles) = record {
    at = record { last = e; earlier = es };
    ended = (ended, (let short : length es ≤ 3 = omega (arith, long, few) in short, ends));
    task_is = over;
    found = found_with task wanted e over choices may_stop es known found before settles is;
  }

  -- what one search alone has found
  pub found_alone : (found : Found) → IsSearchFound choices may_stop task wanted found → IsOwnFinding task wanted (EndsIn Goal choices may_stop task) found
  found_alone found (e, ended, over, is, settles) = record { at = single e; ended = (ended, refl); task_is = over; found = is }

  -- what a search has found that the end of a stage may have stopped, but did not
  pub found_in_stage : (has_end : Bool) (found : Found) → IsStageFound choices (stops_in has_end may_stop) task wanted (Answered found)
      → IsSearchFound choices may_stop task wanted found
  found_in_stage has_end found (e, ended, over, is, settles) =
      (e, callers_end has_end choices may_stop task e ended, over, is, λ unlimited. settles (record { limit = unlimited.limit; gate = unlimited.gate }))
