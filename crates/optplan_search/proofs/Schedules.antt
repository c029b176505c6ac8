-- Steps that are drawn one after another.
use Rattle.std.proofs.Common.{◌≡◌, ◌≢◌, ℕ, zero, suc, ◌+◌, ◌<◌, ◌≤◌, ◌%◌, ⊎_elim, inl, inr, min, Some, List, [], ◌∷◌, ◌++◌, length, take, length-append, refl, sym, ap, subst, ◌∙◌, arith, add-one}
use Rattle.std.proofs.Math.Nat.{mod-eq_of_lt}
use Rattle.std.proofs.Math.Seq.{take-append_seam}
use Rattle.std.proofs.lemmas.List.{take-append-le}
use Rattle.std.specs.Prelude.{slice_get}
use Rattle.std.proofs.lemmas.Nat.{mod_below}
use Rattle.std.proofs.lemmas.Bool.{cases_lt}
use Rattle.rand_core.specs.Stream.{Stream, next_u64}
use Rattle.rand_core.specs.Steps.{stream_of, steps_u64_high}
use Rattle.rand_core.proofs.StepsLemmas.{next_u64-stream_of}
use Rattle.rand_xoshiro.specs.Xoshiro256.{plus_plus}
use Rattle.owner_theory.specs.Owners.{At, SearchSpace}
use Rattle.owner_theory.specs.Worlds as machine
use Rattle.owner_theory.specs.Worlds.{world_start, IsQuiet}
use Rattle.owner.specs.Spaces.{SpaceOf, searched}
use Rattle.owner.specs.declared.fault.OwnerFault.TheVariants.{OutOfMemory, TotalTooLarge, LimitReached}
use Rattle.netcore.specs.declared.step.WorldStep.{WorldStep}
use Rattle.netcore.specs.Worlds.{WorldOf, IsFilled, Shows, Steps, IsAfter, IsWorldAfter, IsStepRefusal, space_in, world_after_run}
use Rattle.netcore.proofs.Places.{at_below, at_some, at_read}
use Rattle.netcore.proofs.Starting.{at_snoc}
use Rattle.netcore.proofs.Shown.{after_step}
use Rattle.optplan_search.specs.Schedules.{state_after, word_of, IsAfterWords, Draws, HasWork, IsNextDrawn, AreDrawn, IsSimulated, IsSimulationRefusal}

-- ---- words

-- the next word, and the generator behind it
pub next_word : (seed count word : ℕ) (before after : List ℕ) → IsAfterWords seed count before
    → (word, stream_of (steps_u64_high plus_plus) after) ≡ next_u64 (stream_of (steps_u64_high plus_plus) before)
    → (word ≡ word_of seed count) × IsAfterWords seed (count + 1) after
next_word seed count word before after so_far drawn =
    let call = drawn ∙ ap (λ (s : Stream). next_u64 s) so_far ∙ next_u64-stream_of (steps_u64_high plus_plus) (state_after seed count) in (
      ap (λ (p : ℕ × Stream). p.0) call,
      ap (λ (p : ℕ × Stream). p.1) call
          ∙ ap (λ (k : ℕ). stream_of (steps_u64_high plus_plus) (state_after seed k)) (sym (add-one count)),
    )

-- counting up to a greatest number, which no word reaches, draws as counting all
pub same_number : (n most count word : ℕ) → count ≡ min n most → word < most → word % count ≡ word % n
same_number n most count word is lt = ⊎_elim
    (λ (few : n < most). ap (λ k. word % k) (let all : count ≡ n = omega arith in all))
    (λ (many : most ≤ n).
    let all : count ≡ most = omega arith in
    ap (λ k. word % k) all ∙ (mod-eq_of_lt lt ∙ sym (mod-eq_of_lt (let below : word < n = omega arith in below))))
    (cases_lt n most)

-- what is picked so is picked of all
pub picked : {X : Type 0} (xs : List X) (most count word : ℕ) (x : X) → count ≡ min (length xs) most → word < most
    → slice_get xs (word % count) ≡ Some x → slice_get xs (word % length xs) ≡ Some x
picked xs most count word x is lt here = ap (λ (k : ℕ). slice_get xs k) (sym (same_number (length xs) most count word is lt)) ∙ here

pub some_picked : {X : Type 0} (xs : List X) (most count word : ℕ) → 0 < length xs → 0 < most → count ≡ min (length xs) most
    → (x : X) × (slice_get xs (word % count) ≡ Some x)
some_picked xs most count word some positive is =
    let below = mod_below word count (omega arith) in
    let (x, at) = at_some xs (word % count) (omega arith) in
    (x, at_read xs (word % count) x at)

-- ---- steps

module _ {S : Type 0} (owner : S → List ℕ → ℕ → ℕ) (over : SpaceOf S) (n seed : ℕ) where
  none_drawn : AreDrawn owner over n seed []
  none_drawn i step at = absurd at

  -- one more of those that are drawn
  one_drawn : (asked : List WorldStep) (last : WorldStep) (world : WorldOf S) → AreDrawn owner over n seed asked
      → IsNextDrawn owner over n seed asked last world → AreDrawn owner over n seed (asked ++ last ∷ [])
  one_drawn asked last world so_far next i step at = ⊎_elim
      (λ (there : At asked i step).
      let le : i ≤ length asked = let lt = at_below asked i step there in omega arith in
      subst (λ (before : List WorldStep). (w : WorldOf S) × IsNextDrawn owner over n seed before step w) (sym (take-append-le i asked (last ∷ []) le))
      (so_far i step there))
      (λ (h : (i ≡ length asked) × (last ≡ step)).
      let all : take i (asked ++ last ∷ []) ≡ asked =
      ap (λ (k : ℕ). take k (asked ++ last ∷ [])) h.0 ∙ take-append_seam asked (last ∷ []) in
      subst (λ (before : List WorldStep). (w : WorldOf S) × IsNextDrawn owner over n seed before step w) (sym all)
      (world, subst (λ (s : WorldStep). IsNextDrawn owner over n seed asked s world) h.1 next))
      (at_snoc asked last i step at)

  -- the world of the space after this many steps that are drawn
  pub record IsUnderWay (taken : ℕ) (w : WorldOf S) : Type 0 where
    pub asked : List WorldStep
    pub drawn : AreDrawn owner over n seed asked
    pub world : IsWorldAfter owner over n asked w
    pub long : length asked ≡ taken

  -- a step that is drawn in a world in which something is left to do
  pub record IsTurn (taken : ℕ) (old : WorldOf S) (step : WorldStep) : Type 0 where
    pub filled : IsFilled old
    pub left : HasWork owner old
    pub drawn : Draws owner old (word_of seed taken) step

  same_space : (w : WorldOf S) → w.space ≡ over → length w.owners ≡ n → space_in owner w ≡ searched owner over n
  same_space w space owners = ap (λ (s : SpaceOf S). searched owner s (length w.owners)) space ∙ ap (searched owner over) owners

  -- no step yet
  pub begun : (w : WorldOf S) → Shows owner w (world_start (searched owner over n)) → w.space ≡ over → length w.owners ≡ n → IsUnderWay 0 w
  begun w shows space owners = record {
    asked = [];
    drawn = none_drawn;
    world = record { after = record { steps = []; run = tt; shown = shows }; space = space; owners = owners };
    long = refl;
  }

  -- memory ran out
  pub not_begun : IsSimulationRefusal owner over n seed OutOfMemory
  not_begun = ([], none_drawn, tt)

  -- the step is the next one
  is_next : (taken : ℕ) (step : WorldStep) (old : WorldOf S) (so_far : IsUnderWay taken old) → IsTurn taken old step
      → IsNextDrawn owner over n seed so_far.asked step old
  is_next taken step old so_far turn = record {
    filled = turn.filled;
    after = so_far.world;
    left = turn.left;
    drawn = subst (λ (k : ℕ). Draws owner old (word_of seed k) step) (sym so_far.long) turn.drawn;
  }

  -- what was drawn with this step
  all_drawn : (taken : ℕ) (step : WorldStep) (old : WorldOf S) (so_far : IsUnderWay taken old) → IsTurn taken old step
      → AreDrawn owner over n seed (so_far.asked ++ step ∷ [])
  all_drawn taken step old so_far turn = one_drawn so_far.asked step old so_far.drawn (is_next taken step old so_far turn)

  -- a step more
  pub one_more : (taken : ℕ) (step : WorldStep) (old new : WorldOf S) → IsUnderWay taken old → IsTurn taken old step
      → ((world : machine.World) → Shows owner old world → Steps owner old world step new) → new.space ≡ old.space
      → length new.owners ≡ length old.owners → IsUnderWay (taken + 1) new
  one_more taken step old new so_far turn stepped spaces owners_are =
      let same = same_space old so_far.world.space so_far.world.owners in
      record {
        asked = so_far.asked ++ step ∷ [];
        drawn = all_drawn taken step old so_far turn;
        world =
            record {
              after =
                  subst (λ (sp : SearchSpace). IsAfter owner sp (so_far.asked ++ step ∷ []) new) same
                  (after_step owner old new so_far.asked step stepped
                  (subst (λ (sp : SearchSpace). IsAfter owner sp so_far.asked old) (sym same) so_far.world.after));
              space = spaces ∙ so_far.world.space;
              owners = owners_are ∙ so_far.world.owners;
            };
        long = let more = length-append so_far.asked (step ∷ []) in let long = so_far.long in omega (arith, more, long);
      }

  -- the next step is past an owner's limit
  pub limited : (taken most : ℕ) (step : WorldStep) (old new : WorldOf S) → IsUnderWay taken old → taken ≤ most → IsTurn taken old step
      → IsStepRefusal owner old new step LimitReached → IsSimulated owner over n seed most new
  limited taken most step old new so_far le turn (v, o, b, is, at, seen, own, why, same) =
      let long = so_far.long in
      subst (λ (w : WorldOf S). IsSimulated owner over n seed most w) (sym same)
      (record {
        asked = so_far.asked;
        drawn = so_far.drawn;
        few = omega (arith, long, le);
        filled = turn.filled;
        world = so_far.world;
        ends = inr (inl (step, is_next taken step old so_far turn, (v, o, b, is, at, seen, own, why, refl)));
      })

  -- a step leads past the greatest total
  pub too_large : (taken : ℕ) (step : WorldStep) (old new : WorldOf S) → IsUnderWay taken old → IsTurn taken old step
      → IsStepRefusal owner old new step TotalTooLarge → IsSimulationRefusal owner over n seed TotalTooLarge
  too_large taken step old new so_far turn (v, o, b, is, at, seen, own, why, same) = (
    so_far.asked ++ step ∷ [],
    all_drawn taken step old so_far turn,
    (
      old,
      record {
        before = so_far.asked;
        step = step;
        rest = [];
        are = refl;
        world = so_far.world;
        refused = (v, o, b, is, at, seen, own, why, refl);
      },
    ),
  )

  -- nothing is left to do
  pub ended : (taken most : ℕ) (w : WorldOf S) → IsUnderWay taken w → IsFilled w → taken ≤ most
      → ((asked : List WorldStep) (after : IsAfter owner (space_in owner w) asked w) → IsQuiet (space_in owner w) (world_after_run (space_in owner w) after.steps))
      → IsSimulated owner over n seed most w
  ended taken most w so_far filled le quiet =
      let long = so_far.long in
      record {
        asked = so_far.asked;
        drawn = so_far.drawn;
        few = omega (arith, long, le);
        filled = filled;
        world = so_far.world;
        ends = inl (
          so_far.world.after,
          subst (λ (sp : SearchSpace). (after : IsAfter owner sp so_far.asked w) → IsQuiet sp (world_after_run sp after.steps))
              (same_space w so_far.world.space so_far.world.owners) (quiet so_far.asked) so_far.world.after,
        );
      }

  -- there were as many steps as may be
  pub used_up : (taken most : ℕ) (w : WorldOf S) → IsUnderWay taken w → IsFilled w → taken ≡ most → IsSimulated owner over n seed most w
  used_up taken most w so_far filled all =
      let long = so_far.long in
      record {
        asked = so_far.asked;
        drawn = so_far.drawn;
        few = omega (arith, long, all);
        filled = filled;
        world = so_far.world;
        ends = inr (inr (long ∙ all));
      }

some_left : (n m count : ℕ) → count ≡ min n m → count ≢ 0 → 0 < n
some_left zero m count is some = absurd (some (is ∙ omega arith))
some_left (suc n) m count is some = omega arith

-- where the count is not 0, something is left to do
pub left_of : {S : Type 0} (owner : S → List ℕ → ℕ → ℕ) (m count : ℕ) (w : WorldOf S)
    → ((world : machine.World) → Shows owner w world → count ≡ min (machine.count (space_in owner w) world) m) → count ≢ 0 → HasWork owner w
left_of owner m count w counted some world shows = some_left (machine.count (space_in owner w) world) m count (counted world shows) some
