-- Steps one after another.
use Rattle.std.proofs.Common.{◌≡◌, ℕ, zero, suc, ◌<◌, true, List, [], ◌∷◌, ◌++◌, length, get_or, take, drop, refl, sym, ap, subst, arith}
use Rattle.std.proofs.Math.Logic.{∥∥₁_elim}
use Rattle.owner_theory.specs.Owners.{SearchSpace}
use Rattle.owner_theory.specs.Worlds.{World}
use Rattle.owner.specs.Spaces.{SpaceOf, searched}
use Rattle.owner.specs.declared.fault.OwnerFault.{OwnerFault}
use Rattle.owner.specs.declared.fault.OwnerFault.TheVariants.{TotalTooLarge, LimitReached}
use Rattle.netcore.specs.declared.step.WorldStep.{WorldStep}
use Rattle.netcore.specs.Worlds.{WorldOf, space_in, Shows, Steps, IsAfter, IsStepRefusal, IsWorldAfter, IsRefusedStep, IsRunRefusal, world_after_run}
use Rattle.netcore.specs.Kept.{IsWorld}
use Rattle.netcore.proofs.Shown.{after_step}

split_at : {X : Type 0} (xs : List X) (i : ℕ) (x d : X) → i < length xs → x ≡ get_or xs i d → xs ≡ take i xs ++ x ∷ drop (suc i) xs
split_at [] i x d lt e = absurd (omega arith)
split_at (y ∷ xs) zero x d lt e = ap (λ z. z ∷ xs) (sym e)
split_at (y ∷ xs) (suc i) x d lt e = ap (λ zs. y ∷ zs) (split_at xs i x d (omega arith) e)

take_one : {X : Type 0} (xs : List X) (i : ℕ) (x d : X) → i < length xs → x ≡ get_or xs i d → take (suc i) xs ≡ take i xs ++ x ∷ []
take_one [] i x d lt e = absurd (omega arith)
take_one (y ∷ xs) zero x d lt e = ap (λ z. z ∷ []) (sym e)
take_one (y ∷ xs) (suc i) x d lt e = ap (λ zs. y ∷ zs) (take_one xs i x d (omega arith) e)

module _ {S : Type 0} (owner : S → List ℕ → ℕ → ℕ) where
  -- ---- a limited world
  -- the world, limited
  abbrev pub ended : WorldOf S → WorldOf S
  ended w = record w { limited = true }

  ended_shows : (w : WorldOf S) (world : World) → Shows owner w world → Shows owner (ended w) world
  ended_shows w world shows =
      record { owners = shows.owners; underway = shows.underway; bound = shows.bound; resting = shows.resting; others = shows.others }

  ended_after : (space : SearchSpace) (asked : List WorldStep) (w : WorldOf S) → IsAfter owner space asked w → IsAfter owner space asked (ended w)
  ended_after space asked w after =
      record { steps = after.steps; run = after.run; shown = ended_shows w (world_after_run space after.steps) after.shown }

  pub ended_kept : (w : WorldOf S) → IsWorld owner w → IsWorld owner (ended w)
  ended_kept w is = record {
    some = is.some;
    queues = is.queues;
    bounds = is.bounds;
    flags = is.flags;
    spaces = is.spaces;
    workers = is.workers;
    outboxes = is.outboxes;
    messages = is.messages;
    run = ∥∥₁_elim is.run squash₁ (λ some. let (asked, after) = some in ∣ (asked, ended_after (space_in owner w) asked w after) ∣₁);
  }

  -- ---- one step after another
  pub after_one : (space : SearchSpace) (asked : List WorldStep) (i : ℕ) (step d : WorldStep) (old new : WorldOf S) → space_in owner old ≡ space
      → i < length asked → step ≡ get_or asked i d
      → ((world : World) → Shows owner old world → Steps owner old world step new)
      → IsAfter owner space (take i asked) old → IsAfter owner space (take (suc i) asked) new
  after_one space asked i step d old new e lt is stepped after =
      subst (λ xs. IsAfter owner space xs new) (sym (take_one asked i step d lt is))
      (subst (λ s. IsAfter owner s (take i asked ++ step ∷ []) new) e
      (after_step owner old new (take i asked) step stepped (subst (λ s. IsAfter owner s (take i asked) old) (sym e) after)))

  -- of the steps asked for, step i is refused in the world after those before it
  refused_at : (over : SpaceOf S) (n : ℕ) (asked : List WorldStep) (i : ℕ) (step d : WorldStep) (w : WorldOf S) (e : OwnerFault) → i < length asked
      → step ≡ get_or asked i d → IsWorldAfter owner over n (take i asked) w → IsStepRefusal owner w w step e → IsRefusedStep owner over n asked w e
  refused_at over n asked i step d w e lt is world refusal = record {
    before = take i asked;
    step = step;
    rest = drop (suc i) asked;
    are = split_at asked i step d lt is;
    world = world;
    refused = refusal;
  }

  -- a step is refused for the limit, and the world is as it was, but limited
  pub limited_at : (over : SpaceOf S) (n : ℕ) (asked : List WorldStep) (i : ℕ) (step d : WorldStep) (old new : WorldOf S) → i < length asked
      → step ≡ get_or asked i d → IsWorldAfter owner over n (take i asked) old → IsStepRefusal owner old new step LimitReached
      → IsRefusedStep owner over n asked (ended new) LimitReached
  limited_at over n asked i step d old new lt is world (v, o, b, asks, at, seen, own, refusal, same) =
      subst (λ (w : WorldOf S). IsRefusedStep owner over n asked (ended w) LimitReached) (sym same)
      (refused_at over n asked i step d (ended old) LimitReached lt is
      (record { after = ended_after (searched owner over n) (take i asked) old world.after; space = world.space; owners = world.owners })
      (v, o, b, asks, at, seen, own, refusal, refl))

  -- a step leads past the greatest total
  pub too_large_at : (over : SpaceOf S) (n : ℕ) (asked : List WorldStep) (i : ℕ) (step d : WorldStep) (old new : WorldOf S) → i < length asked
      → step ≡ get_or asked i d → IsWorldAfter owner over n (take i asked) old → IsStepRefusal owner old new step TotalTooLarge
      → IsRunRefusal owner over n asked TotalTooLarge
  too_large_at over n asked i step d old new lt is world (v, o, b, asks, at, seen, own, refusal, same) =
      (old, refused_at over n asked i step d old TotalTooLarge lt is world (v, o, b, asks, at, seen, own, refusal, refl))
