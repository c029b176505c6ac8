-- Worlds after random steps from a seed.
use Rattle.std.specs.Prelude.{◌≡◌, ℕ, zero, suc, ◌≤◌, ◌<◌, ◌⊎◌, ◌%◌, List, length, take, slice_get, Some}
use Rattle.rand_core.specs.Steps.{stream_of, steps_u64_high}
use Rattle.rand_xoshiro.specs.SplitMix64.{splitmix_seed}
use Rattle.rand_xoshiro.specs.Xoshiro256.{of_seed, plus_plus}
use Rattle.owner_theory.specs.Owners.{At}
use Rattle.owner_theory.specs.Worlds as machine
use Rattle.owner_theory.specs.Worlds.{IsQuiet}
use Rattle.owner.specs.Spaces.{SpaceOf, searched}
use Rattle.owner.specs.declared.fault.OwnerFault.{OwnerFault}
use Rattle.netcore.specs.declared.step.WorldStep.{WorldStep}
use Rattle.owner.specs.declared.fault.OwnerFault.TheVariants.{LimitReached}
use Rattle.netcore.specs.Worlds.{WorldOf, IsFilled, Shows, IsAfter, IsWorldAfter, IsStepRefusal, IsRunRefusal, space_in, world_after_run}
use Rattle.netcore.specs.Possible.{possible_steps}

-- ---- outputs of the generator

-- the state of Xoshiro256++ (Blackman and Vigna 2021) after `count` outputs from a seed
abbrev pub state_after : ℕ → ℕ → List ℕ
state_after seed zero = of_seed (splitmix_seed 32 seed)
state_after seed (suc count) = (plus_plus (state_after seed count)).1

-- output `number` of the generator from a seed
abbrev pub word_of : ℕ → ℕ → ℕ
word_of seed number = (plus_plus (state_after seed number)).0

-- the generator continues as after `count` outputs from the seed
abbrev pub IsAfterWords : ℕ → ℕ → List ℕ → Type 0
IsAfterWords seed count generator =
    stream_of (steps_u64_high plus_plus) generator ≡ stream_of (steps_u64_high plus_plus) (state_after seed count)

-- ---- steps

-- in this world, this output of the generator selects the step: of the steps that would change something, the one whose
-- number is the output modulo their number
abbrev pub Draws : {S : Type 0} → (S → List ℕ → ℕ → ℕ) → WorldOf S → ℕ → WorldStep → Type 0
Draws owner w word step = slice_get (possible_steps owner w) (word % length (possible_steps owner w)) ≡ Some step

-- the world has work left
abbrev pub HasWork : {S : Type 0} → (S → List ℕ → ℕ → ℕ) → WorldOf S → Type 0
HasWork owner w = (shown : machine.World) → Shows owner w shown → 0 < machine.count (space_in owner w) shown

-- in this world, which is that of `n` owners of the space after the steps `before`, work is left, and the next output
-- from the seed selects the step
pub record IsNextDrawn {S : Type 0} (owner : S → List ℕ → ℕ → ℕ) (space : SpaceOf S) (n seed : ℕ) (before : List WorldStep) (step : WorldStep)
    (world : WorldOf S) : Type 0 where
  pub filled : IsFilled world
  pub after : IsWorldAfter owner space n before world
  pub left : HasWork owner world
  pub drawn : Draws owner world (word_of seed (length before)) step

-- each of the steps is selected after those before it
abbrev pub AreDrawn : {S : Type 0} → (S → List ℕ → ℕ → ℕ) → SpaceOf S → ℕ → ℕ → List WorldStep → Type 0
AreDrawn {S = S} owner space n seed asked =
    (i : ℕ) (step : WorldStep) → At asked i step → (world : WorldOf S) × IsNextDrawn owner space n seed (take i asked) step world

-- ---- simulations

-- no work is left in the world after these steps
abbrev pub IsQuietAfter : {S : Type 0} → (S → List ℕ → ℕ → ℕ) → SpaceOf S → ℕ → List WorldStep → WorldOf S → Type 0
IsQuietAfter owner space n asked w =
    (after : IsAfter owner (searched owner space n) asked w) × IsQuiet (searched owner space n) (world_after_run (searched owner space n) after.steps)

-- the step that is selected next asks an owner for more nodes than its limit allows
abbrev pub IsLimitedNext : {S : Type 0} → (S → List ℕ → ℕ → ℕ) → SpaceOf S → ℕ → ℕ → List WorldStep → WorldOf S → Type 0
IsLimitedNext owner space n seed asked w =
    (step : WorldStep) × IsNextDrawn owner space n seed asked step w × IsStepRefusal owner w w step LimitReached

-- the world after random steps, at most `most`: no work is left in it, or the next step is past an owner's limit, or
-- there were exactly `most` steps
pub record IsSimulated {S : Type 0} (owner : S → List ℕ → ℕ → ℕ) (space : SpaceOf S) (n seed most : ℕ) (w : WorldOf S) : Type 0 where
  pub asked : List WorldStep
  pub drawn : AreDrawn owner space n seed asked
  pub few : length asked ≤ most
  pub filled : IsFilled w
  pub world : IsWorldAfter owner space n asked w
  pub ends : IsQuietAfter owner space n asked w ⊎ (IsLimitedNext owner space n seed asked w ⊎ (length asked ≡ most))

-- a random step is refused, for another reason than the limit
abbrev pub IsSimulationRefusal : {S : Type 0} → (S → List ℕ → ℕ → ℕ) → SpaceOf S → ℕ → ℕ → OwnerFault → Type 0
IsSimulationRefusal owner space n seed e =
    (asked : List WorldStep) × AreDrawn owner space n seed asked × IsRunRefusal owner space n asked e
