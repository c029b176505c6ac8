-- The steps that would change something in a world of owners.
use Rattle.std.specs.Prelude.{ℕ, suc, List, [], ◌∷◌, ◌++◌, length, map, filter, flat_map}
use Rattle.std.specs.List.{range_with_len}
use Rattle.owner_theory.specs.Owners.{Packet}
use Rattle.netcore.specs.declared.step.WorldStep.{WorldStep}
use Rattle.netcore.specs.declared.step.WorldStep.TheVariants.{Expand, Send, Deliver, Offer, Look, Rest}
use Rattle.netcore.specs.declared.possible.OwnStep.{OwnStep}
use Rattle.netcore.specs.declared.possible.OwnStep.TheVariants as own
use Rattle.netcore.specs.Worlds.{WorldOf, would_change}

-- the numbers below n
abbrev pub below : ℕ → List ℕ
below n = range_with_len 0 n

-- the step of this kind by an owner
abbrev pub own_step : OwnStep → ℕ → WorldStep
own_step own.Expand v = Expand v
own_step own.Offer v = Offer v
own_step own.Look v = Look v
own_step own.Rest v = Rest v

-- the owners' steps of one kind that would change something
abbrev pub by_owner : {S : Type 0} → (S → List ℕ → ℕ → ℕ) → WorldOf S → (ℕ → WorldStep) → List WorldStep
by_owner owner w step = filter (would_change owner w) (map step (below (length w.owners)))

-- the steps that send a message of an owner
abbrev pub sends_of : {S : Type 0} → (S → List ℕ → ℕ → ℕ) → WorldOf S → ℕ → List WorldStep
sends_of owner w v = filter (would_change owner w) (map (Send v) (below (length w.owners)))

-- a step for each message underway, if the first queue is that to owner v
abbrev pub deliveries : ℕ → List (List Packet) → List WorldStep
deliveries v [] = []
deliveries v (ps ∷ queues) = map (Deliver v) (below (length ps)) ++ deliveries (suc v) queues

-- all steps that would change something, by kind, and in each kind by increasing numbers
abbrev pub possible_steps : {S : Type 0} → (S → List ℕ → ℕ → ℕ) → WorldOf S → List WorldStep
possible_steps owner w =
    by_owner owner w Expand ++ flat_map (sends_of owner w) (below (length w.owners)) ++ deliveries 0 w.underway
    ++ by_owner owner w Offer ++ by_owner owner w Look ++ by_owner owner w Rest
