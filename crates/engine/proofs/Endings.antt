-- How a search ends, from the team whose rings are empty.
use Rattle.std.proofs.Common.{◌≡◌, ℕ, true, false, List, [], length, map, Option, Some, None, is_some, sym, ap, ◌∙◌, subst}
use Rattle.std.proofs.lemmas.List.{length-map}
use Rattle.cost.specs.Distances.{Distance}
use Rattle.owner_theory.specs.Owners.{SearchSpace}
use Rattle.owner_theory.specs.Families.{Family}
use Rattle.owner.specs.declared.fault.OwnerFault.TheVariants.{LimitReached}
use Rattle.owner.specs.Spaces.{SpaceOf, searched}
use Rattle.owner.specs.Owned.{OwnerOf}
use Rattle.extract.specs.Ends.{EndOf, IsForm, IsEndOf, IsSettledAnswer, space_at}
use Rattle.extract.proofs.Places.{all_at}
use Rattle.worker.specs.Workers.{WorkerOf}
use Rattle.engine_round.specs.Turns.{MayStop}
use Rattle.engine.specs.Teams.{TeamOf, IsFirstTeam}
use Rattle.engine.specs.Draining.{IsDrained}
use Rattle.engine.proofs.Joining.{end_of}
use Rattle.engine.specs.declared.searches.Outcome.{Outcome}
use Rattle.engine.specs.declared.searches.Outcome.TheVariants.{Next, Last}
use Rattle.engine.specs.declared.searched.Cause.{Cause}
use Rattle.engine.specs.declared.searched.Cause.TheVariants as cause
use Rattle.engine.specs.declared.searched.Searched.TheVariants.{Settled, Stopped}
use Rattle.engine.specs.declared.fault.EngineFault.{EngineFault}
use Rattle.engine.specs.declared.fault.EngineFault.TheVariants.{OutOfMemory, TotalTooLarge, Gate}
use Rattle.engine.specs.Searches.{IsEndIn, IsRefusedBy, IsSearched, IsSearchFault}
use Rattle.engine.specs.Steps.{no_stop, IsByGate, IsTeamIn, IsReadyIn, IsOutcome}

-- the answer that they are not
pub unsettled : {S : Type 0} (space : SearchSpace) (owners : List (OwnerOf S)) (answer : Option Distance)
    → IsSettledAnswer space owners [] answer → is_some answer ≡ false → IsSettledAnswer space owners [] None
unsettled space owners None settled none = settled
unsettled space owners (Some bound) settled none = absurd (cc)

-- ---- a team that is drained
module _ {S : Type 0} (owner : S → List ℕ → ℕ → ℕ) (space : SpaceOf S) (n : ℕ) where
  pub drained_ready : {F : Type 0} (values : List ℕ → F → List ℕ) (old new : TeamOf S F) → IsTeamIn space n old → IsDrained owner values old new
      → IsReadyIn space n new
  drained_ready {F = F} values old new is drained = record {
    is_in = record { space = drained.space ∙ is.space; count = drained.count ∙ is.count };
    none_aside = all_at (λ (w : WorkerOf S F). w.misfits ≡ []) new.workers drained.none_aside;
  }

  pub first_ready : {F : Type 0} (capacity : ℕ) (t : TeamOf S F) → IsFirstTeam space n capacity t → IsReadyIn space n t
  first_ready {F = F} capacity t first = record {
    is_in = record { space = first.space; count = first.count };
    none_aside = all_at (λ (w : WorkerOf S F). w.misfits ≡ []) t.workers (λ v w at. (first.each v w at).misfits);
  }

  -- a round may be played between
  pub through : {F : Type 0} (may_stop : MayStop) (t : TeamOf S F) (o : Outcome S F) → IsTeamIn space n t
      → IsOutcome owner may_stop t.space (length t.workers) o → IsOutcome owner may_stop space n o
  through may_stop t o is out =
      subst (λ (s : SpaceOf S). IsOutcome owner may_stop s n o) is.space (subst (λ (k : ℕ). IsOutcome owner may_stop t.space k o) is.count out)

  pub fault_through : {F : Type 0} (may_stop : MayStop) (t : TeamOf S F) (f : EngineFault) → IsTeamIn space n t
      → IsSearchFault owner may_stop t.space (length t.workers) f → IsSearchFault owner may_stop space n f
  fault_through may_stop t f is out =
      subst (λ (s : SpaceOf S). IsSearchFault owner may_stop s n f) is.space
      (subst (λ (k : ℕ). IsSearchFault owner may_stop t.space k f) is.count out)

  -- what no gate does, any gate may do
  pub searched_under : {F : Type 0} (may_stop : MayStop) (o : Outcome S F) → IsOutcome owner no_stop space n o → IsOutcome owner may_stop space n o
  searched_under may_stop (Next t) out = out
  searched_under may_stop (Last (Settled e)) out = out
  searched_under may_stop (Last (Stopped e cause.Limit)) out = out
  searched_under may_stop (Last (Stopped e cause.Gate)) out = absurd out.2.stops
  searched_under may_stop (Last (Stopped e cause.Stage)) out = absurd out.2.stops

  pub fault_under : (may_stop : MayStop) (f : EngineFault) → IsSearchFault owner no_stop space n f → IsSearchFault owner may_stop space n f
  fault_under may_stop OutOfMemory out = tt
  fault_under may_stop TotalTooLarge out = out
  fault_under may_stop (Gate worker turn) out = absurd out.1

  -- ---- a team whose owners are taken
  module _ {F : Type 0} (t : TeamOf S F) (is : IsTeamIn space n t) (e : EndOf S) (space_is : e.space ≡ t.space) (owners_are : e.owners ≡ map (λ w. w.owner) t.workers)
      (none_left : e.left ≡ []) (form : IsForm e) (family : ∥ ((family : Family) × IsEndOf owner e family) ∥₁)
    where
      e_is : e ≡ end_of t
      e_is = λ j. record { space = space_is j; owners = owners_are j; left = none_left j }

      pub end_in : IsEndIn owner space n e
      end_in = record {
        space = space_is ∙ is.space;
        count = ap length owners_are ∙ (length-map t.workers (λ (w : WorkerOf S F). w.owner) ∙ is.count);
        left = none_left;
        form = form;
        family = family;
      }

      pub answer_at : (answer : Option Distance)
          → IsSettledAnswer (searched owner t.space (length t.workers)) (map (λ w. w.owner) t.workers) [] answer
          → IsSettledAnswer (space_at owner e) e.owners e.left answer
      answer_at answer settled =
          subst (λ (x : EndOf S). IsSettledAnswer (space_at owner x) x.owners x.left answer) (sym e_is)
          (subst (λ (k : ℕ). IsSettledAnswer (searched owner t.space k) (map (λ w. w.owner) t.workers) [] answer)
          (sym (length-map t.workers (λ (w : WorkerOf S F). w.owner))) settled)

      -- settled
      pub settled_end : (may_stop : MayStop) (answer : Option Distance)
          → IsSettledAnswer (searched owner t.space (length t.workers)) (map (λ w. w.owner) t.workers) [] answer → is_some answer ≡ true
          → IsSearched {F = F} owner may_stop space n (Settled e)
      settled_end may_stop None settled some = absurd (cc)
      settled_end may_stop (Some bound) settled some = (end_in, (bound, answer_at (Some bound) settled))

      -- not settled, and ended by the gate
      pub gate_end : (may_stop : MayStop) (why : Cause)
          → IsSettledAnswer (searched owner t.space (length t.workers)) (map (λ w. w.owner) t.workers) [] None → IsByGate may_stop n why
          → IsSearched {F = F} owner may_stop space n (Stopped e why)
      gate_end may_stop cause.Limit not_settled never = absurd never
      gate_end may_stop cause.Gate not_settled gate = (end_in, answer_at None not_settled, gate)
      gate_end may_stop cause.Stage not_settled gate = (end_in, answer_at None not_settled, gate)

      -- not settled, and an owner at its limit
      pub limit_end : (may_stop : MayStop)
          → IsSettledAnswer (searched owner t.space (length t.workers)) (map (λ w. w.owner) t.workers) [] None → IsRefusedBy owner e LimitReached
          → IsSearched {F = F} owner may_stop space n (Stopped e cause.Limit)
      limit_end may_stop not_settled refused = (end_in, answer_at None not_settled, refused)
