-- Whether a message is for an owner.
use Rattle.std.proofs.Common.{◌≡◌, ℕ, ◌==◌, true, false, ⊎_elim, List, length, sym, ◌∙◌}
use Rattle.std.proofs.lemmas.Bool.{and_from, and_left, and_right, cases_Bool, eq-eqb}
use Rattle.fdr.specs.Tasks.{ranges, IsState}
use Rattle.checker_clauses.specs.Clauses.{is_state}
use Rattle.checker_clauses.proofs.ClauseLaws.{is_state_tells}
use Rattle.owner_theory.specs.Owners.{SearchSpace, Message, fits}
use Rattle.owner_theory.proofs.States.{is_state-from}
use Rattle.owner.specs.Spaces.{SpaceOf, searched}
use Rattle.owner.specs.Owned.{OwnerOf, space_of}

-- one of no state does not fit
pub no_state : (space : SearchSpace) (me : ℕ) (m : Message) → (IsState (ranges space.task) m.state → ⊥) → fits space me m ≡ false
no_state space me m none = ⊎_elim
    (λ (e : is_state (ranges space.task) m.state ≡ true). absurd (none (is_state_tells (ranges space.task) m.state e)))
    (λ (e : is_state (ranges space.task) m.state ≡ false). and_left _ _ e)
    (cases_Bool (is_state (ranges space.task) m.state))

-- nor does one of another owner
pub another_owner : (space : SearchSpace) (me : ℕ) (m : Message) → (space.owner_of m.state == me) ≡ false → fits space me m ≡ false
another_owner space me m e = and_right (is_state (ranges space.task) m.state) _ e

pub fits_here : (space : SearchSpace) (me : ℕ) (m : Message) → IsState (ranges space.task) m.state → space.owner_of m.state ≡ me → fits space me m ≡ true
fits_here space me m state own = and_from (is_state (ranges space.task) m.state) (space.owner_of m.state == me)
    (is_state-from (ranges space.task) m.state state) (eq-eqb (space.owner_of m.state) me own)

-- the same of an owner whose space, number of owners and number were read
module _ {S : Type 0} (owner : S → List ℕ → ℕ → ℕ) (o : OwnerOf S) (space : SpaceOf S) (n me : ℕ) (m : Message) (same_space : space ≡ o.space)
    (same_owners : n ≡ length o.outboxes) (same_number : me ≡ o.worker) where
  as_read : fits (space_of owner o) o.worker m ≡ fits (searched owner space n) me m
  as_read = λ j. fits (searched owner (sym same_space j) (sym same_owners j)) (sym same_number j) m

  pub unfit_as_read : fits (searched owner space n) me m ≡ false → fits (space_of owner o) o.worker m ≡ false
  unfit_as_read unfit = as_read ∙ unfit

  pub fits_as_read : IsState (ranges space.task) m.state → owner space.spread m.state n ≡ me → fits (space_of owner o) o.worker m ≡ true
  fits_as_read state own = as_read ∙ fits_here (searched owner space n) me m state own
