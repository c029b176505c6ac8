-- The world at its beginning.
use Rattle.std.proofs.Common.{◌≡◌, ◌⊎◌, ℕ, zero, suc, ◌<◌, ◌==◌, Bool, true, false, List, [], ◌∷◌, ◌++◌, length, All, refl, sym, ap, ◌∙◌, subst, inl, inr, ⊎_elim, arith, replicate}
use Rattle.std.proofs.lemmas.List.{length-replicate}
use Rattle.std.proofs.lemmas.List.Elements.{All-nil}
use Rattle.std.proofs.lemmas.Bool.{ne_eqb}
use Rattle.cost.specs.Distances.{Infinite}
use Rattle.owner_theory.specs.Owners.{At, list_at, SearchSpace, Packet, Owner, start_owner, start}
use Rattle.owner_theory.specs.Worlds.{world_start}
use Rattle.owner.specs.Spaces.{SpaceOf, searched}
use Rattle.owner.specs.Owned.{OwnerOf, under, IsMessageTo}
use Rattle.owner.proofs.Logs.{first_log}
use Rattle.netcore.specs.Worlds.{WorldOf, space_in, IsVoid, Shows, IsAfter}
use Rattle.netcore.specs.Kept.{IsWorld}
use Rattle.netcore.specs.Starts.{IsFirstOwner}

pub at_copies : {X : Type 0} (n : ℕ) (y : X) (i : ℕ) (x : X) → At (replicate n y) i x → y ≡ x
at_copies zero y i x at = absurd at
at_copies (suc n) y zero x at = at
at_copies (suc n) y (suc i) x at = at_copies n y i x at

empty_at : {X : Type 0} (n u : ℕ) → list_at {X = X} (replicate n []) u ≡ []
empty_at zero u = refl
empty_at (suc n) zero = refl
empty_at (suc n) (suc u) = empty_at n u

pub at_snoc : {X : Type 0} (xs : List X) (y : X) (i : ℕ) (x : X) → At (xs ++ y ∷ []) i x → At xs i x ⊎ ((i ≡ length xs) × (y ≡ x))
at_snoc [] y zero x at = inr (refl, at)
at_snoc [] y (suc i) x at = absurd at
at_snoc (z ∷ xs) y zero x at = inl at
at_snoc (z ∷ xs) y (suc i) x at = ⊎_elim (λ (h : At xs i x). inl h)
    (λ (h : (i ≡ length xs) × (y ≡ x)). inr (ap suc h.0, h.1)) (at_snoc xs y i x at)

outboxes_of : (space : SearchSpace) (b : Bool) → length (start_owner space b).outboxes ≡ space.owners
outboxes_of space true = length-replicate space.owners []
outboxes_of space false = length-replicate space.owners []

module _ {S : Type 0} (owner : S → List ℕ → ℕ → ℕ) where
  abbrev pub first_world : SpaceOf S → List (OwnerOf S) → ℕ → WorldOf S
  first_world space os n = record {
    space = space;
    owners = os;
    underway = replicate n [];
    seen = replicate n Infinite;
    bound = Infinite;
    resting = replicate n false;
    limited = false;
  }

  -- an owner more
  pub first_more : (space : SpaceOf S) (n : ℕ) (os : List (OwnerOf S)) (p : OwnerOf S)
      → ((v : ℕ) (o : OwnerOf S) → At os v o → IsFirstOwner owner space n v o) → IsFirstOwner owner space n (length os) p
      → (v : ℕ) (o : OwnerOf S) → At (os ++ p ∷ []) v o → IsFirstOwner owner space n v o
  first_more space n os p each one v o at = ⊎_elim (λ (h : At os v o). each v o h)
      (λ (h : (v ≡ length os) × (p ≡ o)). subst (λ k. IsFirstOwner owner space n k o) (sym h.0) (subst (IsFirstOwner owner space n (length os)) h.1 one))
      (at_snoc os p v o at)

  module _ (space : SpaceOf S) (os : List (OwnerOf S)) (n : ℕ) (count : length os ≡ n)
      (each : (v : ℕ) (o : OwnerOf S) → At os v o → IsFirstOwner owner space n v o)
      (below : (state : List ℕ) → owner space.spread state n < n) where
    pub start_shown : Shows owner (first_world space os n) (world_start (searched owner space n))
    start_shown = record {
      owners = λ v o b at seen.
          first_log (start (searched owner space n) v) o b (sym (each v o at).started ∙ ap (λ z. under o z) (at_copies n Infinite v b seen)) refl (each v o at).expansions;
      underway = λ v ps at. at_copies n [] v ps at;
      bound = refl;
      resting = λ v r at. at_copies n false v r at;
      others = λ v le. subst (λ b. IsVoid (start_owner (searched owner space n) b))
          (sym (ne_eqb (owner space.spread space.task.initial n) v (λ e. let lt = below space.task.initial in absurd (omega (arith, e, count)))))
          (record { nodes = refl; outboxes = λ u. empty_at n u; best = refl });
    }

    pub start_kept : 0 < n → IsWorld owner (first_world space os n)
    start_kept some = record {
      some = omega (arith, count);
      queues = length-replicate n [] ∙ sym count;
      bounds = length-replicate n Infinite ∙ sym count;
      flags = length-replicate n false ∙ sym count;
      spaces = λ v o at. (each v o at).space;
      workers = λ v o at. (each v o at).worker;
      outboxes = λ v o at. ap (λ (w : Owner). length w.outboxes) (each v o at).started
          ∙ (outboxes_of (searched owner space n) (owner space.spread space.task.initial n == v) ∙ sym count);
      messages = λ v ps at. subst (λ qs. All (λ p. IsMessageTo (space_in owner (first_world space os n)) v p.message) qs) (at_copies n [] v ps at)
          (All-nil (λ (p : Packet). IsMessageTo (space_in owner (first_world space os n)) v p.message));
      run = ∣ (
        [],
        subst (λ k. IsAfter owner (searched owner space k) [] (first_world space os n)) (sym count)
            (record { steps = []; run = tt; shown = start_shown }),
      ) ∣₁;
    }
