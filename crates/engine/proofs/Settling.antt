-- Whether the owners of a team are settled, from the least cost of a goal and the least pending f-value.
use Rattle.std.proofs.Common.{◌≡◌, ℕ, true, false, List, [], length, map, Some, None, is_le, sym, ap, ◌∙◌, subst}
use Rattle.std.proofs.lemmas.List.{length-map}
use Rattle.std.proofs.lemmas.Simd.{map-map}
use Rattle.cost.specs.Distances.{Distance, Infinite, least, distance_cmp}
use Rattle.cost.proofs.DistanceLaws.{lesser_left, at_most_infinite}
use Rattle.owner.specs.Spaces.{searched}
use Rattle.owner.specs.Owned.{OwnerOf}
use Rattle.extract.specs.Ends.{IsForm, IsSettledAt, IsSettledAnswer}
use Rattle.extract.specs.Pending.{least_held}
use Rattle.extract.specs.Bounds.{least_best, least_pending}
use Rattle.extract.proofs.Pending.{settled_where, unsettled_where}
use Rattle.worker.specs.Workers.{WorkerOf}
use Rattle.engine.specs.Teams.{TeamOf}
use Rattle.engine.proofs.Joining.{end_of}

module _ {S F : Type 0} (owner : S → List ℕ → ℕ → ℕ) (t : TeamOf S F) (form : IsForm (end_of t)) (best pending : Distance)
    (is_best : best ≡ least (map (λ w. w.owner.best) t.workers)) (is_pending : pending ≡ least (map (λ w. least_held owner w.owner) t.workers))
  where
    best_of_end : best ≡ least_best (end_of t)
    best_of_end = is_best ∙ ap least (sym (map-map (λ (o : OwnerOf S). o.best) (λ (w : WorkerOf S F). w.owner) t.workers))

    pending_of_end : pending ≡ least_pending owner (end_of t)
    pending_of_end =
        is_pending
        ∙ (ap least (sym (map-map (least_held owner) (λ (w : WorkerOf S F). w.owner) t.workers))
        ∙ sym (lesser_left (least (map (least_held owner) (map (λ (w : WorkerOf S F). w.owner) t.workers))) Infinite
        (at_most_infinite (least (map (least_held owner) (map (λ (w : WorkerOf S F). w.owner) t.workers))))))

    count : length (map (λ (w : WorkerOf S F). w.owner) t.workers) ≡ length t.workers
    count = length-map t.workers (λ (w : WorkerOf S F). w.owner)

    pub team_settled : is_le (distance_cmp best pending) ≡ true
        → IsSettledAnswer (searched owner t.space (length t.workers)) (map (λ w. w.owner) t.workers) [] (Some best)
    team_settled le =
        subst (λ (n : ℕ). IsSettledAt (searched owner t.space n) (map (λ w. w.owner) t.workers) [] best) count
        (settled_where owner (end_of t) form best pending best_of_end pending_of_end le)

    pub team_unsettled : is_le (distance_cmp best pending) ≡ false
        → IsSettledAnswer (searched owner t.space (length t.workers)) (map (λ w. w.owner) t.workers) [] None
    team_unsettled gt =
        subst (λ (n : ℕ). IsSettledAnswer (searched owner t.space n) (map (λ w. w.owner) t.workers) [] None) count
        (unsettled_where owner (end_of t) form best pending best_of_end pending_of_end gt)
