-- What is ready for a round: seats that were split, each with its worker.
use Rattle.std.proofs.Common.{◌≡◌, ℕ, suc, ◌+◌, ◌-◌, ◌/◌, ◌^◌, ◌<◌, ◌≤◌, List, [], ◌∷◌, ◌++◌, map, length, refl, sym, ap, ◌∙◌, subst, arith}
use Rattle.std.specs.Prelude.{All}
use Rattle.std.proofs.lemmas.List.Elements.{All-nil, All-cons, All-head, All-tail}
use Rattle.cost.specs.Distances.{Distance, Infinite, lesser, least, ◌≤ᵈ◌}
use Rattle.cost.proofs.DistanceLaws.{at_most_infinite, lesser_left}
use Rattle.board.specs.declared.views.View.{View}
use Rattle.board.specs.declared.words.Board.{Board}
use Rattle.board.specs.Rule.{all_parts, total_parts, kept_part, new_part}
use Rattle.board.specs.Seats.{BoardSeat, IsSeatOf, view}
use Rattle.worker.specs.Workers.{WorkerOf}
use Rattle.engine_round.specs.Jobs.{JobOf, AreNumbered, IsReady, IsOpened, AreSplit, AreSetUp}

-- there is a part for each worker of a vector, whose length and capacity these are
pub enough_parts : (n m len cap : ℕ) (best : Distance) (u w : View) → n ≡ len → len ≡ m → 0 < m → len ≤ cap → cap < 2 ^ 63 → IsOpened best u
    → w ≡ new_part u → (0 < n) × (n ≤ w.parts)
enough_parts n m len cap best u w counted is some within small opened other =
    let e = opened.parts in let f = ap (λ (x : View). x.parts) other in (omega (arith, counted, is, some), omega (arith, counted, within, small, e, f))

module _ {S F : Type 0} where
  -- the number of the next worker, after those that have a job
  numbered_at : (v : ℕ) (js : List (JobOf S F)) (w : WorkerOf S F) (rest : List (WorkerOf S F)) → AreNumbered v (map (λ j. j.worker) js ++ w ∷ rest)
      → w.owner.worker ≡ v + length js
  numbered_at v [] w rest numbered = omega (arith, numbered.0)
  numbered_at v (j ∷ js) w rest numbered = let e = numbered_at (suc v) js w rest numbered.1 in omega (arith, e)

  pub next_number : (n len : ℕ) (js : List (JobOf S F)) (w : WorkerOf S F) (left rest all : List (WorkerOf S F)) → n ≡ len → len ≡ length js
      → left ≡ w ∷ rest → map (λ j. j.worker) js ++ left ≡ all → AreNumbered 0 all → n ≡ w.owner.worker
  next_number n len js w left rest all counted is e both numbered =
      let at = numbered_at 0 js w rest
      (subst (AreNumbered 0) (sym both ∙ ap (λ ws. map (λ (j : JobOf S F). j.worker) js ++ ws) e) numbered) in
      omega (arith, counted, is, at)

  -- of each job, from each seat and each worker
  jobs_ready : (b : Board) (d : Distance) (js : List (JobOf S F)) → All (λ s. IsSeatOf b s × ((view s).seen ≡ d)) (map (λ (j : JobOf S F). j.seat) js)
      → All (λ w. w.misfits ≡ []) (map (λ (j : JobOf S F). j.worker) js) → All (IsReady b) js
  jobs_ready b d [] seats none = All-nil (IsReady b)
  jobs_ready b d (j ∷ js) seats none =
      let P : BoardSeat → Type 0 = λ s. IsSeatOf b s × ((view s).seen ≡ d) in
      let Q : WorkerOf S F → Type 0 = λ w. w.misfits ≡ [] in
      let ss : List BoardSeat = map (λ (i : JobOf S F). i.seat) js in
      let ws : List (WorkerOf S F) = map (λ (i : JobOf S F). i.worker) js in
      All-cons (IsReady b) j js ((All-head P j.seat ss seats).0, All-head Q j.worker ws none)
      (jobs_ready b d js (All-tail P j.seat ss seats) (All-tail Q j.worker ws none))

  jobs_told : (b : Board) (d best : Distance) (js : List (JobOf S F)) → d ≤ᵈ best
      → All (λ s. IsSeatOf b s × ((view s).seen ≡ d)) (map (λ (j : JobOf S F). j.seat) js) → All (λ j. (view j.seat).seen ≤ᵈ best) js
  jobs_told b d best [] below seats = All-nil (λ (j : JobOf S F). (view j.seat).seen ≤ᵈ best)
  jobs_told b d best (j ∷ js) below seats =
      let P : BoardSeat → Type 0 = λ s. IsSeatOf b s × ((view s).seen ≡ d) in
      let ss : List BoardSeat = map (λ (i : JobOf S F). i.seat) js in
      All-cons (λ (i : JobOf S F). (view i.seat).seen ≤ᵈ best) j js (subst (λ x. x ≤ᵈ best) (sym (All-head P j.seat ss seats).1) below)
      (jobs_told b d best js below (All-tail P j.seat ss seats))

  parts_of_seats : (js : List (JobOf S F)) → total_parts (map view (map (λ (j : JobOf S F). j.seat) js)) ≡ total_parts (map (λ (j : JobOf S F). view j.seat) js)
  parts_of_seats [] = refl
  parts_of_seats (j ∷ js) = ap (λ (n : ℕ). (view j.seat).parts + n) (parts_of_seats js)

  offered_by_seats : (js : List (JobOf S F))
      → least (map (λ (s : BoardSeat). (view s).offered) (map (λ (j : JobOf S F). j.seat) js)) ≡ least (map (λ (j : JobOf S F). (view j.seat).offered) js)
  offered_by_seats [] = refl
  offered_by_seats (j ∷ js) = ap (lesser (view j.seat).offered) (offered_by_seats js)

  pub are_set_up : (b : Board) (best : Distance) (workers : List (WorkerOf S F)) (u v w : View) (own : BoardSeat) (seats : List BoardSeat) (js : List (JobOf S F)) (n : ℕ)
      → IsOpened best u → v ≡ kept_part u → w ≡ new_part u → IsSeatOf b own → view own ≡ v → AreSplit b w n seats
      → map (λ j. j.seat) js ≡ seats → map (λ j. j.worker) js ≡ workers → All (λ w. w.misfits ≡ []) workers → AreSetUp b best workers own js
  are_set_up b best workers u v w own seats js n opened kept other own_seat own_view split seats_are workers_are none =
      let own_is : view own ≡ kept_part u = own_view ∙ kept in
      let each : All (λ s. IsSeatOf b s × ((view s).seen ≡ w.seen)) (map (λ (j : JobOf S F). j.seat) js) =
      subst (All (λ (s : BoardSeat). IsSeatOf b s × ((view s).seen ≡ w.seen))) (sym seats_are) split.each in
      let seen : w.seen ≡ u.seen = ap (λ (x : View). x.seen) other in
      let parts : total_parts (map (λ (j : JobOf S F). view j.seat) js) ≡ u.parts - u.parts / 2 =
      sym (parts_of_seats js) ∙ (ap (λ ss. total_parts (map view ss)) seats_are ∙ (split.parts ∙ ap (λ (x : View). x.parts) other)) in
      let none_offered : least (map (λ (j : JobOf S F). (view j.seat).offered) js) ≡ Infinite =
      sym (offered_by_seats js) ∙ (ap (λ ss. least (map (λ (s : BoardSeat). (view s).offered) ss)) seats_are
      ∙ (split.offered ∙ ap (λ (x : View). x.offered) other)) in
      record {
        own_seat = own_seat;
        workers_are = workers_are;
        ready = jobs_ready b w.seen js each (subst (All (λ (x : WorkerOf S F). x.misfits ≡ [])) (sym workers_are) none);
        told = jobs_told b w.seen best js (subst (λ d. d ≤ᵈ best) (sym seen) opened.seen) each;
        parts = whole (view own).parts (total_parts (map (λ (j : JobOf S F). view j.seat) js)) u.parts all_parts (ap (λ (x : View). x.parts) own_is) parts opened.parts;
        offered = ap (λ (x : View). lesser x.offered (least (map (λ (j : JobOf S F). (view j.seat).offered) js))) own_is
            ∙ (ap (lesser u.offered) none_offered ∙ (lesser_left u.offered Infinite (at_most_infinite u.offered) ∙ opened.offered));
      }
    where
      whole : (p q n m : ℕ) → p ≡ n / 2 → q ≡ n - n / 2 → n ≡ m → p + q ≡ m
      whole p q n m first second is = omega arith
