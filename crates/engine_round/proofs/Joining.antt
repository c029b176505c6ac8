-- What is known of workers and of the board once all seats are joined.
use Rattle.std.proofs.Common.{◌≡◌, ℕ, ◌+◌, List, [], ◌∷◌, map, refl, sym, ap, ◌∙◌, subst, arith}
use Rattle.std.specs.Prelude.{All}
use Rattle.std.specs.List.{AllZip}
use Rattle.std.proofs.lemmas.List.Elements.{All-nil, All-cons, All-head, All-tail, All-weaker}
use Rattle.cost.specs.Distances.{Distance, Infinite, lesser, least, ◌≤ᵈ◌}
use Rattle.cost.proofs.DistanceLaws.{at_most_through, at_most_lesser, at_most_infinite, lesser_at_most_left, lesser_at_most_right, lesser_left, lesser_comm, lesser_assoc}
use Rattle.board.specs.declared.views.View.{View}
use Rattle.board.specs.declared.words.Board.{Board}
use Rattle.board.specs.Rule.{all_parts, total_parts, joined}
use Rattle.board.specs.Seats.{BoardSeat, IsSeatOf, view}
use Rattle.worker.specs.Workers.{WorkerOf}
use Rattle.engine_round.specs.Turns.{MayStop, WorkedOf, HasKept}
use Rattle.engine_round.specs.Jobs.{JobOf, AreSetUp, HasDone, HasMemory, joined_all}
use Rattle.engine_round.specs.Rounds.{RoundEndOf, HasPlayed, IsEndedBy, first_fault, IsRound}

lesser_pairs : (a b x y : Distance) → lesser (lesser a x) (lesser b y) ≡ lesser (lesser a b) (lesser x y)
lesser_pairs a b x y =
    lesser_assoc a x (lesser b y)
    ∙ (ap (lesser a) (sym (lesser_assoc x b y) ∙ (ap (λ d. lesser d y) (lesser_comm x b) ∙ lesser_assoc b x y))
    ∙ sym (lesser_assoc a b (lesser x y)))

module _ {S F : Type 0} where
  -- ---- the joined seat
  joined_parts : (v : View) (rs : List (WorkedOf S F)) → (joined_all v rs).parts ≡ v.parts + total_parts (map (λ r. view r.seat) rs)
  joined_parts v [] = omega arith
  joined_parts v (r ∷ rs) = let e = joined_parts (joined v (view r.seat)) rs in omega (arith, e)

  joined_offered : (v : View) (rs : List (WorkedOf S F)) → (joined_all v rs).offered ≡ lesser v.offered (least (map (λ r. (view r.seat).offered) rs))
  joined_offered v [] = sym (lesser_left v.offered Infinite (at_most_infinite v.offered))
  joined_offered v (r ∷ rs) =
      joined_offered (joined v (view r.seat)) rs ∙ lesser_assoc v.offered (view r.seat).offered (least (map (λ (x : WorkedOf S F). (view x.seat).offered) rs))

  joined_seen : (d : Distance) (v : View) (rs : List (WorkedOf S F)) → d ≤ᵈ (joined_all v rs).seen
      → (d ≤ᵈ v.seen) × All (λ r. d ≤ᵈ (view r.seat).seen) rs
  joined_seen d v [] below = (below, All-nil (λ (r : WorkedOf S F). d ≤ᵈ (view r.seat).seen))
  joined_seen d v (r ∷ rs) below =
      let s : View = view r.seat in
      let both = joined_seen d (joined v s) rs below in (
        at_most_through d (lesser v.seen s.seen) v.seen both.0 (lesser_at_most_left v.seen s.seen),
        All-cons (λ (x : WorkedOf S F). d ≤ᵈ (view x.seat).seen) r rs
            (at_most_through d (lesser v.seen s.seen) s.seen both.0 (lesser_at_most_right v.seen s.seen))
            both.1,
      )

  -- what the workers offered in the round, their seats have, and no part is lost
  record HaveOffered (js : List (JobOf S F)) (rs : List (WorkedOf S F)) : Type 0 where
    pub since : Distance
    pub workers : least (map (λ (w : WorkerOf S F). w.offered) (map (λ (r : WorkedOf S F). r.worker) rs))
        ≡ lesser (least (map (λ (w : WorkerOf S F). w.offered) (map (λ (j : JobOf S F). j.worker) js))) since
    pub seats : least (map (λ (r : WorkedOf S F). (view r.seat).offered) rs) ≡ lesser (least (map (λ (j : JobOf S F). (view j.seat).offered) js)) since
    pub parts : total_parts (map (λ (r : WorkedOf S F). view r.seat) rs) ≡ total_parts (map (λ (j : JobOf S F). view j.seat) js)

  module _ (owner : S → List ℕ → ℕ → ℕ) (values : List ℕ → F → List ℕ) (may_stop : MayStop) (b : Board) where
    kept_of : (j : JobOf S F) (r : WorkedOf S F) (rs : List (WorkedOf S F)) → HasDone owner values may_stop b j r → All HasMemory (r ∷ rs)
        → HasKept j.worker r.worker (view j.seat) (view r.seat)
    kept_of j r rs done memory = done.kept (All-head HasMemory r rs memory)

    have_offered : (js : List (JobOf S F)) (rs : List (WorkedOf S F)) → AllZip (HasDone owner values may_stop b) js rs → All HasMemory rs → HaveOffered js rs
    have_offered [] [] done memory = record { since = Infinite; workers = refl; seats = refl; parts = refl }
    have_offered [] (r ∷ rs) done memory = absurd done
    have_offered (j ∷ js) [] done memory = absurd done
    have_offered (j ∷ js) (r ∷ rs) done memory =
        let kept : HasKept j.worker r.worker (view j.seat) (view r.seat) = kept_of j r rs done.0 memory in
        let rest : HaveOffered js rs = have_offered js rs done.1 (All-tail HasMemory r rs memory) in
        let ws : List (WorkerOf S F) → Distance = λ xs. least (map (λ (w : WorkerOf S F). w.offered) xs) in
        let now : Distance = least (map (λ (w : WorkerOf S F). w.offered) (map (λ (x : WorkedOf S F). x.worker) rs)) in
        let then : Distance = least (map (λ (w : WorkerOf S F). w.offered) (map (λ (i : JobOf S F). i.worker) js)) in
        let seats_now : Distance = least (map (λ (x : WorkedOf S F). (view x.seat).offered) rs) in
        let seats_then : Distance = least (map (λ (i : JobOf S F). (view i.seat).offered) js) in
        let x : Distance = kept.seated.offered_since in
        record {
          since = lesser x rest.since;
          workers = ap (λ d. lesser d now) kept.seated.offered
              ∙ (ap (lesser (lesser j.worker.offered x)) rest.workers ∙ lesser_pairs j.worker.offered then x rest.since);
          seats = ap (λ d. lesser d seats_now) kept.seated.view_offered
              ∙ (ap (lesser (lesser (view j.seat).offered x)) rest.seats ∙ lesser_pairs (view j.seat).offered seats_then x rest.since);
          parts = let e = kept.seated.parts in let f = rest.parts in omega (arith, e, f);
        }

    bounded_after : (d : Distance) (js : List (JobOf S F)) (rs : List (WorkedOf S F)) → AllZip (HasDone owner values may_stop b) js rs → All HasMemory rs
        → All (λ w. d ≤ᵈ w.seen) (map (λ j. j.worker) js) → All (λ r. d ≤ᵈ (view r.seat).seen) rs → All (λ w. d ≤ᵈ w.seen) (map (λ r. r.worker) rs)
    bounded_after d [] [] done memory old seats = All-nil (λ (w : WorkerOf S F). d ≤ᵈ w.seen)
    bounded_after d [] (r ∷ rs) done memory old seats = absurd done
    bounded_after d (j ∷ js) [] done memory old seats = absurd done
    bounded_after d (j ∷ js) (r ∷ rs) done memory old seats =
        let kept : HasKept j.worker r.worker (view j.seat) (view r.seat) = kept_of j r rs done.0 memory in
        let s : Distance = kept.seated.seen_since in
        let Q : WorkerOf S F → Type 0 = λ w. d ≤ᵈ w.seen in
        let T : WorkedOf S F → Type 0 = λ x. d ≤ᵈ (view x.seat).seen in
        let before : d ≤ᵈ j.worker.seen = All-head Q j.worker (map (λ (i : JobOf S F). i.worker) js) old in
        let seat : d ≤ᵈ lesser (view j.seat).seen s = subst (λ y. d ≤ᵈ y) kept.seated.view_seen (All-head T r rs seats) in
        let after : d ≤ᵈ s = at_most_through d (lesser (view j.seat).seen s) s seat (lesser_at_most_right (view j.seat).seen s) in
        All-cons Q r.worker (map (λ (x : WorkedOf S F). x.worker) rs)
        (subst (λ y. d ≤ᵈ y) (sym kept.seated.seen) (at_most_lesser d j.worker.seen s before after))
        (bounded_after d js rs done.1 (All-tail HasMemory r rs memory) (All-tail Q j.worker (map (λ (i : JobOf S F). i.worker) js) old)
        (All-tail T r rs seats))

    have_played : (best : Distance) (js : List (JobOf S F)) (rs : List (WorkedOf S F)) → AllZip (HasDone owner values may_stop b) js rs → All HasMemory rs
        → All (λ j. (view j.seat).seen ≤ᵈ best) js → AllZip (HasPlayed best) (map (λ j. j.worker) js) (map (λ r. r.worker) rs)
    have_played best [] [] done memory told = tt
    have_played best [] (r ∷ rs) done memory told = absurd done
    have_played best (j ∷ js) [] done memory told = absurd done
    have_played best (j ∷ js) (r ∷ rs) done memory told =
        let kept : HasKept j.worker r.worker (view j.seat) (view r.seat) = kept_of j r rs done.0 memory in
        let T : JobOf S F → Type 0 = λ i. (view i.seat).seen ≤ᵈ best in (
          record {
            same = kept.same;
            uncounted = kept.uncounted;
            told = λ none. at_most_through r.worker.bound (view j.seat).seen best (kept.told none) (All-head T j js told);
          },
          have_played best js rs done.1 (All-tail HasMemory r rs memory) (All-tail T j js told),
        )

    have_ended : (js : List (JobOf S F)) (rs : List (WorkedOf S F)) → AllZip (HasDone owner values may_stop b) js rs → All HasMemory rs
        → AllZip (IsEndedBy owner values may_stop) (map (λ r. r.worker) rs) (map (λ r. r.fault) rs)
    have_ended [] [] done memory = tt
    have_ended [] (r ∷ rs) done memory = absurd done
    have_ended (j ∷ js) [] done memory = absurd done
    have_ended (j ∷ js) (r ∷ rs) done memory =
        ((done.0.ended, All-head HasMemory r rs memory), have_ended js rs done.1 (All-tail HasMemory r rs memory))

    pub seats_of : (js : List (JobOf S F)) (rs : List (WorkedOf S F)) → AllZip (HasDone owner values may_stop b) js rs → All (λ r. IsSeatOf b r.seat) rs
    seats_of [] [] done = All-nil (λ (r : WorkedOf S F). IsSeatOf b r.seat)
    seats_of [] (r ∷ rs) done = absurd done
    seats_of (j ∷ js) [] done = absurd done
    seats_of (j ∷ js) (r ∷ rs) done = All-cons (λ (x : WorkedOf S F). IsSeatOf b x.seat) r rs done.0.seat (seats_of js rs done.1)

    -- ---- the end of a round
    pub all_joined : (best : Distance) (old : List (WorkerOf S F)) (own : BoardSeat) (v : View) (js : List (JobOf S F)) (rs : List (WorkedOf S F))
        → AreSetUp b best old own js → AllZip (HasDone owner values may_stop b) js rs → v ≡ view own → All HasMemory rs → (joined_all v rs).parts ≡ all_parts
    all_joined best old own v js rs set done same memory =
        let have : HaveOffered js rs = have_offered js rs done memory in
        joined_parts v rs ∙ (ap (λ (n : ℕ). v.parts + n) have.parts ∙ (ap (λ (x : View). x.parts + total_parts (map (λ (j : JobOf S F). view j.seat) js)) same ∙ set.parts))

    round_of : (best : Distance) (own : BoardSeat) (v : View) (js : List (JobOf S F)) (rs : List (WorkedOf S F)) (e : RoundEndOf S F)
        → AreSetUp b best (map (λ j. j.worker) js) own js → AllZip (HasDone owner values may_stop b) js rs → v ≡ view own → All HasMemory rs
        → best ≡ least (map (λ w. w.offered) (map (λ (j : JobOf S F). j.worker) js)) → All (λ w. best ≤ᵈ w.seen) (map (λ j. j.worker) js)
        → e.workers ≡ map (λ r. r.worker) rs → e.fault ≡ first_fault 0 (map (λ r. r.fault) rs)
        → e.best ≡ (joined_all v rs).offered → e.best ≤ᵈ (joined_all v rs).seen
        → IsRound owner values may_stop (map (λ j. j.worker) js) e
    round_of best own v js rs e set done same memory is bounded workers fault offered seen =
        let have : HaveOffered js rs = have_offered js rs done memory in
        let seats_then : Distance = least (map (λ (j : JobOf S F). (view j.seat).offered) js) in
        let news : List (WorkerOf S F) = map (λ (r : WorkedOf S F). r.worker) rs in
        let lowered : e.best ≡ lesser best have.since =
        offered ∙ (joined_offered v rs ∙ (ap (lesser v.offered) have.seats
        ∙ (sym (lesser_assoc v.offered seats_then have.since)
        ∙ (ap (λ (x : View). lesser (lesser x.offered seats_then) have.since) same ∙ ap (λ d. lesser d have.since) set.offered)))) in
        let least_now : e.best ≡ least (map (λ (w : WorkerOf S F). w.offered) news) = lowered ∙ (ap (λ d. lesser d have.since) is ∙ sym have.workers) in
        let below : e.best ≤ᵈ best = subst (λ d. d ≤ᵈ best) (sym lowered) (lesser_at_most_left best have.since) in
        let before = All-weaker (λ (w : WorkerOf S F). best ≤ᵈ w.seen) (λ (w : WorkerOf S F). e.best ≤ᵈ w.seen)
        (λ w at. at_most_through e.best best w.seen below at) (map (λ (j : JobOf S F). j.worker) js) bounded in
        record {
          played = subst (λ ws. AllZip (HasPlayed (least (map (λ (w : WorkerOf S F). w.offered) (map (λ (j : JobOf S F). j.worker) js)))) (map (λ (j : JobOf S F). j.worker) js) ws)
              (sym workers)
              (subst (λ d. AllZip (HasPlayed d) (map (λ (j : JobOf S F). j.worker) js) news) is (have_played best js rs done memory set.told));
          faults = map (λ (r : WorkedOf S F). r.fault) rs;
          stopped = subst (λ ws. AllZip (IsEndedBy owner values may_stop) ws (map (λ (r : WorkedOf S F). r.fault) rs)) (sym workers) (have_ended js rs done memory);
          fault = fault;
          best = least_now ∙ ap (λ ws. least (map (λ (w : WorkerOf S F). w.offered) ws)) (sym workers);
          bounded = subst (All (λ (w : WorkerOf S F). e.best ≤ᵈ w.seen)) (sym workers)
              (bounded_after e.best js rs done memory before (joined_seen e.best v rs seen).1);
        }

    pub is_round : (best : Distance) (old : List (WorkerOf S F)) (own : BoardSeat) (v : View) (js : List (JobOf S F)) (rs : List (WorkedOf S F)) (e : RoundEndOf S F)
        → AreSetUp b best old own js → AllZip (HasDone owner values may_stop b) js rs → v ≡ view own → All HasMemory rs
        → best ≡ least (map (λ w. w.offered) old) → All (λ w. best ≤ᵈ w.seen) old
        → e.workers ≡ map (λ r. r.worker) rs → e.fault ≡ first_fault 0 (map (λ r. r.fault) rs)
        → e.best ≡ (joined_all v rs).offered → e.best ≤ᵈ (joined_all v rs).seen
        → IsRound owner values may_stop old e
    is_round best old own v js rs e set done same memory is bounded workers fault offered seen =
        let back : old ≡ map (λ (j : JobOf S F). j.worker) js = sym set.workers_are in
        subst (λ x. IsRound owner values may_stop x e) set.workers_are
        (round_of best own v js rs e (subst (λ x. AreSetUp b best x own js) back set) done same memory
        (subst (λ x. best ≡ least (map (λ (w : WorkerOf S F). w.offered) x)) back is) (subst (All (λ (w : WorkerOf S F). best ≤ᵈ w.seen)) back bounded)
        workers fault offered seen)
