-- A round makes a team of a team.
use Rattle.std.proofs.Common.{◌≡◌, ℕ, zero, suc, ◌+◌, ◌<◌, List, [], ◌∷◌, length, map, get_or, Option, Some, None, All, refl, sym, ap, ◌∙◌, subst, arith}
use Rattle.std.specs.Prelude.{Ok, Err}
use Rattle.std.specs.List.{AllZip}
use Rattle.std.proofs.lemmas.Option.{slice_get_within, slice_get-get_or}
use Rattle.std.proofs.lemmas.Slice.Zip.{AllZip-long}
use Rattle.cost.specs.Distances.{Distance, ◌≤ᵈ◌, least}
use Rattle.owner_theory.specs.Owners.{At}
use Rattle.owner.specs.Spaces.{SpaceOf}
use Rattle.links.specs.declared.ends.Out.{Out}
use Rattle.links.specs.declared.ends.In.{In}
use Rattle.links.specs.Ends.{AreEnds, SameOut}
use Rattle.extract.proofs.Places.{all_at, each_at}
use Rattle.worker.specs.Matching.{AreLinked}
use Rattle.worker.specs.Workers.{WorkerOf, AreSameOuts}
use Rattle.engine_round.specs.Turns.{MayStop}
use Rattle.engine_round.specs.Jobs.{AreNumbered}
use Rattle.engine_round.specs.Rounds.{RoundEndOf, HasPlayed, IsEndedBy, first_fault, IsRound}
use Rattle.engine_round.specs.declared.gate.Stop.TheVariants.{Fail, Limit, Stage}
use Rattle.engine_round.specs.declared.fault.TurnFault.{TurnFault}
use Rattle.engine_round.specs.declared.fault.TurnFault.TheVariants.{Owner, Gate}
use Rattle.engine.specs.Teams.{TeamOf, IsTeam, IsMember, AreAllLinked}
use Rattle.engine.proofs.Members.{linked_after}
use Rattle.engine.specs.declared.fault.EngineFault.{EngineFault}
use Rattle.engine.specs.declared.fault.EngineFault.TheVariants as engine
use Rattle.engine.specs.declared.searched.Cause.TheVariants as cause
use Rattle.engine.specs.declared.halt.Halt.{Halt}
use Rattle.engine.specs.declared.halt.Halt.TheVariants.{Refused, ByGate}
use Rattle.engine.specs.Searches.{IsSearchFault}
use Rattle.engine.specs.Steps.{halt_of, IsHalt}

-- ---- two lists, place by place

pub zip_at : {X Y : Type 0} (R : X → Y → Type 0) (xs : List X) (ys : List Y) → AllZip R xs ys → (v : ℕ) (y : Y) → At ys v y
    → (x : X) × At xs v x × R x y
zip_at R [] [] zipped v y at = absurd at
zip_at R [] (z ∷ ys) zipped v y at = absurd zipped
zip_at R (x ∷ xs) [] zipped v y at = absurd at
zip_at R (x ∷ xs) (z ∷ ys) zipped zero y at = (x, refl, subst (R x) at zipped.0)
zip_at R (x ∷ xs) (z ∷ ys) zipped (suc v) y at = zip_at R xs ys zipped.1 v y at

-- ---- links

ends_sent : {F : Type 0} (o p : Out F) (i : In F) → AreEnds o i → SameOut o p → AreEnds p i
ends_sent o p i ends same = (ends.0 ∙ sym same.0.0, ends.1 ∙ sym same.0.1, ends.2 ∙ sym same.0.2, ends.3 ∙ sym same.0.3)

linked_sent : {F : Type 0} (os ps : List (Out F)) (to : ℕ) (is : List (In F)) (from : ℕ) → AreSameOuts os ps → AreLinked os to is from → AreLinked ps to is from
linked_sent os ps to is from outs linked p i at_p at_i =
    let lt = slice_get_within ps to p at_p in
    let at_o = slice_get-get_or os to p (omega (arith, lt, outs.len)) in
    ends_sent (get_or os to p) p i (linked (get_or os to p) i at_o at_i) (outs.each to (get_or os to p) p at_o at_p)

-- ---- before the round

module _ {S F : Type 0} (t : TeamOf S F) (team : IsTeam t) (ws : List (WorkerOf S F)) (ws_is : ws ≡ t.workers) where
  pub round_some : 0 < length ws
  round_some = subst (λ (xs : List (WorkerOf S F)). 0 < length xs) (sym ws_is) team.some

  pub round_none_aside : All (λ w. w.misfits ≡ []) t.workers → All (λ w. w.misfits ≡ []) ws
  round_none_aside none = subst (All (λ (w : WorkerOf S F). w.misfits ≡ [])) (sym ws_is) none

  numbered_from : (k : ℕ) (xs : List (WorkerOf S F)) → ((i : ℕ) (w : WorkerOf S F) → At xs i w → w.owner.worker ≡ k + i) → AreNumbered k xs
  numbered_from k [] numbers = tt
  numbered_from k (w ∷ xs) numbers = (
    (let e = numbers 0 w refl in omega (arith, e)),
    numbered_from (suc k) xs (λ i x at. let e = numbers (suc i) x at in omega (arith, e)),
  )

  pub round_numbered : AreNumbered 0 ws
  round_numbered = numbered_from 0 ws (λ i w at.
      let e = (team.members.each i w (subst (λ (xs : List (WorkerOf S F)). At xs i w) ws_is at)).number in omega (arith, e))

  pub round_least : (best : Distance) → best ≡ t.best → best ≡ least (map (λ w. w.offered) ws)
  round_least best best_is = best_is ∙ (team.best ∙ ap (λ (xs : List (WorkerOf S F)). least (map (λ w. w.offered) xs)) (sym ws_is))

  pub round_bounded : (best : Distance) → best ≡ t.best → All (λ w. best ≤ᵈ w.seen) ws
  round_bounded best best_is = all_at (λ (w : WorkerOf S F). best ≤ᵈ w.seen) ws (λ v w at.
      subst (λ (d : Distance). d ≤ᵈ w.seen) (sym best_is) (team.bounded v w (subst (λ (xs : List (WorkerOf S F)). At xs v w) ws_is at)))

  -- ---- after it

  module _ (owner : S → List ℕ → ℕ → ℕ) (values : List ℕ → F → List ℕ) (may_stop : MayStop) (r : RoundEndOf S F) (round : IsRound owner values may_stop ws r) where
    pub round_count : length r.workers ≡ length t.workers
    round_count = AllZip-long (HasPlayed (least (map (λ w. w.offered) ws))) ws r.workers round.played ∙ ap length ws_is

    earlier : (v : ℕ) (b : WorkerOf S F) → At r.workers v b
        → (a : WorkerOf S F) × At t.workers v a × HasPlayed (least (map (λ w. w.offered) ws)) a b
    earlier v b at =
        let found = zip_at (HasPlayed (least (map (λ w. w.offered) ws))) ws r.workers round.played v b at in
        (found.0, subst (λ (xs : List (WorkerOf S F)). At xs v found.0) ws_is found.1, found.2)

    member : (v : ℕ) (b : WorkerOf S F) → At r.workers v b → IsMember t.space (length r.workers) v b
    member v b at =
        let (a, at_a, played) = earlier v b at in
        let is = team.members.each v a at_a in
        record {
          space = played.same.space ∙ is.space;
          number = played.same.number ∙ is.number;
          outs = played.same.outs.len ∙ (is.outs ∙ sym round_count);
          ins = played.same.ins.len ∙ (is.ins ∙ sym round_count);
          counted = played.uncounted;
        }

    linked : AreAllLinked r.workers
    linked u v c d at_c at_d =
        let (a, at_a, sender) = earlier u c at_c in
        let (b, at_b, receiver) = earlier v d at_d in
        linked_after c.outs v b.ins d.ins u receiver.same.ins
        (linked_sent a.outs c.outs v b.ins u sender.same.outs (team.members.links u v a b at_a at_b))

    pub round_team : (space : SpaceOf S) → space ≡ t.space → IsTeam (record { space = space; workers = r.workers; best = r.best })
    round_team space same = record {
      some = let long = round_count in omega (arith, team.some, long);
      members = record {
        each = λ v w at. subst (λ (s : SpaceOf S). IsMember s (length r.workers) v w) (sym same) (member v w at);
        links = linked;
      };
      best = round.best;
      bounded = λ v w at. each_at (λ (x : WorkerOf S F). r.best ≤ᵈ x.seen) r.workers v w round.bounded at;
    }

-- ---- what ended it

-- the fault is that of one of this many workers; where it is the gate's, the gate may stop that worker so
abbrev pub IsFaultIn : MayStop → ℕ → Option (ℕ × TurnFault) → Type 0
IsFaultIn may_stop workers None = Unit {0}
IsFaultIn may_stop workers (Some (v, Owner fault)) = v < workers
IsFaultIn may_stop workers (Some (v, Gate turn stop)) = (v < workers) × may_stop v turn stop

module _ {S F : Type 0} (owner : S → List ℕ → ℕ → ℕ) (values : List ℕ → F → List ℕ) (may_stop : MayStop) where
  first_in : (k : ℕ) (ws : List (WorkerOf S F)) (fs : List (Option TurnFault)) → AllZip (IsEndedBy owner values may_stop) ws fs
      → ((i : ℕ) (w : WorkerOf S F) → At ws i w → w.owner.worker ≡ k + i) → IsFaultIn may_stop (k + length ws) (first_fault k fs)
  first_in k [] [] zipped numbers = tt
  first_in k [] (f ∷ fs) zipped numbers = absurd zipped
  first_in k (w ∷ ws) [] zipped numbers = absurd zipped
  first_in k (w ∷ ws) (None ∷ fs) zipped numbers =
      let grown : suc k + length ws ≡ k + length (w ∷ ws) = omega arith in
      subst (λ (n : ℕ). IsFaultIn may_stop n (first_fault (suc k) fs)) grown
      (first_in (suc k) ws fs zipped.1 (λ i x at. let e = numbers (suc i) x at in omega (arith, e)))
  first_in k (w ∷ ws) (Some (Owner fault) ∷ fs) zipped numbers = omega arith
  first_in k (w ∷ ws) (Some (Gate turn stop) ∷ fs) zipped numbers =
      let here : w.owner.worker ≡ k = (let e = numbers 0 w refl in omega (arith, e)) in
      (omega arith, subst (λ (v : ℕ). may_stop v turn stop) here zipped.0.0)

  module _ (t : TeamOf S F) (team : IsTeam t) (ws : List (WorkerOf S F)) (ws_is : ws ≡ t.workers) (r : RoundEndOf S F) (round : IsRound owner values may_stop ws r) where
    pub round_fault : IsFaultIn may_stop (length t.workers) r.fault
    round_fault =
        subst (IsFaultIn may_stop (length t.workers)) (sym round.fault)
        (subst (λ (n : ℕ). IsFaultIn may_stop n (first_fault 0 round.faults))
        (let long = round_count t team ws ws_is owner values may_stop r round in let e : 0 + length r.workers ≡ length t.workers = omega (arith, long) in e)
        (first_in 0 r.workers round.faults round.stopped (λ i w at.
        let e = (member t team ws ws_is owner values may_stop r round i w at).number in omega (arith, e))))

-- what the search makes of it
pub halt_in : (may_stop : MayStop) (workers : ℕ) (fault : Option (ℕ × TurnFault)) (halt : Option Halt) → IsFaultIn may_stop workers fault
    → halt_of fault ≡ Ok halt → IsHalt may_stop workers halt
halt_in may_stop workers None halt is e = let same : None ≡ halt = cc in subst (IsHalt may_stop workers) same tt
halt_in may_stop workers (Some (v, Owner fault)) halt is e = let same : Some (Refused v) ≡ halt = cc in subst (IsHalt may_stop workers) same is
halt_in may_stop workers (Some (v, Gate turn Fail)) halt is e = absurd (cc)
halt_in may_stop workers (Some (v, Gate turn Limit)) halt is e =
    let same : Some (ByGate cause.Gate) ≡ halt = cc in
    subst (IsHalt may_stop workers) same (record { worker = v; within = is.0; turn = turn; stops = is.1 })
halt_in may_stop workers (Some (v, Gate turn Stage)) halt is e =
    let same : Some (ByGate cause.Stage) ≡ halt = cc in
    subst (IsHalt may_stop workers) same (record { worker = v; within = is.0; turn = turn; stops = is.1 })

pub fault_in : {S : Type 0} (owner : S → List ℕ → ℕ → ℕ) (may_stop : MayStop) (space : SpaceOf S) (workers : ℕ) (fault : Option (ℕ × TurnFault))
    (failed : EngineFault) → IsFaultIn may_stop workers fault → halt_of fault ≡ Err failed → IsSearchFault owner may_stop space workers failed
fault_in owner may_stop space workers None failed is e = absurd (cc)
fault_in owner may_stop space workers (Some (v, Owner fault)) failed is e = absurd (cc)
fault_in owner may_stop space workers (Some (v, Gate turn Fail)) failed is e =
    let same : engine.Gate v turn ≡ failed = cc in subst (IsSearchFault owner may_stop space workers) same is
fault_in owner may_stop space workers (Some (v, Gate turn Limit)) failed is e = absurd (cc)
fault_in owner may_stop space workers (Some (v, Gate turn Stage)) failed is e = absurd (cc)
