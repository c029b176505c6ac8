-- A team of which a worker was asked to expand a node.
use Rattle.std.proofs.Common.{◌≡◌, ◌≢◌, ◌⊎◌, ℕ, zero, suc, ◌<◌, ◌≤◌, List, [], ◌∷◌, length, map, Option, Some, None, All, refl, sym, ap, ◌∙◌, subst, inl, inr, ⊎_elim, arith}
use Rattle.std.proofs.lemmas.Bool.{cases_lt}
use Rattle.fdr.specs.Tasks.{ranges}
use Rattle.owner_theory.specs.Owners.{At}
use Rattle.owner.specs.declared.fault.OwnerFault.{OwnerFault}
use Rattle.owner.specs.Spaces.{SpaceOf, searched}
use Rattle.owner.specs.Owned.{OwnerOf, IsRefusal}
use Rattle.extract.specs.Ends.{EndOf, IsSettledAnswer}
use Rattle.extract.proofs.Places.{all_at, each_at, at_below, at_some}
use Rattle.worker.specs.Workers.{WorkerOf, sent_to, received_from}
use Rattle.engine.specs.Teams.{TeamOf, values_on, AreEmpty}
use Rattle.engine.specs.Asking.{HasAnswered, IsAsked}
use Rattle.engine.specs.Searches.{IsEndIn, IsRefusedBy, IsRefusedEnd}
use Rattle.engine.specs.Steps.{IsTeamIn, IsReadyIn}

same_or_not : (v w : ℕ) → (v ≡ w) ⊎ (v ≢ w)
same_or_not v w = ⊎_elim
    (λ (below : v < w). inr (λ e. omega arith))
    (λ (le : w ≤ v). ⊎_elim (λ (above : w < v). inr (λ e. omega arith)) (λ (ge : v ≤ w). let e : v ≡ w = omega arith in inl e) (cases_lt w v))
    (cases_lt v w)

map_at : {X Y : Type 0} (f : X → Y) (xs : List X) (v : ℕ) (x : X) → At xs v x → At (map f xs) v (f x)
map_at f [] v x at = absurd at
map_at f (y ∷ xs) zero x at = ap f at
map_at f (y ∷ xs) (suc v) x at = map_at f xs v x at

map_same : {X Y : Type 0} (f : X → Y) (xs ys : List X) → length ys ≡ length xs → ((v : ℕ) (x y : X) → At xs v x → At ys v y → f y ≡ f x)
    → map f ys ≡ map f xs
map_same f [] [] long same = refl
map_same f [] (y ∷ ys) long same = absurd (omega (arith, long))
map_same f (x ∷ xs) [] long same = absurd (omega (arith, long))
map_same {Y = Y} f (x ∷ xs) (y ∷ ys) long same =
    ap (λ (z : Y). z ∷ map f ys) (same 0 x y refl refl)
    ∙ ap (λ (zs : List Y). f x ∷ zs) (map_same f xs ys (omega (arith, long)) (λ v. same (suc v)))

module _ {S F : Type 0} (owner : S → List ℕ → ℕ → ℕ) (number : ℕ) (old : TeamOf S F) (r : TeamOf S F × Option OwnerFault) (asked : IsAsked owner number old r) where
  -- the links are as they were, and so is what stands aside
  record IsKept (a b : WorkerOf S F) : Type 0 where
    pub outs : b.outs ≡ a.outs
    pub ins : b.ins ≡ a.ins
    pub misfits : b.misfits ≡ a.misfits

  kept : (v : ℕ) (a b : WorkerOf S F) → At old.workers v a → At r.0.workers v b → IsKept a b
  kept v a b at_a at_b = ⊎_elim
      (λ (same : v ≡ number).
      let is = asked.worker a b (subst (λ k. At old.workers k a) same at_a) (subst (λ k. At r.0.workers k b) same at_b) in
      record { outs = ap (λ (w : WorkerOf S F). w.outs) is; ins = ap (λ (w : WorkerOf S F). w.ins) is; misfits = ap (λ (w : WorkerOf S F). w.misfits) is })
      (λ (other : v ≢ number).
      let is = asked.others v a b other at_a at_b in
      record { outs = ap (λ (w : WorkerOf S F). w.outs) is; ins = ap (λ (w : WorkerOf S F). w.ins) is; misfits = ap (λ (w : WorkerOf S F). w.misfits) is })
      (same_or_not v number)

  earlier : (v : ℕ) (b : WorkerOf S F) → At r.0.workers v b → (a : WorkerOf S F) × At old.workers v a
  earlier v b at = at_some old.workers v (let lt = at_below r.0.workers v b at in let long = asked.count in omega (arith, lt, long))

  pub asked_in : (space : SpaceOf S) (n : ℕ) → IsTeamIn space n old → IsTeamIn space n r.0
  asked_in space n is = record { space = asked.space ∙ is.space; count = asked.count ∙ is.count }

  pub asked_ready : (space : SpaceOf S) (n : ℕ) → IsTeamIn space n old → All (λ w. w.misfits ≡ []) old.workers → IsReadyIn space n r.0
  asked_ready space n is none = record {
    is_in = asked_in space n is;
    none_aside = all_at (λ (w : WorkerOf S F). w.misfits ≡ []) r.0.workers (λ v b at.
        let (a, at_a) = earlier v b at in
        (kept v a b at_a at).misfits ∙ each_at (λ (w : WorkerOf S F). w.misfits ≡ []) old.workers v a none at_a);
  }

  pub asked_empty : (values : List ℕ → F → List ℕ) → AreEmpty values old → AreEmpty values r.0
  asked_empty values empty u v c d at_c at_d =
      let (a, at_a) = earlier u c at_c in
      let (b, at_b) = earlier v d at_d in
      subst (λ (s : SpaceOf S). received_from (values (ranges s.task)) d.ins u ≡ sent_to (values (ranges s.task)) c.outs v) (sym asked.space)
      (ap (λ is. received_from (values_on values old) is u) (kept v b d at_b at_d).ins
      ∙ (empty u v a b at_a at_b ∙ sym (ap (λ os. sent_to (values_on values old) os v) (kept u a c at_a at_c).outs)))

  -- ---- a worker that refused
  module _ (fault : OwnerFault) (refused : r.1 ≡ Some fault) where
    answer : (a b : WorkerOf S F) → At old.workers number a → At r.0.workers number b → HasAnswered owner old.best a b (Some fault)
    answer a b at_a at_b = subst (HasAnswered owner old.best a b) refused (asked.answered a b at_a at_b)

    owners_same : map (λ w. w.owner) r.0.workers ≡ map (λ w. w.owner) old.workers
    owners_same = map_same (λ (w : WorkerOf S F). w.owner) old.workers r.0.workers asked.count (λ v a b at_a at_b. ⊎_elim
        (λ (same : v ≡ number).
        (answer a b (subst (λ k. At old.workers k a) same at_a) (subst (λ k. At r.0.workers k b) same at_b)).2)
        (λ (other : v ≢ number). ap (λ (w : WorkerOf S F). w.owner) (asked.others v a b other at_a at_b))
        (same_or_not v number))

    -- the owners are no more settled than before
    pub still_unsettled : IsSettledAnswer (searched owner old.space (length old.workers)) (map (λ w. w.owner) old.workers) [] None
        → IsSettledAnswer (searched owner r.0.space (length r.0.workers)) (map (λ w. w.owner) r.0.workers) [] None
    still_unsettled not_settled =
        subst (λ (s : SpaceOf S). IsSettledAnswer (searched owner s (length r.0.workers)) (map (λ w. w.owner) r.0.workers) [] None) (sym asked.space)
        (subst (λ (k : ℕ). IsSettledAnswer (searched owner old.space k) (map (λ w. w.owner) r.0.workers) [] None) (sym asked.count)
        (subst (λ (os : List (OwnerOf S)). IsSettledAnswer (searched owner old.space (length old.workers)) os [] None) (sym owners_same) not_settled))

    pub refused_by : number < length old.workers → (e : EndOf S) → e.owners ≡ map (λ w. w.owner) r.0.workers → IsRefusedBy owner e fault
    refused_by lt e owners_are =
        let (a, at_a) = at_some old.workers number lt in
        let (b, at_b) = at_some r.0.workers number (let long = asked.count in omega (arith, lt, long)) in
        let said = answer a b at_a at_b in
        record {
          number = number;
          holder = b.owner;
          there = subst (λ (os : List (OwnerOf S)). At os number b.owner) (sym owners_are)
              (map_at (λ (w : WorkerOf S F). w.owner) r.0.workers number b at_b);
          bound = old.best;
          refusal = subst (λ (o : OwnerOf S). IsRefusal owner old.best o b.owner fault) (sym said.2) said.0;
        }

    pub refused_end : number < length old.workers → (space : SpaceOf S) (n : ℕ) (e : EndOf S) → e.owners ≡ map (λ w. w.owner) r.0.workers
        → IsEndIn owner space n e → IsRefusedEnd owner space n fault
    refused_end lt space n e owners_are is = record { end = e; is_in = is; refused = refused_by lt e owners_are }
