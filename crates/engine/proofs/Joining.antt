-- The workers of a team whose rings are empty are at the end of a lawful family.
use Rattle.std.proofs.Common.{◌≡◌, ℕ, zero, suc, ◌<◌, ◌≤◌, List, [], ◌∷◌, ◌++◌, length, map, get_or, refl, sym, ap, ◌∙◌, subst, ⊎_elim, arith}
use Rattle.std.proofs.Math.Logic.{∥∥₁_elim}
use Rattle.std.proofs.lemmas.Bool.{cases_lt}
use Rattle.std.proofs.lemmas.List.{append-nil, length-map}
use Rattle.std.proofs.lemmas.List.Elements.{All-nil}
use Rattle.std.proofs.lemmas.List.Sorted.{IsPermutation-refl}
use Rattle.cost.specs.Distances.{Distance, ◌≤ᵈ◌}
use Rattle.cost.proofs.DistanceLaws.{at_most_through, at_most_infinite}
use Rattle.fdr.specs.Tasks.{ranges, IsState}
use Rattle.owner_theory.specs.Owners as machine
use Rattle.owner_theory.specs.Owners.{At, SearchSpace, Message, Packet, Log, start}
use Rattle.owner_theory.specs.Families.{IsSearchSpace, IsLawful, Family, least_of}
use Rattle.owner_theory.specs.Threads.{IsWorker, AreJoined}
use Rattle.owner_theory.proofs.Distances.{least_of_at_most}
use Rattle.owner_theory.proofs.Joins.{begins, joined_lawful}
use Rattle.owner.specs.Spaces.{searched}
use Rattle.owner.specs.Owned.{OwnerOf, IsLogOf, max_total, space_of}
use Rattle.extract.specs.Ends.{EndOf, IsForm, IsEndOf}
use Rattle.extract.proofs.Leasts.{at_most_least_of}
use Rattle.extract.proofs.Places.{all_at, at_below, at_read, at_some}
use Rattle.worker.specs.Workers.{WorkerOf, IsKept, IsWorking, sent_to, received_from}
use Rattle.engine.specs.Teams.{TeamOf, IsTeam, values_on, AreEmpty}
use Rattle.engine.proofs.Choice.{IsChoice, choice}
use Rattle.engine.proofs.Fitting.{outs_past, space_is, received_past, works_as}

-- what a worker of a list has, and what stands for it past the last one
abbrev at_or : {W X : Type 0} → List W → (W → X) → X → ℕ → X
at_or [] f past v = past
at_or (w ∷ ws) f past zero = f w
at_or (w ∷ ws) f past (suc v) = at_or ws f past v

at_or-there : {W X : Type 0} (ws : List W) (f : W → X) (past : X) (v : ℕ) (w : W) → At ws v w → at_or ws f past v ≡ f w
at_or-there [] f past v w at = absurd at
at_or-there (x ∷ ws) f past zero w at = ap f at
at_or-there (x ∷ ws) f past (suc v) w at = at_or-there ws f past v w at

at_or-past : {W X : Type 0} (ws : List W) (f : W → X) (past : X) (v : ℕ) → length ws ≤ v → at_or ws f past v ≡ past
at_or-past [] f past v le = refl
at_or-past (x ∷ ws) f past zero le = absurd (omega arith)
at_or-past (x ∷ ws) f past (suc v) le = at_or-past ws f past v (omega arith)

at_map : {W X : Type 0} (f : W → X) (ws : List W) (v : ℕ) (x : X) → At (map f ws) v x → (w : W) × At ws v w × (f w ≡ x)
at_map f [] v x at = absurd at
at_map f (w ∷ ws) zero x at = (w, refl, at)
at_map f (w ∷ ws) (suc v) x at = at_map f ws v x at

-- the owners of a team as the end of a search, where no message is left
abbrev pub end_of : {S F : Type 0} → TeamOf S F → EndOf S
end_of t = record { space = t.space; owners = map (λ w. w.owner) t.workers; left = [] }

pub form_of : {S F : Type 0} (owner : S → List ℕ → ℕ → ℕ) (values : List ℕ → F → List ℕ) (t : TeamOf S F) → IsTeam t
    → ((v : ℕ) (w : WorkerOf S F) → At t.workers v w → IsKept owner values w) → IsForm (end_of t)
form_of {S = S} {F = F} owner values t team kept = record {
  some = let long = length-map t.workers (λ (w : WorkerOf S F). w.owner) in omega (arith, team.some, long);
  each = λ v o at.
      let (w, at_w, is) = at_map (λ (w : WorkerOf S F). w.owner) t.workers v o at in
      let member = team.members.each v w at_w in (
        ap (λ (x : OwnerOf S). x.space) (sym is) ∙ member.space,
        ap (λ (x : OwnerOf S). x.worker) (sym is) ∙ member.number,
        ap (λ (x : OwnerOf S). length x.outboxes) (sym is) ∙ (sym (kept v w at_w).outs ∙ (member.outs
            ∙ sym (length-map t.workers (λ (w : WorkerOf S F). w.owner)))),
      );
  left = All-nil (λ p. IsState (ranges t.space.task) p.message.state × (p.message.cost ≤ max_total));
}

module _ {S F : Type 0} (owner : S → List ℕ → ℕ → ℕ) (values : List ℕ → F → List ℕ) (t : TeamOf S F) (team : IsTeam t)
    (kept : (v : ℕ) (w : WorkerOf S F) → At t.workers v w → IsKept owner values w) (empty : AreEmpty values t)
    (ok : IsSearchSpace (searched owner t.space (length t.workers))) where
  abbrev n : ℕ
  n = length t.workers

  abbrev space : SearchSpace
  space = searched owner t.space n

  -- the values of a form, as the task has them
  abbrev read : F → List ℕ
  read = values_on values t

  abbrev sent : ℕ → ℕ → List Message
  sent = at_or t.workers (λ w. sent_to read w.outs) (λ v. [])

  abbrev received : ℕ → ℕ → List Message
  received = at_or t.workers (λ w. received_from read w.ins) (λ u. [])

  abbrev aside : ℕ → List Packet
  aside = at_or t.workers (λ w. w.misfits) []

  -- ---- the rings
  rings : (w v : ℕ) → sent w v ≡ received v w ++ []
  rings w v = rings_at ∙ sym (append-nil (received v w))
    where
      rings_at : sent w v ≡ received v w
      rings_at = ⊎_elim
          (λ (w_lt : w < n). let (a, at_a) = at_some t.workers w w_lt in
          let was_sent : sent w v ≡ sent_to read a.outs v = λ j. at_or-there t.workers (λ x. sent_to read x.outs) (λ u. []) w a at_a j v in ⊎_elim
          (λ (v_lt : v < n). let (b, at_b) = at_some t.workers v v_lt in
          was_sent ∙ (sym (empty w v a b at_a at_b) ∙ (λ j. sym (at_or-there t.workers (λ x. received_from read x.ins) (λ u. []) v b at_b) j w)))
          (λ (v_le : n ≤ v).
          was_sent ∙ (outs_past read a.outs v (let long = (team.members.each w a at_a).outs in omega (arith, long, v_le))
          ∙ (λ j. sym (at_or-past t.workers (λ x. received_from read x.ins) (λ u. []) v v_le) j w)))
          (cases_lt v n))
          (λ (w_le : n ≤ w).
          let none_sent : sent w v ≡ [] = λ j. at_or-past t.workers (λ x. sent_to read x.outs) (λ u. []) w w_le j v in ⊎_elim
          (λ (v_lt : v < n). let (b, at_b) = at_some t.workers v v_lt in
          none_sent ∙ (sym (received_past read b.ins w (let long = (team.members.each v b at_b).ins in omega (arith, long, w_le)))
          ∙ (λ j. sym (at_or-there t.workers (λ x. received_from read x.ins) (λ u. []) v b at_b) j w)))
          (λ (v_le : n ≤ v). none_sent ∙ (λ j. sym (at_or-past t.workers (λ x. received_from read x.ins) (λ u. []) v v_le) j w))
          (cases_lt v n))
          (cases_lt w n)

  module _ (logs : ℕ → Log) (chosen : IsChoice (IsWorking owner values) t.workers (start space) logs) where
    abbrev family : Family
    family = record { logs = logs; left = [] }

    -- ---- the logs
    of_worker : (w : ℕ) → IsWorker space w (logs w) (sent w) (received w) [] (aside w)
    of_worker w = ⊎_elim
        (λ (lt : w < n). let (a, at_a) = at_some t.workers w lt in
        subst (λ (ps : List Packet). IsWorker space w (logs w) (sent w) (received w) [] ps) (sym (at_or-there t.workers (λ x. x.misfits) [] w a at_a))
        (subst (λ (f : ℕ → List Message). IsWorker space w (logs w) (sent w) f [] a.misfits)
        (sym (at_or-there t.workers (λ x. received_from read x.ins) (λ u. []) w a at_a))
        (subst (λ (f : ℕ → List Message). IsWorker space w (logs w) f (received_from read a.ins) [] a.misfits)
        (sym (at_or-there t.workers (λ x. sent_to read x.outs) (λ v. []) w a at_a))
        (works_as owner values t.space n read refl w a (team.members.each w a at_a) (kept w a at_a) (logs w) (chosen.each w a at_a)))))
        (λ (le : n ≤ w).
        subst (λ (l : Log). IsWorker space w l (sent w) (received w) [] (aside w)) (sym (chosen.others w le))
        (subst (λ (ps : List Packet). IsWorker space w (start space w) (sent w) (received w) [] ps) (sym (at_or-past t.workers (λ x. x.misfits) [] w le))
        (subst (λ (f : ℕ → List Message). IsWorker space w (start space w) (sent w) f [] [])
        (sym (at_or-past t.workers (λ x. received_from read x.ins) (λ u. []) w le))
        (subst (λ (f : ℕ → List Message). IsWorker space w (start space w) f (λ u. []) [] [])
        (sym (at_or-past t.workers (λ x. sent_to read x.outs) (λ v. []) w le))
        (begins space w)))))
        (cases_lt w n)

    least_offered : least_of n (λ v. (logs v).offered) ≤ᵈ t.best
    least_offered = subst (λ d. least_of n (λ v. (logs v).offered) ≤ᵈ d) (sym team.best)
        (at_most_least_of (λ (w : WorkerOf S F). w.offered) (least_of n (λ v. (logs v).offered)) t.workers
        (all_at (λ (w : WorkerOf S F). least_of n (λ v. (logs v).offered) ≤ᵈ w.offered) t.workers (λ v w at.
        subst (λ d. least_of n (λ v. (logs v).offered) ≤ᵈ d) (chosen.each v w at).offered_is
        (least_of_at_most n (λ v. (logs v).offered) v (at_below t.workers v w at)))))

    board : (w : ℕ) → least_of n (λ v. (logs v).offered) ≤ᵈ (logs w).seen
    board w = ⊎_elim
        (λ (lt : w < n). let (a, at_a) = at_some t.workers w lt in
        subst (λ d. least_of n (λ v. (logs v).offered) ≤ᵈ d) (sym (chosen.each w a at_a).seen_is)
        (at_most_through (least_of n (λ v. (logs v).offered)) t.best a.seen least_offered (team.bounded w a at_a)))
        (λ (le : n ≤ w). subst (λ (l : Log). least_of n (λ v. (logs v).offered) ≤ᵈ l.seen) (sym (chosen.others w le))
        (at_most_infinite (least_of n (λ v. (logs v).offered))))
        (cases_lt w n)

    joined : AreJoined space family sent received (λ w v. []) (λ w. []) aside
    joined = record { workers = of_worker; rings = rings; left = λ w m. refl; board = board }

    abbrev owners : List (OwnerOf S)
    owners = map (λ w. w.owner) t.workers

    -- ---- the end
    of_owner : (v : ℕ) (o : OwnerOf S) → At owners v o → (bound : Distance) × IsLogOf (logs v) o bound
    of_owner v o at =
        let (w, at_w, is) = at_map (λ (w : WorkerOf S F). w.owner) t.workers v o at in
        (w.bound, subst (λ (x : OwnerOf S). IsLogOf (logs v) x w.bound) is (chosen.each v w at_w).log_is)

    end_is : IsEndOf owner (record { space = t.space; owners = owners; left = [] }) family
    end_is = record {
      lawful = subst (λ k. IsLawful (searched owner t.space k) family) (sym (length-map t.workers (λ (w : WorkerOf S F). w.owner)))
          (joined_lawful space family sent received (λ w v. []) (λ w. []) aside ok joined);
      nodes = λ v o at. ap (λ (x : machine.Owner). x.nodes) (of_owner v o at).1.owner;
      outboxes = λ v o at. ap (λ (x : machine.Owner). x.outboxes) (of_owner v o at).1.owner;
      best = λ v o at. ap (λ (x : machine.Owner). x.best) (of_owner v o at).1.owner;
      left = IsPermutation-refl [];
      counted = λ v o at. (of_owner v o at).1.counted;
      allowed = λ v o at. (of_owner v o at).1.allowed;
    }

  -- ---- what the end of a search needs
  pub some_family : ∥ ((family : Family) × IsEndOf owner (end_of t) family) ∥₁
  some_family = ∥∥₁_elim
      (choice (IsWorking owner values) t.workers (start space) (λ v w at. (kept v w at).working))
      squash₁ (λ (c : (logs : ℕ → Log) × IsChoice (IsWorking owner values) t.workers (start space) logs). ∣ (record { logs = c.0; left = [] }, end_is c.0 c.1) ∣₁)

  -- the same, as the code puts it together
  pub lawful_as : (os : List (OwnerOf S)) (left : List Packet) → os ≡ map (λ w. w.owner) t.workers → left ≡ []
      → ∥ ((f : Family) × IsEndOf owner (record { space = t.space; owners = os; left = left }) f) ∥₁
  lawful_as os left owners_are none =
      subst (λ (e : EndOf S). ∥ ((f : Family) × IsEndOf owner e f) ∥₁) (λ j. record { space = t.space; owners = sym owners_are j; left = sym none j }) some_family

  pub form_as : (os : List (OwnerOf S)) (left : List Packet) → os ≡ map (λ w. w.owner) t.workers → left ≡ []
      → IsForm (record { space = t.space; owners = os; left = left })
  form_as os left owners_are none =
      subst (λ (e : EndOf S). IsForm e) (λ j. record { space = t.space; owners = sym owners_are j; left = sym none j }) (form_of owner values t team kept)

-- what is searched, from the first worker
pub team_space : {S F : Type 0} (owner : S → List ℕ → ℕ → ℕ) (values : List ℕ → F → List ℕ) (t : TeamOf S F) (team : IsTeam t)
    → ((v : ℕ) (w : WorkerOf S F) → At t.workers v w → IsKept owner values w)
    → (a : WorkerOf S F) → a ≡ get_or t.workers 0 a → (o : OwnerOf S) → o ≡ a.owner → IsSearchSpace (space_of owner o)
    → IsSearchSpace (searched owner t.space (length t.workers))
team_space owner values t team kept a is o same ok =
    let at = at_read t.workers 0 a team.some is in
    subst IsSearchSpace (ap (λ x. space_of owner x) same ∙ space_is owner values t.space (length t.workers) 0 a (team.members.each 0 a at) (kept 0 a at)) ok
