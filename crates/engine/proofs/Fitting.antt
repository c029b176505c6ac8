-- No message stands aside that came over a link whose ends were looked at together.
use Rattle.std.proofs.Common.{◌≡◌, ℕ, zero, suc, ◌<◌, ◌≤◌, true, ◌==◌, List, [], ◌∷◌, ◌++◌, length, map, refl, sym, ap, ◌∙◌, subst, inr, ⊎_elim, true≢false, arith}
use Rattle.std.proofs.lemmas.Bool.{and_from, eq-eqb, cases_lt}
use Rattle.std.proofs.lemmas.Grind.{not_there}
use Rattle.std.proofs.lemmas.List.{length-map}
use Rattle.fdr.specs.Tasks.{ranges}
use Rattle.checker_clauses.specs.Clauses.{is_state}
use Rattle.owner_theory.specs.Owners.{At, SearchSpace, Message, Packet, Log, fits, list_at}
use Rattle.owner_theory.specs.Families.{In, IsSearchSpace, copies}
use Rattle.owner_theory.specs.Threads.{IsWorker}
use Rattle.owner_theory.proofs.Links.{copies_in, in_copies, in_copies_from}
use Rattle.owner_theory.proofs.Lists.{in_front}
use Rattle.owner_theory.proofs.Runs.{good}
use Rattle.owner_theory.proofs.States.{is_state-from}
use Rattle.closed.specs.Tables.{message_of}
use Rattle.owner.specs.Spaces.{SpaceOf, searched}
use Rattle.owner.specs.Owned.{space_of}
use Rattle.links.specs.declared.ends.In.{In as InOf}
use Rattle.links.specs.declared.ends.Out.{Out}
use Rattle.links.specs.Ends.{sent, received}
use Rattle.extract.proofs.Places.{at_some}
use Rattle.worker.specs.Workers.{WorkerOf, values_in, IsKept, IsWorking, sent_to, received_from}
use Rattle.engine.specs.Teams.{IsMember, AreMembers, sent_by}

-- what a worker sends to another one fits it
sent_fits : (space : SearchSpace) (ok : IsSearchSpace space) (u v : ℕ) (l : Log) (sent received : ℕ → List Message) (held : List Message)
    (aside : List Packet) → IsWorker space u l sent received held aside → (m : Message) → In m (sent v) → fits space v m ≡ true
sent_fits space ok u v l sent received held aside is m there =
    let mine = is.pushed v m there in
    let count = in_copies m (sent v) there.0 there.1 in
    let here : 0 < copies m (sent (space.owner_of m.state)) = subst (λ k. 0 < copies m (sent k)) (sym mine) count in
    let handed = is.handed m in
    let out = copies_in m l.handed (omega arith) in
    let fine = is_state-from (ranges space.task) m.state ((good space u l ok is.run).core.ours m (inr out)).fits in
    and_from (is_state (ranges space.task) m.state) (space.owner_of m.state == v) fine (eq-eqb (space.owner_of m.state) v mine)

-- where all that was received from a worker fits, no message from it stands aside
none_from : (space : SearchSpace) (u v : ℕ) (l : Log) (sent received : ℕ → List Message) (held : List Message) (aside : List Packet)
    → IsWorker space v l sent received held aside → ((m : Message) → In m (received u) → fits space v m ≡ true)
    → (i : ℕ) (p : Packet) → At aside i p → p.sender ≡ u → ⊥
none_from space u v l sent received held aside is fit i p at from =
    let m = p.message in
    let some = in_copies_from p aside i at in
    let got = is.popped p.sender m in
    let there : In m (received p.sender) = copies_in m (received p.sender) (omega arith) in
    true≢false (sym (fit m (subst (λ k. In m (received k)) from there)) ∙ is.unfit i p at)

list_past : {X : Type 0} (qs : List (List X)) (i : ℕ) → length qs ≤ i → list_at qs i ≡ []
list_past [] i le = refl
list_past (q ∷ qs) zero le = absurd (omega arith)
list_past (q ∷ qs) (suc i) le = list_past qs i (omega arith)

received_in : {F : Type 0} → (F → List ℕ) → InOf F → List Message
received_in values i = map (message_of values) (received i)

-- nothing was received from a number past the last worker
pub received_past : {F : Type 0} (values : F → List ℕ) (ins : List (InOf F)) (u : ℕ) → length ins ≤ u → received_from values ins u ≡ []
unfolding received_in
received_past values ins u le = list_past (map (received_in values) ins) u (let long = length-map ins (received_in values) in omega (arith, long))

sent_in : {F : Type 0} → (F → List ℕ) → Out F → List Message
sent_in values o = map (message_of values) (sent o)

-- nothing was sent to a number past the last worker
pub outs_past : {F : Type 0} (values : F → List ℕ) (outs : List (Out F)) (v : ℕ) → length outs ≤ v → sent_to values outs v ≡ []
unfolding sent_in
outs_past values outs v le = list_past (map (sent_in values) outs) v (let long = length-map outs (sent_in values) in omega (arith, long))

no_element : {X : Type 0} (xs : List X) → ((i : ℕ) (x : X) → At xs i x → ⊥) → xs ≡ []
no_element [] none = refl
no_element (x ∷ xs) none = absurd (none zero x refl)

pub sent_at : {S F : Type 0} (values : F → List ℕ) (ws : List (WorkerOf S F)) (u to : ℕ) (a : WorkerOf S F) → At ws u a
    → sent_by values ws u to ≡ sent_to values a.outs to
sent_at values [] u to a at = absurd at
sent_at values (w ∷ ws) zero to a at = ap (λ x. sent_to values x.outs to) at
sent_at values (w ∷ ws) (suc u) to a at = sent_at values ws u to a at

pub sent_past : {S F : Type 0} (values : F → List ℕ) (ws : List (WorkerOf S F)) (u to : ℕ) → length ws ≤ u → sent_by values ws u to ≡ []
sent_past values [] u to le = refl
sent_past values (w ∷ ws) zero to le = absurd (omega arith)
sent_past values (w ∷ ws) (suc u) to le = sent_past values ws u to (omega arith)

module _ {S F : Type 0} (owner : S → List ℕ → ℕ → ℕ) (values : List ℕ → F → List ℕ) (space : SpaceOf S) (n : ℕ) where
  -- the search space of a worker of the team
  pub space_is : (v : ℕ) (w : WorkerOf S F) → IsMember space n v w → IsKept owner values w → space_of owner w.owner ≡ searched owner space n
  space_is v w is kept = λ j. searched owner (is.space j) ((sym kept.outs ∙ is.outs) j)

  module _ (read : F → List ℕ) (is_read : values (ranges space.task) ≡ read) where
    -- the values of a form, as the worker's task has them
    pub values_of : (v : ℕ) (w : WorkerOf S F) → IsMember space n v w → values_in values w ≡ read
    values_of v w is = ap (λ (s : SpaceOf S). values (ranges s.task)) is.space ∙ is_read

    -- the log of a worker, as one of the team
    pub works_as : (v : ℕ) (w : WorkerOf S F) → IsMember space n v w → IsKept owner values w → (log : Log) → IsWorking owner values w log
        → IsWorker (searched owner space n) v log (sent_to read w.outs) (received_from read w.ins) [] w.misfits
    works_as v w is kept log working =
        subst (λ (k : ℕ). IsWorker (searched owner space n) k log (sent_to read w.outs) (received_from read w.ins) [] w.misfits) is.number
        (subst (λ (s : SearchSpace). IsWorker s w.owner.worker log (sent_to read w.outs) (received_from read w.ins) [] w.misfits)
        (space_is v w is kept)
        (subst (λ (f : F → List ℕ). IsWorker (space_of owner w.owner) w.owner.worker log (sent_to f w.outs) (received_from f w.ins) [] w.misfits)
        (values_of v w is) working.works))

    module _ (ok : IsSearchSpace (searched owner space n)) where
      -- no message stands aside that was received over a link, where what was sent over it begins with what was received
      pub none_aside_from : (u v : ℕ) (a b : WorkerOf S F) → IsMember space n u a → IsMember space n v b → IsKept owner values a
          → IsKept owner values b → (rest : List Message) → received_from read b.ins u ++ rest ≡ sent_to read a.outs v → (i : ℕ) (p : Packet)
          → At b.misfits i p → p.sender ≡ u → ⊥
      none_aside_from u v a b is_a is_b kept_a kept_b rest link i p at from =
          not_there kept_a.working (λ (x : (log : Log) × IsWorking owner values a log).
          not_there kept_b.working (λ (y : (log : Log) × IsWorking owner values b log).
          none_from (searched owner space n) u v y.0 (sent_to read b.outs) (received_from read b.ins) [] b.misfits
          (works_as v b is_b kept_b y.0 y.1)
          (λ m there. sent_fits (searched owner space n) ok u v x.0 (sent_to read a.outs) (received_from read a.ins) [] a.misfits
          (works_as u a is_a kept_a x.0 x.1) m
          (subst (In m) link (in_front m (received_from read b.ins u) rest there)))
          i p at from))

      none_aside_past : (u v : ℕ) (b : WorkerOf S F) → IsMember space n v b → IsKept owner values b → n ≤ u → (i : ℕ) (p : Packet)
          → At b.misfits i p → p.sender ≡ u → ⊥
      none_aside_past u v b is_b kept_b past i p at from =
          not_there kept_b.working (λ (y : (log : Log) × IsWorking owner values b log).
          none_from (searched owner space n) u v y.0 (sent_to read b.outs) (received_from read b.ins) [] b.misfits
          (works_as v b is_b kept_b y.0 y.1)
          (λ m there. absurd (subst (λ ms. In m ms) (received_past read b.ins u (let long = is_b.ins in omega (arith, long))) there).1)
          i p at from)

module _ {S F : Type 0} (owner : S → List ℕ → ℕ → ℕ) (values : List ℕ → F → List ℕ) (space : SpaceOf S) (ws : List (WorkerOf S F))
    (are : AreMembers space ws) (kept : (v : ℕ) (w : WorkerOf S F) → At ws v w → IsKept owner values w) where
  -- no message stands aside in a worker, where all links to it were looked at
  pub none_aside : (read : F → List ℕ) → values (ranges space.task) ≡ read → IsSearchSpace (searched owner space (length ws)) → (v : ℕ) (b : WorkerOf S F)
      → At ws v b → ((u : ℕ) → u < length ws → (rest : List Message) × (received_from read b.ins u ++ rest ≡ sent_by read ws u v)) → b.misfits ≡ []
  none_aside read is_read ok v b at_b links = no_element b.misfits (λ i p at. ⊎_elim
      (λ (lt : p.sender < length ws).
      let (a, at_a) = at_some ws p.sender lt in
      let (rest, link) = links p.sender lt in
      none_aside_from owner values space (length ws) read is_read ok p.sender v a b (are.each p.sender a at_a) (are.each v b at_b)
      (kept p.sender a at_a) (kept v b at_b) rest (link ∙ sent_at read ws p.sender v a at_a) i p at refl)
      (λ (le : length ws ≤ p.sender).
      none_aside_past owner values space (length ws) read is_read ok p.sender v b (are.each v b at_b) (kept v b at_b) le i p at refl)
      (cases_lt p.sender (length ws)))
