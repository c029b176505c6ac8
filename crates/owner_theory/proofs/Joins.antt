-- Joined workers give a lawful family, and each turn of a worker keeps what it hands on.
use Rattle.std.proofs.Common.{◌≡◌, ℕ, zero, suc, ◌+◌, ◌<◌, Bool, true, false, ◌&&◌, ◌==◌, List, [], ◌∷◌, ◌++◌, refl, sym, ap, ◌∙◌, subst, inr, ⊎_elim, arith, true≢false, cond}
use Rattle.std.proofs.lemmas.Bool.{and_from, eqb-true, eqb-false, eq-eqb}
use Rattle.fdr.specs.Tasks.{ranges}
use Rattle.checker_clauses.specs.Clauses.{is_state}
use Rattle.owner_theory.specs.Owners.{At, list_at, put, SearchSpace, Message, Packet, Log, Event, Take, HandOut, fits, handed_out, happens, start, IsRun}
use Rattle.owner_theory.specs.Families.{In, IsSearchSpace, same_message, copies, copies_from, Family, IsLawful}
use Rattle.owner_theory.specs.Threads.{IsWorker, AreJoined}
use Rattle.owner_theory.proofs.Owners.{after_taking}
use Rattle.owner_theory.proofs.Runs.{good}
use Rattle.owner_theory.proofs.Links.{unit, same_message-true, copies_in, in_copies, in_copies_from}
use Rattle.owner_theory.proofs.Lists.{in_front, snoc_cases}
use Rattle.owner_theory.proofs.States.{is_state-from}

pub copies-append : (m : Message) (xs ys : List Message) → copies m (xs ++ ys) ≡ copies m xs + copies m ys
copies-append m [] ys = omega arith
copies-append m (x ∷ xs) ys = let rec = copies-append m xs ys in omega arith

module _ (S : SearchSpace) (F : Family) (sent received in_ring : ℕ → ℕ → List Message) (held : ℕ → List Message)
    (misfits : ℕ → List Packet) (ok : IsSearchSpace S) (j : AreJoined S F sent received in_ring held misfits) where
  none_here : (w i : ℕ) (p : Packet) → At (misfits w) i p → ⊥
  none_here w i p at =
      let m = p.message in
      let some = in_copies_from p (misfits w) i at in
      let got = (j.workers w).popped p.sender m in
      let there : In m (received w p.sender) = copies_in m (received w p.sender) (omega arith) in
      let pushed : In m (sent p.sender w) = subst (In m) (sym (j.rings p.sender w))
      (in_front m (received w p.sender) (in_ring p.sender w) there) in
      let mine = (j.workers p.sender).pushed w m pushed in
      let count = in_copies m (sent p.sender w) pushed.0 pushed.1 in
      let handed = (j.workers p.sender).handed m in
      let here : 0 < copies m (sent p.sender (S.owner_of m.state)) = subst (λ k. 0 < copies m (sent p.sender k))
      (sym mine) count in
      let out = copies_in m (F.logs p.sender).handed (omega arith) in
      let fine = is_state-from (ranges S.task) m.state
      ((good S p.sender (F.logs p.sender) ok (j.workers p.sender).run).core.ours m (inr out)).fits in
      true≢false (sym (and_from (is_state (ranges S.task) m.state) (S.owner_of m.state == w) fine
      (eq-eqb (S.owner_of m.state) w mine)) ∙ (j.workers w).unfit i p at)

  empty : (w : ℕ) (ps : List Packet) → ((i : ℕ) (p : Packet) → At ps i p → ⊥) → ps ≡ []
  empty w [] h = refl
  empty w (p ∷ ps) h = absurd (h zero p refl)

  pub no_misfits : (w : ℕ) → misfits w ≡ []
  no_misfits w = empty w (misfits w) (none_here w)

  pub joined_lawful : IsLawful S F
  joined_lawful = record { runs = λ w. (j.workers w).run; links = links; bounds = j.board }
    where
      links : (w : ℕ) (m : Message) → copies m (F.logs w).handed ≡ copies_from w m
          (F.logs (S.owner_of m.state)).taken + copies_from w m F.left
      links w m =
          let v = S.owner_of m.state in
          let h = (j.workers w).handed m in
          let r = ap (copies m) (j.rings w v) ∙ copies-append m (received v w) (in_ring w v) in
          let t = (j.workers v).popped w m in
          let z : copies_from w m (misfits v) ≡ 0 = ap (copies_from w m) (no_misfits v) in
          let l = j.left w m in
          omega arith

-- a worker's beginning
pub begins : (S : SearchSpace) (w : ℕ) → IsWorker S w (start S w) (λ v. []) (λ u. []) [] []
begins S w = record {
  run = ([], refl);
  handed = λ m. omega arith;
  pushed = λ v m h. absurd h.1;
  popped = λ u m. omega
      arith;
  unfit = λ i p h. absurd h;
}

more : (S : SearchSpace) (w : ℕ) (l : Log) (e : Event) → IsRun S w l → IsRun S w (happens S w l e)
more S w l e r = (e ∷ r.0, ap (λ x. happens S w x e) r.1)

-- an event that takes and hands out nothing
pub acts : (S : SearchSpace) (w : ℕ) (l : Log) (sent received : ℕ → List Message) (held : List Message)
    (misfits : List Packet) (e : Event)
    → (happens S w l e).handed ≡ l.handed → (happens S w l e).taken ≡ l.taken
    → IsWorker S w l sent received held misfits → IsWorker S w (happens S w l e) sent received held misfits
acts S w l sent received held misfits e same_h same_t ok = record {
  run = more S w l e ok.run;
  handed = λ m. ap (copies m) same_h ∙ ok.handed m;
  pushed = ok.pushed;
  popped = λ u m. ok.popped u m ∙ ap (λ k. copies_from u m k + copies_from u m misfits) (sym same_t);
  unfit = ok.unfit;
}

-- a message from a ring is in its list
put_copies : (f : ℕ → List Message) (u : ℕ) (x : Message) (v : ℕ) (m : Message) → copies m
    (put f u (f u ++ x ∷ []) v) ≡ copies m (f v) + unit ((v == u) && same_message m x)
put_copies f u x v m = both (v == u) refl
  where
    both : (b : Bool) → (v == u) ≡ b → copies m (cond b (f u ++ x ∷ []) (f v)) ≡ copies m (f v) + unit (b && same_message m x)
    both true e = let a = copies-append m (f u) (x ∷ []) in let same : copies m (f v) ≡ copies m (f u) = ap
        (λ k. copies m (f k)) (eqb-true v u e) in omega arith
    both false e = omega arith

-- a message that fits is popped and taken
pub takes : (S : SearchSpace) (w : ℕ) (l : Log) (sent received : ℕ → List Message) (held : List Message)
    (misfits : List Packet) (u : ℕ) (x : Message)
    → fits S w x ≡ true → IsWorker S w l sent received held misfits
    → IsWorker S w (happens S w l (Take u x)) sent (put received u (received u ++ x ∷ [])) held misfits
takes S w l sent received held misfits u x fit ok = record {
  run = more S w l (Take u x) ok.run;
  handed = λ m. ap (λ (y : Log). copies m y.handed) is ∙ ok.handed m;
  pushed = ok.pushed;
  popped = popped;
  unfit = ok.unfit;
}
  where
    l' : Log
    l' = after_taking S l x (record { sender = u; message = x } ∷ l.taken)

    is : happens S w l (Take u x) ≡ after_taking S l x (record { sender = u; message = x } ∷ l.taken)
    is = ap (λ b. cond b (after_taking S l x (record { sender = u; message = x } ∷ l.taken)) l) fit

    popped : (v : ℕ) (m : Message) → copies m (put received u (received u ++ x ∷ []) v) ≡ copies_from v m
        (happens S w l (Take u x)).taken + copies_from v m misfits
    popped v m =
        let t : copies_from v m (happens S w l (Take u x)).taken ≡ unit
        ((v == u) && same_message m x) + copies_from v m l.taken = ap (λ (y : Log). copies_from v m y.taken) is in
        let r = put_copies received u x v m in
        let old = ok.popped v m in
        omega arith

-- one that does not fit is popped, and not taken
pub misses : (S : SearchSpace) (w : ℕ) (l : Log) (sent received : ℕ → List Message) (held : List Message)
    (misfits : List Packet) (u : ℕ) (x : Message)
    → fits S w x ≡ false → IsWorker S w l sent received held misfits
    → IsWorker S w l sent (put received u (received u ++ x ∷ [])) held (record { sender = u; message = x } ∷ misfits)
misses S w l sent received held misfits u x fit ok = record {
  run = ok.run;
  handed = ok.handed;
  pushed = ok.pushed;
  popped = λ v m. let r = put_copies received u x v m in let old = ok.popped v m in omega arith;
  unfit = unfit;
}
  where
    unfit : (i : ℕ) (p : Packet) → At (record { sender = u; message = x } ∷ misfits) i p → fits S w p.message ≡ false
    unfit zero p at = subst (λ (q : Packet). fits S w q.message ≡ false) at fit
    unfit (suc i) p at = ok.unfit i p at

-- the first message for v is handed out, and held
pub holds_out : (S : SearchSpace) (w : ℕ) (l : Log) (sent received : ℕ → List Message) (misfits : List Packet) (v : ℕ)
    (x : Message) (ms : List Message)
    → list_at l.owner.outboxes v ≡ x ∷ ms → IsWorker S w l sent received [] misfits
    → IsWorker S w (happens S w l (HandOut v)) sent received (x ∷ []) misfits
holds_out S w l sent received misfits v x ms is ok = record {
  run = more S w l (HandOut v) ok.run;
  handed = λ m. let h : copies m (happens S w l (HandOut v)).handed ≡ unit (same_message m x) + copies m l.handed = ap
      (λ o. copies m (handed_out v l o).handed) is in let old = ok.handed m in omega arith;
  pushed = ok.pushed;
  popped = λ u m. ok.popped u m ∙ ap (λ k. copies_from u m k + copies_from u m misfits)
      (sym (ap (λ o. (handed_out v l o).taken) is));
  unfit = ok.unfit;
}

-- the ring to its owner takes the held message
pub pushes : (S : SearchSpace) (w : ℕ) (l : Log) (sent received : ℕ → List Message) (misfits : List Packet) (v : ℕ) (x : Message)
    → S.owner_of x.state ≡ v → IsWorker S w l sent received (x ∷ []) misfits
    → IsWorker S w l (put sent v (sent v ++ x ∷ [])) received [] misfits
pushes S w l sent received misfits v x owner ok = record {
  run = ok.run;
  handed = handed;
  pushed = λ u m. pushed u m (u == v) refl;
  popped = ok.popped;
  unfit = ok.unfit;
}
  where
    same : (m : Message) (b c : Bool) → (S.owner_of m.state == v) ≡ b → same_message m x ≡ c → unit (b && c) ≡ unit c
    same m true c e e' = refl
    same m false false e e' = refl
    same m false true e e' = absurd (eqb-false (S.owner_of m.state) v e
        (ap (λ (y : Message). S.owner_of y.state) (same_message-true m x e') ∙ owner))

    handed : (m : Message) → copies m l.handed ≡ copies m (put sent v (sent v ++ x ∷ []) (S.owner_of m.state)) + copies m []
    handed m =
        let h = ok.handed m in
        let p = put_copies sent v x (S.owner_of m.state) m in
        let s = same m (S.owner_of m.state == v) (same_message m x) refl refl in
        omega arith

    pushed : (u : ℕ) (m : Message) (b : Bool) → (u == v) ≡ b → In m (cond b (sent v ++ x ∷ []) (sent u)) → S.owner_of m.state ≡ u
    pushed u m true e (i, at) = ⊎_elim (λ (q : In m (sent v)). ok.pushed v m q ∙ sym (eqb-true u v e))
        (λ (q : x ≡ m). ap (λ (y : Message). S.owner_of y.state) (sym q) ∙ (owner ∙ sym (eqb-true u v e)))
        (snoc_cases m x (sent v) i at)
    pushed u m false e h = ok.pushed u m h
