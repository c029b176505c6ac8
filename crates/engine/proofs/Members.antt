-- The workers of a team stay its workers while messages are taken.
use Rattle.std.proofs.Common.{◌≡◌, ◌≢◌, ℕ, ◌<◌, ◌≤◌, List, length, get_or, refl, sym, ap, ◌∙◌, subst, ⊎_elim, arith}
use Rattle.std.specs.Prelude.{slice_set}
use Rattle.std.proofs.lemmas.Bool.{cases_lt}
use Rattle.std.proofs.lemmas.List.{length-set}
use Rattle.std.proofs.lemmas.Option.{slice_get_within, slice_get-get_or}
use Rattle.owner_theory.specs.Owners.{At, Message}
use Rattle.owner_theory.proofs.Lists.{at_once}
use Rattle.owner.specs.Spaces.{SpaceOf}
use Rattle.owner.specs.Owned.{OwnerOf}
use Rattle.links.specs.declared.ends.Out.{Out}
use Rattle.links.specs.declared.ends.In.{In}
use Rattle.links.specs.Ends.{AreEnds, SameIn}
use Rattle.extract.proofs.Places.{at_below, at_some}
use Rattle.worker.specs.Matching.{AreLinked}
use Rattle.worker.specs.Workers.{WorkerOf, AreSameIns, sent_to}
use Rattle.engine.specs.Teams.{IsMember, AreMembers, AreAllLinked, sent_by}
use Rattle.engine.specs.Draining.{HasTakenEach}
use Rattle.worker.proofs.Rows.{ins_same}
use Rattle.engine.proofs.Fitting.{sent_at, sent_past}
use Rattle.engine.proofs.Places.{at_set}

-- the ends of a link are still its ends after one of them took a message
ends_kept : {F : Type 0} (o : Out F) (i j : In F) → AreEnds o i → SameIn i j → AreEnds o j
ends_kept o i j ends into = (into.0.0 ∙ ends.0, into.0.1 ∙ ends.1, into.0.2 ∙ ends.2, into.0.3 ∙ ends.3)

pub linked_after : {F : Type 0} (os : List (Out F)) (to : ℕ) (is js : List (In F)) (from : ℕ) → AreSameIns is js → AreLinked os to is from → AreLinked os to js from
linked_after os to is js from ins linked o j at_o at_j =
    let lt = slice_get_within js from j at_j in
    let at_i = slice_get-get_or is from j (omega (arith, lt, ins.len)) in
    ends_kept o (get_or is from j) j (linked o (get_or is from j) at_o at_i) (ins.each from (get_or is from j) j at_i at_j)

module _ {S F : Type 0} where
  -- a worker of a team stays one, and has sent nothing more
  pub record Keeps (a b : WorkerOf S F) : Type 0 where
    pub member : (space : SpaceOf S) (n v : ℕ) → IsMember space n v a → IsMember space n v b
    pub sent : (values : F → List ℕ) (to : ℕ) → sent_to values b.outs to ≡ sent_to values a.outs to

  pub taken_keeps : (owner : S → List ℕ → ℕ → ℕ) (ms : List Message) (a b : WorkerOf S F) → HasTakenEach owner ms a b → Keeps a b
  taken_keeps owner ms a b t = record {
    member = λ space n v is. record {
      space = ap (λ (o : OwnerOf S). o.space) t.others ∙ is.space;
      number = ap (λ (o : OwnerOf S). o.worker) t.others ∙ is.number;
      outs = t.outs ∙ is.outs;
      ins = t.ins ∙ is.ins;
      counted = ap (λ (w : WorkerOf S F). w.uncounted) t.worker ∙ is.counted;
    };
    sent = t.sent;
  }

  -- each worker of a list stays one
  pub record HaveKept (old new : List (WorkerOf S F)) : Type 0 where
    pub len : length new ≡ length old
    pub each : (v : ℕ) (a b : WorkerOf S F) → At old v a → At new v b → Keeps a b

  module _ (old new : List (WorkerOf S F)) (have : HaveKept old new) where
    -- the worker at a place before
    pub earlier : (v : ℕ) (b : WorkerOf S F) → At new v b → (a : WorkerOf S F) × At old v a
    earlier v b at = at_some old v (let lt = at_below new v b at in omega (arith, lt, have.len))

    -- and now
    pub later : (v : ℕ) (a : WorkerOf S F) → At old v a → (b : WorkerOf S F) × At new v b
    later v a at = at_some new v (let lt = at_below old v a at in omega (arith, lt, have.len))

    pub members_kept : (space : SpaceOf S) → AreMembers space old → AreAllLinked new → AreMembers space new
    members_kept space are links = record {
      each = λ v b at. let (a, at_a) = earlier v b at in
          subst (λ n. IsMember space n v b) (sym have.len) ((have.each v a b at_a at).member space (length old) v (are.each v a at_a));
      links = links;
    }

    -- nothing was sent
    pub sent_kept : (values : F → List ℕ) (u to : ℕ) → sent_by values new u to ≡ sent_by values old u to
    sent_kept values u to = ⊎_elim
        (λ (lt : u < length old).
        let (a, at_a) = at_some old u lt in let (b, at_b) = later u a at_a in
        sent_at values new u to b at_b ∙ ((have.each u a b at_a at_b).sent values to ∙ sym (sent_at values old u to a at_a)))
        (λ (le : length old ≤ u). sent_past values new u to (omega (arith, le, have.len)) ∙ sym (sent_past values old u to le))
        (cases_lt u (length old))

  -- one worker of a list was changed
  pub set_kept : (ws : List (WorkerOf S F)) (v : ℕ) (a b : WorkerOf S F) → At ws v a → Keeps a b → HaveKept ws (slice_set ws v b)
  set_kept ws v a b at_a keeps = record {
    len = length-set ws v b;
    each = λ w x y at_x at_y. ⊎_elim
        (λ (h : (w ≡ v) × (b ≡ y)).
        let was : a ≡ x = at_once ws v a x at_a (subst (λ k. At ws k x) h.0 at_x) in
        subst (λ z. Keeps z y) was (subst (λ z. Keeps a z) h.1 keeps))
        (λ (h : (w ≢ v) × At ws w y).
        let was : y ≡ x = at_once ws w y x h.1 at_x in
        subst (λ z. Keeps z y) was (record { member = λ space n k is. is; sent = λ values to. refl }))
        (at_set ws v b w y at_y);
  }

  -- and it has taken messages, so its links are the same
  pub set_linked : (ws : List (WorkerOf S F)) (v : ℕ) (a b : WorkerOf S F) → At ws v a → b.outs ≡ a.outs → AreSameIns a.ins b.ins → AreAllLinked ws
      → AreAllLinked (slice_set ws v b)
  set_linked ws v a b at_a outs ins links u w c d at_c at_d =
      let first : (x : WorkerOf S F) × At ws u x × (c.outs ≡ x.outs) = ⊎_elim
      (λ (h : (u ≡ v) × (b ≡ c)). (a, subst (λ k. At ws k a) (sym h.0) at_a, ap (λ (z : WorkerOf S F). z.outs) (sym h.1) ∙ outs))
      (λ (h : (u ≢ v) × At ws u c). (c, h.1, refl))
      (at_set ws v b u c at_c) in
      let second : (x : WorkerOf S F) × At ws w x × AreSameIns x.ins d.ins = ⊎_elim
      (λ (h : (w ≡ v) × (b ≡ d)). (a, subst (λ k. At ws k a) (sym h.0) at_a, subst (λ (z : WorkerOf S F). AreSameIns a.ins z.ins) h.1 ins))
      (λ (h : (w ≢ v) × At ws w d). (d, h.1, ins_same d.ins))
      (at_set ws v b w d at_d) in
      subst (λ os. AreLinked os w d.ins u) (sym first.2)
      (linked_after first.0.outs w second.0.ins d.ins u second.2 (links u w first.0 second.0 first.1 second.1))
