-- Two workers of a list, whose ends of a link were looked at together.
use Rattle.std.proofs.Common.{◌≡◌, ◌≢◌, ℕ, zero, suc, List, [], ◌∷◌, ◌++◌, length, Some, refl, sym, ap, ◌∙◌, subst, ⊎_elim, arith}
use Rattle.std.specs.Prelude.{slice_get, slice_set}
use Rattle.std.proofs.lemmas.Bool.{cases_eq}
use Rattle.std.proofs.lemmas.List.{length-set}
use Rattle.std.proofs.lemmas.Option.{slice_get_within}
use Rattle.owner_theory.specs.Owners.{At}
use Rattle.owner_theory.proofs.Lists.{at_once}
use Rattle.links.specs.declared.ends.Out.{Out}
use Rattle.links.specs.declared.ends.In.{In}
use Rattle.links.specs.Ends.{AreEnds}
use Rattle.extract.proofs.Places.{at_below, at_some}
use Rattle.worker.specs.Matching.{IsMatchedUp}
use Rattle.worker.specs.Workers.{WorkerOf, sent_to, received_from, known_from}
use Rattle.worker.proofs.Rows.{set_there}
use Rattle.engine.specs.Teams.{AreAllLinked, sent_by}
use Rattle.engine.specs.Draining.{IsLookedAt, IsLinkMatched}
use Rattle.engine.proofs.Fitting.{sent_at}
use Rattle.engine.proofs.Places.{at_set, at_here}
use Rattle.engine.proofs.Taking.{takes_none}

-- what is at a place where nothing was changed
get_elsewhere : {X : Type 0} (xs : List X) (i : ℕ) (y : X) (k : ℕ) (x : X) → k ≢ i → slice_get (slice_set xs i y) k ≡ Some x → slice_get xs k ≡ Some x
get_elsewhere [] i y k x ne e = e
get_elsewhere (z ∷ xs) zero y zero x ne e = absurd (ne refl)
get_elsewhere (z ∷ xs) zero y (suc k) x ne e = e
get_elsewhere (z ∷ xs) (suc i) y zero x ne e = e
get_elsewhere (z ∷ xs) (suc i) y (suc k) x ne e = get_elsewhere xs i y k x (λ s. ne (ap suc s)) e

module _ {S F : Type 0} where
  -- the worker at a place, where the link between two places has these ends now
  pub record IsRelinked (from to : ℕ) (sender : Out F) (receiver : In F) (v : ℕ) (old new : WorkerOf S F) : Type 0 where
    pub outs_here : v ≡ from → new.outs ≡ slice_set old.outs to sender
    pub outs_there : v ≢ from → new.outs ≡ old.outs
    pub ins_here : v ≡ to → new.ins ≡ slice_set old.ins from receiver
    pub ins_there : v ≢ to → new.ins ≡ old.ins
    pub worker : new ≡ record old { outs = new.outs; ins = new.ins }

  module _ (from to : ℕ) (sender : Out F) (receiver : In F) (old new : List (WorkerOf S F)) (len : length new ≡ length old)
      (each : (v : ℕ) (a b : WorkerOf S F) → At old v a → At new v b → IsRelinked from to sender receiver v a b) where
    linked_now : AreEnds sender receiver → AreAllLinked old → AreAllLinked new
    linked_now ends links u v c d at_c at_d o i at_o at_i =
        let (a, at_a) = at_some old u (let lt = at_below new u c at_c in omega (arith, lt, len)) in
        let (b, at_b) = at_some old v (let lt = at_below new v d at_d in omega (arith, lt, len)) in
        let first = each u a c at_a at_c in
        let second = each v b d at_b at_d in
        ⊎_elim
        (λ (u_is : u ≡ from). ⊎_elim
        (λ (v_is : v ≡ to).
        let here = subst (λ k. slice_get c.outs k ≡ Some o) v_is at_o in
        let there = subst (λ k. slice_get d.ins k ≡ Some i) u_is at_i in
        let outs = first.outs_here u_is in
        let ins = second.ins_here v_is in
        let out_lt = slice_get_within c.outs to o here in
        let in_lt = slice_get_within d.ins from i there in
        let out_len = ap length outs ∙ length-set a.outs to sender in
        let in_len = ap length ins ∙ length-set b.ins from receiver in
        let same_out : sender ≡ o = set_there a.outs to sender o (omega (arith, out_lt, out_len)) (subst (λ os. slice_get os to ≡ Some o) outs here) in
        let same_in : receiver ≡ i = set_there b.ins from receiver i (omega (arith, in_lt, in_len)) (subst (λ is. slice_get is from ≡ Some i) ins there) in
        subst (λ x. AreEnds x i) same_out (subst (λ x. AreEnds sender x) same_in ends))
        (λ (ne : v ≢ to). links u v a b at_a at_b o i
        (get_elsewhere a.outs to sender v o ne (subst (λ os. slice_get os v ≡ Some o) (first.outs_here u_is) at_o))
        (subst (λ is. slice_get is u ≡ Some i) (second.ins_there ne) at_i))
        (cases_eq v to))
        (λ (ne : u ≢ from). links u v a b at_a at_b o i
        (subst (λ os. slice_get os v ≡ Some o) (first.outs_there ne) at_o)
        (⊎_elim
        (λ (v_is : v ≡ to). get_elsewhere b.ins from receiver u i ne (subst (λ is. slice_get is u ≡ Some i) (second.ins_here v_is) at_i))
        (λ (other : v ≢ to). subst (λ is. slice_get is u ≡ Some i) (second.ins_there other) at_i)
        (cases_eq v to)))
        (cases_eq u from)

    module _ (owner : S → List ℕ → ℕ → ℕ) (a c b d : WorkerOf S F) (at_a : At old from a) (at_c : At new from c) (at_b : At old to b) (at_d : At new to d)
        (n : ℕ) (m : IsMatchedUp to from a.outs c.outs b.ins d.ins n) where
      looked : (v : ℕ) (x y : WorkerOf S F) → At old v x → At new v y → IsLookedAt owner x y
      looked v x y at_x at_y =
          let one = each v x y at_x at_y in
          record {
            taken = takes_none owner x y y.outs y.ins x.resting x.taken one.worker
                (λ values w. ⊎_elim
                (λ (here : v ≡ from).
                let was : x ≡ a = at_once old from x a (subst (λ k. At old k x) here at_x) at_a in
                let is : y ≡ c = at_once new from y c (subst (λ k. At new k y) here at_y) at_c in
                ap (λ z. sent_to values z.outs w) is ∙ (m.sent_same values w ∙ sym (ap (λ z. sent_to values z.outs w) was)))
                (λ (there : v ≢ from). ap (λ os. sent_to values os w) (one.outs_there there))
                (cases_eq v from))
                (⊎_elim
                (λ (here : v ≡ from). ap length (one.outs_here here) ∙ length-set x.outs to sender)
                (λ (there : v ≢ from). ap length (one.outs_there there))
                (cases_eq v from))
                (⊎_elim
                (λ (here : v ≡ to). ap length (one.ins_here here) ∙ length-set x.ins from receiver)
                (λ (there : v ≢ to). ap length (one.ins_there there))
                (cases_eq v to));
            received = λ values u. ⊎_elim
                (λ (here : v ≡ to).
                let was : x ≡ b = at_once old to x b (subst (λ k. At old k x) here at_x) at_b in
                let is : y ≡ d = at_once new to y d (subst (λ k. At new k y) here at_y) at_d in
                ap (λ z. received_from values z.ins u) is ∙ (m.received_same values u ∙ sym (ap (λ z. received_from values z.ins u) was)))
                (λ (there : v ≢ to). ap (λ is. received_from values is u) (one.ins_there there))
                (cases_eq v to);
          }

      pub matched : AreEnds sender receiver → AreAllLinked old → IsLinkMatched owner from to old new n
      matched ends links = record {
        looked = record { len = len; links = linked_now ends links; each = looked };
        all = λ values y at_y.
            let is : d ≡ y = at_once new to d y at_d at_y in
            subst (λ z. received_from values z.ins from ++ known_from values z.ins from ≡ sent_by values old from to) is
            (m.all values ∙ (m.sent_same values to ∙ sym (sent_at values old from to a at_a)));
        counted = λ values y at_y.
            let is : d ≡ y = at_once new to d y at_d at_y in
            subst (λ z. n ≡ length (known_from values z.ins from)) is (m.counted values);
      }

  module _ (owner : S → List ℕ → ℕ → ℕ) (old new : List (WorkerOf S F)) where
    -- a worker's link to itself
    pub matched_own : (v : ℕ) (a c : WorkerOf S F) (n : ℕ) → At old v a → new ≡ slice_set old v c → IsMatchedUp v v a.outs c.outs a.ins c.ins n
        → c ≡ record a { outs = c.outs; ins = c.ins } → AreAllLinked old → IsLinkMatched owner v v old new n
    matched_own v a c n at_a is m worker links =
        matched v v m.sender m.receiver old new (ap length is ∙ length-set old v c)
        (λ w x y at_x at_y. ⊎_elim
        (λ (h : (w ≡ v) × (c ≡ y)).
        let was : a ≡ x = at_once old v a x at_a (subst (λ k. At old k x) h.0 at_x) in
        subst (λ z. IsRelinked v v m.sender m.receiver w z y) was
        (subst (λ z. IsRelinked v v m.sender m.receiver w a z) h.1
        (record {
          outs_here = λ e. m.outs_after;
          outs_there = λ ne. absurd (ne h.0);
          ins_here = λ e. m.ins_after;
          ins_there = λ ne. absurd (ne h.0);
          worker = worker;
        })))
        (λ (h : (w ≢ v) × At old w y).
        let was : y ≡ x = at_once old w y x h.1 at_x in
        subst (λ z. IsRelinked v v m.sender m.receiver w z y) was
        (record { outs_here = λ e. absurd (h.0 e); outs_there = λ ne. refl; ins_here = λ e. absurd (h.0 e); ins_there = λ ne. refl; worker = refl }))
        (at_set old v c w y (subst (λ ws. At ws w y) is at_y)))
        owner a c a c at_a at_now at_a at_now n m m.ends links
      where
        at_now : At new v c
        at_now = subst (λ ws. At ws v c) (sym is) (at_here old v c (at_below old v a at_a))

    -- a link between two workers
    pub matched_two : (from to : ℕ) (a c b d : WorkerOf S F) (n : ℕ) → from ≢ to → At old from a → At old to b
        → length new ≡ length old → At new from c → At new to d
        → ((v : ℕ) (y : WorkerOf S F) → v ≢ from → v ≢ to → At new v y → At old v y)
        → IsMatchedUp to from a.outs c.outs b.ins d.ins n → c ≡ record a { outs = c.outs } → d ≡ record b { ins = d.ins }
        → AreAllLinked old → IsLinkMatched owner from to old new n
    matched_two from to a c b d n differ at_a at_b len at_c at_d others m sent received links =
        matched from to m.sender m.receiver old new len
        (λ v x y at_x at_y. ⊎_elim
        (λ (here : v ≡ from).
        let was : a ≡ x = at_once old from a x at_a (subst (λ k. At old k x) here at_x) in
        let is : c ≡ y = at_once new from c y at_c (subst (λ k. At new k y) here at_y) in
        subst (λ z. IsRelinked from to m.sender m.receiver v z y) was
        (subst (λ z. IsRelinked from to m.sender m.receiver v a z) is
        (record {
          outs_here = λ e. m.outs_after;
          outs_there = λ ne. absurd (ne here);
          ins_here = λ e. absurd (differ (sym here ∙ e));
          ins_there = λ ne. ap (λ (w : WorkerOf S F). w.ins) sent;
          worker = sent ∙ (λ j. record a { outs = c.outs; ins = (sym sent j).ins });
        })))
        (λ (ne : v ≢ from). ⊎_elim
        (λ (here : v ≡ to).
        let was : b ≡ x = at_once old to b x at_b (subst (λ k. At old k x) here at_x) in
        let is : d ≡ y = at_once new to d y at_d (subst (λ k. At new k y) here at_y) in
        subst (λ z. IsRelinked from to m.sender m.receiver v z y) was
        (subst (λ z. IsRelinked from to m.sender m.receiver v b z) is
        (record {
          outs_here = λ e. absurd (ne e);
          outs_there = λ e. ap (λ (w : WorkerOf S F). w.outs) received;
          ins_here = λ e. m.ins_after;
          ins_there = λ e. absurd (e here);
          worker = received ∙ (λ j. record b { outs = (sym received j).outs; ins = d.ins });
        })))
        (λ (other : v ≢ to).
        let was : y ≡ x = at_once old v y x (others v y ne other at_y) at_x in
        subst (λ z. IsRelinked from to m.sender m.receiver v z y) was
        (record { outs_here = λ e. absurd (ne e); outs_there = λ e. refl; ins_here = λ e. absurd (other e); ins_there = λ e. refl; worker = refl }))
        (cases_eq v to))
        (cases_eq v from))
        owner a c b d at_a at_c at_b at_d n m m.ends links
