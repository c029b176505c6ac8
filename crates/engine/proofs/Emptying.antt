-- Rings are emptied, link by link.
use Rattle.std.proofs.Common.{◌≡◌, ◌≢◌, ℕ, zero, suc, ◌+◌, ◌<◌, ◌≤◌, false, List, [], ◌∷◌, ◌++◌, length, map, drop, refl, sym, ap, ◌∙◌, subst, ⊎_elim, true≢false, arith, append_assoc, length-append, add-one}
use Rattle.std.specs.Prelude.{slice_get, slice_set, Some}
use Rattle.std.proofs.Math.Seq.{drop-append_seam}
use Rattle.std.proofs.lemmas.Bool.{cases_eq, cases_lt, eq-eqb}
use Rattle.std.proofs.lemmas.List.{append-nil}
use Rattle.cost.specs.Distances.{◌≤ᵈ◌, least}
use Rattle.fdr.specs.Tasks.{ranges}
use Rattle.owner_theory.specs.Owners.{At, Message, put}
use Rattle.owner_theory.specs.Families.{IsSearchSpace}
use Rattle.owner_theory.proofs.Lists.{at_once, put_cases}
use Rattle.closed.specs.Tables.{message_of}
use Rattle.owner.specs.Spaces.{SpaceOf, searched}
use Rattle.links.specs.declared.ends.In.{In}
use Rattle.links.specs.Ends.{known}
use Rattle.extract.proofs.Places.{at_below, at_some}
use Rattle.worker.specs.Workers.{WorkerOf, values_in, IsKept, AreSameIns, sent_to, received_from, known_from}
use Rattle.worker.specs.declared.outcome.Received.{Received}
use Rattle.worker.specs.declared.outcome.Received.TheVariants.{Taken, Nothing, SetAside}
use Rattle.worker.specs.Turns.{HasReceived, HasTaken}
use Rattle.worker.proofs.Rows.{ins_same}
use Rattle.engine.specs.Teams.{TeamOf, AreMembers, AreAllLinked, IsTeam, values_on, sent_by}
use Rattle.engine.specs.Draining.{in_rings, HasTakenEach, IsDrained, IsLookedAt, AreLookedAt, IsLinkMatched, HasEmptied, IsLinkEmptied, HasEmptiedEach, AreLinksEmptied, AreDrained}
use Rattle.engine.proofs.Fitting.{sent_at, none_aside_from, values_of}
use Rattle.engine.proofs.Members.{Keeps, HaveKept, taken_keeps, earlier, later, members_kept, sent_kept, set_kept, set_linked}
use Rattle.engine.proofs.Places.{at_set, at_here}
use Rattle.engine.proofs.Taking.{takes_none, takes_nothing, takes_one, takes_through}

put_here : {X : Type 0} (f : ℕ → X) (w : ℕ) (x : X) → put f w x w ≡ x
put_here f w x = put_cases f w x w (λ y. y ≡ x) (λ e. refl) (λ ne. absurd (true≢false (sym (eq-eqb w w refl) ∙ ne)))

put_there : {X : Type 0} (f : ℕ → X) (w : ℕ) (x : X) (u : ℕ) → u ≢ w → put f w x u ≡ f u
put_there f w x u ne = put_cases f w x u (λ y. y ≡ f u) (λ e. absurd (ne e)) (λ _. refl)

-- a link that was not known to hold a message
none_known : {F : Type 0} (values : F → List ℕ) (ins : List (In F)) (k : ℕ) → ((i : In F) → slice_get ins k ≡ Some i → known i ≡ [])
    → known_from values ins k ≡ []
none_known values [] k why = refl
none_known values (i ∷ ins) zero why = ap (map (message_of values)) (why i refl)
none_known values (i ∷ ins) (suc k) why = none_known values ins k why

module _ {S F : Type 0} (owner : S → List ℕ → ℕ → ℕ) where
  -- ---- looking
  looked_through : (a b c : WorkerOf S F) → IsLookedAt owner a b → IsLookedAt owner b c → IsLookedAt owner a c
  looked_through a b c p q = record {
    taken = takes_through owner [] [] a b c p.taken q.taken;
    received = λ values u. q.received values u ∙ p.received values u;
  }

  taken_looked : (ms : List Message) (a b c : WorkerOf S F) → HasTakenEach owner ms a b → IsLookedAt owner b c → HasTakenEach owner ms a c
  taken_looked ms a b c p q = subst (λ ns. HasTakenEach owner ns a c) (append-nil ms) (takes_through owner ms [] a b c p q.taken)

  looked_same : (xs : List (WorkerOf S F)) (v : ℕ) (a b : WorkerOf S F) → At xs v a → At xs v b → IsLookedAt owner a b
  looked_same xs v a b at_a at_b =
      subst (IsLookedAt owner a) (at_once xs v a b at_a at_b) (record { taken = takes_nothing owner a; received = λ values u. refl })

  looked_keeps : (a b : WorkerOf S F) → IsLookedAt owner a b → Keeps a b
  looked_keeps a b p = taken_keeps owner [] a b p.taken

  pub looked_have : (old new : List (WorkerOf S F)) → AreLookedAt owner old new → HaveKept old new
  looked_have old new p = record { len = p.len; each = λ v a b at_a at_b. looked_keeps a b (p.each v a b at_a at_b) }

  pub all_looked_same : (xs : List (WorkerOf S F)) → AreAllLinked xs → AreLookedAt owner xs xs
  all_looked_same xs links = record { len = refl; links = links; each = λ v a b. looked_same xs v a b }

  pub all_looked_through : (old now next : List (WorkerOf S F)) → AreLookedAt owner old now → AreLookedAt owner now next → AreLookedAt owner old next
  all_looked_through old now next p q = record {
    len = q.len ∙ p.len;
    links = q.links;
    each = λ v a c at_a at_c. let (b, at_b) = later old now (looked_have old now p) v a at_a in
        looked_through a b c (p.each v a b at_a at_b) (q.each v b c at_b at_c);
  }

  -- the links to a worker from the workers 0 to n - 1 were looked at
  pub record AreMatching (n to : ℕ) (old now : List (WorkerOf S F)) : Type 0 where
    pub looked : AreLookedAt owner old now
    pub links : (values : F → List ℕ) (u : ℕ) → u < n → (b : WorkerOf S F) → At now to b
        → (rest : List Message) × (received_from values b.ins u ++ rest ≡ sent_by values old u to)

  pub no_link_yet : (to : ℕ) (xs : List (WorkerOf S F)) → AreAllLinked xs → AreMatching 0 to xs xs
  no_link_yet to xs links = record { looked = all_looked_same xs links; links = λ values u lt. absurd (omega arith) }

  pub one_link_more : (from to n : ℕ) (old now next : List (WorkerOf S F)) → AreMatching from to old now → IsLinkMatched owner from to now next n
      → AreMatching (from + 1) to old next
  one_link_more from to n old now next p q = record {
    looked = all_looked_through old now next p.looked q.looked;
    links = λ values u lt c at_c.
        let (b, at_b) = earlier now next (looked_have now next q.looked) to c at_c in
        ⊎_elim
        (λ (below : u < from). let (rest, link) = p.links values u below b at_b in
        (rest, ap (λ ms. ms ++ rest) ((q.looked.each to b c at_b at_c).received values u) ∙ link))
        (λ (le : from ≤ u). let same : from ≡ u = omega arith in
        subst (λ k. (rest : List Message) × (received_from values c.ins k ++ rest ≡ sent_by values old k to)) same
        (known_from values c.ins from, q.all values c at_c ∙ sent_kept old now (looked_have old now p.looked) values from to))
        (cases_lt u from);
  }

  -- ---- one link
  -- some messages were in the ring of a link, and this many of them are taken
  pub record IsEmptying (values : F → List ℕ) (from to : ℕ) (old now : List (WorkerOf S F)) (waiting i : ℕ) : Type 0 where
    pub len : length now ≡ length old
    pub links : AreAllLinked now
    pub taken : List Message
    pub receiver : (a b : WorkerOf S F) → At old to a → At now to b → HasTakenEach owner taken a b
    pub here : (a b : WorkerOf S F) → At old to a → At now to b → received_from values b.ins from ≡ received_from values a.ins from ++ taken
    pub there : (a b : WorkerOf S F) → At old to a → At now to b → (u : ℕ) → u ≢ from → received_from values b.ins u ≡ received_from values a.ins u
    pub all : (b : WorkerOf S F) → At now to b → received_from values b.ins from ++ known_from values b.ins from ≡ sent_by values old from to
    pub few : (b : WorkerOf S F) → At now to b → length (known_from values b.ins from) + i ≡ waiting
    pub none_aside : (b : WorkerOf S F) → At now to b → b.misfits ≡ []
    pub others : (v : ℕ) (a b : WorkerOf S F) → v ≢ to → At old v a → At now v b → IsLookedAt owner a b

  pub emptying_have : (values : F → List ℕ) (from to waiting i : ℕ) (old now : List (WorkerOf S F)) → IsEmptying values from to old now waiting i
      → HaveKept old now
  emptying_have values from to waiting i old now e = record {
    len = e.len;
    each = λ v a b at_a at_b. ⊎_elim
        (λ (is : v ≡ to). taken_keeps owner e.taken a b (e.receiver a b (subst (λ k. At old k a) is at_a) (subst (λ k. At now k b) is at_b)))
        (λ (ne : v ≢ to). looked_keeps a b (e.others v a b ne at_a at_b))
        (cases_eq v to);
  }

  looked_aside : (a b : WorkerOf S F) → IsLookedAt owner a b → b.misfits ≡ a.misfits
  looked_aside a b p = ap (λ (w : WorkerOf S F). w.misfits) p.taken.worker

  pub begins_emptying : (values : F → List ℕ) (from to n : ℕ) (old now : List (WorkerOf S F)) → ((b : WorkerOf S F) → At old to b → b.misfits ≡ [])
      → IsLinkMatched owner from to old now n → IsEmptying values from to old now n 0
  begins_emptying values from to n old now none m = record {
    len = m.looked.len;
    links = m.looked.links;
    taken = [];
    receiver = λ a b at_a at_b. (m.looked.each to a b at_a at_b).taken;
    here = λ a b at_a at_b. (m.looked.each to a b at_a at_b).received values from ∙ sym (append-nil (received_from values a.ins from));
    there = λ a b at_a at_b u ne. (m.looked.each to a b at_a at_b).received values u;
    all = m.all values;
    few = λ b at_b. let count = m.counted values b at_b in omega (arith, count);
    none_aside = λ b at_b. let (a, at_a) = earlier old now (looked_have old now m.looked) to b at_b in
        looked_aside a b (m.looked.each to a b at_a at_b) ∙ none a at_a;
    others = λ v a b ne at_a at_b. m.looked.each v a b at_a at_b;
  }

  pub ends_emptying : (values : F → List ℕ) (from to n : ℕ) (old now : List (WorkerOf S F)) → IsEmptying values from to old now n n
      → IsLinkEmptied owner values from to old now
  ends_emptying values from to n old now e = record {
    len = e.len;
    links = e.links;
    receiver = λ a b at_a at_b.
        let few = e.few b at_b in
        let none : known_from values b.ins from ≡ [] = empty_if (known_from values b.ins from) (omega (arith, few)) in
        let all : received_from values b.ins from ≡ sent_by values old from to =
        sym (append-nil (received_from values b.ins from)) ∙ (ap (λ ms. received_from values b.ins from ++ ms) (sym none) ∙ e.all b at_b) in
        let split : received_from values a.ins from ++ e.taken ≡ sent_by values old from to = sym (e.here a b at_a at_b) ∙ all in
        record {
          taken = subst (λ ms. HasTakenEach owner ms a b)
              (sym (drop-append_seam (received_from values a.ins from) e.taken) ∙ ap (drop (length (received_from values a.ins from))) split)
              (e.receiver a b at_a at_b);
          all = all;
          others = e.there a b at_a at_b;
        };
    none_aside = e.none_aside;
    others = e.others;
  }
    where
      empty_if : (ms : List Message) → length ms ≡ 0 → ms ≡ []
      empty_if [] none = refl
      empty_if (m ∷ ms) none = absurd (omega (arith, none))

  -- ---- a step of that
  -- the worker that takes: before, after its units were set to 0, and after it was to receive a message
  begun_keeps : (b c : WorkerOf S F) → b.uncounted ≡ 0 → c ≡ record b { resting = false; uncounted = 0; taken = 0 } → HasTakenEach owner [] b c
  begun_keeps b c none e = takes_none owner b c b.outs b.ins false 0
      (e ∙ (λ j. record b { resting = false; uncounted = sym none j; taken = 0 })) (λ values to. refl) refl refl

  received_keeps : (values : List ℕ → F → List ℕ) (from : ℕ) (c d : WorkerOf S F) (r : Received) → HasReceived owner values from c d r
      → Keeps c d × (d.outs ≡ c.outs) × AreSameIns c.ins d.ins
  received_keeps values from c d Taken t = (
    taken_keeps owner (t.message ∷ []) c d (takes_one owner values from c d t),
    ap (λ (w : WorkerOf S F). w.outs) t.worker,
    t.popped.ends,
  )
  received_keeps values from c d Nothing t = (still c d t.worker t.ends.len, ap (λ (w : WorkerOf S F). w.outs) t.worker, t.ends)
    where
      still : (c d : WorkerOf S F) → d ≡ record c { ins = d.ins } → length d.ins ≡ length c.ins → Keeps c d
      still c d e len = record {
        member = λ space n v is. record {
          space = ap (λ (w : WorkerOf S F). w.owner.space) e ∙ is.space;
          number = ap (λ (w : WorkerOf S F). w.owner.worker) e ∙ is.number;
          outs = ap (λ (w : WorkerOf S F). length w.outs) e ∙ is.outs;
          ins = len ∙ is.ins;
          counted = ap (λ (w : WorkerOf S F). w.uncounted) e ∙ is.counted;
        };
        sent = λ read to. ap (λ (w : WorkerOf S F). sent_to read w.outs to) e;
      }
  received_keeps values from c d SetAside t = (
    record {
      member = λ space n v is. record {
        space = ap (λ (w : WorkerOf S F). w.owner.space) t.worker ∙ is.space;
        number = ap (λ (w : WorkerOf S F). w.owner.worker) t.worker ∙ is.number;
        outs = ap (λ (w : WorkerOf S F). length w.outs) t.worker ∙ is.outs;
        ins = t.popped.ends.len ∙ is.ins;
        counted = ap (λ (w : WorkerOf S F). w.uncounted) t.worker ∙ is.counted;
      };
      sent = λ read to. ap (λ (w : WorkerOf S F). sent_to read w.outs to) t.worker;
    },
    ap (λ (w : WorkerOf S F). w.outs) t.worker,
    t.popped.ends,
  )

  kept_through : (old now next : List (WorkerOf S F)) → HaveKept old now → HaveKept now next → HaveKept old next
  kept_through old now next p q = record {
    len = q.len ∙ p.len;
    each = λ v a c at_a at_c. let (b, at_b) = later old now p v a at_a in
        let first = p.each v a b at_a at_b in let second = q.each v b c at_b at_c in
        record {
          member = λ space n k is. second.member space n k (first.member space n k is);
          sent = λ values to. second.sent values to ∙ first.sent values to;
        };
  }

  -- the workers, of which one has its units set to 0 and was then to receive a message
  module _ (values : List ℕ → F → List ℕ) (space : SpaceOf S) (read : F → List ℕ) (is_read : values (ranges space.task) ≡ read) (from to : ℕ)
      (now mid : List (WorkerOf S F)) (are : AreMembers space now) (b c d : WorkerOf S F) (at_b : At now to b)
      (begun : c ≡ record b { resting = false; uncounted = 0; taken = 0 }) (r : Received) (has : HasReceived owner values from c d r)
      (mid_is : mid ≡ slice_set (slice_set now to c) to d) where
    at_c : At (slice_set now to c) to c
    at_c = at_here now to c (at_below now to b at_b)

    pub at_d : At mid to d
    at_d = subst (λ ws. At ws to d) (sym mid_is) (at_here (slice_set now to c) to d (at_below (slice_set now to c) to c at_c))

    -- the values of a form, as the worker's task has them
    values_now : values_in values c ≡ read
    values_now = ap (λ (w : WorkerOf S F). values (ranges w.owner.space.task)) begun
        ∙ values_of owner values space (length now) read is_read to b (are.each to b at_b)

    same_ins : c.ins ≡ b.ins
    same_ins = ap (λ (w : WorkerOf S F). w.ins) begun

    pub mid_kept : HaveKept now mid
    mid_kept = subst (HaveKept now) (sym mid_is)
        (kept_through now (slice_set now to c) (slice_set (slice_set now to c) to d)
        (set_kept now to b c at_b (taken_keeps owner [] b c (begun_keeps b c (are.each to b at_b).counted begun)))
        (set_kept (slice_set now to c) to c d at_c (received_keeps values from c d r has).0))

    mid_links : AreAllLinked mid
    mid_links = subst AreAllLinked (sym mid_is)
        (set_linked (slice_set now to c) to c d at_c (received_keeps values from c d r has).1 (received_keeps values from c d r has).2
        (set_linked now to b c at_b (ap (λ (w : WorkerOf S F). w.outs) begun) (subst (AreSameIns b.ins) (sym same_ins) (ins_same b.ins)) are.links))

    pub mid_members : AreMembers space mid
    mid_members = members_kept now mid mid_kept space are mid_links

    mid_elsewhere : (v : ℕ) (x : WorkerOf S F) → v ≢ to → At mid v x → At now v x
    mid_elsewhere v x ne at = ⊎_elim
        (λ (h : (v ≡ to) × (d ≡ x)). absurd (ne h.0))
        (λ (h : (v ≢ to) × At (slice_set now to c) v x). ⊎_elim
        (λ (g : (v ≡ to) × (c ≡ x)). absurd (ne g.0))
        (λ (g : (v ≢ to) × At now v x). g.1)
        (at_set now to c v x h.1))
        (at_set (slice_set now to c) to d v x (subst (λ ws. At ws v x) mid_is at))

    module _ (next : List (WorkerOf S F)) (n : ℕ) (m : IsLinkMatched owner from to mid next n) where
      next_members : AreMembers space next
      next_members = members_kept mid next (looked_have mid next m.looked) space mid_members m.looked.links

      has_taken : from < length now → (known_from read b.ins from ≡ [] → ⊥) → IsSearchSpace (searched owner space (length next))
          → ((x : WorkerOf S F) → At next from x → IsKept owner values x) → ((y : WorkerOf S F) → At next to y → IsKept owner values y)
          → (s : Received) → HasReceived owner values from c d s → HasTaken owner values from c d
      has_taken lt some ok kept_from kept_to Taken t = t
      has_taken lt some ok kept_from kept_to Nothing t = absurd
          (some (sym (ap (λ is. known_from read is from) same_ins) ∙ none_known read c.ins from t.why))
      has_taken lt some ok kept_from kept_to SetAside t =
          let (x, at_x) = at_some next from (omega (arith, lt, m.looked.len, mid_kept.len)) in
          let (y, at_y) = later mid next (looked_have mid next m.looked) to d at_d in
          let aside : y.misfits ≡ record { sender = from; message = t.message } ∷ [] =
          looked_aside d y (m.looked.each to d y at_d at_y) ∙ ap (λ (w : WorkerOf S F). w.misfits) t.worker in
          absurd (none_aside_from owner values space (length next) read is_read ok from to x y (next_members.each from x at_x) (next_members.each to y at_y)
          (kept_from x at_x) (kept_to y at_y) (known_from read y.ins from)
          (m.all read y at_y ∙ (sym (sent_kept mid next (looked_have mid next m.looked) read from to) ∙ sent_at read next from to x at_x))
          0 (record { sender = from; message = t.message }) (subst (λ ps. At ps 0 (record { sender = from; message = t.message })) (sym aside) refl) refl)

      taken_more : (old : List (WorkerOf S F)) (waiting i : ℕ) → IsEmptying read from to old now waiting i → HasTaken owner values from c d
          → IsEmptying read from to old next waiting (i + 1)
      taken_more old waiting i e t =
          let link : (u : ℕ) → received_from read d.ins u ≡ put (received_from read c.ins) from (received_from read c.ins from ++ t.message ∷ []) u =
          subst (λ (f : F → List ℕ). (u : ℕ) → received_from f d.ins u ≡ put (received_from f c.ins) from (received_from f c.ins from ++ t.message ∷ []) u)
          values_now t.popped.link in
          let now_here : (y : WorkerOf S F) → At next to y → received_from read y.ins from ≡ received_from read b.ins from ++ t.message ∷ [] =
          λ y at_y. (m.looked.each to d y at_d at_y).received read from
          ∙ (link from
          ∙ (put_here (received_from read c.ins) from (received_from read c.ins from ++ t.message ∷ [])
          ∙ ap (λ is. received_from read is from ++ t.message ∷ []) same_ins)) in
          let all : (y : WorkerOf S F) → At next to y → received_from read y.ins from ++ known_from read y.ins from ≡ sent_by read old from to =
          λ y at_y. m.all read y at_y
          ∙ (sent_kept now mid mid_kept read from to ∙ sent_kept old now (emptying_have read from to waiting i old now e) read from to) in
          record {
            len = m.looked.len ∙ (mid_kept.len ∙ e.len);
            links = m.looked.links;
            taken = e.taken ++ t.message ∷ [];
            receiver = λ a y at_a at_y.
                taken_looked (e.taken ++ t.message ∷ []) a d y
                (takes_through owner e.taken (t.message ∷ []) a b d (e.receiver a b at_a at_b)
                (takes_through owner [] (t.message ∷ []) b c d (begun_keeps b c (are.each to b at_b).counted begun) (takes_one owner values from c d t)))
                (m.looked.each to d y at_d at_y);
            here = λ a y at_a at_y. now_here y at_y
                ∙ (ap (λ ms. ms ++ t.message ∷ []) (e.here a b at_a at_b) ∙ append_assoc (received_from read a.ins from) e.taken (t.message ∷ []));
            there = λ a y at_a at_y u ne. (m.looked.each to d y at_d at_y).received read u
                ∙ (link u
                ∙ (put_there (received_from read c.ins) from (received_from read c.ins from ++ t.message ∷ []) u ne
                ∙ (ap (λ is. received_from read is u) same_ins ∙ e.there a b at_a at_b u ne)));
            all = λ y at_y. all y at_y;
            few = λ y at_y.
                let was = ap length (e.all b at_b) in let is = ap length (all y at_y) in
                let long_was = length-append (received_from read b.ins from) (known_from read b.ins from) in
                let long_is = length-append (received_from read y.ins from) (known_from read y.ins from) in
                let longer = ap length (now_here y at_y) in
                let one = length-append (received_from read b.ins from) (t.message ∷ []) in
                let few = e.few b at_b in
                omega (arith, was, is, long_was, long_is, longer, one, few);
            none_aside = λ y at_y. looked_aside d y (m.looked.each to d y at_d at_y)
                ∙ (ap (λ (w : WorkerOf S F). w.misfits) t.worker ∙ (ap (λ (w : WorkerOf S F). w.misfits) begun ∙ e.none_aside b at_b));
            others = λ v a y ne at_a at_y.
                let (x, at_x) = earlier mid next (looked_have mid next m.looked) v y at_y in
                looked_through a x y (e.others v a x ne at_a (mid_elsewhere v x ne at_x)) (m.looked.each v x y at_x at_y);
          }

      pub one_message_more : (old : List (WorkerOf S F)) (waiting i : ℕ) → IsEmptying read from to old now waiting i → i < waiting → from < length now
          → IsSearchSpace (searched owner space (length next))
          → ((x : WorkerOf S F) → At next from x → IsKept owner values x) → ((y : WorkerOf S F) → At next to y → IsKept owner values y)
          → IsEmptying read from to old next waiting (i + 1)
      one_message_more old waiting i e lt from_lt ok kept_from kept_to =
          taken_more old waiting i e (has_taken from_lt
          (λ none. let few = e.few b at_b in let zero_long = ap length none in absurd (omega (arith, few, zero_long, lt)))
          ok kept_from kept_to r has)

  -- ---- where a form of a state has these values
  module _ (values : F → List ℕ) where
    -- ---- all links to a worker
    pub links_have : (n to : ℕ) (old now : List (WorkerOf S F)) → AreLinksEmptied owner values n to old now → HaveKept old now
    links_have n to old now e = record {
      len = e.len;
      each = λ v a b at_a at_b. ⊎_elim
          (λ (is : v ≡ to). taken_keeps owner (in_rings (λ u. sent_by values old u to) (received_from values a.ins) n) a b
          (e.receiver a b (subst (λ k. At old k a) is at_a) (subst (λ k. At now k b) is at_b)).taken)
          (λ (ne : v ≢ to). looked_keeps a b (e.others v a b ne at_a at_b))
          (cases_eq v to);
    }

    link_have : (from to : ℕ) (old now : List (WorkerOf S F)) → IsLinkEmptied owner values from to old now → HaveKept old now
    link_have from to old now e = record {
      len = e.len;
      each = λ v a b at_a at_b. ⊎_elim
          (λ (is : v ≡ to). taken_keeps owner (drop (length (received_from values a.ins from)) (sent_by values old from to)) a b
          (e.receiver a b (subst (λ k. At old k a) is at_a) (subst (λ k. At now k b) is at_b)).taken)
          (λ (ne : v ≢ to). looked_keeps a b (e.others v a b ne at_a at_b))
          (cases_eq v to);
    }

    pub no_links_emptied : (to : ℕ) (old now : List (WorkerOf S F)) → AreLookedAt owner old now → ((b : WorkerOf S F) → At now to b → b.misfits ≡ [])
        → AreLinksEmptied owner values 0 to old now
    no_links_emptied to old now p none = record {
      len = p.len;
      links = p.links;
      receiver = λ a b at_a at_b. let one = p.each to a b at_a at_b in
          record { taken = one.taken; below = λ u lt. absurd (omega arith); others = λ u le. one.received values u };
      none_aside = none;
      others = λ v a b ne at_a at_b. p.each v a b at_a at_b;
    }

    -- a worker has emptied one more of the rings to it
    emptied_more : (sent : ℕ → List Message) (k : ℕ) (more : List Message) (a b c : WorkerOf S F) → HasEmptiedEach owner values sent k a b
        → HasEmptied owner values k more b c → more ≡ sent k → HasEmptiedEach owner values sent (k + 1) a c
    emptied_more sent k more a b c p q is = record {
      taken = subst (λ n. HasTakenEach owner (in_rings sent (received_from values a.ins) n) a c) (sym (add-one k))
          (subst (λ ms. HasTakenEach owner (in_rings sent (received_from values a.ins) k ++ ms) a c)
          (λ j. drop (length (p.others k (omega arith) j)) (is j))
          (takes_through owner (in_rings sent (received_from values a.ins) k) (drop (length (received_from values b.ins k)) more) a b c p.taken q.taken));
      below = λ u lt. ⊎_elim
          (λ (lower : u < k). q.others u (omega (arith, lower)) ∙ p.below u lower)
          (λ (le : k ≤ u). let same : k ≡ u = omega arith in subst (λ v. received_from values c.ins v ≡ sent v) same (q.all ∙ is))
          (cases_lt u k);
      others = λ u le. q.others u (omega (arith, le)) ∙ p.others u (omega (arith, le));
    }

    pub one_ring_more : (from to : ℕ) (old now next : List (WorkerOf S F)) → AreLinksEmptied owner values from to old now → IsLinkEmptied owner values from to now next
        → AreLinksEmptied owner values (from + 1) to old next
    one_ring_more from to old now next p q = record {
      len = q.len ∙ p.len;
      links = q.links;
      receiver = λ a c at_a at_c. let (b, at_b) = later old now (links_have from to old now p) to a at_a in
          emptied_more (λ u. sent_by values old u to) from (sent_by values now from to) a b c (p.receiver a b at_a at_b) (q.receiver b c at_b at_c)
          (sent_kept old now (links_have from to old now p) values from to);
      none_aside = q.none_aside;
      others = λ v a c ne at_a at_c. let (b, at_b) = later old now (links_have from to old now p) v a at_a in
          looked_through a b c (p.others v a b ne at_a at_b) (q.others v b c ne at_b at_c);
    }

    -- ---- all workers
    pub drained_have : (n : ℕ) (old now : List (WorkerOf S F)) → AreDrained owner values n old now → HaveKept old now
    drained_have n old now e = record {
      len = e.len;
      each = λ v a b at_a at_b. ⊎_elim
          (λ (lt : v < n). taken_keeps owner (in_rings (λ u. sent_by values old u v) (received_from values a.ins) (length old)) a b (e.below v a b lt at_a at_b).0.taken)
          (λ (le : n ≤ v). looked_keeps a b (e.others v a b le at_a at_b))
          (cases_lt v n);
    }

    pub none_drained : (ws : List (WorkerOf S F)) → AreAllLinked ws → AreDrained owner values 0 ws ws
    none_drained ws links = record {
      len = refl;
      links = links;
      below = λ v a b lt. absurd (omega arith);
      others = λ v a b le at_a at_b. looked_same ws v a b at_a at_b;
    }

    -- what was taken, after the worker was looked at, or before
    emptied_looked : (sent : ℕ → List Message) (n : ℕ) (a b c : WorkerOf S F) → HasEmptiedEach owner values sent n a b → IsLookedAt owner b c
        → HasEmptiedEach owner values sent n a c
    emptied_looked sent n a b c p q = record {
      taken = taken_looked (in_rings sent (received_from values a.ins) n) a b c p.taken q;
      below = λ u lt. q.received values u ∙ p.below u lt;
      others = λ u le. q.received values u ∙ p.others u le;
    }

    looked_emptied : (sent more : ℕ → List Message) (n k : ℕ) (a b c : WorkerOf S F) → IsLookedAt owner a b → HasEmptiedEach owner values more k b c
        → more ≡ sent → k ≡ n → HasEmptiedEach owner values sent n a c
    looked_emptied sent more n k a b c p q is same = record {
      taken = subst (λ ms. HasTakenEach owner ms a c) (λ j. in_rings (is j) (λ u. p.received values u j) (same j))
          (takes_through owner [] (in_rings more (received_from values b.ins) k) a b c p.taken q.taken);
      below = λ u lt. q.below u (omega (arith, same, lt)) ∙ (λ j. is j u);
      others = λ u le. q.others u (omega (arith, same, le)) ∙ p.received values u;
    }

    pub one_worker_more : (to : ℕ) (old now next : List (WorkerOf S F)) → AreDrained owner values to old now → AreLinksEmptied owner values (length now) to now next
        → AreDrained owner values (to + 1) old next
    one_worker_more to old now next p q = record {
      len = q.len ∙ p.len;
      links = q.links;
      below = λ v a c lt at_a at_c. let (b, at_b) = later old now have v a at_a in ⊎_elim
          (λ (lower : v < to). let was = p.below v a b lower at_a at_b in
          let one = q.others v b c (omega (arith, lower)) at_b at_c in
          (emptied_looked (λ u. sent_by values old u v) (length old) a b c was.0 one, looked_aside b c one ∙ was.1))
          (λ (le : to ≤ v). let is : to ≡ v = omega arith in
          subst (λ k. HasEmptiedEach owner values (λ u. sent_by values old u k) (length old) a c × (c.misfits ≡ [])) is (
            looked_emptied (λ u. sent_by values old u to) (λ u. sent_by values now u to) (length old) (length now) a b c (p.others v a b le at_a at_b)
                (q.receiver b c (subst (λ k. At now k b) (sym is) at_b) (subst (λ k. At next k c) (sym is) at_c))
                (λ j u. sent_kept old now have values u to j) p.len,
            q.none_aside c (subst (λ k. At next k c) (sym is) at_c),
          ))
          (cases_lt v to);
      others = λ v a c le at_a at_c. let (b, at_b) = later old now have v a at_a in
          looked_through a b c (p.others v a b (omega (arith, le)) at_a at_b) (q.others v b c (omega (arith, le)) at_b at_c);
    }
      where
        have : HaveKept old now
        have = drained_have to old now p

    -- ---- the team
    same_offered : (xs ys : List (WorkerOf S F)) → length ys ≡ length xs
        → ((v : ℕ) (a b : WorkerOf S F) → At xs v a → At ys v b → b.offered ≡ a.offered)
        → map (λ (w : WorkerOf S F). w.offered) ys ≡ map (λ (w : WorkerOf S F). w.offered) xs
    same_offered [] [] len each = refl
    same_offered [] (y ∷ ys) len each = absurd (omega (arith, len))
    same_offered (x ∷ xs) [] len each = absurd (omega (arith, len))
    same_offered (x ∷ xs) (y ∷ ys) len each =
        (λ j. each 0 x y refl refl j ∷ same_offered xs ys (omega (arith, len)) (λ v a b at_a at_b. each (suc v) a b at_a at_b) j)

    -- the team, where these are the values on it
    pub team_drained : (on : List ℕ → F → List ℕ) (old new : TeamOf S F) → values_on on old ≡ values → IsTeam old
        → AreDrained owner values (length old.workers) old.workers new.workers → new.space ≡ old.space → new.best ≡ old.best
        → IsTeam new × IsDrained owner on old new
    team_drained on old new values_are is e space best = (
      record {
        some = omega (arith, is.some, e.len);
        members = subst (λ s. AreMembers s new.workers) (sym space) (members_kept old.workers new.workers have old.space is.members e.links);
        best = best ∙ (is.best ∙ ap least (sym (same_offered old.workers new.workers e.len (λ v a b at_a at_b. ap (λ (w : WorkerOf S F). w.offered) (drained v a b at_a at_b).0.taken.worker))));
        bounded = λ v b at_b. let (a, at_a) = earlier old.workers new.workers have v b at_b in
            subst (λ d. d ≤ᵈ b.seen) (sym best) (subst (λ d. old.best ≤ᵈ d) (sym (ap (λ (w : WorkerOf S F). w.seen) (drained v a b at_a at_b).0.taken.worker)) (is.bounded v a at_a));
      },
      record {
        space = space;
        count = e.len;
        best = best;
        each = λ v a b at_a at_b.
            subst (λ (f : F → List ℕ). HasTakenEach owner (in_rings (λ u. sent_by f old.workers u v) (received_from f a.ins) (length old.workers)) a b)
            (sym values_are) (drained v a b at_a at_b).0.taken;
        none_aside = λ v b at_b. let (a, at_a) = earlier old.workers new.workers have v b at_b in (drained v a b at_a at_b).1;
        empty = λ u v x y at_x at_y.
            let (b, at_b) = earlier old.workers new.workers have v y at_y in
            let lt = at_below new.workers u x at_x in
            let now : values_on on new ≡ values = ap (λ (s : SpaceOf S). on (ranges s.task)) space ∙ values_are in
            subst (λ (f : F → List ℕ). received_from f y.ins u ≡ sent_to f x.outs v) (sym now)
            ((drained v b y at_b at_y).0.below u (omega (arith, lt, e.len))
            ∙ (sym (sent_kept old.workers new.workers have values u v) ∙ sent_at values new.workers u v x at_x));
      },
    )
      where
        have : HaveKept old.workers new.workers
        have = drained_have (length old.workers) old.workers new.workers e

        drained : (v : ℕ) (a b : WorkerOf S F) → At old.workers v a → At new.workers v b
            → HasEmptiedEach owner values (λ u. sent_by values old.workers u v) (length old.workers) a b × (b.misfits ≡ [])
        drained v a b at_a at_b = e.below v a b (at_below old.workers v a at_a) at_a at_b
