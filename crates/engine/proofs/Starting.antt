-- A team at its start.
use Rattle.std.proofs.Common.{◌≡◌, ℕ, zero, suc, ◌+◌, ◌<◌, ◌≤◌, ◌⊎◌, List, [], ◌∷◌, ◌++◌, length, map, Vec, Some, refl, sym, ap, ◌∙◌, subst, inl, inr, ⊎_elim, arith, length-append}
use Rattle.std.specs.Prelude.{slice_get}
use Rattle.std.proofs.lemmas.Bool.{cases_lt}
use Rattle.std.proofs.lemmas.Option.{slice_get_within}
use Rattle.cost.specs.Distances.{Distance, Infinite, ◌≤ᵈ◌, lesser, least}
use Rattle.owner_theory.specs.Owners.{At, list_at}
use Rattle.closed.specs.Tables.{message_of}
use Rattle.owner.specs.Spaces.{SpaceOf}
use Rattle.links.specs.declared.ends.Out.{Out}
use Rattle.links.specs.declared.ends.In.{In}
use Rattle.links.specs.Ends.{sent, received, room, IsFresh}
use Rattle.links.specs.Tables.{rows, HasSize, AreMatched}
use Rattle.extract.proofs.Places.{at_below, at_get, at_some}
use Rattle.worker.specs.Workers.{WorkerOf, IsFirstWorker, sent_to, received_from}
use Rattle.engine.specs.Teams.{TeamOf, IsTeam, IsFirstTeam, IsFirst, AreFreshLinks, AreFirstWorkers}
use Rattle.engine.proofs.Fitting.{outs_past, received_past}

-- the list at a place, where there is one for each element
list_of : {A B : Type 0} (f : A → List B) (xs : List A) (v : ℕ) (x : A) → slice_get xs v ≡ Some x → list_at (map f xs) v ≡ f x
list_of f [] v x e = absurd (cc)
list_of f (y ∷ ys) zero x e = let same : y ≡ x = cc in ap f same
list_of f (y ∷ ys) (suc v) x e = list_of f ys v x e

sent_get : {F : Type 0} (values : F → List ℕ) (os : List (Out F)) (v : ℕ) (o : Out F) → slice_get os v ≡ Some o
    → sent_to values os v ≡ map (message_of values) (sent o)
sent_get values os v o e = list_of (λ x. map (message_of values) (sent x)) os v o e

received_get : {F : Type 0} (values : F → List ℕ) (is : List (In F)) (u : ℕ) (i : In F) → slice_get is u ≡ Some i
    → received_from values is u ≡ map (message_of values) (received i)
received_get values is u i e = list_of (λ x. map (message_of values) (received x)) is u i e

least_infinite : {S F : Type 0} (ws : List (WorkerOf S F)) → ((v : ℕ) (w : WorkerOf S F) → At ws v w → w.offered ≡ Infinite)
    → least (map (λ w. w.offered) ws) ≡ Infinite
least_infinite [] none = refl
least_infinite (w ∷ ws) none = (λ j. lesser (none 0 w refl j) (least_infinite ws (λ v x at. none (suc v) x at) j))

module _ {F : Type 0} (capacity n : ℕ) (outs : List (List (Out F))) (ins : List (List (In F))) (fresh : AreFreshLinks capacity n outs ins) where
  -- the two ends of the link between two workers
  link_at : (u v : ℕ) (os : List (Out F)) (is : List (In F)) (o : Out F) (i : In F) → At outs u os → slice_get os v ≡ Some o → At ins v is → slice_get is u ≡ Some i
      → IsFresh capacity o i
  link_at u v os is o i at_os at_o at_is at_i = fresh.matched u v os is o i (at_get outs u os at_os) at_o (at_get ins v is at_is) at_i

  row_out : (u : ℕ) (os : List (Out F)) → At outs u os → length os ≡ n
  row_out u os at = fresh.senders.1 u os (at_get outs u os at)

  row_in : (v : ℕ) (is : List (In F)) → At ins v is → length is ≡ n
  row_in v is at = fresh.receivers.1 v is (at_get ins v is at)

  -- the ends at a place, where the row of one is given
  fresh_out : (u v : ℕ) (os : List (Out F)) (o : Out F) → At outs u os → slice_get os v ≡ Some o → (i : In F) × IsFresh capacity o i
  fresh_out u v os o at_os at_o =
      let u_lt = at_below outs u os at_os in
      let v_lt = slice_get_within os v o at_o in
      let tall = fresh.senders.0 in
      let wide = row_out u os at_os in
      let tall_in = fresh.receivers.0 in
      let (is, at_is) = at_some ins v (omega (arith, v_lt, wide, tall_in)) in
      let wide_in = row_in v is at_is in
      let (i, at_i) = at_some is u (omega (arith, u_lt, tall, wide_in)) in
      (i, link_at u v os is o i at_os at_o at_is (at_get is u i at_i))

  fresh_in : (u v : ℕ) (is : List (In F)) (i : In F) → At ins v is → slice_get is u ≡ Some i → (o : Out F) × IsFresh capacity o i
  fresh_in u v is i at_is at_i =
      let v_lt = at_below ins v is at_is in
      let u_lt = slice_get_within is u i at_i in
      let tall = fresh.senders.0 in
      let tall_in = fresh.receivers.0 in
      let wide_in = row_in v is at_is in
      let (os, at_os) = at_some outs u (omega (arith, u_lt, wide_in, tall)) in
      let wide = row_out u os at_os in
      let (o, at_o) = at_some os v (omega (arith, v_lt, tall_in, wide)) in
      (o, link_at u v os is o i at_os (at_get os v o at_o) at_is at_i)

  pub none_sent : (u : ℕ) (os : List (Out F)) → At outs u os → (length os ≡ n) × ((values : F → List ℕ) (v : ℕ) → sent_to values os v ≡ [])
  none_sent u os at = (
    row_out u os at,
    λ values v. ⊎_elim
        (λ (lt : v < length os). let (o, at_o) = at_some os v lt in
        sent_get values os v o (at_get os v o at_o) ∙ ap (map (message_of values)) (fresh_out u v os o at (at_get os v o at_o)).1.sent_none)
        (λ (le : length os ≤ v). outs_past values os v le)
        (cases_lt v (length os)),
  )

  pub none_received : (v : ℕ) (is : List (In F)) → At ins v is → (length is ≡ n) × ((values : F → List ℕ) (u : ℕ) → received_from values is u ≡ [])
  none_received v is at = (
    row_in v is at,
    λ values u. ⊎_elim
        (λ (lt : u < length is). let (i, at_i) = at_some is u lt in
        received_get values is u i (at_get is u i at_i) ∙ ap (map (message_of values)) (fresh_in u v is i at (at_get is u i at_i)).1.received_none)
        (λ (le : length is ≤ u). received_past values is u le)
        (cases_lt u (length is)),
  )

  module _ {S : Type 0} (space : SpaceOf S) (ws : List (WorkerOf S F)) (first : AreFirstWorkers space n outs ins ws) where
    abbrev team : TeamOf S F
    team = record { space = space; workers = ws; best = Infinite }

    pub first_is_team : 0 < n → IsTeam team
    first_is_team some = record {
      some = omega (arith, some, first.len);
      members = record {
        each = λ v w at. let one = first.each v w at in record {
          space = one.is.space;
          number = one.is.number;
          outs = row_out v w.outs one.sends ∙ sym first.len;
          ins = row_in v w.ins one.receives ∙ sym first.len;
          counted = one.is.uncounted;
        };
        links = λ u v a b at_a at_b o i at_o at_i.
            (link_at u v a.outs b.ins o i (first.each u a at_a).sends at_o (first.each v b at_b).receives at_i).ends;
      };
      best = sym (least_infinite ws (λ v w at. (first.each v w at).is.offered));
      bounded = λ v w at. subst (λ d. Infinite ≤ᵈ d) (sym (first.each v w at).is.seen) tt;
    }

    pub first_team : IsFirstTeam space n capacity team
    first_team = record {
      space = refl;
      count = first.len;
      each = λ v w at. (first.each v w at).is;
      none_sent = λ v w at. (none_sent v w.outs (first.each v w at).sends).1;
      none_received = λ v w at. (none_received v w.ins (first.each v w at).receives).1;
      room = λ v w at to o at_o. (fresh_out v to w.outs o (first.each v w at).sends at_o).1.room_is;
      best = refl;
    }

-- ---- one more
at_snoc : {X : Type 0} (xs : List X) (y : X) (i : ℕ) (x : X) → At (xs ++ y ∷ []) i x → At xs i x ⊎ ((i ≡ length xs) × (y ≡ x))
at_snoc [] y zero x at = inr (refl, at)
at_snoc [] y (suc i) x at = absurd at
at_snoc (z ∷ xs) y zero x at = inl at
at_snoc (z ∷ xs) y (suc i) x at = ⊎_elim (λ (h : At xs i x). inl h)
    (λ (h : (i ≡ length xs) × (y ≡ x)). inr (ap suc h.0, h.1)) (at_snoc xs y i x at)

module _ {S F : Type 0} (space : SpaceOf S) (n : ℕ) (outs : List (List (Out F))) (ins : List (List (In F))) where
  -- the first workers at the start, and the ends that are left for the others
  pub record AreStarting (ws : List (WorkerOf S F)) (left_outs : List (List (Out F))) (left_ins : List (List (In F))) : Type 0 where
    pub count : length ws + length left_outs ≡ n
    pub both : length left_ins ≡ length left_outs
    pub outs_at : (j : ℕ) (os : List (Out F)) → At left_outs j os → At outs (length ws + j) os
    pub ins_at : (j : ℕ) (is : List (In F)) → At left_ins j is → At ins (length ws + j) is
    pub each : (v : ℕ) (w : WorkerOf S F) → At ws v w → IsFirst space n outs ins v w

  pub none_started : HasSize n n outs → HasSize n n ins → AreStarting [] outs ins
  none_started tall tall_in = record {
    count = let long = tall.0 in omega (arith, long);
    both = tall_in.0 ∙ sym tall.0;
    outs_at = λ j os at. let same : j ≡ 0 + j = omega arith in subst (λ k. At outs k os) same at;
    ins_at = λ j is at. let same : j ≡ 0 + j = omega arith in subst (λ k. At ins k is) same at;
    each = λ v w at. absurd at;
  }

  pub one_started : (ws : List (WorkerOf S F)) (w : WorkerOf S F) (os : List (Out F)) (left_outs : List (List (Out F))) (is : List (In F)) (left_ins : List (List (In F)))
      → AreStarting ws (os ∷ left_outs) (is ∷ left_ins) → IsFirstWorker space (length ws) n os is w → AreStarting (ws ++ w ∷ []) left_outs left_ins
  one_started ws w os left_outs is left_ins p first =
      let long = length-append ws (w ∷ []) in record {
        count = let count = p.count in omega (arith, long, count);
        both = let both = p.both in omega (arith, both);
        outs_at = λ j xs at. let same : length ws + suc j ≡ length (ws ++ w ∷ []) + j = omega (arith, long) in
            subst (λ k. At outs k xs) same (p.outs_at (suc j) xs at);
        ins_at = λ j xs at. let same : length ws + suc j ≡ length (ws ++ w ∷ []) + j = omega (arith, long) in
            subst (λ k. At ins k xs) same (p.ins_at (suc j) xs at);
        each = λ v x at. ⊎_elim (λ (h : At ws v x). p.each v x h)
            (λ (h : (v ≡ length ws) × (w ≡ x)).
            subst (λ k. IsFirst space n outs ins k x) (sym h.0) (subst (IsFirst space n outs ins (length ws)) h.1 one))
            (at_snoc ws w v x at);
      }
    where
      none_more : length ws + 0 ≡ length ws
      none_more = omega arith

      one : IsFirst space n outs ins (length ws) w
      one = record {
        is = subst (λ (xs : List (Out F)). IsFirstWorker space (length ws) n xs w.ins w) (sym first.outs)
            (subst (λ (xs : List (In F)). IsFirstWorker space (length ws) n os xs w) (sym first.ins) first);
        sends = subst (λ (xs : List (Out F)). At outs (length ws) xs) (sym first.outs) (subst (λ k. At outs k os) none_more (p.outs_at 0 os refl));
        receives = subst (λ (xs : List (In F)). At ins (length ws) xs) (sym first.ins) (subst (λ k. At ins k is) none_more (p.ins_at 0 is refl));
      }

  pub all_started : (ws : List (WorkerOf S F)) (left_outs : List (List (Out F))) (left_ins : List (List (In F))) → AreStarting ws left_outs left_ins
      → length left_outs ≡ 0 → AreFirstWorkers space n outs ins ws
  all_started ws left_outs left_ins p none = record { len = let count = p.count in omega (arith, count, none); each = p.each }

module _ {F : Type 0} (capacity n : ℕ) (outs : List (List (Out F))) (ins : List (List (In F))) (fresh : AreFreshLinks capacity n outs ins) {S : Type 0} (space : SpaceOf S) where
  pub starts : (ws : List (WorkerOf S F)) (los : List (List (Out F))) (lis : List (List (In F))) → ws ≡ [] → los ≡ outs → lis ≡ ins → AreStarting space n outs ins ws los lis
  starts ws los lis none a b =
      subst (λ xs. AreStarting space n outs ins xs los lis) (sym none)
      (subst (λ xs. AreStarting space n outs ins [] xs lis) (sym a)
      (subst (λ xs. AreStarting space n outs ins [] outs xs) (sym b) (none_started space n outs ins fresh.senders fresh.receivers)))

  module _ (ws : List (WorkerOf S F)) (los : List (List (Out F))) (lis : List (List (In F))) (os : List (Out F)) (is : List (In F)) (rest_outs : List (List (Out F)))
      (rest_ins : List (List (In F))) (p : AreStarting space n outs ins ws los lis) (a : los ≡ os ∷ rest_outs) (b : lis ≡ is ∷ rest_ins) where
    as_next : AreStarting space n outs ins ws (os ∷ rest_outs) (is ∷ rest_ins)
    as_next = subst (λ xs. AreStarting space n outs ins ws (os ∷ rest_outs) xs) b (subst (λ xs. AreStarting space n outs ins ws xs lis) a p)

    none_more : length ws + 0 ≡ length ws
    none_more = omega arith

    pub next_sends : (count : ℕ) → count ≡ n → (length os ≡ count) × ((values : F → List ℕ) (v : ℕ) → sent_to values os v ≡ [])
    next_sends count e =
        let one = none_sent capacity n outs ins fresh (length ws) os (subst (λ k. At outs k os) none_more (as_next.outs_at 0 os refl)) in
        (one.0 ∙ sym e, one.1)

    pub next_receives : (count : ℕ) → count ≡ n → (length is ≡ count) × ((values : F → List ℕ) (u : ℕ) → received_from values is u ≡ [])
    next_receives count e =
        let one = none_received capacity n outs ins fresh (length ws) is (subst (λ k. At ins k is) none_more (as_next.ins_at 0 is refl)) in
        (one.0 ∙ sym e, one.1)

    pub next_started : (number count : ℕ) (w : WorkerOf S F) (now : List (WorkerOf S F)) → number ≡ length ws → count ≡ n
        → IsFirstWorker space number count os is w → now ≡ ws ++ w ∷ [] → AreStarting space n outs ins now rest_outs rest_ins
    next_started number count w now at total first is_now =
        subst (λ xs. AreStarting space n outs ins xs rest_outs rest_ins) (sym is_now)
        (one_started space n outs ins ws w os rest_outs is rest_ins as_next
        (subst (λ k. IsFirstWorker space k n os is w) at (subst (λ m. IsFirstWorker space number m os is w) total first)))

pub either : {A B P : Type 0} → A ⊎ B → (A → P) → (B → P) → P
either s f g = ⊎_elim f g s

pub rows_long : {A G : Type 0} (vs : List (Vec A G)) → length (rows vs) ≡ length vs
rows_long [] = refl
rows_long (v ∷ vs) = ap suc (rows_long vs)

-- the ends of a table of links
pub fresh_rows : {F G H : Type 0} (capacity n : ℕ) (outs : List (Vec (Out F) G)) (ins : List (Vec (In F) H)) → HasSize n n (rows outs) → HasSize n n (rows ins)
    → AreMatched capacity (rows outs) (rows ins) → (length outs ≡ n) × AreFreshLinks capacity (length outs) (rows outs) (rows ins)
fresh_rows capacity n outs ins tall tall_in matched =
    let long : length outs ≡ n = sym (rows_long outs) ∙ tall.0 in (
      long,
      subst (λ k. AreFreshLinks capacity k (rows outs) (rows ins)) (sym long) (record { senders = tall; receivers = tall_in; matched = matched }),
    )

-- the team of all of them
module _ {S F : Type 0} (capacity n count : ℕ) (outs : List (List (Out F))) (ins : List (List (In F))) (fresh : AreFreshLinks capacity n outs ins)
    (space : SpaceOf S) (ws : List (WorkerOf S F)) (first : AreFirstWorkers space n outs ins ws) (same : n ≡ count) (d : Distance) (none : d ≡ Infinite) where
  pub starts_team : 0 < count → IsTeam (record { space = space; workers = ws; best = d })
  starts_team some = subst (λ b. IsTeam (record { space = space; workers = ws; best = b })) (sym none)
      (first_is_team capacity n outs ins fresh space ws first (omega (arith, some, same)))

  pub starts_first : (room : ℕ) → capacity ≡ room → IsFirstTeam space count room (record { space = space; workers = ws; best = d })
  starts_first room is = subst (λ b. IsFirstTeam space count room (record { space = space; workers = ws; best = b })) (sym none)
      (subst (λ c. IsFirstTeam space count c (record { space = space; workers = ws; best = Infinite })) is
      (subst (λ m. IsFirstTeam space m capacity (record { space = space; workers = ws; best = Infinite })) same
      (first_team capacity n outs ins fresh space ws first)))
