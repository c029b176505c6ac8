-- The end of a world: what its owners and the messages underway come to.
use Rattle.std.proofs.Common.{◌≡◌, ◌≢◌, ℕ, zero, suc, ◌+◌, ◌<◌, ◌≤◌, ◌==◌, true, false, List, [], ◌∷◌, ◌++◌, length, map, All, refl, sym, ap, ◌∙◌, subst, ⊎_elim, arith}
use Rattle.std.specs.Prelude.{flat_map}
use Rattle.std.proofs.Math.Logic.{∥∥₁_elim}
use Rattle.cost.specs.Distances.{Distance}
use Rattle.std.specs.List.{range_with_len}
use Rattle.std.specs.List.Sorted.{IsPermutation}
use Rattle.std.proofs.lemmas.List.Sorted.{IsPermutation-refl, IsPermutation-sym, IsPermutation-cons, IsPermutation-middle, IsPermutation-trans, IsPermutation-append_right}
use Rattle.std.proofs.lemmas.List.Elements.{All-append, All-nil, All-head, All-tail, All-cons}
use Rattle.std.proofs.lemmas.Bool.{cond-true, cond-false, eqb-true, eqb-false, ne_eqb, cases_Bool}
use Rattle.std.specs.declared.collections.VecDeque.{VecDeque}
use Rattle.std.specs.Global.{Global}
use Rattle.fdr.specs.Tasks.{ranges, IsState}
use Rattle.owner_theory.specs.Owners as machine
use Rattle.owner_theory.specs.Owners.{At, SearchSpace, Packet}
use Rattle.owner_theory.specs.Families.{IsSearchSpace, Family}
use Rattle.owner_theory.specs.Worlds.{World, family_of}
use Rattle.owner_theory.proofs.Worlds.{run_ok, lawful}
use Rattle.owner.specs.Owned.{OwnerOf, IsMessageTo, max_total}
use Rattle.extract.specs.Views.{packets_in, all_packets}
use Rattle.extract.specs.Ends.{EndOf, IsForm, IsEndOf}
use Rattle.netcore.specs.declared.step.WorldStep.{WorldStep}
use Rattle.netcore.specs.Worlds.{WorldOf, space_in, packets_to, left_in, Shows, IsAfter, world_after_run}
use Rattle.netcore.specs.Kept.{IsWorld}
use Rattle.netcore.proofs.Places.{at_some, at_below}

-- ---- lists of lists
pub joined_same : {F : Type 0} (values : F → List ℕ) (queues : List (VecDeque (Rattle.extract.specs.declared.packet.Packet.Packet F) Global))
    → flat_map (λ ps. ps) (map (packets_in values) queues) ≡ all_packets values queues
joined_same values [] = refl
joined_same values (q ∷ queues) = ap (λ ps. packets_in values q ++ ps) (joined_same values queues)

all_joined : (P : Packet → Type 0) (qs : List (List Packet)) → ((v : ℕ) (ps : List Packet) → At qs v ps → All P ps) → All P (flat_map (λ ps. ps) qs)
all_joined P [] each = All-nil P
all_joined P (q ∷ qs) each = All-append P q (flat_map (λ ps. ps) qs) (each 0 q refl) (all_joined P qs (λ v ps at. each (suc v) ps at))

all_weaker : (P Q : Packet → Type 0) → ((p : Packet) → P p → Q p) → (ps : List Packet) → All P ps → All Q ps
all_weaker P Q f [] all = All-nil Q
all_weaker P Q f (p ∷ ps) all = All-cons Q p ps (f p (All-head P p ps all)) (all_weaker P Q f ps (All-tail P p ps all))

-- ---- the messages underway, by owner
module _ (space : SearchSpace) where
  abbrev by_owner : ℕ → ℕ → List Packet → List Packet
  by_owner base n ps = flat_map (λ v. packets_to space v ps) (range_with_len base n)

  none_more : (p : Packet) (ps : List Packet) (base n : ℕ) → space.owner_of p.message.state < base → by_owner base n (p ∷ ps) ≡ by_owner base n ps
  none_more p ps base zero lt = refl
  none_more p ps base (suc n) lt =
      ap (λ q. q ++ by_owner (base + 1) n (p ∷ ps))
      (cond-false (space.owner_of p.message.state == base) (p ∷ packets_to space base ps) (packets_to space base ps)
      (ne_eqb (space.owner_of p.message.state) base (λ e. absurd (omega (arith, e)))))
      ∙ ap (λ q. packets_to space base ps ++ q) (none_more p ps (base + 1) n (omega arith))

  one_more : (p : Packet) (ps : List Packet) (base n : ℕ) → base ≤ space.owner_of p.message.state → space.owner_of p.message.state < base + n
      → IsPermutation (p ∷ by_owner base n ps) (by_owner base n (p ∷ ps))
  one_more p ps base zero le lt = absurd (omega arith)
  one_more p ps base (suc n) le lt = ⊎_elim
      (λ (mine : (space.owner_of p.message.state == base) ≡ true).
      let same : by_owner base (suc n) (p ∷ ps) ≡ p ∷ by_owner base (suc n) ps =
      ap (λ q. q ++ by_owner (base + 1) n (p ∷ ps))
      (cond-true (space.owner_of p.message.state == base) (p ∷ packets_to space base ps) (packets_to space base ps) mine)
      ∙ ap (λ q. p ∷ packets_to space base ps ++ q)
      (none_more p ps (base + 1) n (let e = eqb-true (space.owner_of p.message.state) base mine in omega (arith, e))) in
      subst (IsPermutation (p ∷ by_owner base (suc n) ps)) (sym same) (IsPermutation-refl (p ∷ by_owner base (suc n) ps)))
      (λ (other : (space.owner_of p.message.state == base) ≡ false).
      let queue = packets_to space base ps in
      let rest = by_owner (base + 1) n ps in
      let more = by_owner (base + 1) n (p ∷ ps) in
      let same : by_owner base (suc n) (p ∷ ps) ≡ queue ++ more =
      ap (λ q. q ++ more) (cond-false (space.owner_of p.message.state == base) (p ∷ queue) queue other) in
      let ne : space.owner_of p.message.state ≢ base = eqb-false (space.owner_of p.message.state) base other in
      subst (IsPermutation (p ∷ (queue ++ rest))) (sym same)
      (IsPermutation-trans (p ∷ (queue ++ rest)) (queue ++ p ∷ rest) (queue ++ more)
      (IsPermutation-sym (queue ++ p ∷ rest) (p ∷ (queue ++ rest)) (IsPermutation-middle queue p rest))
      (IsPermutation-append_right queue (p ∷ rest) more (one_more p ps (base + 1) n (omega (arith, ne)) (omega arith)))))
      (cases_Bool (space.owner_of p.message.state == base))

  nothing_by_owner : (base n : ℕ) → by_owner base n [] ≡ []
  nothing_by_owner base zero = refl
  nothing_by_owner base (suc n) = nothing_by_owner (base + 1) n

  pub all_by_owner : (n : ℕ) (ps : List Packet) → ((state : List ℕ) → space.owner_of state < n) → IsPermutation ps (by_owner 0 n ps)
  all_by_owner n [] below = subst (IsPermutation []) (sym (nothing_by_owner 0 n)) (IsPermutation-refl [])
  all_by_owner n (p ∷ ps) below = IsPermutation-trans (p ∷ ps) (p ∷ by_owner 0 n ps) (by_owner 0 n (p ∷ ps))
      (IsPermutation-cons p ps (by_owner 0 n ps) (all_by_owner n ps below))
      (one_more p ps 0 n (omega arith) (let lt = below p.message.state in omega arith))

joined_as : (g : ℕ → List Packet) (base : ℕ) (qs : List (List Packet)) → ((v : ℕ) (q : List Packet) → At qs v q → g (base + v) ≡ q)
    → flat_map g (range_with_len base (length qs)) ≡ flat_map (λ ps. ps) qs
joined_as g base [] each = refl
joined_as g base (q ∷ qs) each =
    let no_more : base + 0 ≡ base = omega arith in
    let first : g base ≡ q = subst (λ k. g k ≡ q) no_more (each 0 q refl) in
    ap (λ z. z ++ flat_map g (range_with_len (base + 1) (length qs))) first
    ∙ ap (λ z. q ++ z) (joined_as g (base + 1) qs (λ v r at.
    let same : base + 1 + v ≡ base + suc v = omega arith in subst (λ k. g k ≡ r) (sym same) (each (suc v) r at)))

-- ---- what every world is
module _ {S : Type 0} (owner : S → List ℕ → ℕ → ℕ) where
  abbrev pub end_of : WorldOf S → EndOf S
  end_of w = record { space = w.space; owners = w.owners; left = left_in w }

  pub form_of : (w : WorldOf S) → IsWorld owner w → IsForm (end_of w)
  form_of w is = record {
    some = is.some;
    each = λ v o at. (is.spaces v o at, is.workers v o at, is.outboxes v o at);
    left = all_joined (λ p. IsState (ranges w.space.task) p.message.state × (p.message.cost ≤ max_total)) w.underway
        (λ v ps at. all_weaker (λ p. IsMessageTo (space_in owner w) v p.message)
        (λ p. IsState (ranges w.space.task) p.message.state × (p.message.cost ≤ max_total))
        (λ p ok. (ok.state, ok.cost)) ps (is.messages v ps at));
  }

  pub left_of : (w : WorldOf S) (world : World) → IsWorld owner w → ((state : List ℕ) → owner w.space.spread state (length w.owners) < length w.owners)
      → Shows owner w world → IsPermutation world.underway (left_in w)
  left_of w world is below shows =
      let space = space_in owner w in
      subst (IsPermutation world.underway)
      (ap (λ n. flat_map (λ v. packets_to space v world.underway) (range_with_len 0 n)) (sym is.queues)
      ∙ joined_as (λ v. packets_to space v world.underway) 0 w.underway (λ v q at. let same : v ≡ 0 + v = omega arith in subst (λ k. packets_to space k world.underway ≡ q) same (shows.underway v q at)))
      (all_by_owner space (length w.owners) world.underway below)

  pub end_from : (w : WorldOf S) (asked : List WorldStep) (after : IsAfter owner (space_in owner w) asked w) → IsWorld owner w
      → IsSearchSpace (space_in owner w) → IsEndOf owner (end_of w) (family_of (world_after_run (space_in owner w) after.steps))
  end_from w asked after is sp =
      let space = space_in owner w in
      let world = world_after_run space after.steps in
      let bound_at : (v : ℕ) (o : OwnerOf S) → At w.owners v o → (b : Distance) × At w.seen v b =
      λ v o at. at_some w.seen v (let lt = at_below w.owners v o at in let n = is.bounds in omega arith) in
      record {
        lawful = lawful space world sp (run_ok space after.steps sp);
        nodes = λ v o at. let (b, seen) = bound_at v o at in ap (λ (x : machine.Owner). x.nodes) (after.shown.owners v o b at seen).owner;
        outboxes = λ v o at. let (b, seen) = bound_at v o at in ap (λ (x : machine.Owner). x.outboxes) (after.shown.owners v o b at seen).owner;
        best = λ v o at. let (b, seen) = bound_at v o at in ap (λ (x : machine.Owner). x.best) (after.shown.owners v o b at seen).owner;
        counted = λ v o at. let (b, seen) = bound_at v o at in (after.shown.owners v o b at seen).counted;
        allowed = λ v o at. let (b, seen) = bound_at v o at in (after.shown.owners v o b at seen).allowed;
        left = left_of w world is sp.owner after.shown;
      }

  pub lawful_end : (w : WorldOf S) → IsWorld owner w → IsSearchSpace (space_in owner w) → ∥ ((family : Family) × IsEndOf owner (end_of w) family) ∥₁
  lawful_end w is sp = ∥∥₁_elim is.run squash₁
      (λ some. let (asked, after) = some in ∣ (family_of (world_after_run (space_in owner w) after.steps), end_from w asked after is sp) ∣₁)
