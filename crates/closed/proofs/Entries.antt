-- States as they lie in memory: what is found among them, and what writing does to their nodes.
use Rattle.std.proofs.Common.{◌≡◌, ℕ, zero, suc, ◌+◌, ◌<◌, Bool, true, false, List, [], ◌∷◌, ◌++◌, length, Option, Some, None, position, refl, sym, ap, ◌∙◌, subst, arith, if◌then◌else◌}
use Rattle.std.specs.Prelude.{slice_get, slice_set, All, IsTrue}
use Rattle.std.specs.List.{position_from}
use Rattle.std.specs.Map.{keys_of, values_of}
use Rattle.std.specs.Ordering.{nat_cmp, partial_ordering_then, is_some_and, is_lt}
use Rattle.std.proofs.lemmas.Bool.Decides.{nat_tests}
use Rattle.std.proofs.lemmas.List.{length-map, map-append}
use Rattle.std.proofs.lemmas.List.Elements.{All-nil, All-cons, All-head, All-tail}
use Rattle.std.proofs.lemmas.Iterator.Adapters.{position_from-zero}
use Rattle.owner_theory.specs.Owners.{Node, same_state, rank_less}
use Rattle.owner_theory.proofs.States.{same_state-true, same_state_refl}
use Rattle.owner_theory.proofs.Lists.{get_below}
use Rattle.openlist.specs.declared.entry.Rank.{Rank}
use Rattle.closed.specs.declared.table.Entry.{Entry}
use Rattle.closed.specs.declared.table.Outcome.{Outcome}
use Rattle.closed.specs.declared.table.Outcome.TheVariants.{New, Better, Kept}
use Rattle.closed.specs.declared.small_entry.SmallEntry.{SmallEntry}
use Rattle.closed.specs.Tables.{node_with, reached, outcome_from, outcome_of}
use Rattle.closed.specs.Entries.{entry_in, nodes_of, with_entry, set_entry_at}
use Rattle.closed.proofs.Reached.{outcome_of-New, outcome_of-Better}

-- the comparison of ranks is that of nodes
pub is_lt-rank_less : (x y : Rank) →
    is_some_and is_lt (partial_ordering_then (Some (nat_cmp x.cost y.cost)) (Some (nat_cmp x.steps y.steps)))
    ≡ rank_less x.cost x.steps y.cost y.steps
is_lt-rank_less x y = grind (arith, nat_tests)

-- ---- forms

-- two forms are equal exactly where their values are
pub record Compares {F : Type 0} (values : F → List ℕ) (IsForm : F → Type 0) (eq : F → F → Bool) : Type 0 where
  pub decides : (f g : F) → IsForm f → IsForm g → same_state (values g) (values f) ≡ eq f g

module _ {F : Type 0} (values : F → List ℕ) (IsForm : F → Type 0) (eq : F → F → Bool)
    (equal : (f g : F) → IsForm f → IsForm g → values f ≡ values g → IsTrue (eq f g))
    (same : (f g : F) → IsForm f → IsForm g → IsTrue (eq f g) → values f ≡ values g) where
  by_cases : (f g : F) → IsForm f → IsForm g → (x y : Bool) → same_state (values g) (values f) ≡ x → eq f g ≡ y → x ≡ y
  by_cases f g form form' true true s e = refl
  by_cases f g form form' false false s e = refl
  by_cases f g form form' true false s e =
      let told : eq f g ≡ true = equal f g form form' (sym (same_state-true (values g) (values f) s)) in cc
  by_cases f g form form' false true s e =
      let told : same_state (values g) (values f) ≡ true =
      ap (λ (v : List ℕ). same_state (values g) v) (same f g form form' e) ∙ same_state_refl (values g) in
      cc

  pub compares : Compares values IsForm eq
  compares =
      record { decides = λ f g form form'. by_cases f g form form' (same_state (values g) (values f)) (eq f g) refl refl }

-- ---- what is found

module _ {F : Type 0} (values : F → List ℕ) (IsForm : F → Type 0) (eq : F → F → Bool)
    (compares : Compares values IsForm eq) (key : F) (form : IsForm key) (m : Node) (state : values key ≡ m.state) where
  same_state-eq : (p : F) → IsForm p → same_state (values p) m.state ≡ eq key p
  same_state-eq p is =
      ap (λ (s : List ℕ). same_state (values p) s) (sym state) ∙ compares.decides key p form is

  -- the outcome at an entry, by whether it is of the state
  abbrev at_entry : Bool → ℕ → F × SmallEntry → List (F × SmallEntry) → Outcome
  at_entry same at p ps =
      if same
      then (if rank_less m.cost m.steps p.1.cost p.1.steps then Better at else Kept)
      else outcome_from (suc at) (nodes_of values ps) m

  outcome_is : (same : Bool) (at : ℕ) (p : F × SmallEntry) (ps : List (F × SmallEntry)) → IsForm p.0 → eq key p.0 ≡ same →
      outcome_from at (nodes_of values (p ∷ ps)) m ≡ at_entry same at p ps
  outcome_is same at p ps is e = ap (λ (b : Bool). at_entry b at p ps) (same_state-eq p.0 is ∙ e)

  none_found : (entries : List (F × SmallEntry)) (i at : ℕ) → All (λ p. IsForm p.0) entries →
      position_from (eq key) i (keys_of entries) ≡ None → outcome_from at (nodes_of values entries) m ≡ New (at + length entries)
  none_found [] i at all h = ap New (omega arith)
  none_found (p ∷ ps) i at all h =
      go (eq key p.0) refl (none_found ps (i + 1) (suc at) (All-tail (λ q. IsForm q.0) p ps all)) h
    where
      go : (same : Bool) → eq key p.0 ≡ same →
          (position_from (eq key) (i + 1) (keys_of ps) ≡ None →
          outcome_from (suc at) (nodes_of values ps) m ≡ New (suc at + length ps)) →
          (if same then Some i else position_from (eq key) (i + 1) (keys_of ps)) ≡ None →
          outcome_from at (nodes_of values (p ∷ ps)) m ≡ New (at + length (p ∷ ps))
      go true e rest h = absurd (cc)
      go false e rest h =
          outcome_is false at p ps (All-head (λ q. IsForm q.0) p ps all) e ∙ rest h ∙ ap New (omega arith)

  -- an entry of the state, found behind some others
  record FoundFrom (entries : List (F × SmallEntry)) (before i : ℕ) : Type 0 where
    pub place : ℕ
    pub entry : SmallEntry
    pub behind : i ≡ before + place
    pub there : slice_get (values_of entries) place ≡ Some entry
    pub outcome : (at : ℕ) → outcome_from at (nodes_of values entries) m
        ≡ (if rank_less m.cost m.steps entry.cost entry.steps then Better (at + place) else Kept)

  some_found : (entries : List (F × SmallEntry)) (before i : ℕ) → All (λ p. IsForm p.0) entries →
      position_from (eq key) before (keys_of entries) ≡ Some i → FoundFrom entries before i
  some_found [] before i all h = absurd (cc)
  some_found (p ∷ ps) before i all h =
      go (eq key p.0) refl (some_found ps (before + 1) i (All-tail (λ q. IsForm q.0) p ps all)) h
    where
      is : IsForm p.0
      is = All-head (λ q. IsForm q.0) p ps all

      go : (same : Bool) → eq key p.0 ≡ same →
          (position_from (eq key) (before + 1) (keys_of ps) ≡ Some i → FoundFrom ps (before + 1) i) →
          (if same then Some before else position_from (eq key) (before + 1) (keys_of ps)) ≡ Some i →
          FoundFrom (p ∷ ps) before i
      go true e rest h =
          let here : before ≡ i = cc in
          record {
            place = 0;
            entry = p.1;
            behind = omega arith;
            there = refl;
            outcome = λ at. outcome_is true at p ps is e
                ∙ ap (λ (k : ℕ). if rank_less m.cost m.steps p.1.cost p.1.steps then Better k else Kept) (omega arith);
          }
      go false e rest h =
          let found = rest h in
          record {
            place = suc found.place;
            entry = found.entry;
            behind = let b = found.behind in omega arith;
            there = found.there;
            outcome = λ at. outcome_is false at p ps is e ∙ found.outcome (suc at)
                ∙ ap (λ (k : ℕ). if rank_less m.cost m.steps found.entry.cost found.entry.steps then Better k else Kept)
                (omega arith);
          }

  pub outcome_of-missing : (entries : List (F × SmallEntry)) → All (λ p. IsForm p.0) entries →
      position (eq key) (keys_of entries) ≡ None → outcome_of (nodes_of values entries) m ≡ New (length entries)
  outcome_of-missing entries all h =
      none_found entries 0 0 all (sym (position_from-zero (eq key) (keys_of entries)) ∙ h) ∙ ap New (omega arith)

  pub outcome_of-found : (entries : List (F × SmallEntry)) (i : ℕ) (e : SmallEntry) → All (λ p. IsForm p.0) entries →
      position (eq key) (keys_of entries) ≡ Some i → slice_get (values_of entries) i ≡ Some e →
      outcome_of (nodes_of values entries) m ≡ (if rank_less m.cost m.steps e.cost e.steps then Better i else Kept)
  outcome_of-found entries i e all h there =
      let found = some_found entries 0 i all (sym (position_from-zero (eq key) (keys_of entries)) ∙ h) in
      let here : found.place ≡ i = let b = found.behind in omega arith in
      let at : slice_get (values_of entries) i ≡ Some found.entry =
      subst (λ (k : ℕ). slice_get (values_of entries) k ≡ Some found.entry) here found.there in
      let same : found.entry ≡ e = cc in
      subst
      (λ (x : SmallEntry). outcome_of (nodes_of values entries) m
      ≡ (if rank_less m.cost m.steps x.cost x.steps then Better i else Kept))
      same
      (found.outcome 0
      ∙ ap (λ (k : ℕ). if rank_less m.cost m.steps found.entry.cost found.entry.steps then Better k else Kept)
      (let b = here in omega arith))

  -- the same by a test of ranks
  pub outcome_of-tested : (entries now : List (F × SmallEntry)) (i : ℕ) (old entry : SmallEntry) (x y : Rank) (found : Option ℕ) (less : Bool)
      → All (λ p. IsForm p.0) entries → found ≡ position (eq key) (keys_of entries) → found ≡ Some i → now ≡ entries
      → slice_get (values_of now) i ≡ Some old → m.cost ≡ entry.cost → m.steps ≡ entry.steps
      → x ≡ record { cost = entry.cost; steps = entry.steps } → y ≡ record { cost = old.cost; steps = old.steps }
      → less ≡ is_some_and is_lt (partial_ordering_then (Some (nat_cmp x.cost y.cost)) (Some (nat_cmp x.steps y.steps)))
      → outcome_of (nodes_of values entries) m ≡ (if less then Better i else Kept)
  outcome_of-tested entries now i old entry x y found less all at is same there cost steps x_is y_is tested =
      outcome_of-found entries i old all (sym at ∙ is)
      (subst (λ (es : List (F × SmallEntry)). slice_get (values_of es) i ≡ Some old) same there)
      ∙ ap (λ (b : Bool). if b then Better i else Kept)
      ((λ j. rank_less (cost j) (steps j) old.cost old.steps)
      ∙ (λ j. rank_less (sym x_is j).cost (sym x_is j).steps (sym y_is j).cost (sym y_is j).steps)
      ∙ sym (is_lt-rank_less x y) ∙ sym tested)

  -- no entry has the key where the state is new
  pub New-missing : (entries : List (F × SmallEntry)) (i : ℕ) → All (λ p. IsForm p.0) entries →
      outcome_of (nodes_of values entries) m ≡ New i → position (eq key) (keys_of entries) ≡ None
  New-missing entries i all new = go (position (eq key) (keys_of entries)) refl
    where
      go : (r : Option ℕ) → position (eq key) (keys_of entries) ≡ r → r ≡ None
      go None h = refl
      go (Some j) h =
          let found = some_found entries 0 j all (sym (position_from-zero (eq key) (keys_of entries)) ∙ h) in
          absurd (kept (rank_less m.cost m.steps found.entry.cost found.entry.steps) found.place (sym (found.outcome 0) ∙ new))
        where
          kept : (less : Bool) (place : ℕ) → (if less then Better (0 + place) else Kept) ≡ New i → ⊥
          kept true place h = cc
          kept false place h = cc

-- what equals one of several forms is a form, if what equals a form is one
module _ {F : Type 0} (IsForm : F → Type 0) (eq : F → F → Bool) (key : F)
    (like : (p : F) → IsForm p → IsTrue (eq key p) → IsForm key) where
  equals_some : (entries : List (F × SmallEntry)) (before i : ℕ) → All (λ p. IsForm p.0) entries →
      position_from (eq key) before (keys_of entries) ≡ Some i → IsForm key
  equals_some [] before i all h = absurd (cc)
  equals_some (p ∷ ps) before i all h =
      go (eq key p.0) refl (equals_some ps (before + 1) i (All-tail (λ q. IsForm q.0) p ps all)) h
    where
      go : (same : Bool) → eq key p.0 ≡ same →
          (position_from (eq key) (before + 1) (keys_of ps) ≡ Some i → IsForm key) →
          (if same then Some before else position_from (eq key) (before + 1) (keys_of ps)) ≡ Some i → IsForm key
      go true e rest h = like p.0 (All-head (λ q. IsForm q.0) p ps all) e
      go false e rest h = rest h

  pub form-found : (entries : List (F × SmallEntry)) (i : ℕ) → All (λ p. IsForm p.0) entries →
      position (eq key) (keys_of entries) ≡ Some i → IsForm key
  form-found entries i all h = equals_some entries 0 i all (sym (position_from-zero (eq key) (keys_of entries)) ∙ h)

-- ---- what writing does

-- a state that was not there and is appended is reached
pub nodes_of-pushed : {F : Type 0} (values : F → List ℕ) (entries : List (F × SmallEntry)) (key : F) (e : SmallEntry) (state : List ℕ)
    (i : ℕ) → values key ≡ state → outcome_of (nodes_of values entries) (node_with state (entry_in e)) ≡ New i →
    nodes_of values (entries ++ (key, e) ∷ []) ≡ reached (nodes_of values entries) (node_with state (entry_in e))
nodes_of-pushed {F = F} values entries key e state i same h =
    map-append (λ (p : F × SmallEntry). node_with (values p.0) (entry_in p.1)) entries ((key, e) ∷ [])
    ∙ ap (λ (s : List ℕ). nodes_of values entries ++ node_with s (entry_in e) ∷ []) same
    ∙ sym (outcome_of-New (nodes_of values entries) (node_with state (entry_in e)) i h).appended

-- keys stay forms where one is appended
pub All-pushed : {F : Type 0} (P : F → Type 0) (entries : List (F × SmallEntry)) (key : F) (e : SmallEntry) → P key →
    All (λ p. P p.0) entries → All (λ p. P p.0) (entries ++ (key, e) ∷ [])
All-pushed P [] key e here all = All-cons (λ p. P p.0) (key, e) [] here all
All-pushed P (p ∷ ps) key e here all =
    All-cons (λ q. P q.0) p (ps ++ (key, e) ∷ []) (All-head (λ q. P q.0) p ps all)
    (All-pushed P ps key e here (All-tail (λ q. P q.0) p ps all))

-- and where a value is set
pub All-set_entry_at : {F : Type 0} (P : F → Type 0) (entries : List (F × SmallEntry)) (i : ℕ) (e : SmallEntry) →
    All (λ p. P p.0) entries → All (λ p. P p.0) (set_entry_at entries i e)
All-set_entry_at P [] i e all = all
All-set_entry_at P (p ∷ ps) zero e all =
    All-cons (λ q. P q.0) (p.0, e) ps (All-head (λ q. P q.0) p ps all) (All-tail (λ q. P q.0) p ps all)
All-set_entry_at P (p ∷ ps) (suc i) e all =
    All-cons (λ q. P q.0) p (set_entry_at ps i e) (All-head (λ q. P q.0) p ps all)
    (All-set_entry_at P ps i e (All-tail (λ q. P q.0) p ps all))

-- the values of forms are states
pub All-states : {F : Type 0} (values : F → List ℕ) (IsForm : F → Type 0) (P : List ℕ → Type 0)
    (is : (f : F) → IsForm f → P (values f)) (entries : List (F × SmallEntry)) → All (λ p. IsForm p.0) entries →
    All (λ n. P n.state) (nodes_of values entries)
All-states values IsForm P is [] all = All-nil (λ n. P n.state)
All-states values IsForm P is (p ∷ ps) all =
    All-cons (λ n. P n.state) (node_with (values p.0) (entry_in p.1)) (nodes_of values ps)
    (is p.0 (All-head (λ q. IsForm q.0) p ps all))
    (All-states values IsForm P is ps (All-tail (λ q. IsForm q.0) p ps all))

-- the key at a place is a form
pub All-key : {F : Type 0} (P : F → Type 0) (entries : List (F × SmallEntry)) (i : ℕ) (k : F) (e : SmallEntry) →
    All (λ p. P p.0) entries → slice_get entries i ≡ Some (k, e) → P k
All-key P [] i k e all h = absurd (cc)
All-key P (p ∷ ps) zero k e all h =
    let same : p ≡ (k, e) = cc in subst (λ q. P q.0) same (All-head (λ q. P q.0) p ps all)
All-key P (p ∷ ps) (suc i) k e all h = All-key P ps i k e (All-tail (λ q. P q.0) p ps all) h

pub nodes_of-set_entry_at : {F : Type 0} (values : F → List ℕ) (entries : List (F × SmallEntry)) (i : ℕ) (e : SmallEntry) →
    nodes_of values (set_entry_at entries i e) ≡ with_entry (nodes_of values entries) i (entry_in e)
nodes_of-set_entry_at values [] i e = refl
nodes_of-set_entry_at values (p ∷ ps) zero e = refl
nodes_of-set_entry_at values (p ∷ ps) (suc i) e =
    ap (λ (ns : List Node). node_with (values p.0) (entry_in p.1) ∷ ns) (nodes_of-set_entry_at values ps i e)

pub with_entry-at : (nodes : List Node) (i : ℕ) (n : Node) (e : Entry) → slice_get nodes i ≡ Some n →
    with_entry nodes i e ≡ slice_set nodes i (node_with n.state e)
with_entry-at [] i n e h = absurd (cc)
with_entry-at (x ∷ xs) zero n e h =
    let same : x ≡ n = cc in ap (λ (y : Node). node_with y.state e ∷ xs) same
with_entry-at (x ∷ xs) (suc i) n e h = ap (λ (ns : List Node). x ∷ ns) (with_entry-at xs i n e h)

-- ---- what is at a place

module _ {F : Type 0} (values : F → List ℕ) where
  -- the node is that of the entry
  pub node_at : (entries : List (F × SmallEntry)) (i : ℕ) (k : F) (e : SmallEntry) → slice_get entries i ≡ Some (k, e) →
      slice_get (nodes_of values entries) i ≡ Some (node_with (values k) (entry_in e))
  node_at [] i k e h = absurd (cc)
  node_at (p ∷ ps) zero k e h =
      let same : p ≡ (k, e) = cc in ap (λ (q : F × SmallEntry). Some (node_with (values q.0) (entry_in q.1))) same
  node_at (p ∷ ps) (suc i) k e h = node_at ps i k e h

  pub node_at-value : (entries : List (F × SmallEntry)) (i : ℕ) (e : SmallEntry) (n : Node) →
      slice_get (values_of entries) i ≡ Some e → slice_get (nodes_of values entries) i ≡ Some n →
      n ≡ node_with n.state (entry_in e)
  node_at-value [] i e n h there = absurd (cc)
  node_at-value (p ∷ ps) zero e n h there =
      let value : p.1 ≡ e = cc in
      let node : node_with (values p.0) (entry_in p.1) ≡ n = cc in
      subst (λ (x : Node). x ≡ node_with x.state (entry_in e)) node
      (ap (λ (y : SmallEntry). node_with (values p.0) (entry_in y)) value)
  node_at-value (p ∷ ps) (suc i) e n h there = node_at-value ps i e n h there

-- a node that is replaced has the state that is reached, so its entry alone is
pub with_entry-reached : (nodes : List Node) (state : List ℕ) (e : Entry) (i : ℕ) →
    outcome_of nodes (node_with state e) ≡ Better i → with_entry nodes i e ≡ reached nodes (node_with state e)
with_entry-reached nodes state e i h =
    let told = outcome_of-Better nodes (node_with state e) i h in
    with_entry-at nodes i told.node e told.there
    ∙ ap (λ (s : List ℕ). slice_set nodes i (node_with s e)) told.state
    ∙ sym told.replaced

pub Better-within : (nodes : List Node) (m : Node) (i : ℕ) → outcome_of nodes m ≡ Better i → i < length nodes
Better-within nodes m i h = let told = outcome_of-Better nodes m i h in get_below nodes i told.node told.there

-- an entry is at the place
pub Better-entry : {F : Type 0} (values : F → List ℕ) (entries : List (F × SmallEntry)) (m : Node) (i : ℕ) →
    outcome_of (nodes_of values entries) m ≡ Better i → i < length entries
Better-entry values entries m i h =
    let within = Better-within (nodes_of values entries) m i h in
    let long = length-map entries (λ p. node_with (values p.0) (entry_in p.1)) in
    omega arith
