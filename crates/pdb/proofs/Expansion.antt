-- A state is settled once the values of the sources of its transitions are lowered.
use Rattle.std.specs.Prelude.{Contains, IsPermutation}
use Rattle.std.proofs.Common.{◌≡◌, ℕ, ◌+◌, ◌<◌, ◌≤◌, ◌⊎◌, List, [], ◌∷◌, length, slice_index, get_or, Option, Some, None, refl, sym, ap, ◌∙◌, subst, inl, inr, ⊎_elim, arith}
use Rattle.std.specs.Option.{option_map_or}
use Rattle.std.proofs.lemmas.Bool.{cases_eq}
use Rattle.std.proofs.lemmas.List.{get_or_read}
use Rattle.std.proofs.lemmas.List.Elements.{Contains-get_or, Contains-append_right}
use Rattle.std.proofs.lemmas.List.Sorted.{Contains-permutation, IsPermutation-sym}
use Rattle.abstraction.specs.Abstractions.{Abstraction}
use Rattle.abstraction_groups.specs.declared.backward.Transition.{Transition}
use Rattle.abstraction_groups.specs.Entrances.{LeadsTo, Classes, AreClasses, IsEntering, AreEntering}
use Rattle.pdb.specs.declared.queue.Entry.{Entry}
use Rattle.pdb.specs.Classes.{share_by}
use Rattle.pdb.proofs.Lowering.{cases_front}
use Rattle.pdb.specs.Searches.{entry_of, IsSound, IsSettled, IsQueued, IsSearch, IsSearchBut}

-- a default if a list has no transition at an index
abbrev pub no_transition : Transition
no_transition = record { class = 0; source = 0 }

-- the number of an operator is that of its class
pub share_told : (classes : Classes) (numbers : List ℕ) (o c : ℕ) → classes.class o ≡ Some c → share_by classes numbers o ≡ slice_index numbers c
share_told classes numbers o c e = ap (λ (r : Option ℕ). option_map_or (λ c. slice_index numbers c) r 0) e

pub share_none : (classes : Classes) (numbers : List ℕ) (o : ℕ) → classes.class o ≡ None → share_by classes numbers o ≡ 0
share_none classes numbers o e = ap (λ (r : Option ℕ). option_map_or (λ c. slice_index numbers c) r 0) e

-- if the numbers are small, so are those of operators
pub shares_small : (classes : Classes) (numbers : List ℕ) (n : ℕ) → 0 < n → ((c : ℕ) → slice_index numbers c < n) → (o : ℕ) → share_by classes numbers o < n
shares_small classes numbers n some small o = go (classes.class o)
  where
    go : (r : Option ℕ) → option_map_or (λ c. slice_index numbers c) r 0 < n
    go None = some
    go (Some c) = small c

-- a listed transition is one of an operator of its class
pub listed_leads : (a : Abstraction) (classes : Classes) (j : ℕ) (ts : List Transition) → AreEntering a classes j ts → (k : ℕ) → k < length ts → IsEntering a classes j (get_or ts k no_transition)
listed_leads a classes j ts are k l = (are (get_or ts k no_transition)).0 (Contains-get_or ts k no_transition l)

-- what holds of each listed transition holds of each transition
pub of_each : (a : Abstraction) (classes : Classes) (j : ℕ) (ts : List Transition) (P : ℕ → ℕ → Type 0) → AreEntering a classes j ts →
    ((k : ℕ) → k < length ts → P (get_or ts k no_transition).class (get_or ts k no_transition).source) → (o c i : ℕ) → classes.class o ≡ Some c → LeadsTo a o i j → P c i
of_each a classes j ts P are each o c i e step =
    let t : Transition = record { class = c; source = i } in
    let w = (are t).1 (o, e, step) in
    let same : get_or ts w.0 no_transition ≡ t = sym (get_or_read ts w.0 t w.1 (sym w.2) no_transition) in
    subst (λ (u : Transition). P u.class u.source) same (each w.0 w.1)

-- an entry is taken from the queue
module _ (a : Abstraction) (share : ℕ → ℕ) (values : List ℕ) (before after : List Entry) (e : Entry) (search : IsSearch a share values before) (taken : IsPermutation before (e ∷ after)) where
  was_queued : (x : Entry) → Contains after x → Contains before x
  was_queued x has = Contains-permutation (e ∷ after) before x (IsPermutation-sym before (e ∷ after) taken) (Contains-append_right (e ∷ []) after x has)

  taken_queued : Contains before e
  taken_queued = Contains-permutation (e ∷ after) before e (IsPermutation-sym before (e ∷ after) taken) (Contains-get_or (e ∷ after) 0 e (omega arith))

  still_queued : (x : Entry) → Contains before x → (e ≡ x) ⊎ Contains after x
  still_queued x has = cases_front e after x (Contains-permutation before (e ∷ after) x taken has)

  pub inside_taken : e.state < a.size
  inside_taken = search.sound.inside e taken_queued

  sound_taken : IsSound a share values after
  sound_taken =
      record {
        as_long = search.sound.as_long;
        small = search.sound.small;
        totals = search.sound.totals;
        bounds = search.sound.bounds;
        goals = search.sound.goals;
        inside = λ x has. search.sound.inside x (was_queued x has);
        queued = λ x has. search.sound.queued x (was_queued x has);
      }

  -- a state of which another entry was taken is still queued or settled
  settled_taken : (s : ℕ) → s < a.size → (e ≡ entry_of s (slice_index values s) → ⊥) → IsQueued values after s ⊎ IsSettled a share values s
  settled_taken s l other =
      ⊎_elim
      (λ (q : IsQueued values before s). ⊎_elim
      (λ (same : e ≡ entry_of s (slice_index values s)). absurd (other same))
      (λ (q : IsQueued values after s). inl q)
      (still_queued (entry_of s (slice_index values s)) q))
      (λ (h : IsSettled a share values s). inr h)
      (search.settled s l)

  -- the entry is current
  pub IsSearchBut-taken : slice_index values e.state ≡ e.value → IsSearchBut a share values after e.state
  IsSearchBut-taken current =
      record {
        sound = sound_taken;
        inside = inside_taken;
        has_value = omega (arith, search.sound.queued e taken_queued);
        settled = λ s l ne. settled_taken s l (λ same. ne (sym (ap (λ (x : Entry). x.state) same)));
      }

  -- the entry is stale
  pub IsSearch-skipped : (slice_index values e.state ≡ e.value → ⊥) → IsSearch a share values after
  IsSearch-skipped stale =
      record {
        sound = sound_taken;
        settled = λ s l. settled_taken s l (λ same.
            let state : e.state ≡ s = ap (λ (x : Entry). x.state) same in
            let value : e.value ≡ slice_index values s = ap (λ (x : Entry). x.value) same in
            stale (ap (slice_index values) state ∙ sym value));
      }

-- the values of the sources are as low as each transition into the state requires
pub IsSearch-expanded : (a : Abstraction) (classes : Classes) (least values : List ℕ) (queue : List Entry) (b : ℕ) (ts : List Transition) → AreClasses a classes → AreEntering a classes b ts →
    IsSearchBut a (share_by classes least) values queue b →
    ((k : ℕ) → k < length ts → slice_index values (get_or ts k no_transition).source ≤ slice_index values b + slice_index least (get_or ts k no_transition).class) →
    IsSearch a (share_by classes least) values queue
IsSearch-expanded a classes least values queue b ts grouped are search lowered =
    record {
      sound = search.sound;
      settled = λ s l. ⊎_elim
          (λ (e : s ≡ b). inr (subst (λ (x : ℕ). IsSettled a (share_by classes least) values x) (sym e) all))
          (λ (ne : s ≡ b → ⊥). search.settled s l ne)
          (cases_eq s b);
    }
  where
    all : IsSettled a (share_by classes least) values b
    all o i step = go (classes.class o) refl
      where
        go : (r : Option ℕ) → classes.class o ≡ r → slice_index values i ≤ share_by classes least o + slice_index values b
        go None e = let same = ap (slice_index values) (grouped.others o i b e search.inside step) in omega arith
        go (Some c) e =
            let l : slice_index values i ≤ slice_index values b + slice_index least c =
            of_each a classes b ts (λ (c i : ℕ). slice_index values i ≤ slice_index values b + slice_index least c) are lowered o c i e step in
            omega (arith, share_told classes least o c e)
