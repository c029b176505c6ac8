-- The queue of groups, and the variables that are taken from it in turn.
use Rattle.std.proofs.Common.{◌≡◌, ℕ, zero, suc, ◌+◌, ◌<◌, ◌≤◌, append_assoc, Bool, true, false, ◌||◌, not, cond, List, [], ◌∷◌, ◌++◌, length, refl, sym, ap, subst, ◌∙◌, arith, inl, inr, ⊎_elim}
use Rattle.std.specs.Prelude.{slice_index_or, filter, nat_lt, count_by, All, Contains}
use Rattle.std.specs.List.Sorted.{IsPermutation}
use Rattle.std.specs.BinaryHeap.{IsUpperBound}
use Rattle.std.specs.Ordering.{is_lt, nat_cmp, ordering_then}
use Rattle.std.specs.declared.cmp.Ordering.{Ordering}
use Rattle.std.proofs.lemmas.Bool.{or_left, or_right, false_from_ne_true, both_ways, cases_Bool, ltb-true, ltb-false}
use Rattle.std.proofs.lemmas.Bool.Decides.{nat_tests}
use Rattle.std.proofs.lemmas.List.{append-nil}
use Rattle.std.proofs.lemmas.List.Elements.{All-nil, All-cons, All-head, All-tail, All-append}
use Rattle.std.proofs.lemmas.List.Sorted.{Contains-permutation}
use Rattle.std.proofs.lemmas.List.Sums.{sum_by-cons}
use Rattle.pddl_task.proofs.Lists.{Mem, mem_from_contains, contains_from_mem, all_mem, filter_mem}
use Rattle.index_rows.specs.Numbers.{has, IsTranspose}
use Rattle.mutex_index.specs.Places.{Indexed}
use Rattle.index_rows.proofs.NumberLaws.{has_mem, mem_has}
use Rattle.mutex.specs.Proposals.{IsProposal}
use Rattle.translate_theory.specs.Variables.{PlacedVariable}
use Rattle.translate_choice.specs.declared.choice.Choice.{Choice}
use Rattle.translate_choice.specs.declared.queue.Candidate.{Candidate}
use Rattle.translate_choice.specs.Choices.{IsChoice, AddsVariable, AddsSingles}
use Rattle.translate_choice.specs.Greedy.{is_fit, variable_of, group_at, left_by, left_of, GoesFirst, IsLargest, NoneFits, AreTakenAfter, IsSingle, IsQueued, IsQueuedIfFit, AreQueued, Keeps, IsFound, HasEach}
use Rattle.translate_choice.proofs.PlacedLaws.{fit_several, movable_within}
use Rattle.translate_choice.proofs.ChoiceLaws.{flags_after}

-- ---- the heap

-- what the derived comparison of candidates answers
abbrev pub candidate_cmp : Candidate → Candidate → Ordering
candidate_cmp x y = ordering_then (nat_cmp x.size y.size) (nat_cmp y.group.0 x.group.0)

not_less : (x y : Candidate) → is_lt (candidate_cmp x y) ≡ false → GoesFirst x.size x.group.0 y.size y.group.0
not_less x y h = ⊎_elim (λ (e : nat_lt y.size x.size ≡ true). inl (ltb-true y.size x.size e)) (λ (e : nat_lt y.size x.size ≡ false). inr (grind (arith, nat_tests), grind (arith, nat_tests))) (cases_Bool (nat_lt y.size x.size))

-- no candidate goes before the greatest
pub greatest_first : (x : Candidate) (xs : List Candidate) → IsUpperBound candidate_cmp x xs → All (λ y. GoesFirst x.size x.group.0 y.size y.group.0) xs
greatest_first x [] h = All-nil (λ y. GoesFirst x.size x.group.0 y.size y.group.0)
greatest_first x (y ∷ ys) h =
    All-cons (λ z. GoesFirst x.size x.group.0 z.size z.group.0) y ys (not_less x y h.0) (greatest_first x ys h.1)

-- one more candidate
pub keeps_pushed : (c : Candidate) (old new : List Candidate) → IsPermutation (c ∷ old) new → Keeps old new
keeps_pushed c old new order size number (d, m, s, g) =
    (d, Contains-permutation (c ∷ old) new d order (contains_from_mem (c ∷ old) d (inr (mem_from_contains old d m))), s, g)

pub queued_pushed : (c : Candidate) (old new : List Candidate) → IsPermutation (c ∷ old) new → IsQueued new c.size c.group.0
queued_pushed c old new order = (c, Contains-permutation (c ∷ old) new c order (contains_from_mem (c ∷ old) c (inl refl)), refl, refl)

pub keeps_self : (queue : List Candidate) → Keeps queue queue
keeps_self queue size number h = h

pub keeps_both : (a b c : List Candidate) → Keeps a b → Keeps b c → Keeps a c
keeps_both a b c h k size number q = k size number (h size number q)

module _ (index : Indexed) (groups : List (List ℕ)) where
  pub queued_kept : (taken : List Bool) (old new : List Candidate) (number : ℕ) → Keeps old new → IsQueuedIfFit index groups taken old number → IsQueuedIfFit index groups taken new number
  queued_kept taken old new number keeps h fit = keeps (length (left_of taken (group_at groups number))) number (h fit)

  -- what is left of the group is queued, or too little to be fit
  pub queued_one : (taken : List Bool) (number size : ℕ) (new : List Candidate) → size ≡ length (left_of taken (group_at groups number)) → (1 < size → IsQueued new size number)
      → IsQueuedIfFit index groups taken new number
  queued_one taken number size new e h fit =
      let several = fit_several index (left_of taken (group_at groups number)) fit in
      subst (λ (n : ℕ). IsQueued new n number) e (h (omega (arith, e, several)))

  -- past the last group there is nothing
  past_end : (number : ℕ) → length groups ≤ number → group_at groups number ≡ []
  past_end number l = go groups number l
    where
      go : (gs : List (List ℕ)) (n : ℕ) → length gs ≤ n → group_at gs n ≡ []
      go [] n l = refl
      go (g ∷ gs) zero l = absurd (omega (arith, l))
      go (g ∷ gs) (suc n) l = go gs n (omega (arith, l))

  pub all_queued : (taken : List Bool) (queue : List Candidate) → ((g : ℕ) → g < length groups → IsQueuedIfFit index groups taken queue g) → AreQueued index groups taken queue
  all_queued taken queue h number fit = go (nat_lt number (length groups)) refl
    where
      go : (b : Bool) → nat_lt number (length groups) ≡ b → IsQueued queue (length (left_of taken (group_at groups number))) number
      go true e = h number (ltb-true number (length groups) e) fit
      go false e =
          let none = past_end number (ltb-false number (length groups) e) in
          let several = fit_several index (left_of taken (group_at groups number)) fit in
          let short : length (left_of taken (group_at groups number)) ≡ 0 = ap (λ (g : List ℕ). length (left_of taken g)) none in
          absurd (omega (arith, short, several))

  -- ---- the next candidate

  -- a candidate stays, unless it is the one that was removed
  stays : (queue rest : List Candidate) (c d : Candidate) → IsPermutation queue (c ∷ rest) → Contains queue d → (c ≡ d → ⊥) → Contains rest d
  stays queue rest c d order m other =
      ⊎_elim (λ (e : c ≡ d). absurd (other e)) (λ (n : Mem d rest). contains_from_mem rest d n)
      (mem_from_contains (c ∷ rest) d (Contains-permutation queue (c ∷ rest) d order m))

  module _ (taken : List Bool) (queue rest : List Candidate) (c : Candidate) (queued : AreQueued index groups taken queue) (order : IsPermutation queue (c ∷ rest)) where
    -- the candidate is out of date, or what is left of its group is not fit
    pub still_queued : (length (left_of taken (group_at groups c.group.0)) ≡ c.size → is_fit index (left_of taken (group_at groups c.group.0)) ≡ true → ⊥) → AreQueued index groups taken rest
    still_queued stale number fit = go (queued number fit)
      where
        go : IsQueued queue (length (left_of taken (group_at groups number))) number → IsQueued rest (length (left_of taken (group_at groups number))) number
        go (d, m, s, g) = (
          d,
          stays queue rest c d order m (λ same.
              let number_is : c.group.0 ≡ number = ap (λ (x : Candidate). x.group.0) same ∙ g in
              let size_is : length (left_of taken (group_at groups number)) ≡ c.size = sym s ∙ ap (λ (x : Candidate). x.size) (sym same) in
              stale (subst (λ (n : ℕ). length (left_of taken (group_at groups n)) ≡ c.size) (sym number_is) size_is)
              (subst (λ (n : ℕ). is_fit index (left_of taken (group_at groups n)) ≡ true) (sym number_is) fit)),
          s,
          g,
        )

    pub found : All (λ d. GoesFirst c.size c.group.0 d.size d.group.0) queue → length (left_of taken (group_at groups c.group.0)) ≡ c.size
        → is_fit index (left_of taken (group_at groups c.group.0)) ≡ true
        → (v : PlacedVariable) → v ≡ variable_of index (left_of taken (group_at groups c.group.0)) → IsFound index groups taken rest v
    found first size fit v is =
        record {
          number = c.group.0;
          largest = record { fit = fit; first = λ other fits. go other (queued other fits); is = is };
          others = λ other differs fits. left other differs (queued other fits);
        }
      where
        go : (other : ℕ) → IsQueued queue (length (left_of taken (group_at groups other))) other
            → GoesFirst (length (left_of taken (group_at groups c.group.0))) c.group.0 (length (left_of taken (group_at groups other))) other
        go other (d, m, s, g) =
            subst (λ (n : ℕ). GoesFirst n c.group.0 (length (left_of taken (group_at groups other))) other) (sym size)
            (subst (λ (n : ℕ). GoesFirst c.size c.group.0 n other) s
            (subst (λ (n : ℕ). GoesFirst c.size c.group.0 d.size n) g
            (all_mem (λ d. GoesFirst c.size c.group.0 d.size d.group.0) queue d first (mem_from_contains queue d m))))

        left : (other : ℕ) → (other ≡ c.group.0 → ⊥) → IsQueued queue (length (left_of taken (group_at groups other))) other
            → IsQueued rest (length (left_of taken (group_at groups other))) other
        left other differs (d, m, s, g) =
            (d, stays queue rest c d order m (λ same. differs (sym g ∙ ap (λ (x : Candidate). x.group.0) (sym same))), s, g)

  -- nothing is queued
  pub none_queued : (taken : List Bool) → AreQueued index groups taken [] → NoneFits index groups (left_of taken)
  none_queued taken queued number =
      false_from_ne_true (is_fit index (left_of taken (group_at groups number))) (λ fit. let w = queued number fit in absurd (mem_from_contains [] w.0 w.1))

-- ---- one more variable

-- what is left of a group that has none of the places
same_left : (old new : List Bool) (places group : List ℕ) → ((p : ℕ) → slice_index_or new p false ≡ (slice_index_or old p false || has places p))
    → ((p : ℕ) → Mem p group → has places p ≡ false) → left_of new group ≡ left_of old group
same_left old new places [] flags none = refl
same_left old new places (p ∷ group) flags none =
    let here : slice_index_or new p false ≡ slice_index_or old p false = flags p ∙ ap (λ (b : Bool). slice_index_or old p false || b) (none p (inl refl)) ∙ or_false (slice_index_or old p false) in
    rw (here, same_left old new places group flags (λ q m. none q (inr m))) refl
  where
    or_false : (b : Bool) → (b || false) ≡ b
    or_false true = refl
    or_false false = refl

first_of : (places : List ℕ) → 1 < length places → (p : ℕ) × Mem p places
first_of [] l = absurd (omega (arith, l))
first_of (p ∷ places) l = (p, inl refl)

module _ (index : Indexed) (groups groups_at : List (List ℕ)) (count : ℕ) (across : IsTranspose count groups groups_at) where
  -- the groups that have one of the variable's atoms are queued again, and all others were queued
  pub queued_again : (old new : List Bool) (queue rest : List Candidate) (v : PlacedVariable) (listed : List ℕ)
      → ((p : ℕ) → slice_index_or new p false ≡ (slice_index_or old p false || has v.places p)) → All (λ p. p < count) v.places
      → IsFound index groups old queue v → HasEach groups_at v.places listed → Keeps queue rest
      → ((g : ℕ) → has listed g ≡ true → IsQueuedIfFit index groups new rest g) → AreQueued index groups new rest
  queued_again old new queue rest v listed flags within found each keeps again number = go (has listed number) refl
    where
      touched : (g p : ℕ) → Mem p (group_at groups g) → has v.places p ≡ true → has listed g ≡ true
      touched g p m h =
          each p g h (across p g (all_mem (λ q. q < count) v.places p within (has_mem v.places p h)) ∙ mem_has (group_at groups g) p m)

      go : (b : Bool) → has listed number ≡ b → IsQueuedIfFit index groups new rest number
      go true e = again number e
      go false e =
          let same : left_of new (group_at groups number) ≡ left_of old (group_at groups number)
          = same_left old new v.places (group_at groups number) flags
          (λ p m. false_from_ne_true (has v.places p) (λ h. both_ways (has listed number) e (touched number p m h))) in
          let differs : number ≡ found.number → ⊥ = (λ (q : number ≡ found.number).
          let first = first_of (left_of old (group_at groups found.number)) (fit_several index (left_of old (group_at groups found.number)) found.largest.fit) in
          let inside = (filter_mem (λ p. not (slice_index_or old p false)) (group_at groups found.number) first.0 first.1).0 in
          let of_v : has v.places first.0 ≡ true = ap (λ (u : PlacedVariable). has u.places first.0) found.largest.is ∙ mem_has (left_of old (group_at groups found.number)) first.0 first.1 in
          both_ways (has listed number) e (ap (has listed) q ∙ touched found.number first.0 inside of_v)) in
          let P : List ℕ → Type 0 = (λ (left : List ℕ). is_fit index left ≡ true → IsQueued rest (length left) number) in
          subst P (sym same) (λ fit. keeps (length (left_of old (group_at groups number))) number (found.others number differs fit))

-- ---- flags, and the variables that have set them

same_by : (index : Indexed) (choice : Choice) → IsChoice index choice → left_of choice.taken.items ≡ left_by choice.variables.items
same_by index choice is = λ i group. filter (λ p. not (is.told p i)) group

module _ (index : Indexed) (groups : List (List ℕ)) where
  pub none_by : (choice : Choice) → IsChoice index choice → NoneFits index groups (left_of choice.taken.items) → NoneFits index groups (left_by choice.variables.items)
  none_by choice is none = subst (NoneFits index groups) (same_by index choice is) none

  taken_more : (earlier vs : List PlacedVariable) (v : PlacedVariable) → AreTakenAfter index groups earlier vs
      → ((number : ℕ) × IsLargest index groups (left_by (earlier ++ vs)) number v) → AreTakenAfter index groups earlier (vs ++ v ∷ [])
  taken_more earlier [] v h largest = (subst (λ (us : List PlacedVariable). (number : ℕ) × IsLargest index groups (left_by us) number v) (append-nil earlier) largest, tt)
  taken_more earlier (u ∷ vs) v h largest = (
    h.0,
    taken_more (earlier ++ u ∷ []) vs v h.1
        (subst (λ (us : List PlacedVariable). (number : ℕ) × IsLargest index groups (left_by us) number v) (sym (append_assoc earlier (u ∷ []) vs)) largest),
  )

  pub one_taken : (old new : Choice) (queue : List Candidate) (v : PlacedVariable) → IsChoice index old → AreTakenAfter index groups [] old.variables.items
      → IsFound index groups old.taken.items queue v → AddsVariable old new v → AreTakenAfter index groups [] new.variables.items
  one_taken old new queue v is taken found adds =
      subst (AreTakenAfter index groups []) (sym adds.variables)
      (taken_more [] old.variables.items v taken
      (found.number, subst (λ (left : List ℕ → List ℕ). IsLargest index groups left found.number v) (same_by index old is) found.largest))

-- ---- the number of turns

-- how many flags are set
abbrev pub set_count : List Bool → ℕ
set_count flags = count_by (λ b. b) flags

count_cons : (b : Bool) (bs : List Bool) → set_count (b ∷ bs) ≡ cond b 1 0 + set_count bs
count_cons b bs = sum_by-cons (λ (x : Bool). cond x 1 0) b bs

-- flags stay, so there are no fewer
no_fewer : (old new : List Bool) → length new ≡ length old → ((p : ℕ) → slice_index_or old p false ≡ true → slice_index_or new p false ≡ true) → set_count old ≤ set_count new
no_fewer [] new size kept = omega arith
no_fewer (b ∷ old) [] size kept = absurd (omega (arith, size))
no_fewer (b ∷ old) (c ∷ new) size kept =
    let rest = no_fewer old new (omega (arith, size)) (λ p. kept (suc p)) in
    let x = count_cons b old in let y = count_cons c new in
    let z = step b c (kept 0) in
    omega (arith, rest, x, y, z)
  where
    step : (b c : Bool) → (b ≡ true → c ≡ true) → cond b 1 0 ≤ cond c 1 0
    step true true h = omega arith
    step true false h = let e = h refl in absurd (cc e)
    step false true h = omega arith
    step false false h = omega arith

-- one is set that was not, so there are more
pub one_set : (old new : List Bool) → length new ≡ length old → ((p : ℕ) → slice_index_or old p false ≡ true → slice_index_or new p false ≡ true)
    → (p : ℕ) → slice_index_or old p false ≡ false → slice_index_or new p false ≡ true → set_count old < set_count new
one_set [] [] size kept p was is = absurd (cc is)
one_set [] (c ∷ new) size kept p was is = absurd (omega (arith, size))
one_set (b ∷ old) [] size kept p was is = absurd (omega (arith, size))
one_set (b ∷ old) (c ∷ new) size kept zero was is =
    let rest = no_fewer old new (omega (arith, size)) (λ p. kept (suc p)) in
    let x : set_count (b ∷ old) ≡ 0 + set_count old = count_cons b old ∙ ap (λ (d : Bool). cond d 1 0 + set_count old) was in
    let y : set_count (c ∷ new) ≡ 1 + set_count new = count_cons c new ∙ ap (λ (d : Bool). cond d 1 0 + set_count new) is in
    omega (arith, rest, x, y)
one_set (b ∷ old) (c ∷ new) size kept (suc p) was is =
    let rest = one_set old new (omega (arith, size)) (λ p. kept (suc p)) p was is in
    let x = count_cons b old in let y = count_cons c new in
    let z = step b c (kept 0) in
    omega (arith, rest, x, y, z)
  where
    step : (b c : Bool) → (b ≡ true → c ≡ true) → cond b 1 0 ≤ cond c 1 0
    step true true h = omega arith
    step true false h = let e = h refl in absurd (cc e)
    step false true h = omega arith
    step false false h = omega arith

at_most : (flags : List Bool) → set_count flags ≤ length flags
at_most [] = omega arith
at_most (b ∷ flags) = let rest = at_most flags in let x = count_cons b flags in go b x rest
  where
    go : (c : Bool) → set_count (b ∷ flags) ≡ cond c 1 0 + set_count flags → set_count flags ≤ length flags → set_count (b ∷ flags) ≤ suc (length flags)
    go true x rest = omega (arith, x, rest)
    go false x rest = omega (arith, x, rest)

all_set : (flags : List Bool) → length flags ≤ set_count flags → (p : ℕ) → p < length flags → slice_index_or flags p false ≡ true
all_set [] h p l = absurd (omega (arith, l))
all_set (b ∷ flags) h p l = go b (count_cons b flags) (at_most flags) p l (all_set flags)
  where
    go : (c : Bool) → set_count (b ∷ flags) ≡ cond c 1 0 + set_count flags → set_count flags ≤ length flags → (p : ℕ) → p < suc (length flags)
        → (length flags ≤ set_count flags → (p : ℕ) → p < length flags → slice_index_or flags p false ≡ true) → slice_index_or (c ∷ flags) p false ≡ true
    go false x few p l ih = absurd (omega (arith, h, x, few))
    go true x few zero l ih = refl
    go true x few (suc p) l ih = ih (omega (arith, h, x)) p (omega (arith, l))

nothing_left : (taken : List Bool) (group : List ℕ) → ((p : ℕ) → Mem p group → slice_index_or taken p false ≡ true) → left_of taken group ≡ []
nothing_left taken [] h = refl
nothing_left taken (p ∷ group) h = rw (h p (inl refl)) (nothing_left taken group (λ q m. h q (inr m)))

-- where all places are taken, no group is fit
pub none_after : (index : Indexed) (groups : List (List ℕ)) (taken : List Bool) → All (IsProposal index) groups → length taken ≡ length index.atoms
    → length taken ≤ set_count taken → NoneFits index groups (left_of taken)
none_after index groups taken proposed size all number =
    false_from_ne_true (is_fit index (left_of taken (group_at groups number))) (λ fit.
    let several = fit_several index (left_of taken (group_at groups number)) fit in
    let short : length (left_of taken (group_at groups number)) ≡ 0 = ap length (nothing_left taken (group_at groups number) (λ p m.
    all_set taken all p (let l = within groups number proposed p m in omega (arith, l, size)))) in
    omega (arith, short, several))
  where
    within : (gs : List (List ℕ)) (n : ℕ) → All (IsProposal index) gs → (p : ℕ) → Mem p (group_at gs n) → p < length index.atoms
    within [] n h p m = absurd m
    within (g ∷ gs) zero h p m = all_mem (λ q. q < length index.atoms) g p (movable_within index g (All-head (IsProposal index) g gs h).movable) m
    within (g ∷ gs) (suc n) h p m = within gs n (All-tail (IsProposal index) g gs h) p m

-- one more turn
pub one_turn : (count : ℕ) (old new : Choice) (v : PlacedVariable) (turn : ℕ) → length old.taken.items ≡ count
    → 0 < length v.places → All (λ p. p < count) v.places → All (λ p. slice_index_or old.taken.items p false ≡ false) v.places → AddsVariable old new v
    → turn ≤ set_count old.taken.items → turn + 1 ≤ set_count new.taken.items
one_turn count old new v turn size some within free adds few =
    let flags = flags_after count old new v size within adds in
    let p = first_one v.places some in
    let more = one_set old.taken.items new.taken.items adds.size
    (λ q e. flags q ∙ or_left (slice_index_or old.taken.items q false) (has v.places q) e) p.0
    (all_mem (λ q. slice_index_or old.taken.items q false ≡ false) v.places p.0 free p.1)
    (flags p.0 ∙ or_right (slice_index_or old.taken.items p.0 false) (has v.places p.0) (mem_has v.places p.0 p.1)) in
    omega (arith, more, few)
  where
    first_one : (places : List ℕ) → 0 < length places → (p : ℕ) × Mem p places
    first_one [] l = absurd (omega (arith, l))
    first_one (p ∷ places) l = (p, inl refl)

-- ---- variables of one atom

pub no_singles : (vs : List PlacedVariable) → AddsSingles vs vs
no_singles vs = record { singles = []; are = sym (append-nil vs); single = All-nil IsSingle }

pub more_singles : (a b c : List PlacedVariable) → AddsSingles a b → AddsSingles b c → AddsSingles a c
more_singles a b c h k = record {
  singles = h.singles ++ k.singles;
  are = k.are ∙ ap (λ (l : List PlacedVariable). l ++ k.singles) h.are ∙ append_assoc a h.singles k.singles;
  single = All-append IsSingle h.singles k.singles h.single k.single;
}
