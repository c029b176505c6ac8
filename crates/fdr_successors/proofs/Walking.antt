-- What a visit finds: from node to node, it finds those that apply of all candidates before the node that it has come to.
use Rattle.std.proofs.Common.{◌≡◌, ℕ, zero, suc, ◌+◌, ◌-◌, ◌<◌, ◌≤◌, Bool, true, false, cond, ◌&&◌, List, [], ◌∷◌, ◌++◌, length, map, take, drop, get_or, Some, refl, sym, ◌∙◌, ap, subst, arith, ⊎_elim}
use Rattle.std.specs.Prelude.{All, filter, slice_get, slice_range}
use Rattle.std.specs.List.{range_with_len}
use Rattle.std.specs.Option.{option_map_or}
use Rattle.std.proofs.lemmas.List.{append-nil, map-append, length-take, get_or-take, get_or-drop, take-append-drop, take_all}
use Rattle.std.proofs.lemmas.List.Folds.{list_all-append}
use Rattle.std.proofs.lemmas.List.Elements.{All-head, All-tail, All-weaker, filter-append}
use Rattle.std.proofs.lemmas.Option.{slice_get-get_or}
use Rattle.std.proofs.lemmas.Bool.{cases_lt}
use Rattle.fdr.specs.declared.fact.Fact.{Fact}
use Rattle.fdr.specs.Tasks.{FiniteDomainTask, applies_at, holds}
use Rattle.fdr_successors.specs.declared.candidate.Candidate.{Candidate}
use Rattle.fdr_successors.specs.declared.node.Node.{Node}
use Rattle.fdr_successors.specs.Applicable.{applicable_operators}
use Rattle.fdr_successors.specs.Listings.{IsListing, IsCandidate, all_hold, facts_of, facts_at, numbers_of, passes, found_before}
use Rattle.fdr_successors.specs.Numbers.{SameNumbers}
use Rattle.fdr_successors.specs.Trees.{Continues, SharesTests, IsTree, Leads, IsGenerator, tests_at, tests_of, start_of, following, end_after}
use Rattle.fdr_successors.proofs.Growing.{following_below}
use Rattle.fdr_successors.proofs.Numbers.{filter_permuted}

-- ---- filters

filter_step : {X : Type 0} (b c : Bool) (x : X) (xs ys : List X) → b ≡ c → xs ≡ ys → cond b (x ∷ xs) xs ≡ cond c (x ∷ ys) ys
filter_step b c x xs ys e f = ap (λ (d : Bool). cond d (x ∷ xs) xs) e ∙ ap (λ (zs : List _). cond c (x ∷ zs) zs) f

filter_same : {X : Type 0} (p q : X → Bool) (xs : List X) → All (λ x. p x ≡ q x) xs → filter p xs ≡ filter q xs
filter_same p q [] h = refl
filter_same p q (x ∷ xs) h =
    filter_step (p x) (q x) x (filter p xs) (filter q xs) (All-head (λ y. p y ≡ q y) x xs h) (filter_same p q xs (All-tail (λ y. p y ≡ q y) x xs h))

filter_nothing : {X : Type 0} (xs : List X) → filter (λ x. false) xs ≡ []
filter_nothing [] = refl
filter_nothing (x ∷ xs) = filter_nothing xs

filter_none : {X : Type 0} (p : X → Bool) (xs : List X) → All (λ x. p x ≡ false) xs → filter p xs ≡ []
filter_none p xs h = filter_same p (λ x. false) xs h ∙ filter_nothing xs

map_step : {X Y : Type 0} (f : X → Y) (b : Bool) (x : X) (xs : List X) (ys : List Y) → map f xs ≡ ys → map f (cond b (x ∷ xs) xs) ≡ cond b (f x ∷ ys) ys
map_step f true x xs ys h = ap (λ (zs : List _). f x ∷ zs) h
map_step f false x xs ys h = h

map_filter : {X Y : Type 0} (f : X → Y) (p : Y → Bool) (xs : List X) → map f (filter (λ x. p (f x)) xs) ≡ filter p (map f xs)
map_filter f p [] = refl
map_filter f p (x ∷ xs) = map_step f (p (f x)) x (filter (λ y. p (f y)) xs) (filter p (map f xs)) (map_filter f p xs)

-- ---- parts of the candidates

-- what is so of each candidate from one place to another is so of all of that part
pub all_between : (P : Candidate → Type 0) (cs : List Candidate) (at end : ℕ) → end ≤ length cs →
    ((i : ℕ) (c : Candidate) → at ≤ i → i < end → slice_get cs i ≡ Some c → P c) → All P (slice_range cs at end)
all_between P cs at end within each k d l =
    let shorter = length-take (end - at) (drop at cs) in
    let e : get_or (slice_range cs at end) k d ≡ get_or cs (at + k) d = get_or-take (end - at) (drop at cs) k d (omega arith) ∙ get_or-drop at cs k d in
    rw e (each (at + k) (get_or cs (at + k) d) (omega arith) (omega arith) (slice_get-get_or cs (at + k) d (omega arith)))

pub facts_there : (facts : List Fact) (cs : List Candidate) (i : ℕ) (c : Candidate) → slice_get cs i ≡ Some c → facts_at facts cs i ≡ facts_of facts c
facts_there facts cs i c at = ap (λ (o : _). option_map_or (facts_of facts) o []) at

take_nil : {X : Type 0} (n : ℕ) → let none : List X = [] in take n none ≡ none
take_nil zero = refl
take_nil (suc n) = refl

take_split : {X : Type 0} (xs : List X) (at end : ℕ) → at ≤ end → take end xs ≡ take at xs ++ slice_range xs at end
take_split xs zero end l = let e : end - 0 ≡ end = omega arith in ap (λ (n : ℕ). take n xs) (sym e)
take_split [] (suc at) zero l = absurd (omega arith)
take_split (x ∷ xs) (suc at) zero l = absurd (omega arith)
take_split [] (suc at) (suc end) l = sym (take_nil (suc end - suc at))
take_split (x ∷ xs) (suc at) (suc end) l =
    let e : suc end - suc at ≡ end - at = omega arith in
    ap (λ (ys : List _). x ∷ ys) (take_split xs at end (omega arith)) ∙ ap (λ (n : ℕ). x ∷ (take at xs ++ take n (drop at xs))) (sym e)

found_split : (facts : List Fact) (cs : List Candidate) (state : List ℕ) (at end : ℕ) → at ≤ end →
    found_before facts cs state end ≡ found_before facts cs state at ++ numbers_of (filter (passes facts 0 state) (slice_range cs at end))
found_split facts cs state at end l =
    ap (λ (ds : List Candidate). numbers_of (filter (passes facts 0 state) ds)) (take_split cs at end l)
    ∙ ap (λ (ds : List Candidate). numbers_of ds) (filter-append (passes facts 0 state) (take at cs) (slice_range cs at end))
    ∙ map-append (λ (c : Candidate). c.operator) (filter (passes facts 0 state) (take at cs)) (filter (passes facts 0 state) (slice_range cs at end))

-- ---- one node

-- where the first facts hold, the others tell whether all do
rest_tells : (facts : List Fact) (tested : ℕ) (state : List ℕ) (c : Candidate) → all_hold state (take tested (facts_of facts c)) ≡ true →
    passes facts tested state c ≡ passes facts 0 state c
rest_tells facts tested state c h =
    sym (ap (λ (b : Bool). b && all_hold state (drop tested (facts_of facts c))) h)
    ∙ sym (list_all-append (holds state) (take tested (facts_of facts c)) (drop tested (facts_of facts c)))
    ∙ ap (λ (fs : List Fact). all_hold state fs) (take-append-drop tested (facts_of facts c))

pub node_finds : (facts : List Fact) (cs : List Candidate) (state : List ℕ) (tested first end : ℕ) → SharesTests facts cs tested first end →
    all_hold state (take tested (facts_at facts cs first)) ≡ true →
    found_before facts cs state first ++ numbers_of (filter (passes facts tested state) (slice_range cs first end)) ≡ found_before facts cs state end
node_finds facts cs state tested first end s h =
    ap (λ (ds : List Candidate). found_before facts cs state first ++ numbers_of ds)
    (filter_same (passes facts tested state) (passes facts 0 state) (slice_range cs first end)
    (all_between (λ c. passes facts tested state c ≡ passes facts 0 state c) cs first end s.within
    (λ i c l m at.
    rest_tells facts tested state c
    (ap (λ (fs : List Fact). all_hold state (take tested fs)) (sym (facts_there facts cs i c at)) ∙ ap (λ (fs : List Fact). all_hold state fs) (s.shared i l m) ∙ h))))
    ∙ sym (found_split facts cs state first end s.rising)

pub passed_over : (facts : List Fact) (cs : List Candidate) (nodes : List Node) (state : List ℕ) (place n : ℕ) → start_of nodes n ≤ length cs →
    Continues facts cs nodes state place n → found_before facts cs state place ≡ found_before facts cs state (start_of nodes n)
passed_over facts cs nodes state place n within c =
    let none : filter (passes facts 0 state) (slice_range cs place (start_of nodes n)) ≡ [] =
    filter_none (passes facts 0 state) (slice_range cs place (start_of nodes n))
    (all_between (λ d. passes facts 0 state d ≡ false) cs place (start_of nodes n) within
    (λ i d l m at. ap (λ (fs : List Fact). all_hold state fs) (sym (facts_there facts cs i d at)) ∙ c.skipped i l m)) in
    sym (append-nil (found_before facts cs state place))
    ∙ ap (λ (ds : List Candidate). found_before facts cs state place ++ numbers_of ds) (sym none)
    ∙ sym (found_split facts cs state place (start_of nodes n) c.rising)

-- ---- all

-- those of all candidates that apply are the applicable operators
pub found_all : (task : FiniteDomainTask) (facts : List Fact) (cs : List Candidate) (state : List ℕ) → IsListing task facts cs →
    SameNumbers (found_before facts cs state (length cs)) (applicable_operators task state)
found_all task facts cs state listing =
    let all : found_before facts cs state (length cs) ≡ filter (λ o. applies_at task o state) (numbers_of cs) =
    ap (λ (ds : List Candidate). numbers_of (filter (passes facts 0 state) ds)) (take_all (length cs) cs (omega arith))
    ∙ ap (λ (ds : List Candidate). numbers_of ds)
    (filter_same (passes facts 0 state) (λ c. applies_at task c.operator state) cs
    (All-weaker (IsCandidate task facts) (λ c. passes facts 0 state c ≡ applies_at task c.operator state) (λ c is. sym (is.applies state)) cs listing.each))
    ∙ map_filter (λ (c : Candidate). c.operator) (λ (o : ℕ). applies_at task o state) cs in
    subst (λ (os : List ℕ). SameNumbers os (applicable_operators task state)) (sym all)
    (filter_permuted (λ (o : ℕ). applies_at task o state) (range_with_len 0 (length task.operators)) (numbers_of cs) listing.numbers)

-- ---- a visit

-- a visit in the state has come to the node, and has found those that apply of the candidates before it
pub record HasFound (facts : List Fact) (cs : List Candidate) (nodes : List Node) (state : List ℕ) (n : ℕ) (found : List ℕ) : Type 0 where
  pub exists : n < length nodes
  pub meets : all_hold state (tests_of facts cs nodes n) ≡ true
  pub found_is : found ≡ found_before facts cs state (start_of nodes n)

start_there : (nodes : List Node) (n : ℕ) (w : Node) → slice_get nodes n ≡ Some w → start_of nodes n ≡ w.first
start_there nodes n w at = ap (λ (o : _). option_map_or (λ v. v.first) o 0) at

start_within : (variables : ℕ) (facts : List Fact) (cs : List Candidate) (nodes : List Node) (children : List ℕ) (n : ℕ) → IsTree variables facts cs nodes children → n < length nodes →
    start_of nodes n ≤ length cs
start_within variables facts cs nodes children n tree l =
    let w = get_or nodes n (end_after 0) in
    let at : slice_get nodes n ≡ Some w = slice_get-get_or nodes n (end_after 0) l in
    ⊎_elim
    (λ (positive : 0 < n).
    let shares = (tree.each n w positive at).shares in
    let rising = shares.rising in
    let within = shares.within in
    let start = start_there nodes n w at in
    omega arith)
    (λ (none : n ≤ 0).
    let e : n ≡ 0 = omega arith in
    let start : start_of nodes 0 ≡ length cs = start_there nodes 0 (end_after (length cs)) tree.end in
    rw e (omega arith))
    (cases_lt 0 n)

pub visit_begins : (variables : ℕ) (facts : List Fact) (cs : List Candidate) (nodes : List Node) (children : List ℕ) (root : ℕ) (state : List ℕ) → IsTree variables facts cs nodes children →
    Leads facts cs nodes [] 0 root → HasFound facts cs nodes state root []
visit_begins variables facts cs nodes children root state tree leads =
    let c = leads.continues state refl in
    record {
      exists = leads.exists;
      meets = c.meets;
      found_is = passed_over facts cs nodes state 0 root (start_within variables facts cs nodes children root tree leads.exists) c;
    }

pub visit_goes_on : (variables : ℕ) (facts : List Fact) (cs : List Candidate) (nodes : List Node) (children : List ℕ) (state : List ℕ) (n : ℕ) (w : Node) (found : List ℕ) →
    IsTree variables facts cs nodes children → 0 < n → slice_get nodes n ≡ Some w → HasFound facts cs nodes state n found →
    HasFound facts cs nodes state (following children state w) (found ++ numbers_of (filter (passes facts w.tested state) (slice_range cs w.first w.end)))
visit_goes_on variables facts cs nodes children state n w found tree positive at has =
    let is = tree.each n w positive at in
    let t = following children state w in
    let meets : all_hold state (tests_at facts cs w.tested w.first) ≡ true =
    ap (λ (o : _). all_hold state (option_map_or (λ v. tests_at facts cs v.tested v.first) o [])) (sym at) ∙ has.meets in
    let exists = has.exists in
    let below = following_below n children w state is.later is.later_children in
    let c = is.continues state meets in
    record {
      exists = omega arith;
      meets = c.meets;
      found_is =
          ap (λ (os : List ℕ). os ++ numbers_of (filter (passes facts w.tested state) (slice_range cs w.first w.end)))
          (has.found_is ∙ ap (λ (i : ℕ). found_before facts cs state i) (start_there nodes n w at))
          ∙ node_finds facts cs state w.tested w.first w.end is.shares meets
          ∙ passed_over facts cs nodes state w.end t (start_within variables facts cs nodes children t tree (omega arith)) c;
    }

pub visit_ends : (task : FiniteDomainTask) (facts : List Fact) (cs : List Candidate) (nodes : List Node) (children : List ℕ) (root : ℕ) (state found : List ℕ) →
    IsGenerator task facts cs nodes children root → HasFound facts cs nodes state 0 found → SameNumbers found (applicable_operators task state)
visit_ends task facts cs nodes children root state found g has =
    let all : found ≡ found_before facts cs state (length cs) =
    has.found_is ∙ ap (λ (i : ℕ). found_before facts cs state i) (start_there nodes 0 (end_after (length cs)) g.tree.end) in
    subst (λ (os : List ℕ). SameNumbers os (applicable_operators task state)) (sym all) (found_all task facts cs state g.listing)
