-- How asked facts and marks grow.
use Rattle.std.proofs.Common.{◌≡◌, ℕ, ◌+◌, ◌<◌, ◌≤◌, Bool, true, false, List, [], ◌∷◌, ◌++◌, length, map, get_or, replicate, Option, Some, None, refl, sym, ap, subst, ◌∙◌, arith, cond, inl, inr, ⊎_elim}
use Rattle.std.specs.Prelude.{◌⊎◌, ◌↔◌, not, Contains, IfSome, IsSomeAnd, slice_get, slice_index, slice_index_or, slice_set, count_by}
use Rattle.std.proofs.lemmas.Bool.{false≢true, cases_eq, cases_lt}
use Rattle.std.proofs.lemmas.Option.{slice_get-get_or}
use Rattle.std.proofs.lemmas.List.{length-map, length-set, length_push, get_or-map, get_or-set_same, get_or-set_other, get_or_past, get_or-replicate, length-replicate, map-set, set-get_or}
use Rattle.std.proofs.lemmas.List.Elements.{All-contains, All-weaker, All-nil, All-cons, All-append, Contains-append_left, Contains-append_right, Contains-push, Contains-push_cases}
use Rattle.std.proofs.lemmas.List.Sums.{sum_by-set}
use Rattle.fdr.specs.declared.fact.Fact.{Fact}
use Rattle.fdr.specs.Tasks.{FiniteDomainTask, Operator, ranges, IsInRange}
use Rattle.abstraction.specs.Steps.{found, at_some}
use Rattle.reduction.specs.Facts.{Facts, fact, Includes, is_in, no_facts, with_fact, absent}
use Rattle.reduction.specs.Asked.{AllAsked, ChangesClass, changes_classes, IsClosed, AreAsked}
use Rattle.reduction.specs.Waiting.{WaitsFor, WaitsForAny}
use Rattle.reduction.specs.Closing.{is_marked, IsDue, IsClosing, Grows, Asks, KeepsMarks, IsServed, AreVisited, AreOpen}
use Rattle.reduction.proofs.AskedLaws.{changing_waits}

-- ---- sets of facts

pub row_length : (set : List (List Bool)) (v : ℕ) → v < length set → slice_index (map length set) v ≡ length (slice_index_or set v [])
row_length set v l = get_or-map length set v [] 0 l

-- only facts in range are in a set
pub in_range : (set : List (List Bool)) (f : Fact) → is_in set f ≡ true → IsInRange (map length set) f
in_range set f h = ⊎_elim inside outside (cases_lt f.variable (length set))
  where
    row : List Bool
    row = slice_index_or set f.variable []

    within : f.value < length (slice_index_or set f.variable [])
    within = ⊎_elim (λ (l : f.value < length (slice_index_or set f.variable [])). l)
        (λ (l : length (slice_index_or set f.variable []) ≤ f.value). absurd (false≢true (sym (get_or_past (slice_index_or set f.variable []) f.value false l) ∙ h)))
        (cases_lt f.value (length (slice_index_or set f.variable [])))

    inside : f.variable < length set → IsInRange (map length set) f
    inside l = (omega (arith, l, length-map set length), omega (arith, within, row_length set f.variable l))

    outside : length set ≤ f.variable → IsInRange (map length set) f
    outside l =
        let none : slice_index_or set f.variable [] ≡ [] = get_or_past set f.variable [] l in
        let short : length (slice_index_or set f.variable []) ≡ 0 = ap length none in
        absurd (omega (arith, within, short))

-- 1 for a fact that is not in a set
abbrev missing : Bool → ℕ
missing b = cond (not b) 1 0

module _ (set : List (List Bool)) (f : Fact) (range : IsInRange (map length set) f) where
  exists : f.variable < length set
  exists = omega (arith, range.0, length-map set length)

  within : f.value < length (slice_index_or set f.variable [])
  within = omega (arith, range.1, row_length set f.variable exists)

  pub in_with : is_in (with_fact set f) f ≡ true
  in_with =
      ap (λ (row : List Bool). slice_index_or row f.value false) (get_or-set_same set f.variable (slice_set (slice_index_or set f.variable []) f.value true) [] exists)
      ∙ get_or-set_same (slice_index_or set f.variable []) f.value true false within

  -- another fact is in the set as before
  other_in_with : (g : Fact) → (g ≡ f → ⊥) → is_in (with_fact set f) g ≡ is_in set g
  other_in_with g ne = ⊎_elim same other (cases_eq g.variable f.variable)
    where
      same : g.variable ≡ f.variable → is_in (with_fact set f) g ≡ is_in set g
      same e =
          let values : g.value ≡ f.value → ⊥ = λ (q : g.value ≡ f.value). ne (ap (λ (v : ℕ). fact v g.value) e ∙ ap (λ (x : ℕ). fact f.variable x) q) in
          ap (λ (v : ℕ). slice_index_or (slice_index_or (with_fact set f) v []) g.value false) e
          ∙ ap (λ (row : List Bool). slice_index_or row g.value false) (get_or-set_same set f.variable (slice_set (slice_index_or set f.variable []) f.value true) [] exists)
          ∙ get_or-set_other (slice_index_or set f.variable []) f.value g.value true false values
          ∙ ap (λ (v : ℕ). slice_index_or (slice_index_or set v []) g.value false) (sym e)

      other : (g.variable ≡ f.variable → ⊥) → is_in (with_fact set f) g ≡ is_in set g
      other e = ap (λ (row : List Bool). slice_index_or row g.value false) (get_or-set_other set f.variable g.variable (slice_set (slice_index_or set f.variable []) f.value true) [] e)

  is_fact : (g : Fact) → (g ≡ f) ⊎ (g ≡ f → ⊥)
  is_fact g =
      ⊎_elim
      (λ (e : g.variable ≡ f.variable).
      ⊎_elim
      (λ (q : g.value ≡ f.value). inl (ap (λ (v : ℕ). fact v g.value) e ∙ ap (λ (x : ℕ). fact f.variable x) q))
      (λ (q : g.value ≡ f.value → ⊥). inr (λ (s : g ≡ f). q (ap (λ (h : Fact). h.value) s)))
      (cases_eq g.value f.value))
      (λ (e : g.variable ≡ f.variable → ⊥). inr (λ (s : g ≡ f). e (ap (λ (h : Fact). h.variable) s)))
      (cases_eq g.variable f.variable)

  pub more_with : Includes (is_in (with_fact set f)) (is_in set)
  more_with g h = ⊎_elim (λ (e : g ≡ f). subst (λ (q : Fact). is_in (with_fact set f) q ≡ true) (sym e) in_with) (λ (ne : g ≡ f → ⊥). other_in_with g ne ∙ h) (is_fact g)

  pub only_with : (g : Fact) → is_in (with_fact set f) g ≡ true → (is_in set g ≡ true) ⊎ (g ≡ f)
  only_with g h = ⊎_elim (λ (e : g ≡ f). inr e) (λ (ne : g ≡ f → ⊥). inl (sym (other_in_with g ne) ∙ h)) (is_fact g)

  pub shape_with : map length (with_fact set f) ≡ map length set
  shape_with =
      let row : List Bool = slice_index_or set f.variable [] in
      map-set length set f.variable (slice_set row f.value true)
      ∙ ap (slice_set (map length set) f.variable) (length-set row f.value true ∙ sym (row_length set f.variable exists))
      ∙ set-get_or (map length set) f.variable 0

  pub absent_with : is_in set f ≡ false → absent (with_fact set f) + 1 ≡ absent set
  absent_with h =
      let row : List Bool = slice_index_or set f.variable [] in
      let in_row = sum_by-set missing row f.value true false within in
      let was : missing (get_or row f.value false) ≡ 1 = ap missing h in
      let in_all = sum_by-set (count_by not) set f.variable (slice_set row f.value true) [] exists in
      omega (arith, in_row, was, in_all)

-- ---- asking for facts

pub grows_none : (asked : List (List Bool)) (pending : List Fact) → Grows asked asked pending pending
grows_none asked pending = record { facts = λ f h. h; opened = λ f h. inl h; still = λ f h. h; known = λ f h. inl h; count = refl }

pub grows_more : (a b c : List (List Bool)) (p q r : List Fact) → Grows a b p q → Grows b c q r → Grows a c p r
grows_more a b c p q r first next =
    record {
      facts = λ f h. next.facts f (first.facts f h);
      opened = λ f h. ⊎_elim
          (λ (e : is_in b f ≡ true). ⊎_elim (λ (k : is_in a f ≡ true). inl k) (λ (k : Contains q f). inr (next.still f k)) (first.opened f e))
          (λ (k : Contains r f). inr k) (next.opened f h);
      still = λ f h. next.still f (first.still f h);
      known = λ f h. ⊎_elim
          (λ (k : Contains q f). ⊎_elim (λ (m : Contains p f). inl m) (λ (e : is_in b f ≡ true). inr (next.facts f e)) (first.known f k))
          (λ (e : is_in c f ≡ true). inr e) (next.known f h);
      count = omega (arith, first.count, next.count);
    }

-- a fact that is asked for already
pub asks_known : (asked : List (List Bool)) (pending : List Fact) (f : Fact) → is_in asked f ≡ true → Asks asked asked pending pending (f ∷ [])
asks_known asked pending f h =
    record {
      shape = refl;
      grows = grows_none asked pending;
      all = All-cons (λ (g : Fact). is_in asked g ≡ true) f [] h (All-nil (λ (g : Fact). is_in asked g ≡ true));
      only = λ g k. inl k;
    }

-- a fact that is new
pub asks_new : (asked : List (List Bool)) (pending : List Fact) (f : Fact) → IsInRange (map length asked) f → is_in asked f ≡ false → Asks asked (with_fact asked f) pending (pending ++ f ∷ []) (f ∷ [])
asks_new asked pending f range h =
    record {
      shape = shape_with asked f range;
      grows = record {
        facts = more_with asked f range;
        opened = λ g k. ⊎_elim (λ (e : is_in asked g ≡ true). inl e) (λ (e : g ≡ f). inr (subst (Contains (pending ++ f ∷ [])) (sym e) (Contains-push pending f))) (only_with asked f range g k);
        still = λ g k. Contains-append_left pending (f ∷ []) g k;
        known = λ g k. ⊎_elim (λ (m : Contains pending g). inl m) (λ (e : f ≡ g). inr (subst (λ (q : Fact). is_in (with_fact asked f) q ≡ true) e (in_with asked f range))) (Contains-push_cases pending f g k);
        count = omega (arith, absent_with asked f range h, length_push pending f);
      };
      all = All-cons (λ (g : Fact). is_in (with_fact asked f) g ≡ true) f [] (in_with asked f range) (All-nil (λ (g : Fact). is_in (with_fact asked f) g ≡ true));
      only = λ g k. ⊎_elim (λ (e : is_in asked g ≡ true). inl e) (λ (e : g ≡ f). inr (subst (Contains (f ∷ [])) (sym e) (Contains-push [] f))) (only_with asked f range g k);
    }

pub asks_none : (asked : List (List Bool)) (pending : List Fact) → Asks asked asked pending pending []
asks_none asked pending = record { shape = refl; grows = grows_none asked pending; all = All-nil (λ (g : Fact). is_in asked g ≡ true); only = λ g k. inl k }

pub asks_more : (a b c : List (List Bool)) (p q r xs ys : List Fact) → Asks a b p q xs → Asks b c q r ys → Asks a c p r (xs ++ ys)
asks_more a b c p q r xs ys first next =
    record {
      shape = next.shape ∙ first.shape;
      grows = grows_more a b c p q r first.grows next.grows;
      all = All-append (λ (g : Fact). is_in c g ≡ true) xs ys (All-weaker (λ (g : Fact). is_in b g ≡ true) (λ (g : Fact). is_in c g ≡ true) (λ g h. next.grows.facts g h) xs first.all) next.all;
      only = λ g h. ⊎_elim
          (λ (e : is_in b g ≡ true). ⊎_elim (λ (k : is_in a g ≡ true). inl k) (λ (k : Contains xs g). inr (Contains-append_left xs ys g k)) (first.only g e))
          (λ (k : Contains ys g). inr (Contains-append_right xs ys g k)) (next.only g h);
    }

-- ---- marking operators

pub due_more : (task : FiniteDomainTask) (a b : Facts) (o : ℕ) → Includes b a → IsDue task a o → IsDue task b o
due_more task a b o in' due more h = due more (λ f k. h f (in' f k))

pub all_more : (a b : Facts) (fs : List Fact) → Includes b a → AllAsked a fs → AllAsked b fs
all_more a b fs in' all = All-weaker (λ (f : Fact). a f ≡ true) (λ (f : Fact). b f ≡ true) in' fs all

-- a mark after a write
pub marked_after : (marks : List Bool) (n o : ℕ) → n < length marks → is_marked (slice_set marks n true) o ≡ true → (o ≡ n) ⊎ (is_marked marks o ≡ true)
marked_after marks n o l h =
    ⊎_elim (λ (e : o ≡ n). inl e) (λ (ne : o ≡ n → ⊥). inr (sym (get_or-set_other marks n o true false ne) ∙ h)) (cases_eq o n)

pub marks_retained : (marks : List Bool) (n : ℕ) → n < length marks → KeepsMarks marks (slice_set marks n true)
marks_retained marks n l o h =
    ⊎_elim
    (λ (e : o ≡ n). subst (λ (k : ℕ). is_marked (slice_set marks n true) k ≡ true) (sym e) (get_or-set_same marks n true false l))
    (λ (ne : o ≡ n → ⊥). get_or-set_other marks n o true false ne ∙ h)
    (cases_eq o n)

-- asking for facts that every closed set has
pub closing_asks : (task : FiniteDomainTask) (asked more : List (List Bool)) (marks : List Bool) (pending later facts : List Fact) → IsClosing task asked marks → Asks asked more pending later facts →
    ((other : Facts) → IsClosed task other → AllAsked other facts) → IsClosing task more marks
closing_asks task asked more marks pending later facts closing asks needed =
    record {
      shape = asks.shape ∙ closing.shape;
      as_many = closing.as_many;
      due = λ o h. due_more task (is_in asked) (is_in more) o asks.grows.facts (closing.due o h);
      conditions = λ o h. go (slice_get task.operators o) (closing.conditions o h);
      needed = λ other closed f h. ⊎_elim
          (λ (e : is_in asked f ≡ true). closing.needed other closed f e)
          (λ (k : Contains facts f). All-contains (λ (g : Fact). other g ≡ true) facts f (needed other closed) k)
          (asks.only f h);
    }
  where
    go : (r : Option Operator) → IfSome r (λ op. AllAsked (is_in asked) op.precondition) → IfSome r (λ op. AllAsked (is_in more) op.precondition)
    go None h = tt
    go (Some op) h = all_more (is_in asked) (is_in more) op.precondition asks.grows.facts h

-- a mark for an operator whose conditions are asked for
pub closing_marks : (task : FiniteDomainTask) (asked : List (List Bool)) (marks : List Bool) (n : ℕ) (op : Operator) → IsClosing task asked marks → n < length marks → slice_get task.operators n ≡ Some op →
    IsDue task (is_in asked) n → AllAsked (is_in asked) op.precondition → IsClosing task asked (slice_set marks n true)
closing_marks task asked marks n op closing l at due all =
    record {
      shape = closing.shape;
      as_many = length-set marks n true ∙ closing.as_many;
      due = λ o h. ⊎_elim (λ (e : o ≡ n). subst (IsDue task (is_in asked)) (sym e) due) (λ (m : is_marked marks o ≡ true). closing.due o m) (marked_after marks n o l h);
      conditions = λ o h. ⊎_elim
          (λ (e : o ≡ n). subst (λ (k : ℕ). IfSome (slice_get task.operators k) (λ p. AllAsked (is_in asked) p.precondition)) (sym e)
          (subst (λ (r : Option Operator). IfSome r (λ p. AllAsked (is_in asked) p.precondition)) (sym at) all))
          (λ (m : is_marked marks o ≡ true). closing.conditions o m) (marked_after marks n o l h);
      needed = closing.needed;
    }

-- every closed set has the conditions of an operator that is due
pub due_needed : (task : FiniteDomainTask) (asked : List (List Bool)) (marks : List Bool) (n : ℕ) (op : Operator) → IsClosing task asked marks → slice_get task.operators n ≡ Some op → IsDue task (is_in asked) n →
    (other : Facts) → IsClosed task other → AllAsked other op.precondition
due_needed task asked marks n op closing at due other closed =
    let changes : ChangesClass task other n = due other (closing.needed other closed) in
    let here : changes_classes (ranges task) other op ≡ true = subst (λ (r : Option Operator). IsSomeAnd r (λ p. changes_classes (ranges task) other p ≡ true)) at changes in
    at_some (λ p. changes_classes (ranges task) other p ≡ true → AllAsked other p.precondition) (slice_get task.operators n) op at
    (found (λ p. changes_classes (ranges task) other p ≡ true → AllAsked other p.precondition) task.operators n closed.conditions) here

-- no fact is in the empty set, and no operator is marked at first
pub no_shape : (ns : List ℕ) → map length (no_facts ns) ≡ ns
no_shape [] = refl
no_shape (n ∷ ns) = rw (length-replicate, no_shape ns) refl

pub unmarked : (n o : ℕ) → is_marked (replicate n false) o ≡ true → ⊥
unmarked n o h =
    ⊎_elim
    (λ (l : o < n). false≢true (sym (get_or-replicate n o false false l) ∙ h))
    (λ (l : n ≤ o). false≢true (sym (get_or_past (replicate n false) o false (omega (arith, l, length-replicate n false))) ∙ h))
    (cases_lt o n)

pub nothing_in : (ns : List ℕ) (f : Fact) → is_in (no_facts ns) f ≡ true → ⊥
nothing_in ns f h =
    let range = in_range (no_facts ns) f h in
    let v : f.variable < length ns = omega (arith, range.0, length-map (no_facts ns) length, length-map ns (λ (n : ℕ). replicate n false)) in
    let row : slice_index_or (no_facts ns) f.variable [] ≡ replicate (slice_index ns f.variable) false = get_or-map (λ (n : ℕ). replicate n false) ns f.variable 0 [] v in
    unmarked (slice_index ns f.variable) f.value (sym (ap (λ (bs : List Bool). slice_index_or bs f.value false) row) ∙ h)

-- nothing is asked for at first
pub closing_start : (task : FiniteDomainTask) → IsClosing task (no_facts (ranges task)) (replicate (length task.operators) false)
closing_start task =
    record {
      shape = no_shape (ranges task);
      as_many = length-replicate (length task.operators) false;
      due = λ o h. absurd (unmarked (length task.operators) o h);
      conditions = λ o h. absurd (unmarked (length task.operators) o h);
      needed = λ other closed f h. absurd (nothing_in (ranges task) f h);
    }

-- ---- visiting facts

pub served_more : (task : FiniteDomainTask) (marks more : List Bool) (f : Fact) → KeepsMarks marks more → IsServed task marks f → IsServed task more f
served_more task marks more f keeps served = record { values = λ o w. keeps o (served.values o w); variables = λ two o w. keeps o (served.variables two o w) }

pub visited_more : (task : FiniteDomainTask) (marks more visited : List Bool) → KeepsMarks marks more → AreVisited task marks visited → AreVisited task more visited
visited_more task marks more visited keeps are = record { as_many = are.as_many; marked = λ v h o w. keeps o (are.marked v h o w) }

-- a variable whose waiting operators are marked is visited
pub visited_set : (task : FiniteDomainTask) (marks visited : List Bool) (v : ℕ) → v < length visited → ((o : ℕ) → WaitsForAny task v o → is_marked marks o ≡ true) → AreVisited task marks visited →
    AreVisited task marks (slice_set visited v true)
visited_set task marks visited v l all are =
    record {
      as_many = length-set visited v true ∙ are.as_many;
      marked = λ w h. ⊎_elim (λ (e : w ≡ v). subst (λ (u : ℕ). (o : ℕ) → WaitsForAny task u o → is_marked marks o ≡ true) (sym e) all) (λ (m : is_marked visited w ≡ true). are.marked w m) (marked_after visited v w l h);
    }

-- a fact was visited
pub open_more : (task : FiniteDomainTask) (asked more : List (List Bool)) (marks after : List Bool) (pending rest later : List Fact) (f : Fact) → pending ≡ rest ++ f ∷ [] →
    AreOpen task asked marks pending → Grows asked more rest later → KeepsMarks marks after → IsServed task after f → AreOpen task more after later
open_more task asked more marks after pending rest later f e are grows keeps served =
    record {
      served = λ g h. ⊎_elim (λ (k : is_in asked g ≡ true). old g k) (λ (k : Contains later g). inl k) (grows.opened g h);
      known = λ g h. ⊎_elim
          (λ (k : Contains rest g). grows.facts g (are.known g (subst (λ (xs : List Fact). Contains xs g) (sym e) (Contains-append_left rest (f ∷ []) g k))))
          (λ (k : is_in more g ≡ true). k) (grows.known g h);
    }
  where
    old : (g : Fact) → is_in asked g ≡ true → Contains later g ⊎ IsServed task after g
    old g h = ⊎_elim
        (λ (k : Contains pending g). ⊎_elim (λ (m : Contains rest g). inl (grows.still g m)) (λ (q : f ≡ g). inr (subst (IsServed task after) q served))
        (Contains-push_cases rest f g (subst (λ (xs : List Fact). Contains xs g) e k)))
        (λ (k : IsServed task marks g). inr (served_more task marks after g keeps k))
        (are.served g h)

-- ---- the end

-- if each asked fact is served, an operator that changes a class is marked
pub all_marked : (task : FiniteDomainTask) (asked : List (List Bool)) (marks : List Bool) → ((f : Fact) → is_in asked f ≡ true → IsServed task marks f) → (o : ℕ) → ChangesClass task (is_in asked) o → is_marked marks o ≡ true
all_marked task asked marks served o h =
    ⊎_elim
    (λ (w : (f : Fact) × (is_in asked f ≡ true) × WaitsFor task f o). (served w.0 w.1).values o w.2)
    (λ (w : (f : Fact) × (is_in asked f ≡ true) × (1 < slice_index (ranges task) f.variable) × WaitsForAny task f.variable o). (served w.0 w.1).variables w.2 o w.3)
    (changing_waits task (is_in asked) o h)

-- the marks are those of the operators that change a class
pub marks_exact : (task : FiniteDomainTask) (asked : List (List Bool)) (marks : List Bool) → IsClosing task asked marks → ((f : Fact) → is_in asked f ≡ true → IsServed task marks f) →
    (o : ℕ) → (is_marked marks o ≡ true) ↔ ChangesClass task (is_in asked) o
marks_exact task asked marks closing served o = (λ h. closing.due o h (is_in asked) (λ f k. k), all_marked task asked marks served o)

-- the facts are the asked ones
pub closed_at_end : (task : FiniteDomainTask) (asked : List (List Bool)) (marks : List Bool) → IsClosing task asked marks → AllAsked (is_in asked) task.goal → ((f : Fact) → is_in asked f ≡ true → IsServed task marks f) →
    AreAsked task (is_in asked)
closed_at_end task asked marks closing goal served =
    record {
      closed = record {
        goal = goal;
        conditions = λ o d l h.
            let at : slice_get task.operators o ≡ Some (get_or task.operators o d) = slice_get-get_or task.operators o d l in
            let changes : ChangesClass task (is_in asked) o = subst (λ (r : Option Operator). IsSomeAnd r (λ p. changes_classes (ranges task) (is_in asked) p ≡ true)) (sym at) h in
            subst (λ (r : Option Operator). IfSome r (λ p. AllAsked (is_in asked) p.precondition)) at (closing.conditions o (all_marked task asked marks served o changes));
      };
      least = closing.needed;
    }
