-- The steps of the closure as the code makes them.
use Rattle.std.proofs.Common.{◌≡◌, ℕ, ◌+◌, ◌<◌, ◌≤◌, Bool, true, false, List, [], ◌∷◌, ◌++◌, length, map, take, get_or, replicate, Option, Some, None, refl, sym, ap, subst, ◌∙◌, arith, inl, ⊎_elim}
use Rattle.std.specs.Prelude.{◌↔◌, All, Contains, IsSomeAnd, slice_get, slice_index, slice_set}
use Rattle.std.proofs.lemmas.Option.{slice_get-get_or, slice_get_within}
use Rattle.std.proofs.lemmas.List.{take_more, take_all, length-map, length-replicate, length_push}
use Rattle.std.proofs.lemmas.List.Elements.{All-contains, All-weaker, All-more, Contains-get_or, Contains-push}
use Rattle.fdr.specs.declared.fact.Fact.{Fact}
use Rattle.fdr.specs.Tasks.{FiniteDomainTask, Operator, ranges, IsOperator, IsAssignment, IsInRange}
use Rattle.reduction.specs.Facts.{Facts, Includes, is_in, no_facts, with_fact, absent}
use Rattle.reduction.specs.Asked.{AllAsked, changes_classes, AreAsked}
use Rattle.reduction.specs.Waiting.{WaitsFor, WaitsForAny}
use Rattle.reduction.specs.Closing.{is_marked, IsDue, IsClosing, Grows, Asks, KeepsMarks, IsServed, AreVisited, AreOpen}
use Rattle.reduction.proofs.Members.{none_in}
use Rattle.reduction.proofs.AskedLaws.{waits_due, waits_any_due}
use Rattle.reduction.proofs.ClosingLaws.{in_range, asks_new, asks_more, due_more, all_more, closing_asks, closing_marks, due_needed, no_shape, unmarked, nothing_in, closing_start, visited_more, visited_set, closed_at_end}

-- ---- asking for facts

-- a new fact is added to the set and is to be visited
pub asks_pushed : (asked more : List (List Bool)) (pending later : List Fact) (f : Fact) → IsInRange (map length asked) f → is_in asked f ≡ false → more ≡ with_fact asked f → later ≡ pending ++ f ∷ [] →
    Asks asked more pending later (f ∷ [])
asks_pushed asked more pending later f range h m l =
    subst (λ (s : List (List Bool)). Asks asked s pending later (f ∷ [])) (sym m)
    (subst (λ (xs : List Fact). Asks asked (with_fact asked f) pending xs (f ∷ [])) (sym l) (asks_new asked pending f range h))

-- one fact more
pub asks_step : (a b c : List (List Bool)) (p q r facts : List Fact) (i : ℕ) (d : Fact) → i < length facts → Asks a b p q (take i facts) → Asks b c q r (get_or facts i d ∷ []) → Asks a c p r (take (i + 1) facts)
asks_step a b c p q r facts i d l first next =
    subst (Asks a c p r) (sym (take_more facts i d l)) (asks_more a b c p q r (take i facts) (get_or facts i d ∷ []) first next)

pub asks_all : (a b : List (List Bool)) (p q facts : List Fact) (i : ℕ) → length facts ≤ i → Asks a b p q (take i facts) → Asks a b p q facts
asks_all a b p q facts i l h = subst (Asks a b p q) (take_all i facts l) h

-- a fact in range stays in range
pub range_stays : (a b : List (List Bool)) (facts : List Fact) (i : ℕ) (d : Fact) → map length b ≡ map length a → All (IsInRange (map length a)) facts → i < length facts → IsInRange (map length b) (get_or facts i d)
range_stays a b facts i d e all l = subst (λ (rs : List ℕ). IsInRange rs (get_or facts i d)) (sym e) (all i d l)

-- ---- marking operators

-- an operator that is due exists
pub due_exists : (task : FiniteDomainTask) (asked : Facts) (n : ℕ) → IsDue task asked n → n < length task.operators
due_exists task asked n due = go (slice_get task.operators n) refl (due asked (λ f h. h))
  where
    go : (r : Option Operator) → slice_get task.operators n ≡ r → IsSomeAnd r (λ op. changes_classes (ranges task) asked op ≡ true) → n < length task.operators
    go None e h = absurd h
    go (Some op) e h = slice_get_within task.operators n op e

pub due_within : (task : FiniteDomainTask) (asked : List (List Bool)) (marks : List Bool) (n : ℕ) → IsClosing task asked marks → IsDue task (is_in asked) n → n < length marks
due_within task asked marks n closing due = omega (arith, closing.as_many, due_exists task (is_in asked) n due)

-- the conditions of an operator are in range
pub conditions_in_range : (task : FiniteDomainTask) (asked : List (List Bool)) (marks : List Bool) (n : ℕ) (op : Operator) → IsClosing task asked marks → All (IsOperator (ranges task)) task.operators → n < length task.operators →
    op ≡ get_or task.operators n op → All (IsInRange (map length asked)) op.precondition
conditions_in_range task asked marks n op closing all l is =
    let well : IsOperator (ranges task) op = subst (IsOperator (ranges task)) (sym is) (all n op l) in
    subst (λ (rs : List ℕ). All (IsInRange rs) op.precondition) (sym closing.shape) well.precondition.in_range

-- an operator that is due is marked, after its conditions are asked for
pub mark_closing : (task : FiniteDomainTask) (asked more : List (List Bool)) (marks : List Bool) (pending later : List Fact) (n : ℕ) (op : Operator) → IsClosing task asked marks → IsDue task (is_in asked) n →
    op ≡ get_or task.operators n op → Asks asked more pending later op.precondition → IsClosing task more (slice_set marks n true)
mark_closing task asked more marks pending later n op closing due is asks =
    let l : n < length task.operators = due_exists task (is_in asked) n due in
    let at : slice_get task.operators n ≡ Some op = slice_get-get_or task.operators n op l ∙ ap Some (sym is) in
    let next : IsClosing task more marks = closing_asks task asked more marks pending later op.precondition closing asks (due_needed task asked marks n op closing at due) in
    closing_marks task more marks n op next (omega (arith, closing.as_many, l)) at (due_more task (is_in asked) (is_in more) n asks.grows.facts due) asks.all

-- the next operator is due still
pub due_at : (task : FiniteDomainTask) (a b : List (List Bool)) (p q : List Fact) (ops : List ℕ) (i d : ℕ) → All (IsDue task (is_in a)) ops → i < length ops → Grows a b p q → IsDue task (is_in b) (get_or ops i d)
due_at task a b p q ops i d all l grows = due_more task (is_in a) (is_in b) (get_or ops i d) grows.facts (all i d l)

pub keeps_more : (a b c : List Bool) → KeepsMarks a b → KeepsMarks b c → KeepsMarks a c
keeps_more a b c first next o h = next o (first o h)

pub marked_more : (a b : List Bool) (ops : List ℕ) (i d : ℕ) → i < length ops → All (λ o. is_marked a o ≡ true) (take i ops) → KeepsMarks a b → is_marked b (get_or ops i d) ≡ true → All (λ o. is_marked b o ≡ true) (take (i + 1) ops)
marked_more a b ops i d l all keeps h =
    All-more (λ (o : ℕ). is_marked b o ≡ true) ops i d l (All-weaker (λ (o : ℕ). is_marked a o ≡ true) (λ (o : ℕ). is_marked b o ≡ true) keeps (take i ops) all) h

pub marked_all : (a : List Bool) (ops : List ℕ) (i : ℕ) → length ops ≤ i → All (λ o. is_marked a o ≡ true) (take i ops) → All (λ o. is_marked a o ≡ true) ops
marked_all a ops i l all = subst (All (λ (o : ℕ). is_marked a o ≡ true)) (take_all i ops l) all

-- ---- visiting facts

module _ (task : FiniteDomainTask) (asked : List (List Bool)) (marks : List Bool) (f : Fact) (closing : IsClosing task asked marks) (is_asked : is_in asked f ≡ true) where
  pub asked_in_range : IsInRange (ranges task) f
  asked_in_range = subst (λ (rs : List ℕ). IsInRange rs f) closing.shape (in_range asked f is_asked)

  pub asked_variable : f.variable < length task.value_names
  asked_variable = let range : IsInRange (ranges task) f = asked_in_range in omega (arith, range.0, length-map task.value_names length)

  pub all_due : (ops : List ℕ) → ((o : ℕ) → Contains ops o ↔ WaitsFor task f o) → All (IsDue task (is_in asked)) ops
  all_due ops waits k d l = waits_due task (is_in asked) f (get_or ops k d) is_asked ((waits (get_or ops k d)).0 (Contains-get_or ops k d l))

  pub all_due_any : (ops : List ℕ) → 1 < slice_index (ranges task) f.variable → ((o : ℕ) → Contains ops o ↔ WaitsForAny task f.variable o) → All (IsDue task (is_in asked)) ops
  all_due_any ops two waits k d l = waits_any_due task (is_in asked) f (get_or ops k d) asked_in_range two is_asked ((waits (get_or ops k d)).0 (Contains-get_or ops k d l))

pub marked_for : (task : FiniteDomainTask) (marks : List Bool) (f : Fact) (ops : List ℕ) → ((o : ℕ) → Contains ops o ↔ WaitsFor task f o) → All (λ o. is_marked marks o ≡ true) ops → (o : ℕ) → WaitsFor task f o → is_marked marks o ≡ true
marked_for task marks f ops waits all o w = All-contains (λ (n : ℕ). is_marked marks n ≡ true) ops o all ((waits o).1 w)

pub marked_for_any : (task : FiniteDomainTask) (marks : List Bool) (v : ℕ) (ops : List ℕ) → ((o : ℕ) → Contains ops o ↔ WaitsForAny task v o) → All (λ o. is_marked marks o ≡ true) ops → (o : ℕ) → WaitsForAny task v o → is_marked marks o ≡ true
marked_for_any task marks v ops waits all o w = All-contains (λ (n : ℕ). is_marked marks n ≡ true) ops o all ((waits o).1 w)

-- a variable is visited after its operators are marked
pub visited_step : (task : FiniteDomainTask) (marks after visited : List Bool) (v : ℕ) → v < length (ranges task) → AreVisited task marks visited → KeepsMarks marks after → ((o : ℕ) → WaitsForAny task v o → is_marked after o ≡ true) →
    AreVisited task after (slice_set visited v true)
visited_step task marks after visited v l are keeps all = visited_set task after visited v (omega (arith, are.as_many, l)) all (visited_more task marks after visited keeps are)

-- ---- the whole closure

-- no fact is to be visited
pub all_served : (task : FiniteDomainTask) (asked : List (List Bool)) (marks : List Bool) (pending : List Fact) → pending ≡ [] → AreOpen task asked marks pending → (f : Fact) → is_in asked f ≡ true → IsServed task marks f
all_served task asked marks pending e are f h =
    ⊎_elim (λ (k : Contains pending f). absurd (none_in f (subst (λ (xs : List Fact). Contains xs f) e k))) (λ (k : IsServed task marks f). k) (are.served f h)

-- the last fact to be visited is asked for
pub last_asked : (task : FiniteDomainTask) (asked : List (List Bool)) (marks : List Bool) (pending rest : List Fact) (f : Fact) → pending ≡ rest ++ f ∷ [] → AreOpen task asked marks pending → is_in asked f ≡ true
last_asked task asked marks pending rest f e are = are.known f (subst (λ (xs : List Fact). Contains xs f) (sym e) (Contains-push rest f))

-- a fact less is missing or to be visited
pub visits_fewer : (asked more : List (List Bool)) (pending rest later : List Fact) (f : Fact) → pending ≡ rest ++ f ∷ [] → Grows asked more rest later → absent more + length later < absent asked + length pending
visits_fewer asked more pending rest later f e grows = omega (arith, grows.count, ap length e, length_push rest f)

module _ (task : FiniteDomainTask) (asked more : List (List Bool)) (pending later : List Fact) (none : asked ≡ no_facts (ranges task)) (asks : Asks asked more pending later task.goal) where
  empty : (f : Fact) → is_in asked f ≡ true → ⊥
  empty f h = nothing_in (ranges task) f (subst (λ (s : List (List Bool)). is_in s f ≡ true) none h)

  pub closing_goal : (marks : List Bool) → marks ≡ replicate (length task.operators) false → IsClosing task more marks
  closing_goal marks m =
      let start : IsClosing task asked marks = subst (λ (s : List (List Bool)). IsClosing task s marks) (sym none) (subst (IsClosing task (no_facts (ranges task))) (sym m) (closing_start task)) in
      closing_asks task asked more marks pending later task.goal start asks (λ other closed. closed.goal)

  pub open_goal : (marks : List Bool) → pending ≡ [] → AreOpen task more marks later
  open_goal marks p =
      record {
        served = λ f h. ⊎_elim (λ (k : is_in asked f ≡ true). absurd (empty f k)) (λ (k : Contains later f). inl k) (asks.grows.opened f h);
        known = λ f h. ⊎_elim (λ (k : Contains pending f). absurd (none_in f (subst (λ (xs : List Fact). Contains xs f) p k))) (λ (k : is_in more f ≡ true). k) (asks.grows.known f h);
      }

pub goal_in_range : (task : FiniteDomainTask) (asked : List (List Bool)) (facts : List Fact) → asked ≡ no_facts (ranges task) → IsAssignment (ranges task) facts → All (IsInRange (map length asked)) facts
goal_in_range task asked facts none is = subst (λ (rs : List ℕ). All (IsInRange rs) facts) (sym (ap (map length) none ∙ no_shape (ranges task))) is.in_range

pub visited_start : (task : FiniteDomainTask) (marks visited : List Bool) → visited ≡ replicate (length task.value_names) false → AreVisited task marks visited
visited_start task marks visited e =
    record {
      as_many = ap length e ∙ length-replicate (length task.value_names) false ∙ sym (length-map task.value_names length);
      marked = λ v h. absurd (unmarked (length task.value_names) v (subst (λ (bs : List Bool). is_marked bs v ≡ true) e h));
    }

pub asked_at_end : (task : FiniteDomainTask) (first asked : List (List Bool)) (marks : List Bool) → IsClosing task asked marks → AllAsked (is_in first) task.goal → Includes (is_in asked) (is_in first) →
    ((f : Fact) → is_in asked f ≡ true → IsServed task marks f) → AreAsked task (is_in asked)
asked_at_end task first asked marks closing goal in' served = closed_at_end task asked marks closing (all_more (is_in first) (is_in asked) task.goal in' goal) served
