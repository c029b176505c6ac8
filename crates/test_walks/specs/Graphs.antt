-- Abstractions that are given by lists, for tests.
use Rattle.std.specs.Prelude.{◌≡◌, ℕ, ◌+◌, ◌*◌, ◌^◌, ◌<◌, ◌≤◌, ◌↔◌, ◌⊎◌, Bool, true, false, nat_lt, if◌then◌else◌, cond, List, [], ◌∷◌, length, replicate, Option, Some, None, option_and_then, IfSome, slice_index, slice_index_or, slice_get, is_some, Contains, refl}
use Rattle.std.specs.List.Sorted.{IsStrictlyIncreasing}
use Rattle.std.proofs.Common.{arith, ⊎_elim, ap, sym, subst, ◌∙◌}
use Rattle.std.proofs.lemmas.Bool.Decides.{nat_tests}
use Rattle.std.proofs.lemmas.List.{length-replicate, get_or-replicate}
use Rattle.std.proofs.lemmas.Bool.{ne_eqb, and_left, both_ways, cases_lt}
use Rattle.std.proofs.lemmas.Option.{slice_get-get_or, slice_get_past}
use Rattle.fdr.specs.declared.fact.Fact.{Fact}
use Rattle.fdr.specs.Tasks.{FiniteDomainTask, Operator, ranges, holds, is_goal_state, step, applies, successor, IsState}
use Rattle.abstraction.specs.Abstractions.{Abstraction, IsAbstractionOf}
use Rattle.abstraction_groups.specs.declared.backward.Transition.{Transition}
use Rattle.abstraction_groups.specs.Entrances.{Classes, AreClasses, LeadsTo}

-- a value that the task's one variable does not have
abbrev absent_fact : Fact
absent_fact = record { variable = 0; value = 1 }

abbrev blocked : Operator
blocked = record { name = []; precondition = absent_fact ∷ []; effect = []; cost = 0 }

-- a task with one state, which is not a goal and in which no operator applies
abbrev pub graph_task : ℕ → FiniteDomainTask
graph_task operators = record {
  metric = false;
  value_names = ([] ∷ []) ∷ [];
  initial = 0 ∷ [];
  goal = absent_fact ∷ [];
  operators = replicate operators blocked;
}

-- the class of each operator that has one
abbrev pub kind_of : ℕ → Option ℕ → Option ℕ
kind_of count r = option_and_then (λ c. if nat_lt c count then Some c else None) r

-- the target, unless the number is none
abbrev pub if_below : ℕ → ℕ → Option ℕ
if_below size target = if nat_lt target size then Some target else None

-- the target of a class at an abstract state
abbrev pub target_of : ℕ → List ℕ → ℕ → ℕ → Option ℕ
target_of size targets c i = if_below size (slice_index targets (c * size + i))

abbrev pub step_of : ℕ → ℕ → List ℕ → ℕ → Option ℕ → Option ℕ
step_of size count targets i r = option_and_then (λ c. if nat_lt c count then target_of size targets c i else Some i) r

abbrev pub graph : List Bool → ℕ → List ℕ → List ℕ → Abstraction
graph goals count kinds targets = record {
  size = length goals;
  index = λ s. 0;
  transition = λ i o. step_of (length goals) count targets i (slice_get kinds o);
  touches = λ o. is_some (kind_of count (slice_get kinds o));
  is_goal = λ i. slice_index_or goals i false;
}

abbrev pub graph_classes : ℕ → List ℕ → Classes
graph_classes count kinds = record { count = count; class = λ o. kind_of count (slice_get kinds o) }

-- an abstraction by lists: its abstract goals, the number of classes, the class of each operator or a number that is
-- none, and for each class and each abstract state the target or a number that is none
pub record Listing : Type 0 where
  pub goals : List Bool
  pub count : ℕ
  pub kinds : List ℕ
  pub targets : List ℕ
  pub some : 0 < length goals
  pub small : length goals ≤ 2 ^ 24

abbrev pub abstraction_by : Listing → Abstraction
abstraction_by g = graph g.goals g.count g.kinds g.targets

abbrev pub classes_by : Listing → Classes
classes_by g = graph_classes g.count g.kinds

-- exactly the operators of a class, by increasing numbers
pub record AreMembers (count : ℕ) (kinds : List ℕ) (c : ℕ) (operators : List ℕ) : Type 0 where
  pub increasing : IsStrictlyIncreasing operators
  pub listed : (o : ℕ) → Contains operators o ↔ (kind_of count (slice_get kinds o) ≡ Some c)

-- the lists have the operators of each of the first n classes
pub record AreListed (count : ℕ) (kinds : List ℕ) (n : ℕ) (members : List (List ℕ)) : Type 0 where
  pub full : length members ≡ n
  pub each : (c : ℕ) → c < n → AreMembers count kinds c (slice_index_or members c [])

-- the class has a transition from the source, one of the first n abstract states, to the abstract state
abbrev pub IsFrom : Listing → ℕ → ℕ → ℕ → ℕ → Type 0
IsFrom g c n j i = (i < n) × (target_of (length g.goals) g.targets c i ≡ Some j)

-- the transitions of the class from the first n abstract states to the abstract state have been appended
pub record HasEntering (g : Listing) (c n j : ℕ) (old new : List Transition) : Type 0 where
  pub kept : (t : Transition) → Contains old t → Contains new t
  pub added : (i : ℕ) → IsFrom g c n j i → Contains new (record { class = c; source = i })
  pub only : (t : Transition) → Contains new t → Contains old t ⊎ ((t.class ≡ c) × IsFrom g c n j t.source)

absent_false : (operators : ℕ) (s : List ℕ) → IsState (ranges (graph_task operators)) s → holds s absent_fact ≡ false
absent_false operators s h = let l = h.in_range 0 (omega arith) in ne_eqb (slice_index s 0) 1 (λ e. omega arith)

no_goal : (operators : ℕ) (s : List ℕ) → IsState (ranges (graph_task operators)) s → is_goal_state (graph_task operators) s ≡ false
no_goal operators s h = and_left (holds s absent_fact) true (absent_false operators s h)

abbrev after_by : List ℕ → Option Operator → Option (List ℕ)
after_by s r = option_and_then (λ op. if applies op s then Some (successor op s) else None) r

no_step : (operators : ℕ) (s : List ℕ) (o : ℕ) → IsState (ranges (graph_task operators)) s → step (graph_task operators) s o ≡ None
no_step operators s o h =
    ⊎_elim
    (λ (l : o < operators).
    let inside : o < length (replicate operators blocked) = omega (arith, long) in
    let e = slice_get-get_or (replicate operators blocked) o blocked inside in
    let f = get_or-replicate operators o blocked blocked l in
    ap (after_by s) e ∙ ap (λ (x : Operator). after_by s (Some x)) f ∙ ap (λ (b : Bool). if b then Some s else None) (no_goal operators s h))
    (λ (l : operators ≤ o). ap (after_by s) (slice_get_past (replicate operators blocked) o (omega (arith, long))))
    (cases_lt o operators)
  where
    long : length (replicate operators blocked) ≡ operators
    long = length-replicate operators blocked

below_if : (size t : ℕ) → IfSome (if_below size t) (λ j. j < size)
below_if size t = grind (arith, nat_tests)

step_below : (size count : ℕ) (targets : List ℕ) (i : ℕ) (r : Option ℕ) → i < size → IfSome (step_of size count targets i r) (λ j. j < size)
step_below size count targets i None l = tt
step_below size count targets i (Some c) l = go (nat_lt c count)
  where
    go : (b : Bool) → IfSome (if b then target_of size targets c i else Some i) (λ j. j < size)
    go true = below_if size (slice_index targets (c * size + i))
    go false = l

step_same : (size count : ℕ) (targets : List ℕ) (i : ℕ) (r : Option ℕ) → is_some (kind_of count r) ≡ false → IfSome (step_of size count targets i r) (λ j. j ≡ i)
step_same size count targets i None t = tt
step_same size count targets i (Some c) t = go (nat_lt c count) t
  where
    go : (b : Bool) → is_some (if b then Some c else None) ≡ false → IfSome (if b then target_of size targets c i else Some i) (λ j. j ≡ i)
    go true e = absurd (cc)
    go false e = refl

pub graph_abstracts : (goals : List Bool) (count : ℕ) (kinds targets : List ℕ) → 0 < length goals → IsAbstractionOf (graph_task (length kinds)) (graph goals count kinds targets)
graph_abstracts goals count kinds targets some =
    record {
      indices = λ s h. some;
      transitions = λ i o l. step_below (length goals) count targets i (slice_get kinds o) l;
      steps = λ s o h. rw (no_step (length kinds) s o h) tt;
      goals = λ s h g. absurd (both_ways (is_goal_state (graph_task (length kinds)) s) (no_goal (length kinds) s h) g);
      operators = λ i o l. ap (step_of (length goals) count targets i) (slice_get_past kinds o (omega (arith, length-replicate {A = Operator} (length kinds) blocked)));
      untouched = λ i o l away. step_same (length goals) count targets i (slice_get kinds o) away;
    }

-- the class is a number below the count
kind_below : (count c : ℕ) (r : Option ℕ) → kind_of count r ≡ Some c → c < count
kind_below count c None e = absurd (cc)
kind_below count c (Some k) e = grind (arith, nat_tests)

-- an operator of the class reaches its target
pub step_of_kind : (size count : ℕ) (targets : List ℕ) (i c : ℕ) (r : Option ℕ) → kind_of count r ≡ Some c → step_of size count targets i r ≡ target_of size targets c i
step_of_kind size count targets i c None e = absurd (cc)
step_of_kind size count targets i c (Some k) e = go (nat_lt k count) e
  where
    go : (b : Bool) → (if b then Some k else None) ≡ Some c → (if b then target_of size targets k i else Some i) ≡ target_of size targets c i
    go true f = let same : k ≡ c = cc in ap (λ (x : ℕ). target_of size targets x i) same
    go false f = absurd (cc)

step_of_none : (size count : ℕ) (targets : List ℕ) (i j : ℕ) (r : Option ℕ) → kind_of count r ≡ None → step_of size count targets i r ≡ Some j → i ≡ j
step_of_none size count targets i j None e s = absurd (cc)
step_of_none size count targets i j (Some k) e s = go (nat_lt k count) e s
  where
    go : (b : Bool) → (if b then Some k else None) ≡ None → (if b then target_of size targets k i else Some i) ≡ Some j → i ≡ j
    go true f s = absurd (cc)
    go false f s = cc

pub graph_grouped : (goals : List Bool) (count : ℕ) (kinds targets : List ℕ) → AreClasses (graph goals count kinds targets) (graph_classes count kinds)
graph_grouped goals count kinds targets = record {
  below = λ o c e. kind_below count c (slice_get kinds o) e;
  alike = λ o p c i j e f l step.
      let size = length goals in
      (step.0, step_of_kind size count targets i c (slice_get kinds p) f ∙ sym (step_of_kind size count targets i c (slice_get kinds o) e) ∙ step.1);
  others = λ o i j e l step. step_of_none (length goals) count targets i j (slice_get kinds o) e step.1;
}
