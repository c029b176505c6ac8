-- Lists of facts: which values they give, and conditions in another order.
use Rattle.std.proofs.Common.{◌≡◌, ℕ, ◌<◌, ◌≤◌, Bool, true, false, ◌&&◌, cond, eqb, List, [], ◌∷◌, ◌++◌, length, map, refl, sym, ap, subst, ◌∙◌, arith, Option, Some, None}
use Rattle.std.specs.Prelude.{not, ◌||◌, filter, option_map, All}
use Rattle.std.specs.List.{list_all, list_any, filter_map, cons_option, AllByRecursion, IsDistinct}
use Rattle.std.proofs.lemmas.Bool.{eqb-true, eq-eqb}
use Rattle.std.proofs.lemmas.List.{length-map}
use Rattle.std.proofs.lemmas.List.Elements.{All-head, All-tail, recursion_from_All}
use Rattle.std.proofs.lemmas.List.Sums.{AllPass-from_list_all}
use Rattle.std.proofs.lemmas.List.Folds.{list_all-append, list_any-append}
use Rattle.std.proofs.lemmas.Map.Steps.{length-le_from_distinct_below}
use Rattle.fdr.specs.declared.fact.Fact.{Fact}
use Rattle.fdr.specs.Tasks.{Operator, IsInRange, IsAssignment, IsOperator, names_variable, are_distinct, holds, applies}
use Rattle.sasfile_reader.proofs.Steps.{some_is}
use Rattle.sasfile_reader.proofs.Assignments.{and_left, and_right, or_left_false, or_right_false, both_true, swap_false, not_false}
use Rattle.sasfile_writer.specs.Written.{value_of}
use Rattle.sasfile_writer.specs.TextOrder.{reordered}

-- a value of a variable
abbrev pub at : ℕ → ℕ → Fact
at v x = record { variable = v; value = x }

-- ---- the value that facts give a variable

value_same : (f : Fact) (fs : List Fact) (v : ℕ) → eqb f.variable v ≡ true → value_of (f ∷ fs) v ≡ Some f.value
value_same f fs v e = rw e refl

value_other : (f : Fact) (fs : List Fact) (v : ℕ) → eqb f.variable v ≡ false → value_of (f ∷ fs) v ≡ value_of fs v
value_other f fs v e = rw e refl

-- what holds of each fact holds of the value that they give
value_by : (P : Fact → Type 0) (t : Bool) (f : Fact) (fs : List Fact) (v x : ℕ) → t ≡ eqb f.variable v → P f → (value_of fs v ≡ Some x → P (at v x)) → value_of (f ∷ fs) v ≡ Some x → P (at v x)
value_by P true f fs v x is here more e =
    let variable : f.variable ≡ v = eqb-true f.variable v (sym is) in
    let value : f.value ≡ x = some_is f.value x (sym (value_same f fs v (sym is)) ∙ e) in
    let same : f ≡ at v x = ap (λ (w : ℕ). at w f.value) variable ∙ ap (at v) value in
    subst P same here
value_by P false f fs v x is here more e = more (sym (value_other f fs v (sym is)) ∙ e)

pub value_holds : (P : Fact → Type 0) (fs : List Fact) (v x : ℕ) → AllByRecursion P fs → value_of fs v ≡ Some x → P (at v x)
value_holds P [] v x all e = absurd cc
value_holds P (f ∷ fs) v x all e = value_by P (eqb f.variable v) f fs v x refl all.0 (value_holds P fs v x all.1) e

-- each fact gives its variable its value
abbrev GiveOwn : List Fact → List Fact → Type 0
GiveOwn all fs = AllByRecursion (λ (f : Fact). value_of all f.variable ≡ Some f.value) fs

own_push : (g : Fact) (all fs : List Fact) → names_variable fs g.variable ≡ false → GiveOwn all fs → GiveOwn (g ∷ all) fs
own_push g all [] n own = tt
own_push g all (f ∷ fs) n own =
    let other = swap_false f.variable g.variable (or_left_false (eqb f.variable g.variable) (names_variable fs g.variable) n) in
    (value_other g all f.variable other ∙ own.0, own_push g all fs (or_right_false (eqb f.variable g.variable) (names_variable fs g.variable) n) own.1)

own_values : (fs : List Fact) → are_distinct fs ≡ true → GiveOwn fs fs
own_values [] d = tt
own_values (f ∷ fs) d =
    let first = not_false (names_variable fs f.variable) (and_left (not (names_variable fs f.variable)) (are_distinct fs) d) in
    (value_same f fs f.variable (eq-eqb f.variable f.variable refl), own_push f fs fs first (own_values fs (and_right (not (names_variable fs f.variable)) (are_distinct fs) d)))

-- ---- tests of each

filter_by : {X : Type 0} (p : X → Bool) (t : Bool) (x : X) (ys : List X) → p x ≡ true → list_all p ys ≡ true → list_all p (cond t (x ∷ ys) ys) ≡ true
filter_by p true x ys here more = rw here more
filter_by p false x ys here more = more

filter_all : {X : Type 0} (p q : X → Bool) (xs : List X) → list_all p xs ≡ true → list_all p (filter q xs) ≡ true
filter_all p q [] e = refl
filter_all p q (x ∷ xs) e = filter_by p (q x) x (filter q xs) (and_left (p x) (list_all p xs) e) (filter_all p q xs (and_right (p x) (list_all p xs) e))

-- ---- conditions in the text's order

-- the conditions on the variables of effects, in their order
abbrev pub conditions : List Fact → List Fact → List Fact
conditions all effects = filter_map (λ f. option_map (λ x. record { variable = f.variable; value = x }) (value_of all f.variable)) effects

-- those on other variables
abbrev pub others : List Fact → List Fact → List Fact
others all effects = filter (λ f. not (names_variable effects f.variable)) all

cons_hold : (state : List ℕ) (v : ℕ) (o : Option ℕ) (fs : List Fact) → ((x : ℕ) → o ≡ Some x → holds state (at v x) ≡ true) → list_all (holds state) fs ≡ true → list_all (holds state) (cons_option (option_map (at v) o) fs) ≡ true
cons_hold state v None fs here more = more
cons_hold state v (Some x) fs here more = rw (here x refl) more

conditions_hold : (state : List ℕ) (all effects : List Fact) → AllByRecursion (λ f. holds state f ≡ true) all → list_all (holds state) (conditions all effects) ≡ true
conditions_hold state all [] h = refl
conditions_hold state all (e ∷ es) h =
    cons_hold state e.variable (value_of all e.variable) (conditions all es) (λ x s. value_holds (λ f. holds state f ≡ true) all e.variable x h s) (conditions_hold state all es h)

tail_holds : (state : List ℕ) (v : ℕ) (o : Option ℕ) (fs : List Fact) → list_all (holds state) (cons_option (option_map (at v) o) fs) ≡ true → list_all (holds state) fs ≡ true
tail_holds state v None fs h = h
tail_holds state v (Some x) fs h = and_right (holds state (at v x)) (list_all (holds state) fs) h

head_holds : (state : List ℕ) (v x : ℕ) (o : Option ℕ) (fs : List Fact) → o ≡ Some x → list_all (holds state) (cons_option (option_map (at v) o) fs) ≡ true → holds state (at v x) ≡ true
head_holds state v x None fs e h = absurd cc
head_holds state v x (Some y) fs e h =
    subst (λ (z : ℕ). holds state (at v z) ≡ true) (some_is y x e) (and_left (holds state (at v y)) (list_all (holds state) fs) h)

given_by : (t more : Bool) (state : List ℕ) (all : List Fact) (e : Fact) (es : List Fact) (v x : ℕ) → t ≡ eqb e.variable v → (t || more) ≡ true → value_of all v ≡ Some x → list_all (holds state) (conditions all (e ∷ es)) ≡ true
    → (more ≡ true → list_all (holds state) (conditions all es) ≡ true → holds state (at v x) ≡ true) → holds state (at v x) ≡ true
given_by true more state all e es v x is named s h later =
    let variable : e.variable ≡ v = eqb-true e.variable v (sym is) in
    let here : value_of all e.variable ≡ Some x = ap (value_of all) variable ∙ s in
    subst (λ (w : ℕ). holds state (at w x) ≡ true) variable (head_holds state e.variable x (value_of all e.variable) (conditions all es) here h)
given_by false more state all e es v x is named s h later = later named (tail_holds state e.variable (value_of all e.variable) (conditions all es) h)

given_hold : (state : List ℕ) (all effects : List Fact) (v x : ℕ) → names_variable effects v ≡ true → value_of all v ≡ Some x → list_all (holds state) (conditions all effects) ≡ true → holds state (at v x) ≡ true
given_hold state all [] v x named s h = absurd cc
given_hold state all (e ∷ es) v x named s h =
    given_by (eqb e.variable v) (names_variable es v) state all e es v x refl named s h (λ n k. given_hold state all es v x n s k)

hold_by : (t : Bool) (state : List ℕ) (f : Fact) (rest fs : List Fact) → (t ≡ true → holds state f ≡ true) → list_all (holds state) (cond (not t) (f ∷ rest) rest) ≡ true → (list_all (holds state) rest ≡ true → list_all (holds state) fs ≡ true) → list_all (holds state) (f ∷ fs) ≡ true
hold_by true state f rest fs here h more = rw (here refl) (more h)
hold_by false state f rest fs here h more =
    rw (and_left (holds state f) (list_all (holds state) rest) h) (more (and_right (holds state f) (list_all (holds state) rest) h))

all_hold : (state : List ℕ) (all effects fs : List Fact) → GiveOwn all fs → list_all (holds state) (conditions all effects) ≡ true → list_all (holds state) (others fs effects) ≡ true → list_all (holds state) fs ≡ true
all_hold state all effects [] own h k = refl
all_hold state all effects (f ∷ fs) own h k =
    hold_by (names_variable effects f.variable) state f (others fs effects) fs (λ named. given_hold state all effects f.variable f.value named own.0 h) k (all_hold state all effects fs own.1 h)

same_by : (a b : Bool) → (a ≡ true → b ≡ true) → (b ≡ true → a ≡ true) → a ≡ b
same_by true b f g = sym (f refl)
same_by false true f g = g refl
same_by false false f g = refl

-- the order of conditions says nothing
pub applies_same : (ranges : List ℕ) (op : Operator) → IsOperator ranges op → (state : List ℕ) → applies (reordered op) state ≡ applies op state
applies_same ranges op ok state =
    let p = op.precondition in let e = op.effect in
    list_all-append (holds state) (others p e) (conditions p e)
    ∙ same_by (list_all (holds state) (others p e) && list_all (holds state) (conditions p e)) (list_all (holds state) p)
    (λ h. all_hold state p e p (own_values p ok.precondition.distinct) (and_right (list_all (holds state) (others p e)) (list_all (holds state) (conditions p e)) h) (and_left (list_all (holds state) (others p e)) (list_all (holds state) (conditions p e)) h))
    (λ h. both_true (list_all (holds state) (others p e)) (list_all (holds state) (conditions p e)) (filter_all (holds state) (λ f. not (names_variable e f.variable)) p h) (conditions_hold state p e (recursion_from_All (λ f. holds state f ≡ true) p (AllPass-from_list_all (holds state) p h))))

-- ---- variables that are named once

filtered_by : (t u more : Bool) (v : ℕ) (f : Fact) (rest : List Fact) → u ≡ eqb f.variable v → (u || more) ≡ false → (more ≡ false → names_variable rest v ≡ false) → names_variable (cond t (f ∷ rest) rest) v ≡ false
filtered_by t true more v f rest is n later = absurd cc
filtered_by true false more v f rest is n later = rw (← is) (later n)
filtered_by false false more v f rest is n later = later n

others_named : (fs effects : List Fact) (v : ℕ) → names_variable fs v ≡ false → names_variable (others fs effects) v ≡ false
others_named [] effects v n = refl
others_named (f ∷ fs) effects v n =
    filtered_by (not (names_variable effects f.variable)) (eqb f.variable v) (names_variable fs v) v f (others fs effects) refl n (others_named fs effects v)

distinct_by : (t : Bool) (f : Fact) (rest effects : List Fact) → t ≡ names_variable effects f.variable → names_variable rest f.variable ≡ false → are_distinct (rest ++ effects) ≡ true → are_distinct (cond (not t) (f ∷ rest) rest ++ effects) ≡ true
distinct_by true f rest effects is n d = d
distinct_by false f rest effects is n d =
    let none : names_variable (rest ++ effects) f.variable ≡ false = list_any-append (λ (g : Fact). eqb g.variable f.variable) rest effects ∙ rw (n, ← is) refl in
    rw none d

pub distinct_both : (fs effects : List Fact) → are_distinct fs ≡ true → are_distinct effects ≡ true → are_distinct (others fs effects ++ effects) ≡ true
distinct_both [] effects d e = e
distinct_both (f ∷ fs) effects d e =
    let first = not_false (names_variable fs f.variable) (and_left (not (names_variable fs f.variable)) (are_distinct fs) d) in
    distinct_by (names_variable effects f.variable) f (others fs effects) effects refl (others_named fs effects f.variable first)
    (distinct_both fs effects (and_right (not (names_variable fs f.variable)) (are_distinct fs) d) e)

abbrev variables : List Fact → List ℕ
variables fs = map (λ (f : Fact). f.variable) fs

apart_from : (fs : List Fact) (v : ℕ) → names_variable fs v ≡ false → AllByRecursion (λ (w : ℕ). eqb v w ≡ false) (variables fs)
apart_from [] v n = tt
apart_from (f ∷ fs) v n =
    (swap_false f.variable v (or_left_false (eqb f.variable v) (names_variable fs v) n), apart_from fs v (or_right_false (eqb f.variable v) (names_variable fs v) n))

variables_distinct : (fs : List Fact) → are_distinct fs ≡ true → IsDistinct eqb (variables fs)
unfolding IsDistinct
variables_distinct [] d = tt
variables_distinct (f ∷ fs) d =
    (apart_from fs f.variable (not_false (names_variable fs f.variable) (and_left (not (names_variable fs f.variable)) (are_distinct fs) d)), variables_distinct fs (and_right (not (names_variable fs f.variable)) (are_distinct fs) d))

below_by : (t more : Bool) (v q n : ℕ) → t ≡ eqb q v → v < n → (t || more) ≡ true → (more ≡ true → q < n) → q < n
below_by true more v q n is lt h later = subst (λ (w : ℕ). w < n) (sym (eqb-true q v (sym is))) lt
below_by false more v q n is lt h later = later h

variables_below : (ranges : List ℕ) (fs : List Fact) → All (IsInRange ranges) fs → (q : ℕ) → list_any (eqb q) (variables fs) ≡ true → q < length ranges
variables_below ranges [] all q h = absurd cc
variables_below ranges (f ∷ fs) all q h =
    below_by (eqb q f.variable) (list_any (eqb q) (variables fs)) f.variable q (length ranges) refl (All-head (IsInRange ranges) f fs all).0 h (variables_below ranges fs (All-tail (IsInRange ranges) f fs all) q)

-- there are at most as many facts as variables
pub few_facts : (ranges : List ℕ) (fs : List Fact) → IsAssignment ranges fs → length fs ≤ length ranges
few_facts ranges fs ok =
    let h : length (variables fs) ≤ length ranges = length-le_from_distinct_below (variables fs) (length ranges) (variables_distinct fs ok.distinct) (variables_below ranges fs ok.in_range) in
    omega (arith, length-map fs (λ (f : Fact). f.variable))
