-- Where two texts spell a task, its numbers and its increases are few and small, so that no cost passes 64 bits.
use Rattle.std.proofs.Common.{◌≡◌, ℕ, zero, suc, ◌^◌, ◌≤◌, ◌+◌, ◌*◌, ◌-◌, Bool, true, false, List, [], ◌∷◌, ◌++◌, length, map, refl, ap, subst, ◌∙◌, arith}
use Rattle.std.specs.Prelude.{Option, Some, None, ◌==◌, ◌&&◌, nat_le, nat_lt, if◌then◌else◌, is_some, find, slice_get, option_to_list, codes}
use Rattle.std.specs.List.{list_all}
use Rattle.std.specs.Option.{option_map, option_map_or}
use Rattle.std.proofs.lemmas.Bool.Decides.{nat_tests}
use Rattle.std.proofs.lemmas.List.{length-append}
use Rattle.std.proofs.lemmas.List.Folds.{list_all-append}
use Rattle.sexp.specs.Forms.{Forms, none, word, group, behind}
use Rattle.pddl_task.specs.Atoms.{Atom}
use Rattle.pddl_task.specs.Lifted.{Lifted}
use Rattle.pddl_task.specs.declared.schema.Increase.{Increase}
use Rattle.pddl_task.specs.declared.schema.Increase.TheVariants.{Value}
use Rattle.pddl_task.specs.Planning.{PlanningTask, FunctionValue, is_small_increase, has_small_increases, has_small_costs}
use Rattle.pddl_syntax.specs.declared.word.WordKind.{WordKind}
use Rattle.pddl_syntax.specs.declared.word.WordKind.TheVariants.{Dash, Name, Variable, Other}
use Rattle.pddl_syntax.specs.Words.{word_kind}
use Rattle.pddl_syntax.specs.declared.number.Number.{Number}
use Rattle.pddl_syntax.specs.declared.number.Number.TheVariants.{Whole, Fraction, OutOfRange, NoNumber}
use Rattle.pddl_syntax.specs.Numbers.{is_digit, in_range, by_zeros, after_point, after_digits, unsigned, negated, number_of}
use Rattle.pddl_syntax.specs.declared.fault.Fault.{Fault}
use Rattle.pddl_syntax.specs.declared.fault.LimitedTable.{LimitedTable}
use Rattle.pddl_syntax.specs.declared.fault.LimitedTable.TheVariants.{Literals, Increases}
use Rattle.pddl_syntax.specs.Faults.{first_of}
use Rattle.pddl_syntax.specs.Sections.{Part}
use Rattle.pddl_syntax.specs.Parameters.{parameter_names, parameter_types}
use Rattle.pddl_syntax.proofs.Firsts.{none_kept}
use Rattle.pddl_terms.specs.declared.beginning.Beginning.{Beginning}
use Rattle.pddl_terms.specs.declared.beginning.Beginning.TheVariants.{Conjunction, Negation, Equality, GoalEquality, Increasing, Unread, Atom as PredicateHead, NoName}
use Rattle.pddl_terms.specs.declared.beginning.Setting.TheVariants.{InEffect}
use Rattle.pddl_terms.specs.Beginnings.{beginning}
use Rattle.pddl_terms.specs.Terms.{Scope, lifted, is_total_cost, not_empty}
use Rattle.pddl_effect.specs.Effects.{function_value, amount_of_word, amount_inside, amount_of, increase_of, group_increases, increases}
use Rattle.pddl_effect.specs.Literals as places
use Rattle.pddl_action.specs.declared.keyword.Keyword.{Keyword}
use Rattle.pddl_action.specs.declared.keyword.Keyword.TheVariants.{Parameters, Precondition, Effect}
use Rattle.pddl_action.specs.Keywords.{KeywordPart, parts, value_of, same_keyword, keyword_faults, none_seen}
use Rattle.pddl_action.specs.Domains.{Declarations}
use Rattle.pddl_action.specs.Actions.{scope_of, parameters_of, value_increases, all_increases, all_literals, past_faults, past_fault, limit_faults, schema_in, schema_behind, values_faults, named_faults, action_faults, each_faults, with_action_name, schema_of}
use Rattle.pddl_problem.specs.declared.initial.ItemKind.{ItemKind}
use Rattle.pddl_problem.specs.declared.initial.ItemKind.TheVariants.{TrueAtom, Value as ValueItem, Negated, NotRead, Nothing}
use Rattle.pddl_problem.specs.Initial.{whole, number_alone, value_by, first_function, item_kind, item_value, value_inside, value_among, with_value, stated_values}
use Rattle.pddl.specs.Passes.{Pass, in_file, first_pass}
use Rattle.pddl.specs.Texts.{SpellTask, declarations_of, actions_of, domain_passes, declaring_passes, actions_pass, inside_of, objects_of, constants_of, scope_over, task_of, schemas_of}

-- ---- numbers

in_range_small : (n m : ℕ) → in_range n ≡ Whole m → m ≤ 2147483647
in_range_small n m e = by (nat_le n 2147483647) refl e where
  by : (b : Bool) → nat_le n 2147483647 ≡ b → (if b then Whole n else OutOfRange) ≡ Whole m → m ≤ 2147483647
  by true le w = let same : n ≡ m = cc in grind (arith, nat_tests)
  by false le w = absurd cc

by_zeros_small : (zeros digits : Bool) (n m : ℕ) → by_zeros zeros digits n ≡ Whole m → m ≤ 2147483647
by_zeros_small true digits n m e = in_range_small n m e
by_zeros_small false true n m e = absurd cc
by_zeros_small false false n m e = absurd cc

after_point_small : (n : ℕ) (bs : List ℕ) (m : ℕ) → after_point n bs ≡ Whole m → m ≤ 2147483647
after_point_small n [] m e = absurd cc
after_point_small n (b ∷ bs) m e = by_zeros_small (list_all (λ c. c == 48) (b ∷ bs)) (list_all is_digit (b ∷ bs)) n m e

after_digits_small : (n : ℕ) (bs : List ℕ) (m : ℕ) → after_digits n bs ≡ Whole m → m ≤ 2147483647
after_digits_small n [] m e = in_range_small n m e
after_digits_small n (b ∷ bs) m e = by (is_digit b) (b == 46) e (after_digits_small (n * 10 + (b - 48)) bs m) where
  by : (digit point : Bool) → (if digit then after_digits (n * 10 + (b - 48)) bs else (if point then after_point n bs else NoNumber)) ≡ Whole m
      → (after_digits (n * 10 + (b - 48)) bs ≡ Whole m → m ≤ 2147483647) → m ≤ 2147483647
  by true point w go = go w
  by false true w go = after_point_small n bs m w
  by false false w go = absurd cc

unsigned_small : (bs : List ℕ) (m : ℕ) → unsigned bs ≡ Whole m → m ≤ 2147483647
unsigned_small [] m e = absurd cc
unsigned_small (b ∷ bs) m e = by (is_digit b) e where
  by : (digit : Bool) → (if digit then after_digits (b - 48) bs else NoNumber) ≡ Whole m → m ≤ 2147483647
  by true w = after_digits_small (b - 48) bs m w
  by false w = absurd cc

negated_not_whole : (n : Number) (m : ℕ) → negated n ≡ Whole m → m ≤ 2147483647
negated_not_whole (Whole n) m e = absurd cc
negated_not_whole OutOfRange m e = absurd cc
negated_not_whole Fraction m e = absurd cc
negated_not_whole NoNumber m e = absurd cc

-- a word that is a whole number in range
pub number_small : (t : List ℕ) (m : ℕ) → number_of t ≡ Whole m → m ≤ 2147483647
number_small [] m e = absurd cc
number_small (b ∷ bs) m e = by (b == 45) e where
  by : (minus : Bool) → (if minus then negated (unsigned bs) else unsigned (b ∷ bs)) ≡ Whole m → m ≤ 2147483647
  by true w = negated_not_whole (unsigned bs) m w
  by false w = unsigned_small (b ∷ bs) m w

below : (m : ℕ) → m ≤ 2147483647 → nat_lt m (2 ^ 32) ≡ true
below m le = grind (arith, nat_tests)

-- ---- lists

all_behind : {X : Type 0} (p : X → Bool) (xs ys : List X) → list_all p xs ≡ true → list_all p ys ≡ true → list_all p (xs ++ ys) ≡ true
all_behind p xs ys h k = list_all-append p xs ys ∙ ap (λ (b : Bool). b && list_all p ys) h ∙ k

nil_left : {X : Type 0} (xs ys : List X) → xs ++ ys ≡ [] → xs ≡ []
nil_left [] ys e = refl
nil_left (x ∷ xs) ys e = absurd cc

nil_right : {X : Type 0} (xs ys : List X) → xs ++ ys ≡ [] → ys ≡ []
nil_right [] ys e = e
nil_right (x ∷ xs) ys e = absurd cc

none_past : {X : Type 0} (xs : List X) (n : ℕ) → slice_get xs n ≡ None → length xs ≤ n
none_past [] n e = omega arith
none_past (x ∷ xs) zero e = absurd cc
none_past (x ∷ xs) (suc n) e = let le = none_past xs n e in omega (arith, le)

within_limit : (table : LimitedTable) (limit : ℕ) (at : List ℕ) → past_faults table limit at ≡ [] → length at ≤ limit
within_limit table limit at e = none_past at limit (by (slice_get at limit) e) where
  by : (o : Option ℕ) → past_fault table o ≡ [] → o ≡ None
  by None w = refl
  by (Some s) w = absurd cc

-- ---- the increases of an effect

function_small : (scope : Scope) (t : List ℕ) (f : Forms) (kind : WordKind) → list_all is_small_increase (option_to_list (function_value scope t f kind)) ≡ true
function_small scope t f Name = by (is_total_cost t) (lifted scope.functions scope t f) where
  by : (b : Bool) (atom : Option Lifted) → list_all is_small_increase (option_to_list (if b then None else option_map Value atom)) ≡ true
  by true atom = refl
  by false None = refl
  by false (Some atom) = refl
function_small scope t f Dash = refl
function_small scope t f Variable = refl
function_small scope t f Other = refl

amount_word_small : (scope : Scope) (t : List ℕ) (n : Number) → number_of t ≡ n → list_all is_small_increase (option_to_list (amount_of_word scope t n)) ≡ true
amount_word_small scope t (Whole n) e = ap (λ (b : Bool). b && true) (below n (number_small t n e))
amount_word_small scope t Fraction e = refl
amount_word_small scope t OutOfRange e = refl
amount_word_small scope t NoNumber e = function_small scope t none (word_kind t)

amount_inside_small : (scope : Scope) (f : Forms) → list_all is_small_increase (option_to_list (amount_inside scope f)) ≡ true
amount_inside_small scope none = refl
amount_inside_small scope (word s e t f) = function_small scope t f (word_kind t)
amount_inside_small scope (group s e i f) = refl

amount_small : (scope : Scope) (f : Forms) → list_all is_small_increase (option_to_list (amount_of scope f)) ≡ true
amount_small scope none = refl
amount_small scope (word s e t f) = amount_word_small scope t (number_of t) refl
amount_small scope (group s e i f) = amount_inside_small scope i

group_small : (scope : Scope) (f : Forms) (b : Beginning) (inner : List Increase) → list_all is_small_increase inner ≡ true
    → list_all is_small_increase (group_increases scope f b inner) ≡ true
group_small scope f Conjunction inner h = h
group_small scope f Increasing inner h = amount_small scope (behind f)
group_small scope f Negation inner h = refl
group_small scope f Equality inner h = refl
group_small scope f GoalEquality inner h = refl
group_small scope f Unread inner h = refl
group_small scope f PredicateHead inner h = refl
group_small scope f NoName inner h = refl

increases_small : (scope : Scope) (f : Forms) → list_all is_small_increase (increases scope f) ≡ true
increases_small scope none = refl
increases_small scope (word s e t f) = increases_small scope f
increases_small scope (group s e none f) = increases_small scope f
increases_small scope (group s e (group hs he h i) f) = increases_small scope f
increases_small scope (group s e (word hs he t i) f) =
    all_behind is_small_increase (group_increases scope i (beginning InEffect t) (increases scope i)) (increases scope f)
    (group_small scope i (beginning InEffect t) (increases scope i) (increases_small scope i)) (increases_small scope f)

-- at most one is no more than one
one_at_most : {X : Type 0} (o : Option X) → length (option_to_list o) ≤ 1
one_at_most None = omega arith
one_at_most (Some x) = omega arith

group_few : (scope : Scope) (f : Forms) (s : ℕ) (b : Beginning) (inner : List Increase) (at : List ℕ) → length inner ≤ length at
    → length (group_increases scope f b inner) ≤ length (places.group_increases s b at)
group_few scope f s Conjunction inner at h = h
group_few scope f s Increasing inner at h = one_at_most (increase_of scope f)
group_few scope f s Negation inner at h = omega arith
group_few scope f s Equality inner at h = omega arith
group_few scope f s GoalEquality inner at h = omega arith
group_few scope f s Unread inner at h = omega arith
group_few scope f s PredicateHead inner at h = omega arith
group_few scope f s NoName inner at h = omega arith

longer_behind : {X Y : Type 0} (xs ys : List X) (us vs : List Y) → length xs ≤ length us → length ys ≤ length vs → length (xs ++ ys) ≤ length (us ++ vs)
longer_behind xs ys us vs h k = let l = length-append xs ys in let r = length-append us vs in omega (arith, l, r, h, k)

-- each increase has a place
increases_few : (scope : Scope) (f : Forms) → length (increases scope f) ≤ length (places.increase_places InEffect f)
increases_few scope none = omega arith
increases_few scope (word s e t f) = increases_few scope f
increases_few scope (group s e none f) = increases_few scope f
increases_few scope (group s e (group hs he h i) f) = increases_few scope f
increases_few scope (group s e (word hs he t i) f) =
    longer_behind (group_increases scope i (beginning InEffect t) (increases scope i)) (increases scope f)
    (places.group_increases s (beginning InEffect t) (places.increase_places InEffect i)) (places.increase_places InEffect f)
    (group_few scope i s (beginning InEffect t) (increases scope i) (places.increase_places InEffect i) (increases_few scope i)) (increases_few scope f)

-- ---- an action

-- the first effect's places are among those of all parts
effect_places : (ps : List KeywordPart) → length (places.increase_places InEffect (value_of Effect ps)) ≤ length (all_increases ps)
effect_places [] = omega arith
effect_places (p ∷ ps) = by p.keyword p.value (effect_places ps) where
  by : (k : Keyword) (value : Forms) → length (places.increase_places InEffect (value_of Effect ps)) ≤ length (all_increases ps)
      → length (places.increase_places InEffect (option_map_or (λ p. p.value) (if same_keyword k Effect then Some (record { keyword = k; value = value }) else find (λ p. same_keyword p.keyword Effect) ps) none))
      ≤ length (value_increases k value ++ all_increases ps)
  by Parameters value ih = ih
  by Precondition value ih = let l = length-append (value_increases Precondition value) (all_increases ps) in omega (arith, ih, l)
  by Effect value ih = let l = length-append (value_increases Effect value) (all_increases ps) in omega (arith, l)

schema_few : (scope : Scope) (ps : List KeywordPart) → limit_faults ps ≡ [] → length (increases scope (value_of Effect ps)) ≤ 16
schema_few scope ps e =
    let few = increases_few scope (value_of Effect ps) in
    let among = effect_places ps in
    let limit = within_limit Increases 16 (all_increases ps) (nil_right (past_faults Literals 256 (all_literals ps)) (past_faults Increases 16 (all_increases ps)) e) in
    omega (arith, few, among, limit)

schema_small : (types : List ℕ) (scope : Scope) (ps : List KeywordPart) → limit_faults ps ≡ [] → has_small_increases (schema_in types scope ps) ≡ true
schema_small types scope ps e =
    let few : nat_lt (length (increases scope (value_of Effect ps))) (2 ^ 31) ≡ true = (let le = schema_few scope ps e in grind (arith, nat_tests)) in
    ap (λ (b : Bool). b && list_all is_small_increase (increases scope (value_of Effect ps))) few ∙ increases_small scope (value_of Effect ps)

action_small : (d : Declarations) (names : List (List ℕ)) (a : Part) → action_faults d names a ≡ [] → has_small_increases (schema_of d a) ≡ true
unfolding action_faults schema_behind
action_small d names a e =
    let ps = parts None (behind a.inside) in
    let variables = parameter_names (parameters_of ps) in
    let inside = nil_right (named_faults names a.at a.inside) _ e in
    let read = nil_right (keyword_faults a.at none_seen None (behind a.inside)) _ inside in
    schema_small (parameter_types d.types (parameters_of ps)) (scope_of d variables) ps (nil_right (values_faults d.types (scope_of d variables) ps) (limit_faults ps) read)

each_small : (d : Declarations) (names : List (List ℕ)) (actions : List Part) → each_faults d names actions ≡ [] → list_all has_small_increases (map (schema_of d) actions) ≡ true
each_small d names [] e = refl
each_small d names (a ∷ actions) e =
    let here = action_small d names a (nil_left (action_faults d names a) _ e) in
    let others = each_small d (with_action_name names a.inside) actions (nil_right (action_faults d names a) _ e) in
    ap (λ (b : Bool). b && list_all has_small_increases (map (schema_of d) actions)) here ∙ others

-- ---- the values

abbrev small_value : FunctionValue → Bool
small_value v = nat_lt v.value (2 ^ 32)

abbrev OneSmall : Option FunctionValue → Type 0
OneSmall o = list_all small_value (option_to_list o) ≡ true

value_by_small : (p : Option Atom) (n : Option ℕ) → ((m : ℕ) → n ≡ Some m → m ≤ 2147483647) → OneSmall (value_by p n)
value_by_small None n h = refl
value_by_small (Some p) None h = refl
value_by_small (Some p) (Some n) h = ap (λ (b : Bool). b && true) (below n (h n refl))

whole_small : (t : List ℕ) (n : Number) (m : ℕ) → number_of t ≡ n → whole n ≡ Some m → m ≤ 2147483647
whole_small t (Whole n) m e w = let same : n ≡ m = cc in subst (λ (k : ℕ). k ≤ 2147483647) same (number_small t n e)
whole_small t Fraction m e w = absurd cc
whole_small t OutOfRange m e w = absurd cc
whole_small t NoNumber m e w = absurd cc

number_alone_small : (f : Forms) (m : ℕ) → number_alone f ≡ Some m → m ≤ 2147483647
number_alone_small none m e = absurd cc
number_alone_small (word s e t f) m w = by (not_empty f) w where
  by : (more : Bool) → (if more then None else whole (number_of t)) ≡ Some m → m ≤ 2147483647
  by true w = absurd cc
  by false w = whole_small t (number_of t) m refl w
number_alone_small (group s e i f) m w = absurd cc

item_small : (scope : Scope) (i : Forms) (kind : ItemKind) → OneSmall (item_value scope i kind)
item_small scope i TrueAtom = refl
item_small scope i ValueItem = value_by_small (first_function scope i) (number_alone (behind i)) (number_alone_small (behind i))
item_small scope i Negated = refl
item_small scope i NotRead = refl
item_small scope i Nothing = refl

inside_small : (scope : Scope) (i : Forms) → OneSmall (value_inside scope i)
inside_small scope none = refl
inside_small scope (word s e t f) = item_small scope f (item_kind t f)
inside_small scope (group s e i f) = refl

with_small : (values : List FunctionValue) (o : Option FunctionValue) → list_all small_value values ≡ true → OneSmall o → list_all small_value (with_value values o) ≡ true
with_small values None h k = h
with_small values (Some v) h k = by (is_some (value_among values v.function)) where
  by : (b : Bool) → list_all small_value (if b then values else values ++ v ∷ []) ≡ true
  by true = h
  by false = all_behind small_value values (v ∷ []) h k

stated_small : (scope : Scope) (values : List FunctionValue) (f : Forms) → list_all small_value values ≡ true → list_all small_value (stated_values scope values f) ≡ true
stated_small scope values none h = h
stated_small scope values (word s e t f) h = stated_small scope values f h
stated_small scope values (group s e i f) h =
    stated_small scope (with_value values (value_inside scope i)) f (with_small values (value_inside scope i) h (inside_small scope i))

-- ---- the texts

last_clean : (ps : List Pass) (p : Pass) → first_pass (ps ++ p ∷ []) ≡ None → first_of None p.faults ≡ None
unfolding first_pass
last_clean [] p e = by (first_of None p.faults) e where
  by : (o : Option Fault) → in_file p.file o None ≡ None → o ≡ None
  by None w = refl
  by (Some f) w = absurd cc
last_clean (q ∷ ps) p e = last_clean ps p (by (first_of None q.faults) e) where
  by : (o : Option Fault) → in_file q.file o (first_pass (ps ++ p ∷ [])) ≡ None → first_pass (ps ++ p ∷ []) ≡ None
  by None w = w
  by (Some f) w = absurd cc

actions_small : (d : Forms) → first_pass (domain_passes d) ≡ None → list_all has_small_increases (schemas_of d) ≡ true
actions_small d e =
    let none = none_kept _ (last_clean (declaring_passes d) (actions_pass d) e) in
    each_small (declarations_of d) [] (actions_of d) (nil_left (each_faults (declarations_of d) [] (actions_of d)) _ none)

task_small : (d p : Forms) → first_pass (domain_passes d) ≡ None → has_small_costs (task_of d p) ≡ true
task_small d p e =
    let values = stated_small (scope_over (declarations_of d) (objects_of (declarations_of d) (constants_of d) p)) [] (inside_of p (codes ":init")) refl in
    ap (λ (b : Bool). b && list_all has_small_increases (schemas_of d)) values ∙ actions_small d e

-- no cost of a spelled task passes 64 bits
pub spelled_small : (domain problem : List ℕ) (t : PlanningTask) → SpellTask domain problem t → has_small_costs t ≡ true
spelled_small domain problem t s = ap has_small_costs s.task_is ∙ task_small s.d s.p s.domain_sections
