-- Conditions, effects and increases of one shape, and their faults.
use Rattle.std.proofs.Common.{◌≡◌, ℕ, ◌&&◌, not, Bool, true, false, if◌then◌else◌, List, ◌++◌, map, refl, sym, ap, ap₂, ◌∙◌}
use Rattle.std.specs.Prelude.{Option, None, option_to_list}
use Rattle.std.specs.Option.{option_map}
use Rattle.std.proofs.lemmas.List.{map-append}
use Rattle.sexp.specs.Forms.{Forms, none, word, group}
use Rattle.pddl_task.specs.declared.schema.Condition.{Condition}
use Rattle.pddl_task.specs.declared.schema.Condition.TheVariants.{Positive, Negative}
use Rattle.pddl_task.specs.declared.schema.Increase.{Increase}
use Rattle.pddl_task.specs.declared.schema.Increase.TheVariants.{Value}
use Rattle.pddl_task.specs.Lifted.{Lifted}
use Rattle.pddl_task.specs.Planning.{Effect}
use Rattle.pddl_syntax.specs.declared.word.WordKind.{WordKind}
use Rattle.pddl_syntax.specs.declared.word.WordKind.TheVariants.{Name}
use Rattle.pddl_syntax.specs.declared.number.Number.{Number}
use Rattle.pddl_syntax.specs.declared.number.Number.TheVariants.{Whole, Fraction, OutOfRange, NoNumber}
use Rattle.pddl_syntax.specs.declared.fault.Fault.{Fault}
use Rattle.pddl_syntax.specs.declared.fault.FaultKind.TheVariants.{Unsupported, Arity}
use Rattle.pddl_syntax.specs.Faults.{fault}
use Rattle.pddl_syntax.specs.Words.{word_kind}
use Rattle.pddl_syntax.specs.Numbers.{number_of}
use Rattle.pddl_syntax.specs.Sections.{behind}
use Rattle.pddl_terms.specs.declared.beginning.Beginning.{Beginning}
use Rattle.pddl_terms.specs.declared.beginning.Beginning.TheVariants.{Conjunction, Negation, Equality, GoalEquality, Increasing, Atom}
use Rattle.pddl_terms.specs.declared.beginning.Setting.{Setting}
use Rattle.pddl_terms.specs.declared.beginning.Setting.TheVariants.{InEffect}
use Rattle.pddl_terms.specs.Beginnings.{beginning}
use Rattle.pddl_terms.specs.Terms.{Scope, is_total_cost}
use Rattle.pddl_effect.specs.Conditions as condition
use Rattle.pddl_effect.specs.Conditions.{conditions_in, conditions_faults_in, second_term_faults, two_terms_faults, negated_group_faults, first_negated_faults, negated_faults}
use Rattle.pddl_effect.specs.Effects as effect
use Rattle.pddl_effect.specs.Effects.{effect_of, effects, function_value, amount_of, increase_of, increases, function_faults, amount_word_faults, first_amount_faults, amount_faults, increased_word_faults, has_terms, increased_inside_faults, increased_faults, increase_faults, effects_faults}
use Rattle.pddl_effect.specs.Literals.{group_literals, literal_places, group_increases, increase_places}
use Rattle.pddl_layout.specs.Shapes.{erased}
use Rattle.pddl_layout.proofs.Alike.{Alike, faulty, clear, both, chosen, tested, tested_both}
use Rattle.pddl_layout.proofs.SectionShapes.{behind_erased, more_alike}
use Rattle.pddl_layout.proofs.TermShapes.{terms_erased, lifted_erased, not_empty_erased, first_term_alike, lifted_alike}

-- ---- conditions

negated_condition_erased : (scope : Scope) (t : List ℕ) (f : Forms) (b : Beginning) → condition.negated_condition scope t (erased f) b ≡ condition.negated_condition scope t f b
negated_condition_erased scope t f Atom = ap (λ (a : Option Lifted). option_to_list (option_map Negative a)) (lifted_erased scope.predicates scope t f)
negated_condition_erased scope t f Equality = ap (condition.equality false) (terms_erased scope f)
negated_condition_erased scope t f other = refl

negated_conditions_erased : (setting : Setting) (scope : Scope) (f : Forms) → condition.negated_conditions setting scope (erased f) ≡ condition.negated_conditions setting scope f
negated_conditions_erased setting scope none = refl
negated_conditions_erased setting scope (word s e t f) = refl
negated_conditions_erased setting scope (group s e none f) = refl
negated_conditions_erased setting scope (group s e (word hs he t i) f) = negated_condition_erased scope t i (beginning setting t)
negated_conditions_erased setting scope (group s e (group hs he h i) f) = refl

pub group_conditions_erased : (setting : Setting) (scope : Scope) (t : List ℕ) (f : Forms) (b : Beginning) (parts parts2 : List Condition) → parts2 ≡ parts
    → condition.group_conditions setting scope t (erased f) b parts2 ≡ condition.group_conditions setting scope t f b parts
group_conditions_erased setting scope t f Conjunction parts parts2 e = e
group_conditions_erased setting scope t f Equality parts parts2 e = ap (condition.equality true) (terms_erased scope f)
group_conditions_erased setting scope t f Negation parts parts2 e = negated_conditions_erased setting scope f
group_conditions_erased setting scope t f Atom parts parts2 e = ap (λ (a : Option Lifted). option_to_list (option_map Positive a)) (lifted_erased scope.predicates scope t f)
group_conditions_erased setting scope t f other parts parts2 e = refl

pub conditions_erased : (setting : Setting) (scope : Scope) (f : Forms) → conditions_in setting scope (erased f) ≡ conditions_in setting scope f
conditions_erased setting scope none = refl
conditions_erased setting scope (word s e t f) = conditions_erased setting scope f
conditions_erased setting scope (group s e none f) = conditions_erased setting scope f
conditions_erased setting scope (group s e (group hs he h i) f) = conditions_erased setting scope f
conditions_erased setting scope (group s e (word hs he t i) f) =
    ap₂ ◌++◌ (group_conditions_erased setting scope t i (beginning setting t) (conditions_in setting scope i) (conditions_in setting scope (erased i)) (conditions_erased setting scope i))
    (conditions_erased setting scope f)

second_term_alike : (scope : Scope) (h k : ℕ) (f : Forms) → Alike (second_term_faults scope h f) (second_term_faults scope k (erased f))
second_term_alike scope h k none = faulty
second_term_alike scope h k (word s e t f) = both (first_term_alike scope (word s e t f)) (more_alike f)
second_term_alike scope h k (group s e i f) = faulty

two_terms_alike : (scope : Scope) (h k : ℕ) (f : Forms) → Alike (two_terms_faults scope h f) (two_terms_faults scope k (erased f))
two_terms_alike scope h k none = faulty
two_terms_alike scope h k (word s e t f) = both (first_term_alike scope (word s e t f)) (second_term_alike scope h k f)
two_terms_alike scope h k (group s e i f) = faulty

negated_group_alike : (scope : Scope) (m h hs n k ks : ℕ) (t : List ℕ) (f : Forms) (b : Beginning) → Alike (negated_group_faults scope m h hs t f b) (negated_group_faults scope n k ks t (erased f) b)
negated_group_alike scope m h hs n k ks t f Atom = lifted_alike scope.predicates scope h hs k ks t f
negated_group_alike scope m h hs n k ks t f Equality = two_terms_alike scope h k f
negated_group_alike scope m h hs n k ks t f GoalEquality = faulty
negated_group_alike scope m h hs n k ks t f other = faulty

first_negated_alike : (setting : Setting) (scope : Scope) (m n : ℕ) (f : Forms) → Alike (first_negated_faults setting scope m f) (first_negated_faults setting scope n (erased f))
first_negated_alike setting scope m n none = clear
first_negated_alike setting scope m n (word s e t f) = faulty
first_negated_alike setting scope m n (group s e none f) = faulty
first_negated_alike setting scope m n (group s e (word hs he t i) f) = negated_group_alike scope m s hs n 0 0 t i (beginning setting t)
first_negated_alike setting scope m n (group s e (group hs he h i) f) = faulty

pub negated_alike : (setting : Setting) (scope : Scope) (h m k n : ℕ) (f : Forms) → Alike (negated_faults setting scope h m f) (negated_faults setting scope k n (erased f))
negated_alike setting scope h m k n none = faulty
negated_alike setting scope h m k n (word s e t f) = faulty
negated_alike setting scope h m k n (group s e i f) = both (first_negated_alike setting scope m n (group s e i f)) (more_alike f)

condition_group_alike : (setting : Setting) (scope : Scope) (h hs k ks : ℕ) (t : List ℕ) (f : Forms) (b : Beginning) {parts parts2 : List Fault} → Alike parts parts2
    → Alike (condition.group_faults setting scope h hs t f b parts) (condition.group_faults setting scope k ks t (erased f) b parts2)
condition_group_alike setting scope h hs k ks t f Conjunction p = p
condition_group_alike setting scope h hs k ks t f Equality p = two_terms_alike scope h k f
condition_group_alike setting scope h hs k ks t f Negation p = negated_alike setting scope h hs k ks f
condition_group_alike setting scope h hs k ks t f Atom p = lifted_alike scope.predicates scope h hs k ks t f
condition_group_alike setting scope h hs k ks t f GoalEquality p = faulty
condition_group_alike setting scope h hs k ks t f other p = faulty

pub conditions_alike : (setting : Setting) (scope : Scope) (f : Forms) → Alike (conditions_faults_in setting scope f) (conditions_faults_in setting scope (erased f))
conditions_alike setting scope none = clear
conditions_alike setting scope (word s e t f) = faulty
conditions_alike setting scope (group s e none f) = conditions_alike setting scope f
conditions_alike setting scope (group s e (group hs he h i) f) = faulty
conditions_alike setting scope (group s e (word hs he t i) f) =
    both (condition_group_alike setting scope s hs 0 0 t i (beginning setting t) (conditions_alike setting scope i)) (conditions_alike setting scope f)

-- ---- effects

negated_effect_erased : (scope : Scope) (t : List ℕ) (f : Forms) (b : Beginning) → effect.negated_effect scope t (erased f) b ≡ effect.negated_effect scope t f b
negated_effect_erased scope t f Atom = ap (λ (a : Option Lifted). option_to_list (option_map (effect_of false) a)) (lifted_erased scope.predicates scope t f)
negated_effect_erased scope t f other = refl

negated_effects_erased : (scope : Scope) (f : Forms) → effect.negated_effects scope (erased f) ≡ effect.negated_effects scope f
negated_effects_erased scope none = refl
negated_effects_erased scope (word s e t f) = refl
negated_effects_erased scope (group s e none f) = refl
negated_effects_erased scope (group s e (word hs he t i) f) = negated_effect_erased scope t i (beginning InEffect t)
negated_effects_erased scope (group s e (group hs he h i) f) = refl

group_effects_erased : (scope : Scope) (t : List ℕ) (f : Forms) (b : Beginning) (parts parts2 : List Effect) → parts2 ≡ parts
    → effect.group_effects scope t (erased f) b parts2 ≡ effect.group_effects scope t f b parts
group_effects_erased scope t f Conjunction parts parts2 e = e
group_effects_erased scope t f Negation parts parts2 e = negated_effects_erased scope f
group_effects_erased scope t f Atom parts parts2 e = ap (λ (a : Option Lifted). option_to_list (option_map (effect_of true) a)) (lifted_erased scope.predicates scope t f)
group_effects_erased scope t f other parts parts2 e = refl

pub effects_erased : (scope : Scope) (f : Forms) → effects scope (erased f) ≡ effects scope f
effects_erased scope none = refl
effects_erased scope (word s e t f) = effects_erased scope f
effects_erased scope (group s e none f) = effects_erased scope f
effects_erased scope (group s e (group hs he h i) f) = effects_erased scope f
effects_erased scope (group s e (word hs he t i) f) =
    ap₂ ◌++◌ (group_effects_erased scope t i (beginning InEffect t) (effects scope i) (effects scope (erased i)) (effects_erased scope i)) (effects_erased scope f)

-- ---- increases

function_erased : (scope : Scope) (t : List ℕ) (f : Forms) (k : WordKind) → function_value scope t (erased f) k ≡ function_value scope t f k
function_erased scope t f Name = ap (λ (a : Option Lifted). if is_total_cost t then None else option_map Value a) (lifted_erased scope.functions scope t f)
function_erased scope t f kind = refl

amount_erased : (scope : Scope) (f : Forms) → amount_of scope (erased f) ≡ amount_of scope f
amount_erased scope none = refl
amount_erased scope (word s e t f) = refl
amount_erased scope (group s e none f) = refl
amount_erased scope (group s e (word hs he t i) f) = function_erased scope t i (word_kind t)
amount_erased scope (group s e (group hs he h i) f) = refl

increase_erased : (scope : Scope) (f : Forms) → increase_of scope (erased f) ≡ increase_of scope f
increase_erased scope f = ap (amount_of scope) (behind_erased f) ∙ amount_erased scope (behind f)

group_increases_erased : (scope : Scope) (f : Forms) (b : Beginning) (parts parts2 : List Increase) → parts2 ≡ parts
    → effect.group_increases scope (erased f) b parts2 ≡ effect.group_increases scope f b parts
group_increases_erased scope f Conjunction parts parts2 e = e
group_increases_erased scope f Increasing parts parts2 e = ap option_to_list (increase_erased scope f)
group_increases_erased scope f other parts parts2 e = refl

pub increases_erased : (scope : Scope) (f : Forms) → increases scope (erased f) ≡ increases scope f
increases_erased scope none = refl
increases_erased scope (word s e t f) = increases_erased scope f
increases_erased scope (group s e none f) = increases_erased scope f
increases_erased scope (group s e (group hs he h i) f) = increases_erased scope f
increases_erased scope (group s e (word hs he t i) f) =
    ap₂ ◌++◌ (group_increases_erased scope i (beginning InEffect t) (increases scope i) (increases scope (erased i)) (increases_erased scope i)) (increases_erased scope f)

-- ---- the faults of effects and increases

function_alike : (scope : Scope) (h s k z : ℕ) (t : List ℕ) (f : Forms) (kind : WordKind) → Alike (function_faults scope h s t f kind) (function_faults scope k z t (erased f) kind)
function_alike scope h s k z t f Name = chosen (is_total_cost t) faulty (lifted_alike scope.functions scope h s k z t f)
function_alike scope h s k z t f kind = faulty

amount_word_alike : (scope : Scope) (s z : ℕ) (t : List ℕ) (n : Number) → Alike (amount_word_faults scope s t n) (amount_word_faults scope z t n)
amount_word_alike scope s z t (Whole n) = clear
amount_word_alike scope s z t Fraction = faulty
amount_word_alike scope s z t OutOfRange = faulty
amount_word_alike scope s z t NoNumber = function_alike scope s s z z t none (word_kind t)

first_amount_alike : (scope : Scope) (f : Forms) → Alike (first_amount_faults scope f) (first_amount_faults scope (erased f))
first_amount_alike scope none = clear
first_amount_alike scope (word s e t f) = amount_word_alike scope s 0 t (number_of t)
first_amount_alike scope (group s e none f) = faulty
first_amount_alike scope (group s e (word hs he t i) f) = function_alike scope s hs 0 0 t i (word_kind t)
first_amount_alike scope (group s e (group hs he h i) f) = faulty

amount_alike : (scope : Scope) (h k : ℕ) (f : Forms) → Alike (amount_faults scope h f) (amount_faults scope k (erased f))
amount_alike scope h k none = faulty
amount_alike scope h k (word s e t f) = both (first_amount_alike scope (word s e t f)) (more_alike f)
amount_alike scope h k (group s e i f) = both (first_amount_alike scope (group s e i f)) (more_alike f)

increased_word_alike : (m s n z : ℕ) (t : List ℕ) (k : WordKind) → Alike (increased_word_faults m s t k) (increased_word_faults n z t k)
increased_word_alike m s n z t Name = tested (not (is_total_cost t)) (fault Unsupported m) (fault Unsupported n) clear
increased_word_alike m s n z t kind = faulty

increased_inside_alike : (m h n k : ℕ) (f : Forms) → Alike (increased_inside_faults m h f) (increased_inside_faults n k (erased f))
increased_inside_alike m h n k none = faulty
increased_inside_alike m h n k (word s e t f) =
    both (increased_word_alike m s n 0 t (word_kind t))
    (tested_both (has_terms t f) (has_terms t (erased f)) (fault Arity h) (fault Arity k) (ap (λ (b : Bool). is_total_cost t && b) (sym (not_empty_erased f))) clear)
increased_inside_alike m h n k (group s e i f) = faulty

increased_alike : (m n : ℕ) (f : Forms) → Alike (increased_faults m f) (increased_faults n (erased f))
increased_alike m n none = clear
increased_alike m n (word s e t f) = increased_word_alike m s n 0 t (word_kind t)
increased_alike m n (group s e i f) = increased_inside_alike m s n 0 i

increase_alike : (scope : Scope) (h m k n : ℕ) (f : Forms) → Alike (increase_faults scope h m f) (increase_faults scope k n (erased f))
increase_alike scope h m k n none = faulty
increase_alike scope h m k n (word s e t f) = both (increased_alike m n (word s e t f)) (amount_alike scope h k f)
increase_alike scope h m k n (group s e i f) = both (increased_alike m n (group s e i f)) (amount_alike scope h k f)

effect_group_alike : (scope : Scope) (h hs k ks : ℕ) (t : List ℕ) (f : Forms) (b : Beginning) {parts parts2 : List Fault} → Alike parts parts2
    → Alike (effect.group_faults scope h hs t f b parts) (effect.group_faults scope k ks t (erased f) b parts2)
effect_group_alike scope h hs k ks t f Conjunction p = p
effect_group_alike scope h hs k ks t f Negation p = negated_alike InEffect scope h hs k ks f
effect_group_alike scope h hs k ks t f Increasing p = increase_alike scope h hs k ks f
effect_group_alike scope h hs k ks t f Atom p = lifted_alike scope.predicates scope h hs k ks t f
effect_group_alike scope h hs k ks t f other p = faulty

pub effects_alike : (scope : Scope) (f : Forms) → Alike (effects_faults scope f) (effects_faults scope (erased f))
effects_alike scope none = clear
effects_alike scope (word s e t f) = faulty
effects_alike scope (group s e none f) = effects_alike scope f
effects_alike scope (group s e (group hs he h i) f) = faulty
effects_alike scope (group s e (word hs he t i) f) = both (effect_group_alike scope s hs 0 0 t i (beginning InEffect t) (effects_alike scope i)) (effects_alike scope f)

-- ---- the places of literals and of increases are as many

abbrev pub zeroed : List ℕ → List ℕ
zeroed places = map (λ p. 0) places

literal_group_zeroed : (s : ℕ) (b : Beginning) (parts parts2 : List ℕ) → parts2 ≡ zeroed parts → group_literals 0 b parts2 ≡ zeroed (group_literals s b parts)
literal_group_zeroed s Conjunction parts parts2 e = e
literal_group_zeroed s other parts parts2 e = refl

pub literals_zeroed : (setting : Setting) (f : Forms) → literal_places setting (erased f) ≡ zeroed (literal_places setting f)
literals_zeroed setting none = refl
literals_zeroed setting (word s e t f) = literals_zeroed setting f
literals_zeroed setting (group s e none f) = literals_zeroed setting f
literals_zeroed setting (group s e (group hs he h i) f) = literals_zeroed setting f
literals_zeroed setting (group s e (word hs he t i) f) =
    let here = group_literals s (beginning setting t) (literal_places setting i) in
    ap₂ ◌++◌ (literal_group_zeroed s (beginning setting t) (literal_places setting i) (literal_places setting (erased i)) (literals_zeroed setting i)) (literals_zeroed setting f)
    ∙ sym (map-append (λ p. 0) here (literal_places setting f))

increase_group_zeroed : (s : ℕ) (b : Beginning) (parts parts2 : List ℕ) → parts2 ≡ zeroed parts → group_increases 0 b parts2 ≡ zeroed (group_increases s b parts)
increase_group_zeroed s Conjunction parts parts2 e = e
increase_group_zeroed s other parts parts2 e = refl

pub increases_zeroed : (setting : Setting) (f : Forms) → increase_places setting (erased f) ≡ zeroed (increase_places setting f)
increases_zeroed setting none = refl
increases_zeroed setting (word s e t f) = increases_zeroed setting f
increases_zeroed setting (group s e none f) = increases_zeroed setting f
increases_zeroed setting (group s e (group hs he h i) f) = increases_zeroed setting f
increases_zeroed setting (group s e (word hs he t i) f) =
    let here = group_increases s (beginning setting t) (increase_places setting i) in
    ap₂ ◌++◌ (increase_group_zeroed s (beginning setting t) (increase_places setting i) (increase_places setting (erased i)) (increases_zeroed setting i)) (increases_zeroed setting f)
    ∙ sym (map-append (λ p. 0) here (increase_places setting f))
