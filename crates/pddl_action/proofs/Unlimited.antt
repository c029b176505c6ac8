-- No fault of a condition or an effect is that of a limit.
use Rattle.std.proofs.Common.{◌≡◌, ℕ, Bool, true, false, List, [], ◌∷◌, ◌++◌, refl, if◌then◌else◌}
use Rattle.std.specs.Prelude.{Option, Some, None}
use Rattle.sexp.specs.Forms.{Forms, none, word, group}
use Rattle.pddl_syntax.specs.declared.word.WordKind.{WordKind}
use Rattle.pddl_syntax.specs.declared.word.WordKind.TheVariants.{Dash, Name, Variable, Other}
use Rattle.pddl_syntax.specs.declared.number.Number.{Number}
use Rattle.pddl_syntax.specs.declared.number.Number.TheVariants.{Whole, Fraction, OutOfRange, NoNumber}
use Rattle.pddl_syntax.specs.declared.fault.Fault.{Fault}
use Rattle.pddl_syntax.specs.declared.fault.FaultKind.{FaultKind}
use Rattle.pddl_syntax.specs.declared.fault.FaultKind.TheVariants.{Shape, Unsupported, UnknownName, Arity, TwiceDeclared, TypeCycle, NotWhole, CostRange, Limit, GoalBothWays}
use Rattle.pddl_syntax.specs.Faults.{faults_if}
use Rattle.pddl_syntax.specs.Words.{word_kind}
use Rattle.pddl_syntax.specs.Numbers.{number_of}
use Rattle.pddl_syntax.specs.Heads.{Heads, arity_of}
use Rattle.pddl_syntax.specs.Sections.{more_faults}
use Rattle.pddl_terms.specs.declared.beginning.Beginning.{Beginning}
use Rattle.pddl_terms.specs.declared.beginning.Beginning.TheVariants.{Conjunction, Negation, Equality, GoalEquality, Increasing, Unread, Atom, NoName}
use Rattle.pddl_terms.specs.declared.beginning.Setting.{Setting}
use Rattle.pddl_terms.specs.declared.beginning.Setting.TheVariants.{InEffect}
use Rattle.pddl_terms.specs.Beginnings.{beginning}
use Rattle.pddl_terms.specs.Terms.{Scope, is_total_cost, term_faults_by_kind, term_faults, first_term_faults, terms_faults, count, arity_faults, lifted_faults}
use Rattle.pddl_effect.specs.Conditions.{second_term_faults, two_terms_faults, negated_group_faults, negated_inside_faults, negated_faults, conditions_faults_in}
use Rattle.pddl_effect.specs.Conditions as condition
use Rattle.pddl_effect.specs.Effects.{function_faults, amount_word_faults, amount_inside_faults, amount_faults, increased_word_faults, has_terms, increased_inside_faults, increase_faults, effects_faults}
use Rattle.pddl_effect.specs.Effects as effect

abbrev pub is_limit : FaultKind → Bool
is_limit Shape = false
is_limit Unsupported = false
is_limit UnknownName = false
is_limit Arity = false
is_limit TwiceDeclared = false
is_limit TypeCycle = false
is_limit NotWhole = false
is_limit CostRange = false
is_limit (Limit table) = true
is_limit GoalBothWays = false

-- none of these faults is that of a limit
abbrev pub NoLimit : List Fault → Type 0
NoLimit [] = Unit {0}
NoLimit (f ∷ fs) = (is_limit f.kind ≡ false) × NoLimit fs

both : (fs gs : List Fault) → NoLimit fs → NoLimit gs → NoLimit (fs ++ gs)
both [] gs h k = k
both (f ∷ fs) gs (h, hs) k = (h, both fs gs hs k)

one_if : (b : Bool) (f : Fault) → is_limit f.kind ≡ false → NoLimit (faults_if b f [])
one_if true f h = (h, tt)
one_if false f h = tt

either : (b : Bool) (fs gs : List Fault) → NoLimit fs → NoLimit gs → NoLimit (if b then fs else gs)
either true fs gs h k = h
either false fs gs h k = k

more : (f : Forms) → NoLimit (more_faults f)
more none = tt
more (word s e t f) = (refl, tt)
more (group s e i f) = (refl, tt)

-- ---- terms

term_by : (scope : Scope) (s : ℕ) (t : List ℕ) (kind : WordKind) → NoLimit (term_faults_by_kind scope s t kind)
term_by scope s t Dash = (refl, tt)
term_by scope s t Name = one_if _ _ refl
term_by scope s t Variable = one_if _ _ refl
term_by scope s t Other = (refl, tt)

first_term : (scope : Scope) (f : Forms) → NoLimit (first_term_faults scope f)
first_term scope none = tt
first_term scope (word s e t f) = term_by scope s t (word_kind t)
first_term scope (group s e i f) = (refl, tt)

terms : (scope : Scope) (f : Forms) → NoLimit (terms_faults scope f)
terms scope none = tt
terms scope (word s e t f) = both (term_faults scope s t) (terms_faults scope f) (term_by scope s t (word_kind t)) (terms scope f)
terms scope (group s e i f) = (refl, terms scope f)

arity : (o : Option ℕ) (home hs given : ℕ) → NoLimit (arity_faults o home hs given)
arity None home hs given = (refl, tt)
arity (Some n) home hs given = one_if _ _ refl

lifted : (heads : Heads) (scope : Scope) (home hs : ℕ) (t : List ℕ) (f : Forms) → NoLimit (lifted_faults heads scope home hs t f)
lifted heads scope home hs t f = both (arity_faults (arity_of heads t) home hs (count f)) (terms_faults scope f) (arity (arity_of heads t) home hs (count f)) (terms scope f)

-- ---- conditions

second_term : (scope : Scope) (home : ℕ) (f : Forms) → NoLimit (second_term_faults scope home f)
second_term scope home none = (refl, tt)
second_term scope home (word s e t f) = both (term_faults scope s t) (more_faults f) (term_by scope s t (word_kind t)) (more f)
second_term scope home (group s e i f) = (refl, more f)

two_terms : (scope : Scope) (home : ℕ) (f : Forms) → NoLimit (two_terms_faults scope home f)
two_terms scope home none = (refl, tt)
two_terms scope home (word s e t f) = both (term_faults scope s t) (second_term_faults scope home f) (term_by scope s t (word_kind t)) (second_term scope home f)
two_terms scope home (group s e i f) = (refl, second_term scope home f)

negated_group : (scope : Scope) (not_at home hs : ℕ) (t : List ℕ) (f : Forms) (b : Beginning) → NoLimit (negated_group_faults scope not_at home hs t f b)
negated_group scope not_at home hs t f Conjunction = (refl, tt)
negated_group scope not_at home hs t f Negation = (refl, tt)
negated_group scope not_at home hs t f Equality = two_terms scope home f
negated_group scope not_at home hs t f GoalEquality = (refl, tt)
negated_group scope not_at home hs t f Increasing = (refl, tt)
negated_group scope not_at home hs t f Unread = (refl, tt)
negated_group scope not_at home hs t f Atom = lifted scope.predicates scope home hs t f
negated_group scope not_at home hs t f NoName = (refl, tt)

negated_inside : (setting : Setting) (scope : Scope) (not_at home : ℕ) (f : Forms) → NoLimit (negated_inside_faults setting scope not_at home f)
negated_inside setting scope not_at home none = (refl, tt)
negated_inside setting scope not_at home (word s e t f) = negated_group scope not_at home s t f (beginning setting t)
negated_inside setting scope not_at home (group s e i f) = (refl, tt)

negated : (setting : Setting) (scope : Scope) (home not_at : ℕ) (f : Forms) → NoLimit (negated_faults setting scope home not_at f)
negated setting scope home not_at none = (refl, tt)
negated setting scope home not_at (word s e t f) = (refl, more f)
negated setting scope home not_at (group s e i f) =
    both (negated_inside_faults setting scope not_at s i) (more_faults f) (negated_inside setting scope not_at s i) (more f)

condition_group : (setting : Setting) (scope : Scope) (home hs : ℕ) (t : List ℕ) (f : Forms) (b : Beginning) (parts : List Fault)
    → NoLimit parts → NoLimit (condition.group_faults setting scope home hs t f b parts)
condition_group setting scope home hs t f Conjunction parts h = h
condition_group setting scope home hs t f Negation parts h = negated setting scope home hs f
condition_group setting scope home hs t f Equality parts h = two_terms scope home f
condition_group setting scope home hs t f GoalEquality parts h = (refl, tt)
condition_group setting scope home hs t f Increasing parts h = (refl, tt)
condition_group setting scope home hs t f Unread parts h = (refl, tt)
condition_group setting scope home hs t f Atom parts h = lifted scope.predicates scope home hs t f
condition_group setting scope home hs t f NoName parts h = (refl, tt)

pub no_limit_in_conditions : (setting : Setting) (scope : Scope) (f : Forms) → NoLimit (conditions_faults_in setting scope f)
no_limit_in_conditions setting scope none = tt
no_limit_in_conditions setting scope (word s e t f) = (refl, no_limit_in_conditions setting scope f)
no_limit_in_conditions setting scope (group s e none f) = no_limit_in_conditions setting scope f
no_limit_in_conditions setting scope (group s e (group hs he h i) f) = (refl, no_limit_in_conditions setting scope f)
no_limit_in_conditions setting scope (group s e (word hs he t i) f) =
    both (condition.group_faults setting scope s hs t i (beginning setting t) (conditions_faults_in setting scope i)) (conditions_faults_in setting scope f)
    (condition_group setting scope s hs t i (beginning setting t) (conditions_faults_in setting scope i) (no_limit_in_conditions setting scope i)) (no_limit_in_conditions setting scope f)

-- ---- effects

function : (scope : Scope) (home s : ℕ) (t : List ℕ) (f : Forms) (kind : WordKind) → NoLimit (function_faults scope home s t f kind)
function scope home s t f Dash = (refl, tt)
function scope home s t f Name = either (is_total_cost t) _ _ (refl, tt) (lifted scope.functions scope home s t f)
function scope home s t f Variable = (refl, tt)
function scope home s t f Other = (refl, tt)

amount_word : (scope : Scope) (s : ℕ) (t : List ℕ) (number : Number) → NoLimit (amount_word_faults scope s t number)
amount_word scope s t (Whole n) = tt
amount_word scope s t Fraction = (refl, tt)
amount_word scope s t OutOfRange = (refl, tt)
amount_word scope s t NoNumber = function scope s s t none (word_kind t)

amount_inside : (scope : Scope) (home : ℕ) (f : Forms) → NoLimit (amount_inside_faults scope home f)
amount_inside scope home none = (refl, tt)
amount_inside scope home (word s e t f) = function scope home s t f (word_kind t)
amount_inside scope home (group s e i f) = (refl, tt)

amount : (scope : Scope) (home : ℕ) (f : Forms) → NoLimit (amount_faults scope home f)
amount scope home none = (refl, tt)
amount scope home (word s e t f) = both (amount_word_faults scope s t (number_of t)) (more_faults f) (amount_word scope s t (number_of t)) (more f)
amount scope home (group s e i f) = both (amount_inside_faults scope s i) (more_faults f) (amount_inside scope s i) (more f)

increased_word : (inc s : ℕ) (t : List ℕ) (kind : WordKind) → NoLimit (increased_word_faults inc s t kind)
increased_word inc s t Dash = (refl, tt)
increased_word inc s t Name = one_if _ _ refl
increased_word inc s t Variable = (refl, tt)
increased_word inc s t Other = (refl, tt)

increased_inside : (inc home : ℕ) (f : Forms) → NoLimit (increased_inside_faults inc home f)
increased_inside inc home none = (refl, tt)
increased_inside inc home (word s e t f) = both (increased_word_faults inc s t (word_kind t)) _ (increased_word inc s t (word_kind t)) (one_if (has_terms t f) _ refl)
increased_inside inc home (group s e i f) = (refl, tt)

increase : (scope : Scope) (home inc : ℕ) (f : Forms) → NoLimit (increase_faults scope home inc f)
increase scope home inc none = (refl, tt)
increase scope home inc (word s e t f) = both (increased_word_faults inc s t (word_kind t)) (amount_faults scope home f) (increased_word inc s t (word_kind t)) (amount scope home f)
increase scope home inc (group s e i f) = both (increased_inside_faults inc s i) (amount_faults scope home f) (increased_inside inc s i) (amount scope home f)

effect_group : (scope : Scope) (home hs : ℕ) (t : List ℕ) (f : Forms) (b : Beginning) (parts : List Fault) → NoLimit parts → NoLimit (effect.group_faults scope home hs t f b parts)
effect_group scope home hs t f Conjunction parts h = h
effect_group scope home hs t f Negation parts h = negated InEffect scope home hs f
effect_group scope home hs t f Equality parts h = (refl, tt)
effect_group scope home hs t f GoalEquality parts h = (refl, tt)
effect_group scope home hs t f Increasing parts h = increase scope home hs f
effect_group scope home hs t f Unread parts h = (refl, tt)
effect_group scope home hs t f Atom parts h = lifted scope.predicates scope home hs t f
effect_group scope home hs t f NoName parts h = (refl, tt)

pub no_limit_in_effects : (scope : Scope) (f : Forms) → NoLimit (effects_faults scope f)
no_limit_in_effects scope none = tt
no_limit_in_effects scope (word s e t f) = (refl, no_limit_in_effects scope f)
no_limit_in_effects scope (group s e none f) = no_limit_in_effects scope f
no_limit_in_effects scope (group s e (group hs he h i) f) = (refl, no_limit_in_effects scope f)
no_limit_in_effects scope (group s e (word hs he t i) f) =
    both (effect.group_faults scope s hs t i (beginning InEffect t) (effects_faults scope i)) (effects_faults scope f)
    (effect_group scope s hs t i (beginning InEffect t) (effects_faults scope i) (no_limit_in_effects scope i)) (no_limit_in_effects scope f)
