-- Definitions by their first expression, at a tree.
use Rattle.std.proofs.Common.{◌≡◌, ℕ, Bool, true, false, if◌then◌else◌, List, [], ◌++◌, map, refl, append_assoc}
use Rattle.std.proofs.lemmas.List.{map-append, append-nil}
use Rattle.std.specs.Prelude.{Option, Some, None, option_to_list}
use Rattle.std.specs.List.{filter_map}
use Rattle.std.specs.Option.{option_map}
use Rattle.sexp.specs.declared.tree.Tree.{Tree}
use Rattle.sexp.specs.Forms.{Forms, none, word, group, before}
use Rattle.pddl_task.specs.declared.schema.Term.{Term}
use Rattle.pddl_task.specs.declared.schema.Condition.TheVariants.{Negative}
use Rattle.pddl_task.specs.Planning.{Lifted}
use Rattle.pddl_syntax.specs.declared.word.WordKind.{WordKind}
use Rattle.pddl_syntax.specs.declared.word.WordKind.TheVariants.{Dash, Name, Variable, Other}
use Rattle.pddl_syntax.specs.Sections.{more_faults}
use Rattle.pddl_syntax.proofs.HeadSteps.{more_step}
use Rattle.pddl_terms.specs.declared.beginning.Beginning.{Beginning}
use Rattle.pddl_terms.specs.declared.beginning.Beginning.TheVariants.{Conjunction, Negation, Increasing, Unread, Atom, NoName}
use Rattle.pddl_terms.specs.declared.beginning.Setting.{Setting}
use Rattle.pddl_terms.specs.declared.beginning.Setting.TheVariants.{InEffect}
use Rattle.pddl_terms.specs.Terms.{Scope, lifted, with_term, first_term_faults}
use Rattle.pddl_effect.specs.Conditions.{equality, equality_of, negated_condition, negated_inside, negated_conditions, two_terms_faults, second_term_faults, first_negated_faults, negated_faults}
use Rattle.pddl_terms.specs.Beginnings.{beginning, by_kind}
use Rattle.pddl_effect.specs.Effects.{first_amount_faults, amount_faults, increased_faults, increase_faults, effect_of, negated_atom, negated_effect, negated_effects}
use Rattle.pddl_effect.specs.Effects as effect
use Rattle.pddl_terms.proofs.TermSteps.{terms_step, terms_faults_step}
use Rattle.sexp.proofs.Walking.{at_tree}

pub second_step : (scope : Scope) (home : ℕ) (t : Tree) (g : Forms) → second_term_faults scope home (before t g) ≡ first_term_faults scope (before t g) ++ more_faults g
second_step scope home = at_tree (λ f g. second_term_faults scope home f ≡ first_term_faults scope f ++ more_faults g) (λ s e text g. refl) (λ s e inner g. refl)

pub two_step : (scope : Scope) (home : ℕ) (t : Tree) (g : Forms) → two_terms_faults scope home (before t g) ≡ first_term_faults scope (before t g) ++ second_term_faults scope home g
two_step scope home = at_tree (λ f g. two_terms_faults scope home f ≡ first_term_faults scope f ++ second_term_faults scope home g) (λ s e text g. refl) (λ s e inner g. refl)

pub negated_step : (setting : Setting) (scope : Scope) (home not_at : ℕ) (t : Tree) (g : Forms)
    → negated_faults setting scope home not_at (before t g) ≡ first_negated_faults setting scope not_at (before t g) ++ more_faults g
negated_step setting scope home not_at =
    at_tree (λ f g. negated_faults setting scope home not_at f ≡ first_negated_faults setting scope not_at f ++ more_faults g) (λ s e text g. refl) (λ s e inner g. refl)

pub amount_step : (scope : Scope) (home : ℕ) (t : Tree) (g : Forms) → amount_faults scope home (before t g) ≡ first_amount_faults scope (before t g) ++ more_faults g
amount_step scope home = at_tree (λ f g. amount_faults scope home f ≡ first_amount_faults scope f ++ more_faults g) (λ s e text g. refl) (λ s e inner g. refl)

pub increase_step : (scope : Scope) (home inc : ℕ) (t : Tree) (g : Forms) → increase_faults scope home inc (before t g) ≡ increased_faults inc (before t g) ++ amount_faults scope home g
increase_step scope home inc =
    at_tree (λ f g. increase_faults scope home inc f ≡ increased_faults inc f ++ amount_faults scope home g) (λ s e text g. refl) (λ s e inner g. refl)

-- two terms and nothing else
pub equality_two : (positive : Bool) (x y : Option Term) → equality positive (with_term x (with_term y (Some []))) ≡ equality_of positive x y
equality_two positive None y = refl
equality_two positive (Some a) None = refl
equality_two positive (Some a) (Some b) = refl

pub equality_more : (positive : Bool) (x y z : Option Term) (ts : Option (List Term)) → equality positive (with_term x (with_term y (with_term z ts))) ≡ []
equality_more positive None y z ts = refl
equality_more positive (Some a) None z ts = refl
equality_more positive (Some a) (Some b) None ts = refl
equality_more positive (Some a) (Some b) (Some c) None = refl
equality_more positive (Some a) (Some b) (Some c) (Some ts) = refl

pub equality_one : (positive : Bool) (x : Option Term) → equality positive (with_term x (Some [])) ≡ []
equality_one positive None = refl
equality_one positive (Some a) = refl

pub ruleset steps = (terms_step, terms_faults_step, second_step, two_step, negated_step, amount_step, increase_step, more_step, equality_one, equality_two, equality_more)

-- ---- lists that grow

pub ruleset appending = (append_assoc, append-nil, map-append)

-- ---- an effect behind `not`

either : (P : Beginning → Type 0) (b : Bool) (x y : Beginning) → P x → P y → P (if b then x else y)
either P true x y h k = h
either P false x y h k = k

at_kind : (P : Beginning → Type 0) → P Atom → P NoName → (kind : WordKind) → P (by_kind kind)
at_kind P h k Name = h
at_kind P h k Dash = k
at_kind P h k Variable = k
at_kind P h k Other = k

-- an effect begins with no equality
at_effect : (P : Beginning → Type 0) → P Conjunction → P Increasing → P Negation → P Unread → P Atom → P NoName → (t : List ℕ) → P (beginning InEffect t)
at_effect P c i n u a o t = either P _ _ _ c (either P _ _ _ i (either P _ _ _ n (either P _ _ _ u (at_kind P a o _))))

-- what stands behind `not` in an effect: the effects of the negated atoms
atom_agrees : (atom : Option Lifted) → map (effect_of false) (filter_map negated_atom (option_to_list (option_map Negative atom))) ≡ option_to_list (option_map (effect_of false) atom)
atom_agrees None = refl
atom_agrees (Some atom) = refl

inside_agrees : (scope : Scope) (f : Forms) → map (effect_of false) (filter_map negated_atom (negated_inside InEffect scope f)) ≡ effect.negated_inside scope f
inside_agrees scope none = refl
inside_agrees scope (word s e t f) =
    at_effect (λ b. map (effect_of false) (filter_map negated_atom (negated_condition scope t f b)) ≡ negated_effect scope t f b)
    refl refl refl refl (atom_agrees (lifted scope.predicates scope t f)) refl t
inside_agrees scope (group s e i f) = refl

pub negation_agrees : (scope : Scope) (f : Forms) → map (effect_of false) (filter_map negated_atom (negated_conditions InEffect scope f)) ≡ negated_effects scope f
negation_agrees scope none = refl
negation_agrees scope (word s e t f) = refl
negation_agrees scope (group s e i f) = inside_agrees scope i

-- at most one value in a list
pub kept_negated : (positive : Bool) (atom : Option Lifted) → option_to_list (option_map (effect_of positive) atom) ≡ map (effect_of positive) (option_to_list atom)
kept_negated positive None = refl
kept_negated positive (Some atom) = refl

pub ruleset negations = (negation_agrees, kept_negated)
