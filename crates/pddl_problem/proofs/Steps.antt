-- The sections' parts, one tree after another.
use Rattle.std.proofs.Common.{◌≡◌, ℕ, List, [], ◌∷◌, ◌++◌, refl, sym, ap, ◌∙◌, append_assoc}
use Rattle.std.proofs.lemmas.List.{map-append, append-nil}
use Rattle.std.specs.Prelude.{None}
use Rattle.sexp.specs.declared.tree.Tree.{Tree}
use Rattle.sexp.specs.Forms.{Forms, none, word, group, before, alone, IsOne, ◌then◌}
use Rattle.sexp.proofs.Trees.{before_then}
use Rattle.sexp.proofs.Walking.{at_tree, one_alone}
use Rattle.pddl_syntax.specs.Sections.{more_faults}
use Rattle.pddl_syntax.proofs.HeadSteps.{more_step}
use Rattle.pddl_terms.specs.Terms.{Scope}
use Rattle.pddl_terms.proofs.TermSteps.{not_empty_before}
use Rattle.pddl_problem.specs.Initial.{number_alone, first_number, number_faults, first_number_faults, value_faults, first_function_faults}
use Rattle.pddl_problem.specs.Goals.{placed, goals, goals_faults, goal_faults, opposite_faults, first_alone}

-- ---- numbers

pub one_number : (t : Tree) → number_alone (before t none) ≡ first_number (before t none)
one_number t = at_tree (λ f g. (g ≡ none) → number_alone f ≡ first_number f) (λ s e text g is. rw is refl) (λ s e inner g is. refl) t none refl

two_numbers : (s e : ℕ) (text : List ℕ) (u : Tree) (g : Forms) → number_alone (word s e text (before u g)) ≡ None
two_numbers s e text u g = rw (not_empty_before u g) refl

pub more_numbers : (t u : Tree) (g : Forms) → number_alone (before t (before u g)) ≡ None
more_numbers t u g = at_tree (λ f h. (h ≡ before u g) → number_alone f ≡ None) (λ s e text h is. rw is (two_numbers s e text u g)) (λ s e inner h is. refl) t (before u g) refl

pub number_step : (home : ℕ) (t : Tree) (g : Forms) → number_faults home (before t g) ≡ first_number_faults (before t g) ++ more_faults g
number_step home = at_tree (λ f g. number_faults home f ≡ first_number_faults f ++ more_faults g) (λ s e text g. refl) (λ s e inner g. refl)

-- what is told of the first expression alone does not hang on what stands behind it
pub more_none : more_faults none ≡ []
more_none = refl

pub ruleset numbers = (one_number, more_numbers, number_step, more_step, append-nil)

-- ---- values

pub value_step : (scope : Scope) (home : ℕ) (t : Tree) (g : Forms) → value_faults scope home (before t g) ≡ first_function_faults scope (before t g) ++ number_faults home g
value_step scope home = at_tree (λ f g. value_faults scope home f ≡ first_function_faults scope f ++ number_faults home g) (λ s e text g. refl) (λ s e inner g. refl)

pub ruleset values = (value_step)

-- ---- the goal

pub ruleset appending = (append_assoc, append-nil, map-append)

alone_then : (f g : Forms) → IsOne f → first_alone (f then g) ≡ f
alone_then none g is = absurd is
alone_then (word s e t f) g is = ap (λ (h : Forms). word s e t h) (sym is)
alone_then (group s e i f) g is = ap (λ (h : Forms). group s e i h) (sym is)

pub alone_step : (t : Tree) (g : Forms) → first_alone (before t g) ≡ before t none
alone_step t g = ap first_alone (before_then t none g) ∙ alone_then (alone t) g (one_alone t)

faults_then : (scope : Scope) (home : ℕ) (f g : Forms) → IsOne f → goal_faults scope home (f then g) ≡ goals_faults scope f ++ opposite_faults [] (goals scope f) ++ more_faults g
faults_then scope home none g is = absurd is
faults_then scope home (word s e t f) g is = rw is refl
faults_then scope home (group s e i f) g is = rw is refl

pub goal_faults_step : (scope : Scope) (home : ℕ) (t : Tree) (g : Forms)
    → goal_faults scope home (before t g) ≡ goals_faults scope (before t none) ++ opposite_faults [] (goals scope (before t none)) ++ more_faults g
goal_faults_step scope home t g = ap (goal_faults scope home) (before_then t none g) ∙ faults_then scope home (alone t) g (one_alone t)

-- no conditions, no literals
pub no_conditions : (places : List ℕ) → placed places [] ≡ []
no_conditions [] = refl
no_conditions (s ∷ ss) = refl

pub ruleset goal_steps = (alone_step, goal_faults_step, append-nil)
