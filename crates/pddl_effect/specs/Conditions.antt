-- Conditions: their meaning and their faults.
use Rattle.std.specs.Prelude.{ℕ, Bool, true, false, if◌then◌else◌, List, [], ◌∷◌, ◌++◌, map, Option, Some, None, option_to_list}
use Rattle.std.specs.Option.{option_map}
use Rattle.sexp.specs.Forms.{Forms, none, word, group}
use Rattle.pddl_task.specs.declared.schema.Term.{Term}
use Rattle.pddl_task.specs.declared.schema.Condition.{Condition}
use Rattle.pddl_task.specs.declared.schema.Condition.TheVariants.{Positive, Negative, Equal, Different}
use Rattle.pddl_syntax.specs.declared.fault.Fault.{Fault}
use Rattle.pddl_syntax.specs.declared.fault.FaultKind.TheVariants.{Shape, Unsupported}
use Rattle.pddl_syntax.specs.Faults.{fault}
use Rattle.pddl_syntax.specs.Sections.{behind, more_faults}
use Rattle.pddl_terms.specs.declared.beginning.Beginning.{Beginning}
use Rattle.pddl_terms.specs.declared.beginning.Beginning.TheVariants.{Conjunction, Negation, Equality, GoalEquality, Unread, Atom}
use Rattle.pddl_terms.specs.declared.beginning.Setting.{Setting}
use Rattle.pddl_terms.specs.declared.beginning.Setting.TheVariants.{InCondition}
use Rattle.pddl_terms.specs.Beginnings.{beginning}
use Rattle.pddl_terms.specs.Terms.{Scope, terms, first_term_faults, lifted, lifted_faults}

-- ---- the meaning

abbrev pub equality_of : Bool → Option Term → Option Term → List Condition
equality_of positive (Some a) (Some b) = (if positive then Equal a b else Different a b) ∷ []
equality_of positive (Some a) None = []
equality_of positive None b = []

-- the condition that two terms denote the same object, or different objects
abbrev pub equality : Bool → Option (List Term) → List Condition
equality positive None = []
equality positive (Some []) = []
equality positive (Some (a ∷ [])) = []
equality positive (Some (a ∷ b ∷ [])) = (if positive then Equal a b else Different a b) ∷ []
equality positive (Some (a ∷ b ∷ c ∷ ts)) = []

abbrev pub negated_condition : Scope → List ℕ → Forms → Beginning → List Condition
negated_condition scope t f Atom = option_to_list (option_map Negative (lifted scope.predicates scope t f))
negated_condition scope t f Equality = equality false (terms scope f)
negated_condition scope t f other = []

-- the condition that is the negation of the expressions in a list
abbrev pub negated_inside : Setting → Scope → Forms → List Condition
negated_inside setting scope none = []
negated_inside setting scope (word s e t f) = negated_condition scope t f (beginning setting t)
negated_inside setting scope (group s e i f) = []

-- the condition that is the negation of the expression after `not`
abbrev pub negated_conditions : Setting → Scope → Forms → List Condition
negated_conditions setting scope none = []
negated_conditions setting scope (word s e t f) = []
negated_conditions setting scope (group s e i f) = negated_inside setting scope i

abbrev pub group_conditions : Setting → Scope → List ℕ → Forms → Beginning → List Condition → List Condition
group_conditions setting scope t f Conjunction parts = parts
group_conditions setting scope t f Equality parts = equality true (terms scope f)
group_conditions setting scope t f Negation parts = negated_conditions setting scope f
group_conditions setting scope t f Atom parts = option_to_list (option_map Positive (lifted scope.predicates scope t f))
group_conditions setting scope t f other parts = []

-- the conditions that the expressions spell in this setting, in the order of the text
abbrev pub conditions_in : Setting → Scope → Forms → List Condition
conditions_in setting scope none = []
conditions_in setting scope (word s e t f) = conditions_in setting scope f
conditions_in setting scope (group s e none f) = conditions_in setting scope f
conditions_in setting scope (group s e (group hs he h i) f) = conditions_in setting scope f
conditions_in setting scope (group s e (word hs he t i) f) =
    group_conditions setting scope t i (beginning setting t) (conditions_in setting scope i) ++ conditions_in setting scope f

-- the conditions that the expressions spell
abbrev pub conditions : Scope → Forms → List Condition
conditions scope f = conditions_in InCondition scope f

-- the byte offset of each condition of the list at offset `s`, given those of its parts
abbrev pub group_places : Setting → Scope → ℕ → List ℕ → Forms → Beginning → List ℕ → List ℕ
group_places setting scope s t f Conjunction parts = parts
group_places setting scope s t f other parts = map (λ (c : Condition). s) (group_conditions setting scope t f other [])

-- the byte offset of each condition: that of its list
abbrev pub condition_places : Setting → Scope → Forms → List ℕ
condition_places setting scope none = []
condition_places setting scope (word s e t f) = condition_places setting scope f
condition_places setting scope (group s e none f) = condition_places setting scope f
condition_places setting scope (group s e (group hs he h i) f) = condition_places setting scope f
condition_places setting scope (group s e (word hs he t i) f) =
    group_places setting scope s t i (beginning setting t) (condition_places setting scope i) ++ condition_places setting scope f

-- ---- the faults

-- the faults of a second term, which must be the last expression in the list at `home`
abbrev pub second_term_faults : Scope → ℕ → Forms → List Fault
second_term_faults scope home none = fault Shape home ∷ []
second_term_faults scope home f = first_term_faults scope f ++ more_faults (behind f)

-- the faults of the two terms in the list at `home`
abbrev pub two_terms_faults : Scope → ℕ → Forms → List Fault
two_terms_faults scope home none = fault Shape home ∷ []
two_terms_faults scope home f = first_term_faults scope f ++ second_term_faults scope home (behind f)

-- The faults of a list that is negated: it must be an atom or, in a condition, an equality. The fault of an equality in
-- a goal is at its head.
abbrev pub negated_group_faults : Scope → ℕ → ℕ → ℕ → List ℕ → Forms → Beginning → List Fault
negated_group_faults scope not_at home hs t f Atom = lifted_faults scope.predicates scope home hs t f
negated_group_faults scope not_at home hs t f Equality = two_terms_faults scope home f
negated_group_faults scope not_at home hs t f GoalEquality = fault Unsupported hs ∷ []
negated_group_faults scope not_at home hs t f other = fault Unsupported not_at ∷ []

-- the faults of the expressions in the negated list at `home`, after the word `not` at `not_at`
abbrev pub negated_inside_faults : Setting → Scope → ℕ → ℕ → Forms → List Fault
negated_inside_faults setting scope not_at home none = fault Unsupported not_at ∷ []
negated_inside_faults setting scope not_at home (word s e t f) = negated_group_faults scope not_at home s t f (beginning setting t)
negated_inside_faults setting scope not_at home (group s e i f) = fault Unsupported not_at ∷ []

-- the faults of the first expression after the word `not` at `not_at`
abbrev pub first_negated_faults : Setting → Scope → ℕ → Forms → List Fault
first_negated_faults setting scope not_at none = []
first_negated_faults setting scope not_at (word s e t f) = fault Unsupported not_at ∷ []
first_negated_faults setting scope not_at (group s e i f) = negated_inside_faults setting scope not_at s i

-- the faults of the expressions after the word `not` at `not_at`, in the list at `home`
abbrev pub negated_faults : Setting → Scope → ℕ → ℕ → Forms → List Fault
negated_faults setting scope home not_at none = fault Shape home ∷ []
negated_faults setting scope home not_at f = first_negated_faults setting scope not_at f ++ more_faults (behind f)

abbrev pub group_faults : Setting → Scope → ℕ → ℕ → List ℕ → Forms → Beginning → List Fault → List Fault
group_faults setting scope home hs t f Conjunction parts = parts
group_faults setting scope home hs t f Equality parts = two_terms_faults scope home f
group_faults setting scope home hs t f Negation parts = negated_faults setting scope home hs f
group_faults setting scope home hs t f GoalEquality parts = fault Unsupported hs ∷ []
group_faults setting scope home hs t f Unread parts = fault Unsupported hs ∷ []
group_faults setting scope home hs t f Atom parts = lifted_faults scope.predicates scope home hs t f
group_faults setting scope home hs t f other parts = fault Shape hs ∷ []

-- the faults of expressions that must all be conditions of this setting
abbrev pub conditions_faults_in : Setting → Scope → Forms → List Fault
conditions_faults_in setting scope none = []
conditions_faults_in setting scope (word s e t f) = fault Shape s ∷ conditions_faults_in setting scope f
conditions_faults_in setting scope (group s e none f) = conditions_faults_in setting scope f
conditions_faults_in setting scope (group s e (group hs he h i) f) = fault Shape hs ∷ conditions_faults_in setting scope f
conditions_faults_in setting scope (group s e (word hs he t i) f) =
    group_faults setting scope s hs t i (beginning setting t) (conditions_faults_in setting scope i) ++ conditions_faults_in setting scope f

-- the faults of expressions that must all be conditions
abbrev pub conditions_faults : Scope → Forms → List Fault
conditions_faults scope f = conditions_faults_in InCondition scope f
