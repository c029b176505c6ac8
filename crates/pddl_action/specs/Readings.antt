-- The parts of an action in the order in which they are read: the lists of parameters, and then the other parts.
use Rattle.std.specs.Prelude.{ℕ, List, [], ◌∷◌, ◌++◌, Option, Some, None}
use Rattle.sexp.specs.Forms.{Forms}
use Rattle.pddl_names.specs.Names.{is_there}
use Rattle.pddl_syntax.specs.declared.fault.Fault.{Fault}
use Rattle.pddl_syntax.specs.Parameters.{parameters_faults, parameter_names, parameter_types}
use Rattle.pddl_syntax.specs.Sections.{root_parts, start_of}
use Rattle.pddl_terms.specs.Terms.{Scope}
use Rattle.pddl_effect.specs.Conditions.{conditions_faults}
use Rattle.pddl_effect.specs.Effects.{effects_faults}
use Rattle.pddl_action.specs.declared.keyword.Keyword.{Keyword}
use Rattle.pddl_action.specs.declared.keyword.Keyword.TheVariants.{Parameters, Precondition, Effect}
use Rattle.pddl_action.specs.Keywords.{KeywordPart, value_of}

-- ---- the meaning

-- the first of the values, if there is one, and otherwise the later one
abbrev pub or_first : {A : Type 0} → Option A → A → Option A
or_first (Some x) later = Some x
or_first None later = Some later

-- the value read so far, if there is one, and otherwise the meaning of the first part with this keyword
abbrev pub value_or : {A : Type 0} → Option A → (Forms → A) → Keyword → List KeywordPart → A
value_or (Some x) meaning keyword ps = x
value_or None meaning keyword ps = meaning (value_of keyword ps)

abbrev pub names_of_list : Forms → List (List ℕ)
names_of_list value = parameter_names (root_parts value)

abbrev pub types_of_list : List (List ℕ) → Forms → List ℕ
types_of_list types value = parameter_types types (root_parts value)

-- ---- the faults

-- the faults of a part, if it is a list of parameters
abbrev pub list_faults : List (List ℕ) → Keyword → Forms → List Fault
list_faults types Parameters value = parameters_faults (is_there types) (start_of value) (root_parts value)
list_faults types Precondition value = []
list_faults types Effect value = []

-- the faults of the lists of parameters
abbrev pub lists_faults : List (List ℕ) → List KeywordPart → List Fault
lists_faults types [] = []
lists_faults types (p ∷ ps) = list_faults types p.keyword p.value ++ lists_faults types ps

-- the faults of a part, if it is a precondition or an effect
abbrev pub body_faults : Scope → Keyword → Forms → List Fault
body_faults scope Parameters value = []
body_faults scope Precondition value = conditions_faults scope value
body_faults scope Effect value = effects_faults scope value

-- the faults of the preconditions and effects
abbrev pub bodies_faults : Scope → List KeywordPart → List Fault
bodies_faults scope [] = []
bodies_faults scope (p ∷ ps) = body_faults scope p.keyword p.value ++ bodies_faults scope ps
