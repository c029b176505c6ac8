-- Actions: their meaning and their faults.
use Rattle.std.specs.Prelude.{ℕ, if◌then◌else◌, List, [], ◌∷◌, ◌++◌, map, Option, Some, None, slice_get}
use Rattle.sexp.specs.Forms.{Forms, none, word, group}
use Rattle.pddl_names.specs.Names.{is_there, with_name}
use Rattle.pddl_task.specs.Planning.{Schema}
use Rattle.pddl_syntax.specs.declared.fault.Fault.{Fault}
use Rattle.pddl_syntax.specs.declared.fault.FaultKind.TheVariants.{Shape, TwiceDeclared, Limit}
use Rattle.pddl_syntax.specs.declared.fault.LimitedTable.{LimitedTable}
use Rattle.pddl_syntax.specs.declared.fault.LimitedTable.TheVariants.{Schemas, Literals, Increases}
use Rattle.pddl_syntax.specs.Faults.{fault, faults_if}
use Rattle.pddl_syntax.specs.Words.{is_name}
use Rattle.pddl_syntax.specs.Parameters.{parameters_faults, parameter_names, parameter_types}
use Rattle.pddl_syntax.specs.Sections.{Part, behind, root_parts, start_of}
use Rattle.pddl_terms.specs.declared.beginning.Setting.TheVariants.{InCondition, InEffect}
use Rattle.pddl_action.specs.declared.keyword.Keyword.{Keyword}
use Rattle.pddl_action.specs.declared.keyword.Keyword.TheVariants.{Parameters, Precondition, Effect}
use Rattle.pddl_action.specs.Domains.{Declarations}
use Rattle.pddl_terms.specs.Terms.{Scope}
use Rattle.pddl_effect.specs.Conditions.{conditions, conditions_faults}
use Rattle.pddl_effect.specs.Effects.{effects, increases, effects_faults}
use Rattle.pddl_effect.specs.Literals.{literal_places, increase_places}
use Rattle.pddl_action.specs.Keywords.{KeywordPart, parts, value_of, keyword_faults, none_seen}
use Rattle.pddl_action.specs.Limits.{max_schemas, max_literals, max_increases}

-- the declarations that are visible in an action with these parameters
abbrev pub scope_of : Declarations → List (List ℕ) → Scope
scope_of d variables = record { predicates = d.predicates; functions = d.functions; variables = variables; objects = d.objects }

-- ---- the parts of an action

-- the expressions in the list of the parameters
abbrev pub parameters_of : List KeywordPart → Forms
parameters_of ps = root_parts (value_of Parameters ps)

-- the schema with parameters of these types and these parts
abbrev pub schema_in : List ℕ → Scope → List KeywordPart → Schema
schema_in types scope ps = record {
  parameters = types;
  precondition = conditions scope (value_of Precondition ps);
  effect = effects scope (value_of Effect ps);
  increases = increases scope (value_of Effect ps);
}

unfoldable pub value_faults : List (List ℕ) → Scope → Keyword → Forms → List Fault
value_faults types scope Parameters value = parameters_faults (is_there types) (start_of value) (root_parts value)
value_faults types scope Precondition value = conditions_faults scope value
value_faults types scope Effect value = effects_faults scope value

abbrev pub values_faults : List (List ℕ) → Scope → List KeywordPart → List Fault
values_faults types scope [] = []
values_faults types scope (p ∷ ps) = value_faults types scope p.keyword p.value ++ values_faults types scope ps

-- ---- the limits

abbrev pub value_literals : Keyword → Forms → List ℕ
value_literals Parameters value = []
value_literals Precondition value = literal_places InCondition value
value_literals Effect value = literal_places InEffect value

-- the byte offsets of the literals of the parts
abbrev pub all_literals : List KeywordPart → List ℕ
all_literals [] = []
all_literals (p ∷ ps) = value_literals p.keyword p.value ++ all_literals ps

abbrev pub value_increases : Keyword → Forms → List ℕ
value_increases Parameters value = []
value_increases Precondition value = increase_places InCondition value
value_increases Effect value = increase_places InEffect value

-- the byte offsets of the increases of the parts
abbrev pub all_increases : List KeywordPart → List ℕ
all_increases [] = []
all_increases (p ∷ ps) = value_increases p.keyword p.value ++ all_increases ps

abbrev pub past_fault : LimitedTable → Option ℕ → List Fault
past_fault table None = []
past_fault table (Some at) = fault (Limit table) at ∷ []

-- the fault of the first item past the limit; `places` are the byte offsets of the items
abbrev pub past_faults : LimitedTable → ℕ → List ℕ → List Fault
past_faults table limit places = past_fault table (slice_get places limit)

abbrev pub limit_faults : List KeywordPart → List Fault
limit_faults ps = past_faults Literals max_literals (all_literals ps) ++ past_faults Increases max_increases (all_increases ps)

-- the schema, from the expressions after the name
unfoldable pub schema_behind : Declarations → Forms → Schema
schema_behind d f =
    schema_in (parameter_types d.types (parameters_of (parts None f))) (scope_of d (parameter_names (parameters_of (parts None f)))) (parts None f)

-- the faults of the parts of an action with these parameters
abbrev pub parts_faults : Declarations → List (List ℕ) → List KeywordPart → List Fault
parts_faults d variables ps = values_faults d.types (scope_of d variables) ps ++ limit_faults ps

-- the faults of the expressions after the name of the action at `home`
abbrev pub behind_name_faults : Declarations → ℕ → Forms → List Fault
behind_name_faults d home f = keyword_faults home none_seen None f ++ parts_faults d (parameter_names (parameters_of (parts None f))) (parts None f)

-- ---- one action, by the expressions after the word `:action`

-- the fault of the name of the action at `home`, which follows actions with these names
abbrev pub named_faults : List (List ℕ) → ℕ → Forms → List Fault
named_faults names home none = fault Shape home ∷ []
named_faults names home (word s e t f) = if is_name t then faults_if (is_there names t) (fault TwiceDeclared s) [] else fault Shape s ∷ []
named_faults names home (group s e i f) = fault Shape s ∷ []

-- the names with that of one more action, if it has a name
abbrev pub with_action_name : List (List ℕ) → Forms → List (List ℕ)
with_action_name names none = names
with_action_name names (word s e t f) = if is_name t then with_name names t else names
with_action_name names (group s e i f) = names

-- the byte offset of the name, or `home`, the offset of the action, if there is none
abbrev pub name_place : ℕ → Forms → ℕ
name_place home none = home
name_place home (word s e t f) = s
name_place home (group s e i f) = s

abbrev pub place_of : Part → ℕ
place_of a = name_place a.at a.inside

abbrev pub schema_of : Declarations → Part → Schema
schema_of d a = schema_behind d (behind a.inside)

unfoldable pub action_faults : Declarations → List (List ℕ) → Part → List Fault
action_faults d names a = named_faults names a.at a.inside ++ behind_name_faults d a.at (behind a.inside)

-- ---- all actions

-- the names with those of the actions
abbrev pub names_with : List (List ℕ) → List Part → List (List ℕ)
names_with names [] = names
names_with names (a ∷ actions) = names_with (with_action_name names a.inside) actions

-- the faults of actions that follow others with these names
abbrev pub each_faults : Declarations → List (List ℕ) → List Part → List Fault
each_faults d names [] = []
each_faults d names (a ∷ actions) = action_faults d names a ++ each_faults d (with_action_name names a.inside) actions

abbrev pub actions_faults : Declarations → List Part → List Fault
actions_faults d sections = each_faults d [] sections ++ past_faults Schemas max_schemas (map (λ a. a.at) sections)
