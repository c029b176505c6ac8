-- Actions of one shape, and their faults.
use Rattle.std.proofs.Common.{◌≡◌, ℕ, Bool, true, false, cond, List, [], ◌∷◌, ◌++◌, map, refl, sym, ap, ap₂, ◌∙◌, slice_get}
use Rattle.std.specs.Prelude.{Option, Some, None, find}
use Rattle.std.specs.Option.{option_map, option_map_or}
use Rattle.std.proofs.lemmas.List.{map-append}
use Rattle.std.proofs.lemmas.Option.{slice_get-map}
use Rattle.sexp.specs.Forms.{Forms, none, word, group}
use Rattle.pddl_names.specs.Names.{is_there}
use Rattle.pddl_task.specs.Planning.{Schema}
use Rattle.pddl_syntax.specs.declared.fault.FaultKind.TheVariants.{TwiceDeclared}
use Rattle.pddl_syntax.specs.declared.fault.LimitedTable.{LimitedTable}
use Rattle.pddl_syntax.specs.declared.fault.LimitedTable.TheVariants.{Schemas, Literals, Increases}
use Rattle.pddl_syntax.specs.Faults.{fault}
use Rattle.pddl_syntax.specs.Words.{is_name}
use Rattle.pddl_syntax.specs.Parameters.{parameter_names, parameter_types}
use Rattle.pddl_syntax.specs.Sections.{Part, behind, root_parts, start_of}
use Rattle.pddl_terms.specs.declared.beginning.Setting.TheVariants.{InCondition, InEffect}
use Rattle.pddl_terms.specs.Terms.{Scope}
use Rattle.pddl_action.specs.declared.keyword.Keyword.{Keyword}
use Rattle.pddl_action.specs.declared.keyword.Keyword.TheVariants.{Parameters, Precondition, Effect}
use Rattle.pddl_action.specs.declared.keyword.Seen.{Seen}
use Rattle.pddl_action.specs.Domains.{Declarations}
use Rattle.pddl_action.specs.Keywords.{KeywordPart, keyword_of, same_keyword, waiting_after, parts, value_of, is_seen, seen_after, word_faults, list_faults, end_faults, keyword_faults, none_seen}
use Rattle.pddl_action.specs.Actions.{scope_of, parameters_of, schema_in, value_faults, values_faults, value_literals, all_literals, value_increases, all_increases, past_fault, past_faults, limit_faults, schema_behind, behind_name_faults, named_faults, with_action_name, schema_of, action_faults, names_with, each_faults, actions_faults}
use Rattle.pddl_action.specs.Limits.{max_schemas, max_literals, max_increases}
use Rattle.pddl_layout.specs.Shapes.{erased}
use Rattle.pddl_layout.specs.Sections.{erased_part}
use Rattle.pddl_layout.proofs.Alike.{Alike, faulty, clear, both, chosen, tested}
use Rattle.pddl_layout.proofs.SectionShapes.{behind_erased, root_parts_erased}
use Rattle.pddl_layout.proofs.TypedShapes.{parameter_names_erased, parameter_types_erased, parameters_alike}
use Rattle.pddl_layout.proofs.EffectShapes.{zeroed, conditions_erased, conditions_alike, effects_erased, increases_erased, effects_alike, literals_zeroed, increases_zeroed}

-- ---- keywords and their lists

-- the keyword with its list, with 0 for each place
abbrev erased_value : KeywordPart → KeywordPart
erased_value p = record { keyword = p.keyword; value = erased p.value }

parts_erased : (waiting : Option Keyword) (f : Forms) → parts waiting (erased f) ≡ map erased_value (parts waiting f)
parts_erased waiting none = refl
parts_erased waiting (word s e t f) = parts_erased (waiting_after waiting (keyword_of t)) f
parts_erased None (group s e i f) = parts_erased None f
parts_erased (Some k) (group s e i f) = ap (λ (ps : List KeywordPart). record { keyword = k; value = group 0 0 (erased i) none } ∷ ps) (parts_erased None f)

value_erased : (k : Keyword) (ps : List KeywordPart) → value_of k (map erased_value ps) ≡ erased (value_of k ps)
value_erased k [] = refl
value_erased k (p ∷ ps) = by (same_keyword p.keyword k) (value_erased k ps) where
  by : (b : Bool) → value_of k (map erased_value ps) ≡ erased (value_of k ps)
      → option_map_or (λ (q : KeywordPart). q.value) (cond b (Some (erased_value p)) (find (λ (q : KeywordPart). same_keyword q.keyword k) (map erased_value ps))) none
      ≡ erased (option_map_or (λ (q : KeywordPart). q.value) (cond b (Some p) (find (λ (q : KeywordPart). same_keyword q.keyword k) ps)) none)
  by true rest = refl
  by false rest = rest

parameters_of_erased : (ps : List KeywordPart) → parameters_of (map erased_value ps) ≡ erased (parameters_of ps)
parameters_of_erased ps = ap root_parts (value_erased Parameters ps) ∙ root_parts_erased (value_of Parameters ps)

word_alike : (waiting : Option Keyword) (seen : Seen) (s z : ℕ) (k : Option Keyword) → Alike (word_faults waiting seen s k) (word_faults waiting seen z k)
word_alike (Some w) seen s z k = faulty
word_alike None seen s z None = faulty
word_alike None seen s z (Some k) = tested (is_seen seen k) (fault TwiceDeclared s) (fault TwiceDeclared z) clear

list_alike : (waiting : Option Keyword) (s z : ℕ) → Alike (list_faults waiting s) (list_faults waiting z)
list_alike (Some k) s z = clear
list_alike None s z = faulty

end_alike : (waiting : Option Keyword) (s z : ℕ) → Alike (end_faults waiting s) (end_faults waiting z)
end_alike (Some k) s z = faulty
end_alike None s z = clear

keyword_alike : (h k : ℕ) (seen : Seen) (waiting : Option Keyword) (f : Forms) → Alike (keyword_faults h seen waiting f) (keyword_faults k seen waiting (erased f))
keyword_alike h k seen waiting none = end_alike waiting h k
keyword_alike h k seen waiting (word s e t f) =
    both (word_alike waiting seen s 0 (keyword_of t)) (keyword_alike h k (seen_after waiting seen (keyword_of t)) (waiting_after waiting (keyword_of t)) f)
keyword_alike h k seen waiting (group s e i f) = both (list_alike waiting s 0) (keyword_alike h k seen None f)

-- ---- the schema

schema_in_erased : (types : List ℕ) (scope : Scope) (ps : List KeywordPart) → schema_in types scope (map erased_value ps) ≡ schema_in types scope ps
schema_in_erased types scope ps = rw (value_erased Precondition ps, value_erased Effect ps, conditions_erased InCondition scope (value_of Precondition ps), effects_erased scope (value_of Effect ps), increases_erased scope (value_of Effect ps))

pub schema_behind_erased : (d : Declarations) (f : Forms) → schema_behind d (erased f) ≡ schema_behind d f
unfolding schema_behind
schema_behind_erased d f =
    let ps = parts None f in
    rw (parts_erased None f, parameters_of_erased ps, parameter_types_erased d.types (parameters_of ps), parameter_names_erased (parameters_of ps))
    (schema_in_erased (parameter_types d.types (parameters_of ps)) (scope_of d (parameter_names (parameters_of ps))) ps)

-- ---- the faults of the parts

value_alike : (types : List (List ℕ)) (scope : Scope) (k : Keyword) (f : Forms) → Alike (value_faults types scope k f) (value_faults types scope k (erased f))
unfolding value_faults
value_alike types scope Parameters f = rw (root_parts_erased f) (parameters_alike (is_there types) (start_of f) (start_of (erased f)) (root_parts f))
value_alike types scope Precondition f = conditions_alike InCondition scope f
value_alike types scope Effect f = effects_alike scope f

values_alike : (types : List (List ℕ)) (scope : Scope) (ps : List KeywordPart) → Alike (values_faults types scope ps) (values_faults types scope (map erased_value ps))
values_alike types scope [] = clear
values_alike types scope (p ∷ ps) = both (value_alike types scope p.keyword p.value) (values_alike types scope ps)

value_literals_zeroed : (k : Keyword) (f : Forms) → value_literals k (erased f) ≡ zeroed (value_literals k f)
value_literals_zeroed Parameters f = refl
value_literals_zeroed Precondition f = literals_zeroed InCondition f
value_literals_zeroed Effect f = literals_zeroed InEffect f

all_literals_zeroed : (ps : List KeywordPart) → all_literals (map erased_value ps) ≡ zeroed (all_literals ps)
all_literals_zeroed [] = refl
all_literals_zeroed (p ∷ ps) =
    ap₂ ◌++◌ (value_literals_zeroed p.keyword p.value) (all_literals_zeroed ps) ∙ sym (map-append (λ n. 0) (value_literals p.keyword p.value) (all_literals ps))

value_increases_zeroed : (k : Keyword) (f : Forms) → value_increases k (erased f) ≡ zeroed (value_increases k f)
value_increases_zeroed Parameters f = refl
value_increases_zeroed Precondition f = increases_zeroed InCondition f
value_increases_zeroed Effect f = increases_zeroed InEffect f

all_increases_zeroed : (ps : List KeywordPart) → all_increases (map erased_value ps) ≡ zeroed (all_increases ps)
all_increases_zeroed [] = refl
all_increases_zeroed (p ∷ ps) =
    ap₂ ◌++◌ (value_increases_zeroed p.keyword p.value) (all_increases_zeroed ps) ∙ sym (map-append (λ n. 0) (value_increases p.keyword p.value) (all_increases ps))

past_by : (table : LimitedTable) (o : Option ℕ) → Alike (past_fault table o) (past_fault table (option_map (λ p. 0) o))
past_by table None = clear
past_by table (Some p) = faulty

-- the faults past a limit go by how many places there are
past_alike : (table : LimitedTable) (limit : ℕ) (places places2 : List ℕ) → places2 ≡ zeroed places → Alike (past_faults table limit places) (past_faults table limit places2)
past_alike table limit places places2 e = rw (e, slice_get-map {B = ℕ} (λ p. 0) places limit) (past_by table (slice_get places limit))

limit_alike : (ps : List KeywordPart) → Alike (limit_faults ps) (limit_faults (map erased_value ps))
limit_alike ps =
    both (past_alike Literals max_literals (all_literals ps) (all_literals (map erased_value ps)) (all_literals_zeroed ps))
    (past_alike Increases max_increases (all_increases ps) (all_increases (map erased_value ps)) (all_increases_zeroed ps))

behind_name_alike : (d : Declarations) (h k : ℕ) (f : Forms) → Alike (behind_name_faults d h f) (behind_name_faults d k (erased f))
behind_name_alike d h k f =
    let ps = parts None f in
    rw (parts_erased None f, parameters_of_erased ps, parameter_names_erased (parameters_of ps))
    (both (keyword_alike h k none_seen None f) (both (values_alike d.types (scope_of d (parameter_names (parameters_of ps))) ps) (limit_alike ps)))

-- ---- all actions

named_alike : (names : List (List ℕ)) (h k : ℕ) (f : Forms) → Alike (named_faults names h f) (named_faults names k (erased f))
named_alike names h k none = faulty
named_alike names h k (word s e t f) = chosen (is_name t) (tested (is_there names t) (fault TwiceDeclared s) (fault TwiceDeclared 0) clear) faulty
named_alike names h k (group s e i f) = faulty

action_name_erased : (names : List (List ℕ)) (f : Forms) → with_action_name names (erased f) ≡ with_action_name names f
action_name_erased names none = refl
action_name_erased names (word s e t f) = refl
action_name_erased names (group s e i f) = refl

schema_erased : (d : Declarations) (a : Part) → schema_of d (erased_part a) ≡ schema_of d a
schema_erased d a = ap (schema_behind d) (behind_erased a.inside) ∙ schema_behind_erased d (behind a.inside)

pub schemas_erased : (d : Declarations) (actions : List Part) → map (schema_of d) (map erased_part actions) ≡ map (schema_of d) actions
schemas_erased d [] = refl
schemas_erased d (a ∷ actions) = ap₂ (λ (s : Schema) (ss : List Schema). s ∷ ss) (schema_erased d a) (schemas_erased d actions)

pub names_erased : (names : List (List ℕ)) (actions : List Part) → names_with names (map erased_part actions) ≡ names_with names actions
names_erased names [] = refl
names_erased names (a ∷ actions) = ap (λ (ns : List (List ℕ)). names_with ns (map erased_part actions)) (action_name_erased names a.inside) ∙ names_erased (with_action_name names a.inside) actions

action_alike : (d : Declarations) (names : List (List ℕ)) (a : Part) → Alike (action_faults d names a) (action_faults d names (erased_part a))
unfolding action_faults
action_alike d names a = rw (behind_erased a.inside) (both (named_alike names a.at 0 a.inside) (behind_name_alike d a.at 0 (behind a.inside)))

each_alike : (d : Declarations) (names : List (List ℕ)) (actions : List Part) → Alike (each_faults d names actions) (each_faults d names (map erased_part actions))
each_alike d names [] = clear
each_alike d names (a ∷ actions) = rw (action_name_erased names a.inside) (both (action_alike d names a) (each_alike d (with_action_name names a.inside) actions))

places_zeroed : (actions : List Part) → map (λ (a : Part). a.at) (map erased_part actions) ≡ zeroed (map (λ (a : Part). a.at) actions)
places_zeroed [] = refl
places_zeroed (a ∷ actions) = ap (λ (ns : List ℕ). 0 ∷ ns) (places_zeroed actions)

pub actions_alike : (d : Declarations) (actions : List Part) → Alike (actions_faults d actions) (actions_faults d (map erased_part actions))
actions_alike d actions =
    both (each_alike d [] actions)
    (past_alike Schemas max_schemas (map (λ (a : Part). a.at) actions) (map (λ (a : Part). a.at) (map erased_part actions)) (places_zeroed actions))
