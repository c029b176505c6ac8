-- Which two texts spell which planning task, and the first fault of texts that spell no task.
use Rattle.std.specs.Prelude.{◌≡◌, ℕ, ◌⊎◌, Bool, true, false, if◌then◌else◌, is_some, List, [], ◌∷◌, ◌++◌, map, Option, Some, None, codes}
use Rattle.sexp.specs.Forms.{Forms, IsOne, none}
use Rattle.sexp.specs.Grammar.{SpellsAll}
use Rattle.sexp.specs.Faults.{IsFirstFault}
use Rattle.pddl_names.specs.Names.{is_there}
use Rattle.pddl_task.specs.Atoms.{Literal}
use Rattle.pddl_task.specs.Planning.{PlanningTask, Schema, FunctionValue}
use Rattle.pddl_syntax.specs.declared.fault.Fault.{Fault}
use Rattle.pddl_syntax.specs.declared.fault.PlanningFile.{PlanningFile}
use Rattle.pddl_syntax.specs.declared.fault.PlanningFile.TheVariants.{Domain, Problem}
use Rattle.pddl_syntax.specs.Heads.{Heads, no_heads}
use Rattle.pddl_syntax.specs.Typed.{Declared, declared}
use Rattle.pddl_syntax.specs.Sections.{Part, section, all_sections, sections, head_faults, requirement_faults}
use Rattle.pddl_domain.specs.Types.{type_names, supertypes, types_faults}
use Rattle.pddl_domain.specs.Objects.{Objects, no_objects, objects_with, objects_faults}
use Rattle.pddl_domain.specs.DeclaredHeads.{predicate_heads, predicates_faults, function_heads, functions_faults}
use Rattle.pddl_terms.specs.Terms.{Scope}
use Rattle.pddl_action.specs.Domains.{Declarations}
use Rattle.pddl_action.specs.Actions.{actions_faults, schema_of, names_with, place_of}
use Rattle.pddl_problem.specs.Initial.{initial_atoms, stated_values, initial_faults}
use Rattle.pddl_problem.specs.Goals.{goal_literals, goal_faults, metric_faults}
use Rattle.pddl.specs.declared.fault.PddlFault.{PddlFault}
use Rattle.pddl.specs.declared.fault.PddlFault.TheVariants.{OutOfMemory, Tree, Section}
use Rattle.pddl.specs.Passes.{Pass, FileFault, first_pass}
use Rattle.pddl.specs.Sums.{stated_sum_faults}

-- the expressions in a section; none if the section is missing
abbrev pub inside : Option Part → Forms
inside None = none
inside (Some s) = s.inside

abbrev pub place : Option Part → ℕ
place None = 0
place (Some s) = s.at

-- the first section with this name
abbrev pub part : Forms → List ℕ → Option Part
part root name = section name (sections root)

abbrev pub place_in : Forms → List ℕ → ℕ
place_in root name = place (part root name)

abbrev pub inside_of : Forms → List ℕ → Forms
inside_of root name = inside (part root name)

-- ---- the declarations, from the trees of the domain and of the problem

abbrev pub types_of : Forms → List (List ℕ)
types_of d = type_names (declared false (inside_of d (codes ":types")))

abbrev pub supertypes_of : Forms → List ℕ
supertypes_of d = supertypes (declared false (inside_of d (codes ":types")))

abbrev pub constants_of : Forms → Objects
constants_of d = objects_with (types_of d) no_objects (declared false (inside_of d (codes ":constants")))

-- the declarations of a section
abbrev pub declared_in : Forms → List ℕ → List Declared
declared_in root name = declared false (inside_of root name)

abbrev pub predicates_of : Forms → Heads
predicates_of d = predicate_heads no_heads (inside_of d (codes ":predicates"))

abbrev pub functions_of : Forms → Heads
functions_of d = function_heads no_heads (inside_of d (codes ":functions"))

-- the declarations of a domain that its actions use
abbrev pub declarations_of : Forms → Declarations
declarations_of d = record {
  types = types_of d;
  supertypes = supertypes_of d;
  predicates = predicates_of d;
  functions = functions_of d;
  objects = (constants_of d).names;
}

-- the declarations that are visible in a problem with these objects
abbrev pub scope_over : Declarations → Objects → Scope
scope_over declarations objects =
    record { predicates = declarations.predicates; functions = declarations.functions; variables = []; objects = objects.names }

-- the constants, followed by the problem's objects
abbrev pub objects_of : Declarations → Objects → Forms → Objects
objects_of declarations constants p = objects_with declarations.types constants (declared_in p (codes ":objects"))

abbrev pub actions_of : Forms → List Part
actions_of d = all_sections (codes ":action") (sections d)

-- the goal's literals
unfoldable pub goal_of : Scope → Forms → List Literal
goal_of scope p = map (λ l. l.literal) (goal_literals scope (inside_of p (codes ":goal")))

abbrev pub has_metric : Forms → Bool
has_metric p = is_some (part p (codes ":metric"))

-- ---- the faults, pass by pass

abbrev pub pass : PlanningFile → List Fault → Pass
pass file faults = record { file = file; faults = faults }

-- the passes over the domain's declarations
abbrev pub declaring_passes : Forms → List Pass
declaring_passes d =
    pass Domain (head_faults Domain d)
    ∷ pass Domain (requirement_faults (inside_of d (codes ":requirements")))
    ∷ pass Domain (types_faults (place_in d (codes ":types")) (inside_of d (codes ":types")))
    ∷ pass Domain (objects_faults (types_of d) no_objects (place_in d (codes ":constants")) (inside_of d (codes ":constants")))
    ∷ pass Domain (predicates_faults (is_there (types_of d)) no_heads 0 (inside_of d (codes ":predicates")))
    ∷ pass Domain (functions_faults (is_there (types_of d)) (place_in d (codes ":functions")) true no_heads 0 (inside_of d (codes ":functions")))
    ∷ []

abbrev pub actions_pass : Forms → Pass
actions_pass d = pass Domain (actions_faults (declarations_of d) (actions_of d))

abbrev pub domain_passes : Forms → List Pass
domain_passes d = declaring_passes d ++ actions_pass d ∷ []

abbrev pub stated_metric_faults : Option Part → List Fault
stated_metric_faults None = []
stated_metric_faults (Some s) = metric_faults s.at s.inside

-- the passes over the problem: the one over its heads, and in the following definitions all of them, given the
-- declarations and the constants
abbrev pub problem_heads_pass : Forms → Pass
problem_heads_pass p = pass Problem (head_faults Problem p)

abbrev pub objects_pass : Declarations → Objects → Forms → Pass
objects_pass declarations constants p =
    pass Problem (objects_faults declarations.types constants (place_in p (codes ":objects")) (inside_of p (codes ":objects")))

abbrev pub initial_pass : Declarations → Objects → Forms → Pass
initial_pass declarations objects p = pass Problem (initial_faults (scope_over declarations objects) 0 [] (inside_of p (codes ":init")))

abbrev pub goal_pass : Declarations → Objects → Forms → Pass
goal_pass declarations objects p =
    pass Problem (goal_faults (scope_over declarations objects) (place_in p (codes ":goal")) (inside_of p (codes ":goal")))

abbrev pub metric_pass : Forms → Pass
metric_pass p = pass Problem (stated_metric_faults (part p (codes ":metric")))

abbrev pub stating_passes : Declarations → Objects → Forms → List Pass
stating_passes declarations constants p =
    let objects = objects_of declarations constants p in
    problem_heads_pass p
    ∷ objects_pass declarations constants p
    ∷ initial_pass declarations objects p
    ∷ goal_pass declarations objects p
    ∷ metric_pass p
    ∷ []

-- ---- the task

-- the task with these declarations, constants, schemas and schema names, and with the problem's tree
abbrev pub task_with : Declarations → Objects → List Schema → List (List ℕ) → Forms → PlanningTask
task_with declarations constants schemas names p =
    let objects = objects_of declarations constants p in
    record {
      supertypes = declarations.supertypes;
      object_types = objects.types;
      arities = declarations.predicates.arities;
      schemas = schemas;
      initial = initial_atoms (scope_over declarations objects) (inside_of p (codes ":init"));
      goal = goal_of (scope_over declarations objects) p;
      values = stated_values (scope_over declarations objects) [] (inside_of p (codes ":init"));
      metric = has_metric p;
      vocabulary = record { objects = objects.names; predicates = declarations.predicates.names; functions = declarations.functions.names; schemas = names };
    }

abbrev pub schemas_of : Forms → List Schema
schemas_of d = map (schema_of (declarations_of d)) (actions_of d)

abbrev pub schema_names_of : Forms → List (List ℕ)
schema_names_of d = names_with [] (actions_of d)

abbrev pub places_of : Forms → List ℕ
places_of d = map place_of (actions_of d)

abbrev pub task_of : Forms → Forms → PlanningTask
task_of d p = task_with (declarations_of d) (constants_of d) (schemas_of d) (schema_names_of d) p

-- under the metric, the faults of schemas whose actions may cost too much, from the schemas with their byte offsets and
-- the values
abbrev pub sums_pass : Bool → List FunctionValue → List Schema → List ℕ → Pass
sums_pass metric values schemas places = pass Domain (if metric then stated_sum_faults values schemas places else [])

-- the passes that follow the reading of the problem's tree
abbrev pub passes_with : Declarations → Objects → List Schema → List ℕ → Forms → List Pass
passes_with declarations constants schemas places p =
    stating_passes declarations constants p
    ++ sums_pass (has_metric p) (stated_values (scope_over declarations (objects_of declarations constants p)) [] (inside_of p (codes ":init"))) schemas places
    ∷ []

abbrev pub problem_passes : Forms → Forms → List Pass
problem_passes d p = passes_with (declarations_of d) (constants_of d) (schemas_of d) (places_of d) p

-- ---- the texts

-- the bytes spell one expression
abbrev pub IsTree : List ℕ → Forms → Type 0
IsTree bytes f = IsOne f × SpellsAll bytes f

-- the texts spell the task
pub record SpellTask (domain problem : List ℕ) (t : PlanningTask) : Type 0 where
  pub d : Forms
  pub p : Forms
  pub domain_tree : IsTree domain d
  pub problem_tree : IsTree problem p
  pub domain_sections : first_pass (domain_passes d) ≡ None
  pub problem_sections : first_pass (problem_passes d p) ≡ None
  pub task_is : t ≡ task_of d p

-- the first fault of the domain's passes or, if these have none, of the passes that follow the reading of the problem's
-- tree
abbrev pub IsPassFault : List ℕ → List ℕ → FileFault → Type 0
IsPassFault domain problem e =
    ((d : Forms) × IsTree domain d × (first_pass (domain_passes d) ≡ Some e))
    ⊎ ((d : Forms) × (p : Forms) × IsTree domain d × IsTree problem p × (first_pass (domain_passes d) ≡ None) × (first_pass (problem_passes d p) ≡ Some e))

-- that allocation failed, or the first fault of the text's tree
abbrev pub IsTreeFault : PlanningFile → List ℕ → PddlFault → Type 0
IsTreeFault file bytes OutOfMemory = Unit {0}
IsTreeFault file bytes (Tree other e) = (other ≡ file) × IsFirstFault true bytes e
IsTreeFault file bytes (Section other f) = ⊥

-- the text of a domain without a fault
abbrev pub IsDomainText : List ℕ → Type 0
IsDomainText domain = (d : Forms) × IsTree domain d × (first_pass (domain_passes d) ≡ None)

-- That allocation failed, or the first fault: of the domain's tree, of the domain's passes, of the problem's tree, or
-- of the passes that follow its reading.
abbrev pub IsTaskRefusal : List ℕ → List ℕ → PddlFault → Type 0
IsTaskRefusal domain problem OutOfMemory = Unit {0}
IsTaskRefusal domain problem (Tree Domain e) = IsFirstFault true domain e
IsTaskRefusal domain problem (Tree Problem e) = IsDomainText domain × IsFirstFault true problem e
IsTaskRefusal domain problem (Section file e) = IsPassFault domain problem (record { file = file; fault = e })
