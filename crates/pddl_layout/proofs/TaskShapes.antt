-- The same sections declare and state the same, and make the same task.
use Rattle.std.proofs.Common.{◌≡◌, ℕ, Bool, false, List, [], map, length, codes, refl, sym, ap, ap₂, ◌∙◌}
use Rattle.std.proofs.lemmas.List.{length-map}
use Rattle.sexp.specs.Forms.{Forms}
use Rattle.pddl_task.specs.Atoms.{Atom, Literal}
use Rattle.pddl_task.specs.Planning.{PlanningTask, Schema, FunctionValue}
use Rattle.pddl_syntax.specs.declared.fault.PlanningFile.TheVariants.{Domain, Problem}
use Rattle.pddl_syntax.specs.Heads.{Heads, no_heads}
use Rattle.pddl_syntax.specs.Typed.{declared}
use Rattle.pddl_syntax.specs.Sections.{Part, sections}
use Rattle.pddl_domain.specs.Types.{type_names, supertypes}
use Rattle.pddl_domain.specs.Objects.{Objects, no_objects, objects_with}
use Rattle.pddl_domain.specs.DeclaredHeads.{predicate_heads, function_heads}
use Rattle.pddl_action.specs.Domains.{Declarations}
use Rattle.pddl_action.specs.Actions.{schema_of, names_with, place_of}
use Rattle.pddl_problem.specs.Initial.{initial_atoms, stated_values}
use Rattle.pddl_problem.specs.Goals.{Placed, goal_literals}
use Rattle.pddl.specs.Texts.{inside_of, types_of, supertypes_of, constants_of, predicates_of, functions_of, declarations_of, scope_over, objects_of, actions_of, goal_of, has_metric, task_with, schemas_of, schema_names_of, places_of, task_of}
use Rattle.pddl_layout.specs.Sections.{erased_part, SameSections}
use Rattle.pddl_layout.proofs.SectionShapes.{same_value, same_there}
use Rattle.pddl_layout.proofs.DomainShapes.{type_names_erased, supertypes_erased, objects_erased, predicate_heads_erased, function_heads_erased}
use Rattle.pddl_layout.proofs.ActionShapes.{schemas_erased, names_erased}
use Rattle.pddl_layout.proofs.InitialShapes.{initial_atoms_erased, stated_values_erased}
use Rattle.pddl_layout.proofs.GoalShapes.{goal_literals_erased}
use Rattle.pddl_layout.proofs.PartShapes.{same_inside}

-- ---- the declarations of domains

pub types_same : (d c : Forms) → SameSections Domain d c → types_of d ≡ types_of c
types_same d c s = same_value (λ (f : Forms). type_names (declared false f)) (inside_of d (codes ":types")) (inside_of c (codes ":types")) type_names_erased (same_inside Domain d c (codes ":types") s refl)

supertypes_same : (d c : Forms) → SameSections Domain d c → supertypes_of d ≡ supertypes_of c
supertypes_same d c s = same_value (λ (f : Forms). supertypes (declared false f)) (inside_of d (codes ":types")) (inside_of c (codes ":types")) supertypes_erased (same_inside Domain d c (codes ":types") s refl)

pub constants_same : (d c : Forms) → SameSections Domain d c → constants_of d ≡ constants_of c
constants_same d c s =
    ap (λ (types : List (List ℕ)). objects_with types no_objects (declared false (inside_of d (codes ":constants")))) (types_same d c s)
    ∙ same_value (λ (f : Forms). objects_with (types_of c) no_objects (declared false f)) (inside_of d (codes ":constants")) (inside_of c (codes ":constants"))
    (objects_erased (types_of c) no_objects) (same_inside Domain d c (codes ":constants") s refl)

predicates_same : (d c : Forms) → SameSections Domain d c → predicates_of d ≡ predicates_of c
predicates_same d c s = same_value (predicate_heads no_heads) (inside_of d (codes ":predicates")) (inside_of c (codes ":predicates")) (predicate_heads_erased no_heads) (same_inside Domain d c (codes ":predicates") s refl)

functions_same : (d c : Forms) → SameSections Domain d c → functions_of d ≡ functions_of c
functions_same d c s = same_value (function_heads no_heads) (inside_of d (codes ":functions")) (inside_of c (codes ":functions")) (function_heads_erased no_heads) (same_inside Domain d c (codes ":functions") s refl)

abbrev declarations : List (List ℕ) → List ℕ → Heads → Heads → Objects → Declarations
declarations types above predicates functions objects = record { types = types; supertypes = above; predicates = predicates; functions = functions; objects = objects.names }

pub declarations_same : (d c : Forms) → SameSections Domain d c → declarations_of d ≡ declarations_of c
declarations_same d c s =
    ap₂ (λ (types : List (List ℕ)) (above : List ℕ). declarations types above (predicates_of d) (functions_of d) (constants_of d)) (types_same d c s) (supertypes_same d c s)
    ∙ ap₂ (λ (predicates functions : Heads). declarations (types_of c) (supertypes_of c) predicates functions (constants_of d)) (predicates_same d c s) (functions_same d c s)
    ∙ ap (declarations (types_of c) (supertypes_of c) (predicates_of c) (functions_of c)) (constants_same d c s)

pub actions_same : (d c : Forms) → SameSections Domain d c → map erased_part (actions_of d) ≡ map erased_part (actions_of c)
actions_same d c s = s (codes ":action") refl

pub schemas_same : (d c : Forms) → SameSections Domain d c → schemas_of d ≡ schemas_of c
schemas_same d c s =
    sym (schemas_erased (declarations_of d) (actions_of d))
    ∙ ap₂ (λ (x : Declarations) (actions : List Part). map (schema_of x) actions) (declarations_same d c s) (actions_same d c s)
    ∙ schemas_erased (declarations_of c) (actions_of c)

schema_names_same : (d c : Forms) → SameSections Domain d c → schema_names_of d ≡ schema_names_of c
schema_names_same d c s = sym (names_erased [] (actions_of d)) ∙ ap (names_with []) (actions_same d c s) ∙ names_erased [] (actions_of c)

pub as_many_places : (d c : Forms) → SameSections Domain d c → length (places_of d) ≡ length (places_of c)
as_many_places d c s =
    length-map (actions_of d) place_of ∙ sym (length-map (actions_of d) erased_part) ∙ ap length (actions_same d c s)
    ∙ length-map (actions_of c) erased_part ∙ sym (length-map (actions_of c) place_of)

-- ---- the task

pub objects_same : (x : Declarations) (constants : Objects) (p q : Forms) → SameSections Problem p q → objects_of x constants p ≡ objects_of x constants q
objects_same x constants p q s =
    same_value (λ (f : Forms). objects_with x.types constants (declared false f)) (inside_of p (codes ":objects")) (inside_of q (codes ":objects"))
    (objects_erased x.types constants) (same_inside Problem p q (codes ":objects") s refl)

pub values_same : (x : Declarations) (objects : Objects) (p q : Forms) → SameSections Problem p q
    → stated_values (scope_over x objects) [] (inside_of p (codes ":init")) ≡ stated_values (scope_over x objects) [] (inside_of q (codes ":init"))
values_same x objects p q s =
    same_value (stated_values (scope_over x objects) []) (inside_of p (codes ":init")) (inside_of q (codes ":init")) (stated_values_erased (scope_over x objects) [])
    (same_inside Problem p q (codes ":init") s refl)

atoms_same : (x : Declarations) (objects : Objects) (p q : Forms) → SameSections Problem p q
    → initial_atoms (scope_over x objects) (inside_of p (codes ":init")) ≡ initial_atoms (scope_over x objects) (inside_of q (codes ":init"))
atoms_same x objects p q s =
    same_value (initial_atoms (scope_over x objects)) (inside_of p (codes ":init")) (inside_of q (codes ":init")) (initial_atoms_erased (scope_over x objects))
    (same_inside Problem p q (codes ":init") s refl)

goal_same : (x : Declarations) (objects : Objects) (p q : Forms) → SameSections Problem p q → goal_of (scope_over x objects) p ≡ goal_of (scope_over x objects) q
unfolding goal_of
goal_same x objects p q s =
    same_value (λ (f : Forms). map (λ (l : Placed). l.literal) (goal_literals (scope_over x objects) f)) (inside_of p (codes ":goal")) (inside_of q (codes ":goal"))
    (goal_literals_erased (scope_over x objects)) (same_inside Problem p q (codes ":goal") s refl)

pub metric_same : (p q : Forms) → SameSections Problem p q → has_metric p ≡ has_metric q
metric_same p q s = same_there (codes ":metric") (sections p) (sections q) (s (codes ":metric") refl)

abbrev task_over : Declarations → List Schema → List (List ℕ) → Objects → List Atom → List Literal → List FunctionValue → Bool → PlanningTask
task_over x schemas names objects atoms goal values metric = record {
  supertypes = x.supertypes;
  object_types = objects.types;
  arities = x.predicates.arities;
  schemas = schemas;
  initial = atoms;
  goal = goal;
  values = values;
  metric = metric;
  vocabulary = record { objects = objects.names; predicates = x.predicates.names; functions = x.functions.names; schemas = names };
}

with_same : (x : Declarations) (constants : Objects) (schemas : List Schema) (names : List (List ℕ)) (p q : Forms) → SameSections Problem p q
    → task_with x constants schemas names p ≡ task_with x constants schemas names q
with_same x constants schemas names p q s =
    let o = objects_of x constants q in
    ap (λ (objects : Objects). task_over x schemas names objects (initial_atoms (scope_over x objects) (inside_of p (codes ":init"))) (goal_of (scope_over x objects) p)
    (stated_values (scope_over x objects) [] (inside_of p (codes ":init"))) (has_metric p)) (objects_same x constants p q s)
    ∙ ap₂ (λ (atoms : List Atom) (goal : List Literal). task_over x schemas names o atoms goal (stated_values (scope_over x o) [] (inside_of p (codes ":init"))) (has_metric p))
    (atoms_same x o p q s) (goal_same x o p q s)
    ∙ ap₂ (task_over x schemas names o (initial_atoms (scope_over x o) (inside_of q (codes ":init"))) (goal_of (scope_over x o) q)) (values_same x o p q s) (metric_same p q s)

pub task_same : (d c p q : Forms) → SameSections Domain d c → SameSections Problem p q → task_of d p ≡ task_of c q
task_same d c p q s r =
    ap₂ (λ (x : Declarations) (constants : Objects). task_with x constants (schemas_of d) (schema_names_of d) p) (declarations_same d c s) (constants_same d c s)
    ∙ ap₂ (λ (schemas : List Schema) (names : List (List ℕ)). task_with (declarations_of c) (constants_of c) schemas names p) (schemas_same d c s) (schema_names_same d c s)
    ∙ with_same (declarations_of c) (constants_of c) (schemas_of c) (schema_names_of c) p q r
