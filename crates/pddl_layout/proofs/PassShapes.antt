-- The same sections have faults in the same passes.
use Rattle.std.proofs.Common.{◌≡◌, ℕ, nat_lt, Bool, true, List, [], ◌∷◌, length, codes, refl, sym, ap, ap₂, subst, ◌∙◌}
use Rattle.std.specs.Prelude.{Option, Some, None, sum_by}
use Rattle.std.specs.Option.{option_map}
use Rattle.sexp.specs.Forms.{Forms}
use Rattle.pddl_names.specs.Names.{is_there}
use Rattle.pddl_task.specs.declared.schema.Increase.{Increase}
use Rattle.pddl_task.specs.Limits.{max_cost}
use Rattle.pddl_task.specs.Planning.{Schema, FunctionValue}
use Rattle.pddl_syntax.specs.declared.fault.Fault.{Fault}
use Rattle.pddl_syntax.specs.declared.fault.FaultKind.TheVariants.{CostRange}
use Rattle.pddl_syntax.specs.declared.fault.PlanningFile.TheVariants.{Domain, Problem}
use Rattle.pddl_syntax.specs.Faults.{fault, first_of}
use Rattle.pddl_syntax.specs.Heads.{no_heads}
use Rattle.pddl_syntax.specs.Sections.{Part, head_faults, requirement_faults}
use Rattle.pddl_syntax.proofs.Firsts.{none_kept}
use Rattle.pddl_domain.specs.Types.{types_faults}
use Rattle.pddl_domain.specs.Objects.{Objects, no_objects, objects_faults}
use Rattle.pddl_domain.specs.DeclaredHeads.{predicates_faults, functions_faults}
use Rattle.pddl_action.specs.Domains.{Declarations}
use Rattle.pddl_action.specs.Actions.{actions_faults}
use Rattle.pddl_problem.specs.Initial.{stated_values, initial_faults}
use Rattle.pddl_problem.specs.Goals.{goal_faults}
use Rattle.pddl.specs.Passes.{Pass, first_pass}
use Rattle.pddl.specs.Sums.{sum_faults, stated_sum_faults}
use Rattle.pddl.specs.Texts.{part, place_in, inside_of, types_of, constants_of, declarations_of, scope_over, objects_of, actions_of, has_metric, domain_passes, stated_metric_faults, schemas_of, places_of, sums_pass, passes_with, problem_passes}
use Rattle.pddl.proofs.Composing.{clean_later, no_pass}
use Rattle.pddl_laws.proofs.Clean.{kept_clean}
use Rattle.pddl_layout.specs.Sections.{erased_part, SameSections}
use Rattle.pddl_layout.proofs.Alike.{Alike, equal_lists, turned, chained, clear, chosen, tested, clean_too}
use Rattle.pddl_layout.proofs.SectionShapes.{requirement_alike}
use Rattle.pddl_layout.proofs.DomainShapes.{types_alike, objects_alike, predicates_alike, functions_alike}
use Rattle.pddl_layout.proofs.ActionShapes.{actions_alike}
use Rattle.pddl_layout.proofs.InitialShapes.{initial_alike}
use Rattle.pddl_layout.proofs.GoalShapes.{goal_alike, metric_alike}
use Rattle.pddl_layout.proofs.PartShapes.{across, same_part, same_inside}
use Rattle.pddl_layout.proofs.TaskShapes.{types_same, constants_same, declarations_same, actions_same, schemas_same, as_many_places, objects_same, values_same, metric_same}

-- in each pass both lists are empty or neither is
abbrev AlikePasses : List Pass → List Pass → Type 0
AlikePasses [] [] = Unit {0}
AlikePasses [] (q ∷ qs) = ⊥
AlikePasses (p ∷ ps) [] = ⊥
AlikePasses (p ∷ ps) (q ∷ qs) = Alike p.faults q.faults × AlikePasses ps qs

no_faults : first_of None [] ≡ None
unfolding first_of
no_faults = refl

pass_clean : (a b : List Fault) → Alike a b → first_of None a ≡ None → first_of None b ≡ None
pass_clean a b h e = ap (first_of None) (clean_too a b h (none_kept a e)) ∙ no_faults

pub passes_clean : (ps qs : List Pass) → AlikePasses ps qs → first_pass ps ≡ None → first_pass qs ≡ None
passes_clean [] [] h e = no_pass
passes_clean [] (q ∷ qs) h e = absurd h
passes_clean (p ∷ ps) [] h e = absurd h
passes_clean (p ∷ ps) (q ∷ qs) h e =
    let kept = kept_clean p ps e in
    clean_later q qs (pass_clean p.faults q.faults h.0 kept.0) (passes_clean ps qs h.1 kept.1)

requirements_alike : (d c : Forms) → SameSections Domain d c → Alike (requirement_faults (inside_of d (codes ":requirements"))) (requirement_faults (inside_of c (codes ":requirements")))
requirements_alike d c s =
    across (λ (n : ℕ) (f : Forms). requirement_faults f) 0 0 (inside_of d (codes ":requirements")) (inside_of c (codes ":requirements"))
    (λ m n. requirement_alike) (same_inside Domain d c (codes ":requirements") s refl)

types_pass_alike : (d c : Forms) → SameSections Domain d c → Alike (types_faults (place_in d (codes ":types")) (inside_of d (codes ":types"))) (types_faults (place_in c (codes ":types")) (inside_of c (codes ":types")))
types_pass_alike d c s =
    across types_faults (place_in d (codes ":types")) (place_in c (codes ":types")) (inside_of d (codes ":types")) (inside_of c (codes ":types")) types_alike (same_inside Domain d c (codes ":types") s refl)

constants_alike : (d c : Forms) → SameSections Domain d c
    → Alike (objects_faults (types_of d) no_objects (place_in d (codes ":constants")) (inside_of d (codes ":constants"))) (objects_faults (types_of c) no_objects (place_in c (codes ":constants")) (inside_of c (codes ":constants")))
constants_alike d c s =
    chained (equal_lists _ _ (ap (λ (types : List (List ℕ)). objects_faults types no_objects (place_in d (codes ":constants")) (inside_of d (codes ":constants"))) (types_same d c s)))
    (across (objects_faults (types_of c) no_objects) (place_in d (codes ":constants")) (place_in c (codes ":constants")) (inside_of d (codes ":constants")) (inside_of c (codes ":constants"))
    (objects_alike (types_of c) no_objects) (same_inside Domain d c (codes ":constants") s refl))

predicates_pass_alike : (d c : Forms) → SameSections Domain d c
    → Alike (predicates_faults (is_there (types_of d)) no_heads 0 (inside_of d (codes ":predicates"))) (predicates_faults (is_there (types_of c)) no_heads 0 (inside_of c (codes ":predicates")))
predicates_pass_alike d c s =
    chained (equal_lists _ _ (ap (λ (types : List (List ℕ)). predicates_faults (is_there types) no_heads 0 (inside_of d (codes ":predicates"))) (types_same d c s)))
    (across (λ (n : ℕ) (f : Forms). predicates_faults (is_there (types_of c)) no_heads 0 f) 0 0 (inside_of d (codes ":predicates")) (inside_of c (codes ":predicates"))
    (λ m n. predicates_alike (is_there (types_of c)) no_heads 0) (same_inside Domain d c (codes ":predicates") s refl))

functions_pass_alike : (d c : Forms) → SameSections Domain d c
    → Alike (functions_faults (is_there (types_of d)) (place_in d (codes ":functions")) true no_heads 0 (inside_of d (codes ":functions")))
    (functions_faults (is_there (types_of c)) (place_in c (codes ":functions")) true no_heads 0 (inside_of c (codes ":functions")))
functions_pass_alike d c s =
    chained (equal_lists _ _ (ap (λ (types : List (List ℕ)). functions_faults (is_there types) (place_in d (codes ":functions")) true no_heads 0 (inside_of d (codes ":functions"))) (types_same d c s)))
    (across (λ (n : ℕ) (f : Forms). functions_faults (is_there (types_of c)) n true no_heads 0 f) (place_in d (codes ":functions")) (place_in c (codes ":functions"))
    (inside_of d (codes ":functions")) (inside_of c (codes ":functions")) (λ m n f. functions_alike (is_there (types_of c)) m n true no_heads 0 f) (same_inside Domain d c (codes ":functions") s refl))

actions_pass_alike : (d c : Forms) → SameSections Domain d c → Alike (actions_faults (declarations_of d) (actions_of d)) (actions_faults (declarations_of c) (actions_of c))
actions_pass_alike d c s =
    chained (actions_alike (declarations_of d) (actions_of d))
    (chained (equal_lists _ _ (ap₂ actions_faults (declarations_same d c s) (actions_same d c s))) (turned (actions_alike (declarations_of c) (actions_of c))))

pub domain_alike : (d c : Forms) → SameSections Domain d c → Alike (head_faults Domain d) (head_faults Domain c) → AlikePasses (domain_passes d) (domain_passes c)
domain_alike d c s h =
    assumption (h, requirements_alike d c s, types_pass_alike d c s, constants_alike d c s, predicates_pass_alike d c s, functions_pass_alike d c s, actions_pass_alike d c s)

sum_alike : (most : Increase → ℕ) (schemas : List Schema) (places places2 : List ℕ) → length places ≡ length places2 → Alike (sum_faults most schemas places) (sum_faults most schemas places2)
sum_alike most [] places places2 e = clear
sum_alike most (s ∷ schemas) [] [] e = clear
sum_alike most (s ∷ schemas) [] (p ∷ places2) e = absurd cc
sum_alike most (s ∷ schemas) (p ∷ places) [] e = absurd cc
sum_alike most (s ∷ schemas) (p ∷ places) (q ∷ places2) e =
    tested (nat_lt max_cost (sum_by most s.increases)) (fault CostRange p) (fault CostRange q) (sum_alike most schemas places places2 cc)

sums_alike : (metric : Bool) (values : List FunctionValue) (schemas : List Schema) (places places2 : List ℕ) → length places ≡ length places2
    → Alike (sums_pass metric values schemas places).faults (sums_pass metric values schemas places2).faults
unfolding stated_sum_faults
sums_alike metric values schemas places places2 e = chosen metric (sum_alike _ schemas places places2 e) clear

metric_pass_by : (o : Option Part) → Alike (stated_metric_faults o) (stated_metric_faults (option_map erased_part o))
metric_pass_by None = clear
metric_pass_by (Some s) = metric_alike s.at 0 s.inside

metric_pass_alike : (o r : Option Part) → option_map erased_part o ≡ option_map erased_part r → Alike (stated_metric_faults o) (stated_metric_faults r)
metric_pass_alike o r e = chained (metric_pass_by o) (chained (equal_lists _ _ (ap stated_metric_faults e)) (turned (metric_pass_by r)))

with_alike : (x : Declarations) (constants : Objects) (schemas : List Schema) (places places2 : List ℕ) (p q : Forms) → length places ≡ length places2
    → SameSections Problem p q → Alike (head_faults Problem p) (head_faults Problem q) → AlikePasses (passes_with x constants schemas places p) (passes_with x constants schemas places2 q)
with_alike x constants schemas places places2 p q e s h =
    let o = objects_of x constants q in
    let objects = across (objects_faults x.types constants) (place_in p (codes ":objects")) (place_in q (codes ":objects")) (inside_of p (codes ":objects")) (inside_of q (codes ":objects"))
    (objects_alike x.types constants) (same_inside Problem p q (codes ":objects") s refl) in
    let initial = across (λ (n : ℕ) (f : Forms). initial_faults (scope_over x o) 0 [] f) 0 0 (inside_of p (codes ":init")) (inside_of q (codes ":init"))
    (λ m n. initial_alike (scope_over x o) 0 []) (same_inside Problem p q (codes ":init") s refl) in
    let goal = across (goal_faults (scope_over x o)) (place_in p (codes ":goal")) (place_in q (codes ":goal")) (inside_of p (codes ":goal")) (inside_of q (codes ":goal"))
    (goal_alike (scope_over x o)) (same_inside Problem p q (codes ":goal") s refl) in
    let metric = metric_pass_alike (part p (codes ":metric")) (part q (codes ":metric")) (same_part Problem p q (codes ":metric") s refl) in
    let sums = sums_alike (has_metric q) (stated_values (scope_over x o) [] (inside_of q (codes ":init"))) schemas places places2 e in
    rw (objects_same x constants p q s, metric_same p q s, values_same x o p q s) (assumption (h, objects, initial, goal, metric, sums))

pub problem_alike : (d c p q : Forms) → SameSections Domain d c → SameSections Problem p q → Alike (head_faults Problem p) (head_faults Problem q) → AlikePasses (problem_passes d p) (problem_passes c q)
problem_alike d c p q s r h =
    subst (λ (ps : List Pass). AlikePasses ps (problem_passes c q))
    (sym (ap₂ (λ (x : Declarations) (constants : Objects). passes_with x constants (schemas_of d) (places_of d) p) (declarations_same d c s) (constants_same d c s)
    ∙ ap (λ (schemas : List Schema). passes_with (declarations_of c) (constants_of c) schemas (places_of d) p) (schemas_same d c s)))
    (with_alike (declarations_of c) (constants_of c) (schemas_of c) (places_of d) (places_of c) p q (as_many_places d c s) r h)
