-- As many numbers as names: of predicates, of objects and of schemas.
use Rattle.std.proofs.Common.{◌≡◌, ◌≤◌, ◌+◌, ℕ, Bool, true, false, List, [], ◌∷◌, ◌++◌, length, codes, refl, sym, ap, subst, arith, if◌then◌else◌}
use Rattle.std.specs.Prelude.{Option}
use Rattle.std.specs.Option.{option_map}
use Rattle.std.proofs.lemmas.List.{length-append, length-map}
use Rattle.sexp.specs.Forms.{Forms, none, word, group}
use Rattle.pddl_names.specs.Names.{number_of, is_there, with_name}
use Rattle.pddl_names.proofs.NameLists.{with_name-new, length-with_name}
use Rattle.pddl_task.specs.Planning.{PlanningTask}
use Rattle.pddl_syntax.specs.declared.word.WordKind.{WordKind}
use Rattle.pddl_syntax.specs.declared.word.WordKind.TheVariants.{Dash, Name, Variable, Other}
use Rattle.pddl_syntax.specs.declared.fault.FaultKind.TheVariants.{Shape, TwiceDeclared}
use Rattle.pddl_syntax.specs.Faults.{fault, faults_if}
use Rattle.pddl_syntax.specs.Words.{word_kind, is_name}
use Rattle.pddl_syntax.specs.Heads.{Heads, no_heads, with_head}
use Rattle.pddl_syntax.specs.Typed.{declared, Declared}
use Rattle.pddl_syntax.specs.Sections.{Part}
use Rattle.pddl_domain.specs.DeclaredHeads.{with_item, is_equals, predicate_heads}
use Rattle.pddl_domain.specs.Types.{with_parent}
use Rattle.pddl_domain.specs.Objects.{Objects, no_objects, with_entry, with_text, with_object, number_of_type, objects_with}
use Rattle.pddl_domain.proofs.ObjectSteps.{types_count}
use Rattle.pddl_action.specs.Domains.{Declarations}
use Rattle.pddl_action.specs.Actions.{named_faults, with_action_name, action_faults, each_faults, names_with, schema_of}
use Rattle.pddl.specs.Texts.{SpellTask, declarations_of, actions_of, types_of, constants_of, objects_of, declared_in, inside_of}
use Rattle.pddl_laws.proofs.Clean.{empty_parts, clear_actions}

-- ---- predicates

abbrev AsMany : Heads → Type 0
AsMany heads = length heads.arities ≡ length heads.names

one_head : (heads : Heads) (t : List ℕ) (n : ℕ) → AsMany heads → AsMany (with_head heads t n)
one_head heads t n h = by (is_there heads.names t) refl where
  by : (b : Bool) → is_there heads.names t ≡ b → AsMany (if b then heads else record { names = with_name heads.names t; arities = heads.arities ++ n ∷ [] })
  by true e = h
  by false e = omega (arith, h, length-append heads.arities (n ∷ []), ap length (with_name-new heads.names t e), length-append heads.names (t ∷ []))

one_item : (k : WordKind) (heads : Heads) (t : List ℕ) (f : Forms) → AsMany heads → AsMany (with_item k heads t f)
one_item Name heads t f h = one_head heads t (length (declared true f)) h
one_item Dash heads t f h = h
one_item Variable heads t f h = h
one_item Other heads t f h = h

predicates_many : (heads : Heads) (f : Forms) → AsMany heads → AsMany (predicate_heads heads f)
predicates_many heads none h = h
predicates_many heads (word s e t f) h = predicates_many heads f h
predicates_many heads (group s e none f) h = predicates_many heads f h
predicates_many heads (group s e (group hs he head i) f) h = predicates_many heads f h
predicates_many heads (group s e (word hs he t i) f) h =
    predicates_many (if is_equals t then heads else with_item (word_kind t) heads t i) f (by (is_equals t))
  where
    by : (b : Bool) → AsMany (if b then heads else with_item (word_kind t) heads t i)
    by true = h
    by false = one_item (word_kind t) heads t i h

-- ---- schemas

-- an action without a fault has a name that no other has
one_named : (names : List (List ℕ)) (home : ℕ) (f : Forms) → named_faults names home f ≡ [] → length (with_action_name names f) ≡ length names + 1
one_named names home none e = absurd cc
one_named names home (group s h i f) e = absurd cc
one_named names home (word s h t f) e = by (is_name t) e where
  new : (b : Bool) → is_there names t ≡ b → faults_if b (fault TwiceDeclared s) [] ≡ [] → length (with_name names t) ≡ length names + 1
  new true there k = absurd cc
  new false absent k = omega (arith, ap length (with_name-new names t absent), length-append names (t ∷ []))

  by : (b : Bool) → (if b then faults_if (is_there names t) (fault TwiceDeclared s) [] else fault Shape s ∷ []) ≡ []
      → length (if b then with_name names t else names) ≡ length names + 1
  by true k = new (is_there names t) refl k
  by false k = absurd cc

each_named : (d : Declarations) (names : List (List ℕ)) (actions : List Part) → each_faults d names actions ≡ [] → length (names_with names actions) ≡ length names + length actions
unfolding action_faults
each_named d names [] e = omega arith
each_named d names (a ∷ actions) e =
    let parts = empty_parts (action_faults d names a) (each_faults d (with_action_name names a.inside) actions) e in
    let named = (empty_parts (named_faults names a.at a.inside) _ parts.0).0 in
    let here = one_named names a.at a.inside named in
    let later = each_named d (with_action_name names a.inside) actions parts.1 in
    omega (arith, here, later)

-- ---- objects

entry_grows : (o : Objects) (t : List ℕ) (type : ℕ) (text : Option ℕ) → length o.names ≤ length (with_entry o t type text).names
entry_grows o t type text = by (is_there o.names t) where
  by : (b : Bool) → length o.names ≤ length (if b then o else record { names = with_name o.names t; types = o.types ++ type ∷ []; texts = o.texts; firsts = o.firsts ++ text ∷ [] }).names
  by true = omega arith
  by false = length-with_name o.names t

-- there are no fewer objects with those of declarations
pub objects_grow : (types : List (List ℕ)) (o : Objects) (ds : List Declared) → length o.names ≤ length (objects_with types o ds).names
objects_grow types o [] = omega arith
objects_grow types o (d ∷ ds) =
    let here = entry_grows (with_text o d.parent) d.name (number_of_type types d.parent) (option_map (number_of (with_parent o.texts d.parent)) d.parent) in
    let later = objects_grow types (with_object types o d) ds in
    omega (arith, here, later)

pub objects_many : (d p : Forms) → length (objects_of (declarations_of d) (constants_of d) p).types ≡ length (objects_of (declarations_of d) (constants_of d) p).names
objects_many d p =
    types_count (types_of d) (constants_of d) (declared_in p (codes ":objects")) (types_count (types_of d) no_objects (declared_in d (codes ":constants")) refl)

-- ---- a task

pub spelled_predicates : (domain problem : List ℕ) (t : PlanningTask) → SpellTask domain problem t → length t.arities ≡ length t.vocabulary.predicates
spelled_predicates domain problem t s =
    subst (λ (u : PlanningTask). length u.arities ≡ length u.vocabulary.predicates) (sym s.task_is) (predicates_many no_heads (inside_of s.d (codes ":predicates")) refl)

pub spelled_objects : (domain problem : List ℕ) (t : PlanningTask) → SpellTask domain problem t → length t.object_types ≡ length t.vocabulary.objects
spelled_objects domain problem t s = subst (λ (u : PlanningTask). length u.object_types ≡ length u.vocabulary.objects) (sym s.task_is) (objects_many s.d s.p)

pub spelled_schemas : (domain problem : List ℕ) (t : PlanningTask) → SpellTask domain problem t → length t.schemas ≡ length t.vocabulary.schemas
spelled_schemas domain problem t s =
    subst (λ (u : PlanningTask). length u.schemas ≡ length u.vocabulary.schemas) (sym s.task_is)
    (omega (arith, length-map (actions_of s.d) (schema_of (declarations_of s.d)), each_named (declarations_of s.d) [] (actions_of s.d) (clear_actions s.d s.domain_sections)))
