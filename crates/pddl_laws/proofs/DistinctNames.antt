-- The names of a task that texts spell are distinct: each is put in by `with_name`.
use Rattle.std.proofs.Common.{ℕ, Bool, true, false, List, [], ◌∷◌, ◌++◌, length, codes, sym, subst, if◌then◌else◌}
use Rattle.std.specs.Prelude.{Option}
use Rattle.std.specs.Option.{option_map}
use Rattle.sexp.specs.Forms.{Forms, none, word, group}
use Rattle.pddl_names.specs.Names.{number_of, is_there, with_name, AreDistinct}
use Rattle.pddl_names.proofs.NameLists.{AreDistinct-none, AreDistinct-with_name}
use Rattle.pddl_task.specs.Planning.{PlanningTask}
use Rattle.pddl_syntax.specs.declared.word.WordKind.{WordKind}
use Rattle.pddl_syntax.specs.declared.word.WordKind.TheVariants.{Dash, Name, Variable, Other}
use Rattle.pddl_syntax.specs.Words.{word_kind, is_name}
use Rattle.pddl_syntax.specs.Heads.{Heads, no_heads}
use Rattle.pddl_syntax.specs.Typed.{Declared, declared}
use Rattle.pddl_syntax.specs.Sections.{Part}
use Rattle.pddl_domain.specs.Types.{with_parent}
use Rattle.pddl_domain.specs.DeclaredHeads.{with_item, is_equals, predicate_heads}
use Rattle.pddl_domain.specs.Objects.{Objects, no_objects, with_entry, with_text, with_object, number_of_type, objects_with}
use Rattle.pddl_action.specs.Actions.{with_action_name, names_with}
use Rattle.pddl.specs.Texts.{SpellTask, inside_of, types_of, constants_of, declared_in, actions_of}

-- ---- objects

entry_distinct : (o : Objects) (t : List ℕ) (type : ℕ) (text : Option ℕ) → AreDistinct o.names → AreDistinct (with_entry o t type text).names
entry_distinct o t type text h = by (is_there o.names t) where
  by : (b : Bool) → AreDistinct (if b then o else record { names = with_name o.names t; types = o.types ++ type ∷ []; texts = o.texts; firsts = o.firsts ++ text ∷ [] }).names
  by true = h
  by false = AreDistinct-with_name o.names t h

objects_distinct : (types : List (List ℕ)) (o : Objects) (ds : List Declared) → AreDistinct o.names → AreDistinct (objects_with types o ds).names
objects_distinct types o [] h = h
objects_distinct types o (d ∷ ds) h =
    objects_distinct types (with_object types o d) ds
    (entry_distinct (with_text o d.parent) d.name (number_of_type types d.parent) (option_map (number_of (with_parent o.texts d.parent)) d.parent) h)

-- ---- predicates

item_distinct : (k : WordKind) (heads : Heads) (t : List ℕ) (f : Forms) → AreDistinct heads.names → AreDistinct (with_item k heads t f).names
item_distinct Name heads t f h = by (is_there heads.names t) where
  by : (b : Bool) → AreDistinct (if b then heads else record { names = with_name heads.names t; arities = heads.arities ++ length (declared true f) ∷ [] }).names
  by true = h
  by false = AreDistinct-with_name heads.names t h
item_distinct Dash heads t f h = h
item_distinct Variable heads t f h = h
item_distinct Other heads t f h = h

predicates_distinct : (heads : Heads) (f : Forms) → AreDistinct heads.names → AreDistinct (predicate_heads heads f).names
predicates_distinct heads none h = h
predicates_distinct heads (word s e t f) h = predicates_distinct heads f h
predicates_distinct heads (group s e none f) h = predicates_distinct heads f h
predicates_distinct heads (group s e (group hs he head i) f) h = predicates_distinct heads f h
predicates_distinct heads (group s e (word hs he t i) f) h =
    predicates_distinct (if is_equals t then heads else with_item (word_kind t) heads t i) f (by (is_equals t))
  where
    by : (b : Bool) → AreDistinct (if b then heads else with_item (word_kind t) heads t i).names
    by true = h
    by false = item_distinct (word_kind t) heads t i h

-- ---- schemas

action_distinct : (names : List (List ℕ)) (f : Forms) → AreDistinct names → AreDistinct (with_action_name names f)
action_distinct names none h = h
action_distinct names (group s e i f) h = h
action_distinct names (word s e t f) h = by (is_name t) where
  by : (b : Bool) → AreDistinct (if b then with_name names t else names)
  by true = AreDistinct-with_name names t h
  by false = h

actions_distinct : (names : List (List ℕ)) (actions : List Part) → AreDistinct names → AreDistinct (names_with names actions)
actions_distinct names [] h = h
actions_distinct names (a ∷ actions) h = actions_distinct (with_action_name names a.inside) actions (action_distinct names a.inside h)

-- ---- a task

pub distinct_objects : (domain problem : List ℕ) (t : PlanningTask) → SpellTask domain problem t → AreDistinct t.vocabulary.objects
distinct_objects domain problem t s =
    subst (λ (u : PlanningTask). AreDistinct u.vocabulary.objects) (sym s.task_is)
    (objects_distinct (types_of s.d) (constants_of s.d) (declared_in s.p (codes ":objects"))
    (objects_distinct (types_of s.d) no_objects (declared_in s.d (codes ":constants")) AreDistinct-none))

pub distinct_predicates : (domain problem : List ℕ) (t : PlanningTask) → SpellTask domain problem t → AreDistinct t.vocabulary.predicates
distinct_predicates domain problem t s =
    subst (λ (u : PlanningTask). AreDistinct u.vocabulary.predicates) (sym s.task_is)
    (predicates_distinct no_heads (inside_of s.d (codes ":predicates")) AreDistinct-none)

pub distinct_schemas : (domain problem : List ℕ) (t : PlanningTask) → SpellTask domain problem t → AreDistinct t.vocabulary.schemas
distinct_schemas domain problem t s =
    subst (λ (u : PlanningTask). AreDistinct u.vocabulary.schemas) (sym s.task_is)
    (actions_distinct [] (actions_of s.d) AreDistinct-none)
