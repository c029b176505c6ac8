-- The names of a task come from the words of its texts.
use Rattle.std.proofs.Common.{ℕ, Bool, true, false, List, [], ◌∷◌, ◌++◌, length, codes, sym, subst, if◌then◌else◌}
use Rattle.std.specs.Prelude.{Option, All}
use Rattle.std.specs.Option.{option_map}
use Rattle.std.proofs.lemmas.List.Elements.{All-nil, All-cons, All-head, All-tail, All-push}
use Rattle.sexp.specs.Forms.{Forms, none, word, group}
use Rattle.pddl_names.specs.Names.{number_of, is_there, with_name}
use Rattle.pddl_task.specs.Planning.{PlanningTask}
use Rattle.pddl_syntax.specs.declared.word.WordKind.{WordKind}
use Rattle.pddl_syntax.specs.declared.word.WordKind.TheVariants.{Dash, Name, Variable, Other}
use Rattle.pddl_syntax.specs.declared.typed.Item.{Item}
use Rattle.pddl_syntax.specs.declared.typed.Item.TheVariants.{Entry, Hyphen, Wrong}
use Rattle.pddl_syntax.specs.Words.{word_kind, is_name}
use Rattle.pddl_syntax.specs.Heads.{Heads, no_heads}
use Rattle.pddl_syntax.specs.Typed.{Declared, item_of, type_after, declared_item, declared, declared_behind}
use Rattle.pddl_syntax.specs.Sections.{Part, sections}
use Rattle.pddl_domain.specs.Types.{with_parent}
use Rattle.pddl_domain.specs.DeclaredHeads.{with_item, is_equals, predicate_heads}
use Rattle.pddl_domain.specs.Objects.{Objects, no_objects, with_entry, with_text, with_object, number_of_type, objects_with}
use Rattle.pddl_action.specs.Actions.{with_action_name, names_with}
use Rattle.pddl.specs.Texts.{SpellTask, inside_of, types_of, constants_of, declared_in, actions_of, task_of}
use Rattle.pddl_laws.specs.Known.{IsWord, HasWords}
use Rattle.pddl_laws.proofs.Words.{AreWords, spelled_are_words, HasWordsInside, sections_words, inside_words, all_sections_words}

with_name_words : (names : List (List ℕ)) (t : List ℕ) → All IsWord names → IsWord t → All IsWord (with_name names t)
with_name_words names t h k = by (is_there names t) where
  by : (b : Bool) → All IsWord (if b then names else names ++ t ∷ [])
  by true = h
  by false = All-push IsWord names t h k

abbrev HasWord : Declared → Type 0
HasWord d = IsWord d.name

mutual
  declared_words : (v : Bool) (f : Forms) → AreWords f → All HasWord (declared v f)
  declared_words v none h = All-nil HasWord
  declared_words v (word s e t f) h = by (item_of v t) (declared_words v f h.1) (behind_declared_words v f h.1) where
    by : (i : Item) → All HasWord (declared v f) → All HasWord (declared_behind v f)
        → All HasWord (declared_item i (record { name = t; at = s; parent = type_after v f }) (declared_behind v f) (declared v f))
    by Hyphen later after = after
    by Entry later after = All-cons HasWord (record { name = t; at = s; parent = type_after v f }) (declared v f) h.0 later
    by Wrong later after = later
  declared_words v (group s e i f) h = declared_words v f h.1

  behind_declared_words : (v : Bool) (f : Forms) → AreWords f → All HasWord (declared_behind v f)
  behind_declared_words v none h = All-nil HasWord
  behind_declared_words v (word s e t f) h = declared_words v f h.1
  behind_declared_words v (group s e i f) h = declared_words v f h.1

entry_words : (o : Objects) (t : List ℕ) (type : ℕ) (text : Option ℕ) → All IsWord o.names → IsWord t → All IsWord (with_entry o t type text).names
entry_words o t type text h k = by (is_there o.names t) where
  by : (b : Bool) → All IsWord (if b then o else record { names = with_name o.names t; types = o.types ++ type ∷ []; texts = o.texts; firsts = o.firsts ++ text ∷ [] }).names
  by true = h
  by false = with_name_words o.names t h k

objects_words : (types : List (List ℕ)) (o : Objects) (ds : List Declared) → All IsWord o.names → All HasWord ds → All IsWord (objects_with types o ds).names
objects_words types o [] h k = h
objects_words types o (d ∷ ds) h k =
    objects_words types (with_object types o d) ds
    (entry_words (with_text o d.parent) d.name (number_of_type types d.parent) (option_map (number_of (with_parent o.texts d.parent)) d.parent) h (All-head HasWord d ds k))
    (All-tail HasWord d ds k)

item_words : (k : WordKind) (heads : Heads) (t : List ℕ) (f : Forms) → All IsWord heads.names → IsWord t → All IsWord (with_item k heads t f).names
item_words Name heads t f h w = by (is_there heads.names t) where
  by : (b : Bool) → All IsWord (if b then heads else record { names = with_name heads.names t; arities = heads.arities ++ length (declared true f) ∷ [] }).names
  by true = h
  by false = with_name_words heads.names t h w
item_words Dash heads t f h w = h
item_words Variable heads t f h w = h
item_words Other heads t f h w = h

predicates_words : (heads : Heads) (f : Forms) → All IsWord heads.names → AreWords f → All IsWord (predicate_heads heads f).names
predicates_words heads none h k = h
predicates_words heads (word s e t f) h k = predicates_words heads f h k.1
predicates_words heads (group s e none f) h k = predicates_words heads f h k.1
predicates_words heads (group s e (group hs he head i) f) h k = predicates_words heads f h k.1
predicates_words heads (group s e (word hs he t i) f) h k =
    predicates_words (if is_equals t then heads else with_item (word_kind t) heads t i) f (by (is_equals t)) k.1
  where
    by : (b : Bool) → All IsWord (if b then heads else with_item (word_kind t) heads t i).names
    by true = h
    by false = item_words (word_kind t) heads t i h k.0.0

action_words : (names : List (List ℕ)) (f : Forms) → All IsWord names → AreWords f → All IsWord (with_action_name names f)
action_words names none h k = h
action_words names (group s e i f) h k = h
action_words names (word s e t f) h k = by (is_name t) where
  by : (b : Bool) → All IsWord (if b then with_name names t else names)
  by true = with_name_words names t h k.0
  by false = h

actions_words : (names : List (List ℕ)) (actions : List Part) → All IsWord names → All HasWordsInside actions → All IsWord (names_with names actions)
actions_words names [] h k = h
actions_words names (a ∷ actions) h k =
    actions_words (with_action_name names a.inside) actions (action_words names a.inside h (All-head HasWordsInside a actions k)) (All-tail HasWordsInside a actions k)

-- ---- the task

task_words : (d p : Forms) → AreWords d → AreWords p → HasWords (task_of d p).vocabulary
task_words d p h k = record {
  of_objects = objects_words (types_of d) (constants_of d) (declared_in p (codes ":objects"))
      (objects_words (types_of d) no_objects (declared_in d (codes ":constants")) (All-nil IsWord) (declared_words false (inside_of d (codes ":constants")) (inside_words d (codes ":constants") h)))
      (declared_words false (inside_of p (codes ":objects")) (inside_words p (codes ":objects") k));
  of_predicates = predicates_words no_heads (inside_of d (codes ":predicates")) (All-nil IsWord) (inside_words d (codes ":predicates") h);
  of_schemas = actions_words [] (actions_of d) (All-nil IsWord) (all_sections_words (codes ":action") (sections d) (sections_words d h));
}

pub spelled_words : (domain problem : List ℕ) (t : PlanningTask) → SpellTask domain problem t → HasWords t.vocabulary
spelled_words domain problem t s =
    subst (λ (u : PlanningTask). HasWords u.vocabulary) (sym s.task_is)
    (task_words s.d s.p (spelled_are_words true 0 0 domain s.d s.domain_tree.1.1) (spelled_are_words true 0 0 problem s.p s.problem_tree.1.1))
