-- The names of a task come from the words of its texts, so what holds of all words holds of the names.
use Rattle.std.proofs.Common.{ℕ, Bool, true, false, List, [], ◌∷◌, ◌++◌, length, codes, sym, subst, if◌then◌else◌}
use Rattle.std.specs.Prelude.{Option, Some, None, option_to_list, All}
use Rattle.std.specs.Option.{option_map, IfSome}
use Rattle.std.proofs.lemmas.List.Elements.{All-nil, All-cons, All-head, All-tail, All-push, All-append}
use Rattle.sexp.specs.Forms.{Forms, none, word, group, behind}
use Rattle.pddl_names.specs.Names.{number_of, is_there, with_name}
use Rattle.pddl_task.specs.Planning.{PlanningTask}
use Rattle.pddl_syntax.specs.declared.word.WordKind.{WordKind}
use Rattle.pddl_syntax.specs.declared.word.WordKind.TheVariants.{Dash, Name, Variable, Other}
use Rattle.pddl_syntax.specs.declared.typed.Item.{Item}
use Rattle.pddl_syntax.specs.declared.typed.Item.TheVariants.{Entry, Hyphen, Wrong}
use Rattle.pddl_syntax.specs.Words.{word_kind, is_name}
use Rattle.pddl_syntax.specs.Heads.{Heads, no_heads}
use Rattle.pddl_syntax.specs.Typed.{Declared, item_of, type_after, declared_item, declared, declared_behind}
use Rattle.pddl_syntax.specs.Sections.{Part, root_parts, sections, has_head, one_section, or_else, section, all_sections}
use Rattle.pddl_domain.specs.Types.{with_parent}
use Rattle.pddl_domain.specs.DeclaredHeads.{with_item, is_equals, predicate_heads}
use Rattle.pddl_domain.specs.Objects.{Objects, no_objects, with_entry, with_text, with_object, number_of_type, objects_with}
use Rattle.pddl_action.specs.Actions.{with_action_name, names_with}
use Rattle.pddl.specs.Texts.{SpellTask, inside, inside_of, types_of, constants_of, declared_in, actions_of, task_of}
use Rattle.validate.specs.PlanWords.{AreAll}
use Rattle.optplan_pddl.specs.PlanNames.{NamesAre}

module _ (P : List ℕ → Type 0) where
  -- ---- the sections

  behind_words : (f : Forms) → AreAll P f → AreAll P (behind f)
  behind_words none h = tt
  behind_words (word s e t f) h = h.1
  behind_words (group s e i f) h = h.1

  pub sections_words : (root : Forms) → AreAll P root → AreAll P (sections root)
  sections_words root h = behind_words (behind (root_parts root)) (behind_words (root_parts root) (parts root h)) where
    parts : (f : Forms) → AreAll P f → AreAll P (root_parts f)
    parts none h = tt
    parts (word s e t f) h = tt
    parts (group s e i f) h = h.0

  abbrev pub HasAllInside : Part → Type 0
  HasAllInside a = AreAll P a.inside

  one_section_words : (w : List ℕ) (s : ℕ) (i : Forms) → AreAll P i → IfSome (one_section w s i) HasAllInside
  one_section_words w s i h = by (has_head w i) where
    by : (b : Bool) → IfSome (if b then Some (record { at = s; inside = behind i }) else None) HasAllInside
    by true = behind_words i h
    by false = tt

  section_words : (w : List ℕ) (f : Forms) → AreAll P f → IfSome (section w f) HasAllInside
  section_words w none h = tt
  section_words w (word s e t f) h = section_words w f h.1
  section_words w (group s e i f) h = by (one_section w s i) (section w f) (one_section_words w s i h.0) (section_words w f h.1) where
    by : (here later : Option Part) → IfSome here HasAllInside → IfSome later HasAllInside → IfSome (or_else here later) HasAllInside
    by (Some a) later k l = k
    by None later k l = l

  pub inside_words : (root : Forms) (name : List ℕ) → AreAll P root → AreAll P (inside_of root name)
  inside_words root name h = by (section name (sections root)) (section_words name (sections root) (sections_words root h)) where
    by : (o : Option Part) → IfSome o HasAllInside → AreAll P (inside o)
    by None k = tt
    by (Some a) k = k

  pub all_sections_words : (w : List ℕ) (f : Forms) → AreAll P f → All HasAllInside (all_sections w f)
  all_sections_words w none h = All-nil HasAllInside
  all_sections_words w (word s e t f) h = all_sections_words w f h.1
  all_sections_words w (group s e i f) h =
      All-append HasAllInside (option_to_list (one_section w s i)) (all_sections w f) (by (one_section w s i) (one_section_words w s i h.0)) (all_sections_words w f h.1)
    where
      by : (o : Option Part) → IfSome o HasAllInside → All HasAllInside (option_to_list o)
      by None k = All-nil HasAllInside
      by (Some a) k = All-cons HasAllInside a [] k (All-nil HasAllInside)

  -- ---- the names

  with_name_words : (names : List (List ℕ)) (t : List ℕ) → All P names → P t → All P (with_name names t)
  with_name_words names t h k = by (is_there names t) where
    by : (b : Bool) → All P (if b then names else names ++ t ∷ [])
    by true = h
    by false = All-push P names t h k

  abbrev HasName : Declared → Type 0
  HasName d = P d.name

  mutual
    declared_words : (v : Bool) (f : Forms) → AreAll P f → All HasName (declared v f)
    declared_words v none h = All-nil HasName
    declared_words v (word s e t f) h = by (item_of v t) (declared_words v f h.1) (behind_declared_words v f h.1) where
      by : (i : Item) → All HasName (declared v f) → All HasName (declared_behind v f)
          → All HasName (declared_item i (record { name = t; at = s; parent = type_after v f }) (declared_behind v f) (declared v f))
      by Hyphen later after = after
      by Entry later after = All-cons HasName (record { name = t; at = s; parent = type_after v f }) (declared v f) h.0 later
      by Wrong later after = later
    declared_words v (group s e i f) h = declared_words v f h.1

    behind_declared_words : (v : Bool) (f : Forms) → AreAll P f → All HasName (declared_behind v f)
    behind_declared_words v none h = All-nil HasName
    behind_declared_words v (word s e t f) h = declared_words v f h.1
    behind_declared_words v (group s e i f) h = declared_words v f h.1

  entry_words : (o : Objects) (t : List ℕ) (type : ℕ) (text : Option ℕ) → All P o.names → P t → All P (with_entry o t type text).names
  entry_words o t type text h k = by (is_there o.names t) where
    by : (b : Bool) → All P (if b then o else record { names = with_name o.names t; types = o.types ++ type ∷ []; texts = o.texts; firsts = o.firsts ++ text ∷ [] }).names
    by true = h
    by false = with_name_words o.names t h k

  objects_words : (types : List (List ℕ)) (o : Objects) (ds : List Declared) → All P o.names → All HasName ds → All P (objects_with types o ds).names
  objects_words types o [] h k = h
  objects_words types o (d ∷ ds) h k =
      objects_words types (with_object types o d) ds
      (entry_words (with_text o d.parent) d.name (number_of_type types d.parent) (option_map (number_of (with_parent o.texts d.parent)) d.parent) h (All-head HasName d ds k))
      (All-tail HasName d ds k)

  item_words : (k : WordKind) (heads : Heads) (t : List ℕ) (f : Forms) → All P heads.names → P t → All P (with_item k heads t f).names
  item_words Name heads t f h w = by (is_there heads.names t) where
    by : (b : Bool) → All P (if b then heads else record { names = with_name heads.names t; arities = heads.arities ++ length (declared true f) ∷ [] }).names
    by true = h
    by false = with_name_words heads.names t h w
  item_words Dash heads t f h w = h
  item_words Variable heads t f h w = h
  item_words Other heads t f h w = h

  predicates_words : (heads : Heads) (f : Forms) → All P heads.names → AreAll P f → All P (predicate_heads heads f).names
  predicates_words heads none h k = h
  predicates_words heads (word s e t f) h k = predicates_words heads f h k.1
  predicates_words heads (group s e none f) h k = predicates_words heads f h k.1
  predicates_words heads (group s e (group hs he head i) f) h k = predicates_words heads f h k.1
  predicates_words heads (group s e (word hs he t i) f) h k =
      predicates_words (if is_equals t then heads else with_item (word_kind t) heads t i) f (by (is_equals t)) k.1
    where
      by : (b : Bool) → All P (if b then heads else with_item (word_kind t) heads t i).names
      by true = h
      by false = item_words (word_kind t) heads t i h k.0.0

  action_words : (names : List (List ℕ)) (f : Forms) → All P names → AreAll P f → All P (with_action_name names f)
  action_words names none h k = h
  action_words names (group s e i f) h k = h
  action_words names (word s e t f) h k = by (is_name t) where
    by : (b : Bool) → All P (if b then with_name names t else names)
    by true = with_name_words names t h k.0
    by false = h

  actions_words : (names : List (List ℕ)) (actions : List Part) → All P names → All HasAllInside actions → All P (names_with names actions)
  actions_words names [] h k = h
  actions_words names (a ∷ actions) h k =
      actions_words (with_action_name names a.inside) actions (action_words names a.inside h (All-head HasAllInside a actions k)) (All-tail HasAllInside a actions k)

  -- ---- the task

  task_words : (d p : Forms) → AreAll P d → AreAll P p → NamesAre P (task_of d p).vocabulary
  task_words d p h k = record {
    of_objects = objects_words (types_of d) (constants_of d) (declared_in p (codes ":objects"))
        (objects_words (types_of d) no_objects (declared_in d (codes ":constants")) (All-nil P) (declared_words false (inside_of d (codes ":constants")) (inside_words d (codes ":constants") h)))
        (declared_words false (inside_of p (codes ":objects")) (inside_words p (codes ":objects") k));
    of_predicates = predicates_words no_heads (inside_of d (codes ":predicates")) (All-nil P) (inside_words d (codes ":predicates") h);
    of_schemas = actions_words [] (actions_of d) (All-nil P) (all_sections_words (codes ":action") (sections d) (sections_words d h));
  }

  pub names_are : (domain problem : List ℕ) (t : PlanningTask) (s : SpellTask domain problem t) → AreAll P s.d → AreAll P s.p → NamesAre P t.vocabulary
  names_are domain problem t s h k = subst (λ (u : PlanningTask). NamesAre P u.vocabulary) (sym s.task_is) (task_words s.d s.p h k)
