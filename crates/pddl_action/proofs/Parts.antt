-- Steps through the parts of an action.
use Rattle.std.proofs.Common.{◌≡◌, ◌<◌, ◌≤◌, ◌+◌, ◌++◌, ℕ, Bool, true, false, List, [], ◌∷◌, length, drop, map, get_or, append_assoc, refl, sym, ap, ◌∙◌, if◌then◌else◌}
use Rattle.std.proofs.Math.ListN.{drop_of_length-le}
use Rattle.std.specs.Prelude.{Option, Some, None, unwrap_or, codes}
use Rattle.std.specs.Option.{option_map, option_map_or}
use Rattle.sexp.specs.Forms.{Forms, none, word, group}
use Rattle.pddl_names.specs.Names.{same_text}
use Rattle.pddl_syntax.specs.declared.word.WordKind.{WordKind}
use Rattle.pddl_syntax.specs.declared.word.WordKind.TheVariants.{Dash, Name, Variable, Other}
use Rattle.pddl_syntax.specs.Words.{word_kind, is_one_of}
use Rattle.pddl_terms.specs.declared.beginning.Beginning.TheVariants.{Conjunction, Negation, Equality, Unread}
use Rattle.pddl_terms.specs.declared.beginning.Setting.TheVariants.{InCondition}
use Rattle.pddl_terms.specs.Beginnings.{beginning, by_kind, unsupported_heads}
use Rattle.pddl_effect.specs.Literals.{group_increases, increase_places}
use Rattle.pddl_action.specs.declared.keyword.Keyword.{Keyword}
use Rattle.pddl_action.specs.declared.keyword.Part.{Part}
use Rattle.pddl_action.specs.Keywords.{part_of}
use Rattle.pddl_action.specs.Readings.{value_or}
use Rattle.pddl_syntax.proofs.ParameterSteps.{listed_at}

-- the parts from a place on
pub part_at : (ps : List Part) (i : ℕ) (p : Part) → i < length ps → p ≡ get_or ps i p → map part_of (drop i ps) ≡ part_of p ∷ map part_of (drop (i + 1) ps)
part_at ps i p lt is = ap (map part_of) (listed_at ps i p lt is)

pub parts_end : (ps : List Part) (i : ℕ) → length ps ≤ i → map part_of (drop i ps) ≡ []
parts_end ps i le = ap (map part_of) (drop_of_length-le ps le)

-- a list that has grown by another, and the rest
pub grown_by : {A : Type 0} (old new added rest all : List A) → new ≡ old ++ added → old ++ (added ++ rest) ≡ all → new ++ rest ≡ all
grown_by old new added rest all e whole = ap (λ ys. ys ++ rest) e ∙ append_assoc old added rest ∙ whole

-- what was read when no part is left
pub value_at_end : {A B : Type 0} (o : Option B) (f : B → A) (meaning : Forms → A) (keyword : Keyword) (d : A) → meaning none ≡ d
    → option_map_or f o d ≡ value_or (option_map f o) meaning keyword []
value_at_end None f meaning keyword d e = sym e
value_at_end (Some x) f meaning keyword d e = refl

pub unwrapped_at_end : {A B : Type 0} (o : Option B) (d : B) (f : B → A) (meaning : Forms → A) (keyword : Keyword) → meaning none ≡ f d
    → f (unwrap_or o d) ≡ value_or (option_map f o) meaning keyword []
unwrapped_at_end None d f meaning keyword e = sym e
unwrapped_at_end (Some x) d f meaning keyword e = refl

-- ---- a condition has no increases

no_increase_by : (s : ℕ) (is_and is_equality is_not unread : Bool) (kind : WordKind)
    → group_increases s (if is_and then Conjunction else (if is_equality then Equality else (if is_not then Negation else (if unread then Unread else by_kind kind)))) [] ≡ []
no_increase_by s true e n u kind = refl
no_increase_by s false true n u kind = refl
no_increase_by s false false true u kind = refl
no_increase_by s false false false true kind = refl
no_increase_by s false false false false Dash = refl
no_increase_by s false false false false Name = refl
no_increase_by s false false false false Variable = refl
no_increase_by s false false false false Other = refl

no_increase_in : (s : ℕ) (t : List ℕ) → group_increases s (beginning InCondition t) [] ≡ []
no_increase_in s t =
    no_increase_by s (same_text t (codes "and")) (same_text t (codes "=")) (same_text t (codes "not")) (is_one_of unsupported_heads t) (word_kind t)

pub no_increases_in_conditions : (f : Forms) → increase_places InCondition f ≡ []
no_increases_in_conditions none = refl
no_increases_in_conditions (word s e t f) = no_increases_in_conditions f
no_increases_in_conditions (group s e none f) = no_increases_in_conditions f
no_increases_in_conditions (group s e (group hs he h i) f) = no_increases_in_conditions f
no_increases_in_conditions (group s e (word hs he t i) f) =
    ap (λ (ps : List ℕ). group_increases s (beginning InCondition t) ps ++ increase_places InCondition f) (no_increases_in_conditions i)
    ∙ ap (λ (ps : List ℕ). ps ++ increase_places InCondition f) (no_increase_in s t)
    ∙ no_increases_in_conditions f
