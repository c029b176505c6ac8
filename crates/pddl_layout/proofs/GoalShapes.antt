-- Goals and metrics of one shape, and their faults.
use Rattle.std.proofs.Common.{◌≡◌, ℕ, ◌&&◌, not, List, [], ◌∷◌, ◌++◌, map, codes, refl, sym, ap, ap₂, ◌∙◌}
use Rattle.std.specs.Prelude.{Option, Some, None, option_to_list}
use Rattle.std.specs.Option.{option_map, option_map_or}
use Rattle.std.proofs.lemmas.List.{map-append}
use Rattle.sexp.specs.Forms.{Forms, none, word, group, behind}
use Rattle.pddl_task.specs.declared.schema.Condition.{Condition}
use Rattle.pddl_task.specs.Atoms.{Literal}
use Rattle.pddl_task.specs.Planning.{literal_of}
use Rattle.pddl_syntax.specs.declared.fault.FaultKind.TheVariants.{Shape, Unsupported, GoalBothWays}
use Rattle.pddl_syntax.specs.Faults.{fault}
use Rattle.pddl_terms.specs.declared.beginning.Beginning.{Beginning}
use Rattle.pddl_terms.specs.declared.beginning.Beginning.TheVariants.{Conjunction, Negation, Equality, GoalEquality, Increasing, Unread, Atom as PredicateHead, NoName}
use Rattle.pddl_terms.specs.declared.beginning.Setting.TheVariants.{InGoal}
use Rattle.pddl_terms.specs.Beginnings.{beginning}
use Rattle.pddl_terms.specs.Terms.{Scope, not_empty}
use Rattle.pddl_effect.specs.Conditions.{group_conditions, conditions_in, group_places, condition_places}
use Rattle.pddl_problem.specs.Goals.{Placed, placed_literal, placed, goals, goal_literals, has_opposite, opposite_faults, goal_faults, is_cost, is_cost_alone, is_metric, first_word, metric_faults}
use Rattle.pddl_layout.specs.Shapes.{erased}
use Rattle.pddl_layout.proofs.Alike.{Alike, faulty, clear, both, chosen, tested}
use Rattle.pddl_layout.proofs.SectionShapes.{behind_erased, has_head_erased, more_alike}
use Rattle.pddl_layout.proofs.TermShapes.{not_empty_erased}
use Rattle.pddl_layout.proofs.EffectShapes.{zeroed, group_conditions_erased, conditions_erased, conditions_alike}

-- ---- the literals

-- the literal at place 0
abbrev unplaced : Placed → Placed
unplaced l = record { at = 0; literal = l.literal }

literal_unplaced : (s : ℕ) (o : Option Literal) → option_to_list (option_map (λ l. record { at = 0; literal = l }) o) ≡ map unplaced (option_to_list (option_map (λ l. record { at = s; literal = l }) o))
literal_unplaced s None = refl
literal_unplaced s (Some l) = refl

placed_unplaced : (ss : List ℕ) (cs : List Condition) → placed (zeroed ss) cs ≡ map unplaced (placed ss cs)
placed_unplaced [] cs = refl
placed_unplaced (s ∷ ss) [] = refl
placed_unplaced (s ∷ ss) (c ∷ cs) =
    ap₂ ◌++◌ (literal_unplaced s (literal_of [] c)) (placed_unplaced ss cs) ∙ sym (map-append unplaced (placed_literal s c) (placed ss cs))

all_zeroed : (s : ℕ) (cs : List Condition) → map (λ (c : Condition). 0) cs ≡ zeroed (map (λ (c : Condition). s) cs)
all_zeroed s [] = refl
all_zeroed s (c ∷ cs) = ap (λ (ns : List ℕ). 0 ∷ ns) (all_zeroed s cs)

module _ (scope : Scope) where
  literal_zeroed : (s : ℕ) (t : List ℕ) (i : Forms) (b : Beginning)
      → map (λ (c : Condition). 0) (group_conditions InGoal scope t (erased i) b []) ≡ zeroed (map (λ (c : Condition). s) (group_conditions InGoal scope t i b []))
  literal_zeroed s t i b = ap (map (λ (c : Condition). 0)) (group_conditions_erased InGoal scope t i b [] [] refl) ∙ all_zeroed s (group_conditions InGoal scope t i b [])

  group_zeroed : (s : ℕ) (t : List ℕ) (i : Forms) (b : Beginning) (parts parts2 : List ℕ) → parts2 ≡ zeroed parts
      → group_places InGoal scope 0 t (erased i) b parts2 ≡ zeroed (group_places InGoal scope s t i b parts)
  group_zeroed s t i Conjunction parts parts2 e = e
  group_zeroed s t i Negation parts parts2 e = literal_zeroed s t i Negation
  group_zeroed s t i Equality parts parts2 e = literal_zeroed s t i Equality
  group_zeroed s t i GoalEquality parts parts2 e = refl
  group_zeroed s t i Increasing parts parts2 e = refl
  group_zeroed s t i Unread parts parts2 e = refl
  group_zeroed s t i PredicateHead parts parts2 e = literal_zeroed s t i PredicateHead
  group_zeroed s t i NoName parts parts2 e = refl

  places_zeroed : (f : Forms) → condition_places InGoal scope (erased f) ≡ zeroed (condition_places InGoal scope f)
  places_zeroed none = refl
  places_zeroed (word s e t f) = places_zeroed f
  places_zeroed (group s e none f) = places_zeroed f
  places_zeroed (group s e (group hs he h i) f) = places_zeroed f
  places_zeroed (group s e (word hs he t i) f) =
      let here = group_places InGoal scope s t i (beginning InGoal t) (condition_places InGoal scope i) in
      ap₂ ◌++◌ (group_zeroed s t i (beginning InGoal t) (condition_places InGoal scope i) (condition_places InGoal scope (erased i)) (places_zeroed i)) (places_zeroed f)
      ∙ sym (map-append (λ p. 0) here (condition_places InGoal scope f))

goals_unplaced : (scope : Scope) (f : Forms) → goals scope (erased f) ≡ map unplaced (goals scope f)
goals_unplaced scope f =
    ap₂ placed (places_zeroed scope f) (conditions_erased InGoal scope f) ∙ placed_unplaced (condition_places InGoal scope f) (conditions_in InGoal scope f)

literals_of : (ls : List Placed) → map (λ (l : Placed). l.literal) (map unplaced ls) ≡ map (λ (l : Placed). l.literal) ls
literals_of [] = refl
literals_of (l ∷ ls) = ap (λ (xs : List Literal). l.literal ∷ xs) (literals_of ls)

first_literals : (scope : Scope) (f : Forms) → goal_literals scope (erased f) ≡ map unplaced (goal_literals scope f)
first_literals scope none = refl
first_literals scope (word s e t f) = refl
first_literals scope (group s e i f) = goals_unplaced scope (group s e i none)

pub goal_literals_erased : (scope : Scope) (f : Forms) → map (λ (l : Placed). l.literal) (goal_literals scope (erased f)) ≡ map (λ (l : Placed). l.literal) (goal_literals scope f)
goal_literals_erased scope f = ap (map (λ (l : Placed). l.literal)) (first_literals scope f) ∙ literals_of (goal_literals scope f)

-- ---- the faults of the goal

opposite_alike : (before : List Literal) (ls : List Placed) → Alike (opposite_faults before ls) (opposite_faults before (map unplaced ls))
opposite_alike before [] = clear
opposite_alike before (l ∷ ls) = tested (has_opposite before l.literal) (fault GoalBothWays l.at) (fault GoalBothWays 0) (opposite_alike (before ++ l.literal ∷ []) ls)

both_ways_alike : (scope : Scope) (f : Forms) → Alike (opposite_faults [] (goals scope f)) (opposite_faults [] (goals scope (erased f)))
both_ways_alike scope f = rw (goals_unplaced scope f) (opposite_alike [] (goals scope f))

pub goal_alike : (scope : Scope) (h k : ℕ) (f : Forms) → Alike (goal_faults scope h f) (goal_faults scope k (erased f))
goal_alike scope h k none = faulty
goal_alike scope h k (word s e t f) = faulty
goal_alike scope h k (group s e i f) = both (both (conditions_alike InGoal scope (group s e i none)) (both_ways_alike scope (group s e i none))) (more_alike f)

-- ---- the metric

empty_behind_erased : (f : Forms) → not (not_empty (behind (erased f))) ≡ not (not_empty (behind f))
empty_behind_erased f = ap (λ (g : Forms). not (not_empty g)) (behind_erased f) ∙ ap not (not_empty_erased (behind f))

is_cost_erased : (f : Forms) → is_cost (erased f) ≡ is_cost f
is_cost_erased none = refl
is_cost_erased (word s e t f) = refl
is_cost_erased (group s e i f) = ap₂ ◌&&◌ (has_head_erased (codes "total-cost") i) (empty_behind_erased i)

cost_alone_erased : (f : Forms) → is_cost_alone (erased f) ≡ is_cost_alone f
cost_alone_erased f = ap₂ ◌&&◌ (is_cost_erased f) (empty_behind_erased f)

is_metric_erased : (f : Forms) → is_metric (erased f) ≡ is_metric f
is_metric_erased f = ap₂ ◌&&◌ (has_head_erased (codes "minimize") f) (ap is_cost_alone (behind_erased f) ∙ cost_alone_erased (behind f))

metric_by : (h k : ℕ) (a b : Option ℕ) → Alike (option_map_or (λ s. fault Unsupported s ∷ []) a (fault Shape h ∷ [])) (option_map_or (λ s. fault Unsupported s ∷ []) b (fault Shape k ∷ []))
metric_by h k None None = faulty
metric_by h k None (Some b) = faulty
metric_by h k (Some a) None = faulty
metric_by h k (Some a) (Some b) = faulty

pub metric_alike : (h k : ℕ) (f : Forms) → Alike (metric_faults h f) (metric_faults k (erased f))
metric_alike h k f = rw (is_metric_erased f) (chosen (is_metric f) clear (metric_by h k (first_word f) (first_word (erased f))))
