-- The atoms of the initial state and of the goal name what is there.
use Rattle.std.proofs.Common.{ℕ, Bool, true, false, List, [], ◌∷◌, length, if◌then◌else◌}
use Rattle.std.specs.Prelude.{Option, Some, None, option_to_list, All}
use Rattle.std.specs.Option.{IfSome, option_map}
use Rattle.std.proofs.lemmas.List.Elements.{All-nil, All-cons, All-append, All-head, All-tail}
use Rattle.sexp.specs.Forms.{Forms, none, word, group}
use Rattle.pddl_task.specs.declared.schema.Term.{Term}
use Rattle.pddl_task.specs.declared.schema.Condition.{Condition}
use Rattle.pddl_task.specs.declared.schema.Condition.TheVariants.{Positive, Negative, Equal, Different}
use Rattle.pddl_task.specs.Atoms.{Atom, Literal}
use Rattle.pddl_task.specs.Lifted.{Lifted}
use Rattle.pddl_task.specs.Planning.{ground_atom, literal_of}
use Rattle.pddl_terms.specs.declared.beginning.Beginning.{Beginning}
use Rattle.pddl_terms.specs.declared.beginning.Beginning.TheVariants.{Conjunction, Negation, Equality, GoalEquality, Increasing, Unread, NoName, Atom as PredicateHead}
use Rattle.pddl_terms.specs.declared.beginning.Setting.TheVariants.{InGoal}
use Rattle.pddl_terms.specs.Beginnings.{beginning}
use Rattle.pddl_terms.specs.Terms.{Scope, terms, lifted}
use Rattle.pddl_problem.specs.declared.initial.ItemKind.{ItemKind}
use Rattle.pddl_problem.specs.declared.initial.ItemKind.TheVariants.{TrueAtom, Value, Negated, NotRead, Nothing}
use Rattle.pddl_problem.specs.Initial.{atom_of, item_kind, item_atom, atom_inside, initial_atoms}
use Rattle.pddl_effect.specs.Conditions.{equality, negated_condition, negated_inside, negated_conditions, group_conditions, conditions_in, condition_places}
use Rattle.pddl_problem.specs.Goals.{Placed, placed_literal, placed, goals}
use Rattle.pddl_laws.proofs.LiftedAtoms.{IsLifted, is_lifted}

one_of_option : {X : Type 0} (P : X → Type 0) (o : Option X) → IfSome o P → All P (option_to_list o)
one_of_option P None h = All-nil P
one_of_option P (Some x) h = All-cons P x [] h (All-nil P)

-- where what is read there has a property once it has objects
module _ (scope : Scope) (P : Atom → Type 0) (known : (a : Lifted) → IsLifted scope.predicates.arities (length scope.variables) (length scope.objects) a → P (ground_atom [] a)) where
  atom_known : (o : Option Lifted) → IfSome o (IsLifted scope.predicates.arities (length scope.variables) (length scope.objects)) → IfSome (atom_of o) P
  atom_known None h = tt
  atom_known (Some a) h = known a h

  read_known : (t : List ℕ) (f : Forms) → IfSome (atom_of (lifted scope.predicates scope t f)) P
  read_known t f = atom_known (lifted scope.predicates scope t f) (is_lifted scope scope.predicates t f)

  item_known : (t : List ℕ) (i : Forms) (k : ItemKind) → IfSome (item_atom scope t i k) P
  item_known t i TrueAtom = read_known t i
  item_known t i Value = tt
  item_known t i Negated = tt
  item_known t i NotRead = tt
  item_known t i Nothing = tt

  inside_known : (i : Forms) → IfSome (atom_inside scope i) P
  inside_known none = tt
  inside_known (word s e t f) = item_known t f (item_kind t f)
  inside_known (group s e i f) = tt

  pub initial_known : (f : Forms) → All P (initial_atoms scope f)
  initial_known none = All-nil P
  initial_known (word s e t f) = initial_known f
  initial_known (group s e i f) =
      All-append P (option_to_list (atom_inside scope i)) (initial_atoms scope f) (one_of_option P (atom_inside scope i) (inside_known i)) (initial_known f)

  -- the atom of a goal's condition, if it has one, has the property
  abbrev IsRead : Condition → Type 0
  IsRead c = IfSome (literal_of [] c) (λ l. P l.atom)

  positive_read : (o : Option Lifted) → IfSome o (IsLifted scope.predicates.arities (length scope.variables) (length scope.objects)) → All IsRead (option_to_list (option_map Positive o))
  positive_read None h = All-nil IsRead
  positive_read (Some a) h = All-cons IsRead (Positive a) [] (known a h) (All-nil IsRead)

  negative_read : (o : Option Lifted) → IfSome o (IsLifted scope.predicates.arities (length scope.variables) (length scope.objects)) → All IsRead (option_to_list (option_map Negative o))
  negative_read None h = All-nil IsRead
  negative_read (Some a) h = All-cons IsRead (Negative a) [] (known a h) (All-nil IsRead)

  two_read : (positive : Bool) (x y : Term) → IsRead (if positive then Equal x y else Different x y)
  two_read true x y = tt
  two_read false x y = tt

  equality_read : (positive : Bool) (o : Option (List Term)) → All IsRead (equality positive o)
  equality_read positive None = All-nil IsRead
  equality_read positive (Some []) = All-nil IsRead
  equality_read positive (Some (x ∷ [])) = All-nil IsRead
  equality_read positive (Some (x ∷ y ∷ [])) = All-cons IsRead (if positive then Equal x y else Different x y) [] (two_read positive x y) (All-nil IsRead)
  equality_read positive (Some (x ∷ y ∷ z ∷ ts)) = All-nil IsRead

  negated_read : (t : List ℕ) (i : Forms) (b : Beginning) → All IsRead (negated_condition scope t i b)
  negated_read t i PredicateHead = negative_read (lifted scope.predicates scope t i) (is_lifted scope scope.predicates t i)
  negated_read t i Equality = equality_read false (terms scope i)
  negated_read t i Conjunction = All-nil IsRead
  negated_read t i Negation = All-nil IsRead
  negated_read t i GoalEquality = All-nil IsRead
  negated_read t i Increasing = All-nil IsRead
  negated_read t i Unread = All-nil IsRead
  negated_read t i NoName = All-nil IsRead

  negated_inside_read : (i : Forms) → All IsRead (negated_inside InGoal scope i)
  negated_inside_read none = All-nil IsRead
  negated_inside_read (word s e t i) = negated_read t i (beginning InGoal t)
  negated_inside_read (group s e h i) = All-nil IsRead

  negated_list_read : (f : Forms) → All IsRead (negated_conditions InGoal scope f)
  negated_list_read none = All-nil IsRead
  negated_list_read (word s e t f) = All-nil IsRead
  negated_list_read (group s e i f) = negated_inside_read i

  group_read : (t : List ℕ) (i : Forms) (b : Beginning) (inner : List Condition) → All IsRead inner → All IsRead (group_conditions InGoal scope t i b inner)
  group_read t i Conjunction inner h = h
  group_read t i Negation inner h = negated_list_read i
  group_read t i Equality inner h = equality_read true (terms scope i)
  group_read t i PredicateHead inner h = positive_read (lifted scope.predicates scope t i) (is_lifted scope scope.predicates t i)
  group_read t i GoalEquality inner h = All-nil IsRead
  group_read t i Increasing inner h = All-nil IsRead
  group_read t i Unread inner h = All-nil IsRead
  group_read t i NoName inner h = All-nil IsRead

  conditions_read : (f : Forms) → All IsRead (conditions_in InGoal scope f)
  conditions_read none = All-nil IsRead
  conditions_read (word s e t f) = conditions_read f
  conditions_read (group s e none f) = conditions_read f
  conditions_read (group s e (group hs he h i) f) = conditions_read f
  conditions_read (group s e (word hs he t i) f) =
      All-append IsRead (group_conditions InGoal scope t i (beginning InGoal t) (conditions_in InGoal scope i)) (conditions_in InGoal scope f)
      (group_read t i (beginning InGoal t) (conditions_in InGoal scope i) (conditions_read i)) (conditions_read f)

  abbrev pub IsKnown : Placed → Type 0
  IsKnown l = P l.literal.atom

  literal_known : (at : ℕ) (o : Option Literal) → IfSome o (λ l. P l.atom) → All IsKnown (option_to_list (option_map (λ l. record { at = at; literal = l }) o))
  literal_known at None h = All-nil IsKnown
  literal_known at (Some l) h = All-cons IsKnown (record { at = at; literal = l }) [] h (All-nil IsKnown)

  placed_known : (ss : List ℕ) (cs : List Condition) → All IsRead cs → All IsKnown (placed ss cs)
  placed_known [] cs h = All-nil IsKnown
  placed_known (s ∷ ss) [] h = All-nil IsKnown
  placed_known (s ∷ ss) (c ∷ cs) h =
      All-append IsKnown (placed_literal s c) (placed ss cs) (literal_known s (literal_of [] c) (All-head IsRead c cs h)) (placed_known ss cs (All-tail IsRead c cs h))

  pub goals_known : (f : Forms) → All IsKnown (goals scope f)
  goals_known f = placed_known (condition_places InGoal scope f) (conditions_in InGoal scope f) (conditions_read f)
