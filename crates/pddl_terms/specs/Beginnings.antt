-- The construct that the head of a list names.
use Rattle.std.specs.Prelude.{ℕ, if◌then◌else◌, List, [], ◌∷◌, codes}
use Rattle.pddl_names.specs.Names.{same_text}
use Rattle.pddl_syntax.specs.declared.word.WordKind.{WordKind}
use Rattle.pddl_syntax.specs.declared.word.WordKind.TheVariants.{Name}
use Rattle.pddl_syntax.specs.Words.{word_kind, is_one_of}
use Rattle.pddl_terms.specs.declared.beginning.Beginning.{Beginning}
use Rattle.pddl_terms.specs.declared.beginning.Beginning.TheVariants.{Conjunction, Negation, Equality, GoalEquality, Increasing, Unread, Atom, NoName}
use Rattle.pddl_terms.specs.declared.beginning.Setting.{Setting}
use Rattle.pddl_terms.specs.declared.beginning.Setting.TheVariants.{InCondition, InGoal, InEffect, InInitial}

-- the heads that are supported in no setting
abbrev pub unsupported_heads : List (List ℕ)
unsupported_heads =
    codes "or" ∷ codes "imply" ∷ codes "forall" ∷ codes "exists" ∷ codes "when" ∷ codes "preference" ∷ codes "<" ∷ codes ">" ∷ codes "<="
    ∷ codes ">=" ∷ codes "assign" ∷ codes "decrease" ∷ codes "scale-up" ∷ codes "scale-down" ∷ []

-- the construct of a head of this kind that is no keyword: a name is a predicate
abbrev pub by_kind : WordKind → Beginning
by_kind Name = Atom
by_kind kind = NoName

-- the constructs that all settings have
abbrev pub other_beginning : List ℕ → Beginning
other_beginning t =
    if same_text t (codes "not") then Negation
    else (if is_one_of unsupported_heads t then Unread else by_kind (word_kind t))

-- The construct in a condition, in a goal, in an effect, or in an item of the initial state. Only a condition has
-- equality, only an effect has increases, and in the initial state `and` is an ordinary predicate.
abbrev pub beginning : Setting → List ℕ → Beginning
beginning InCondition t =
    if same_text t (codes "and") then Conjunction
    else (if same_text t (codes "=") then Equality else other_beginning t)
beginning InGoal t =
    if same_text t (codes "and") then Conjunction
    else (if same_text t (codes "=") then GoalEquality else other_beginning t)
beginning InEffect t =
    if same_text t (codes "and") then Conjunction
    else (if same_text t (codes "increase") then Increasing else other_beginning t)
beginning InInitial t = other_beginning t
