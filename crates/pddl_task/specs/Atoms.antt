-- Ground atoms, literals and sets of atoms. A set of atoms is represented by its membership test, and a state is the
-- set of the atoms that are true.
use Rattle.std.specs.Prelude.{ℕ, Bool, true, ◌&&◌, ◌==◌, nat_eq, not, if◌then◌else◌, List}
use Rattle.std.specs.List.{list_all, list_any}
use Rattle.std.specs.Cmp.Lexicographic.{pointwise}

-- a ground atom: a predicate or a function by its number, and objects by theirs
pub record Atom : Type 0 where
  pub predicate : ℕ
  pub objects : List ℕ

-- the set of the atoms that are true
abbrev pub State : Type 0
State = Atom → Bool

-- an atom, or its negation
pub record Literal : Type 0 where
  pub atom : Atom
  pub positive : Bool

-- the lists have the same length, and the same number at each index
abbrev pub same_numbers : List ℕ → List ℕ → Bool
same_numbers xs ys = pointwise nat_eq xs ys

-- the same predicate with the same objects
abbrev pub same_atom : Atom → Atom → Bool
same_atom p q = p.predicate == q.predicate && same_numbers p.objects q.objects

-- the set of the atoms of a list
abbrev pub contains : List Atom → State
contains atoms p = list_any (same_atom p) atoms

-- at most one atom of the list is in the set
abbrev pub at_most_one : State → List Atom → Bool
at_most_one test atoms =
    list_all (λ p. if test p then list_all (λ q. if test q then same_atom p q else true) atoms else true) atoms

-- the literal is an atom that is true, or the negation of one that is false
abbrev pub literal_holds : State → Literal → Bool
literal_holds state l = if l.positive then state l.atom else not (state l.atom)

-- every literal holds in the state
abbrev pub satisfies : State → List Literal → Bool
satisfies state literals = list_all (literal_holds state) literals

-- the atom is one of the literals
abbrev pub wants : List Literal → State
wants literals p = list_any (λ l. l.positive && same_atom p l.atom) literals

-- the atom's negation is one of the literals
abbrev pub excludes : List Literal → State
excludes literals p = list_any (λ l. not l.positive && same_atom p l.atom) literals

-- an atom and its negation are both among the literals
abbrev pub is_contradictory : List Literal → Bool
is_contradictory literals = list_any (λ l. l.positive && excludes literals l.atom) literals

-- the atoms of the positive literals are in the set; negative literals are ignored
abbrev pub has_wanted : State → List Literal → Bool
has_wanted set literals = list_all (λ l. if l.positive then set l.atom else true) literals
