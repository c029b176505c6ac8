-- The byte offsets of literals and increases, for the limits. Those with a fault count too.
use Rattle.std.specs.Prelude.{ℕ, List, [], ◌∷◌, ◌++◌}
use Rattle.sexp.specs.Forms.{Forms, none, word, group}
use Rattle.pddl_terms.specs.declared.beginning.Beginning.{Beginning}
use Rattle.pddl_terms.specs.declared.beginning.Beginning.TheVariants.{Conjunction, Negation, Equality, Increasing, Atom}
use Rattle.pddl_terms.specs.declared.beginning.Setting.{Setting}
use Rattle.pddl_terms.specs.Beginnings.{beginning}

-- the offsets in a list at offset `s`, given those of its parts
abbrev pub group_literals : ℕ → Beginning → List ℕ → List ℕ
group_literals s Conjunction parts = parts
group_literals s Negation parts = s ∷ []
group_literals s Equality parts = s ∷ []
group_literals s Atom parts = s ∷ []
group_literals s other parts = []

-- the byte offsets of the atoms, the equalities and their negations, in the order of the text
abbrev pub literal_places : Setting → Forms → List ℕ
literal_places setting none = []
literal_places setting (word s e t f) = literal_places setting f
literal_places setting (group s e none f) = literal_places setting f
literal_places setting (group s e (group hs he h i) f) = literal_places setting f
literal_places setting (group s e (word hs he t i) f) = group_literals s (beginning setting t) (literal_places setting i) ++ literal_places setting f

abbrev pub group_increases : ℕ → Beginning → List ℕ → List ℕ
group_increases s Conjunction parts = parts
group_increases s Increasing parts = s ∷ []
group_increases s other parts = []

-- the byte offsets of the increases, in the order of the text
abbrev pub increase_places : Setting → Forms → List ℕ
increase_places setting none = []
increase_places setting (word s e t f) = increase_places setting f
increase_places setting (group s e none f) = increase_places setting f
increase_places setting (group s e (group hs he h i) f) = increase_places setting f
increase_places setting (group s e (word hs he t i) f) = group_increases s (beginning setting t) (increase_places setting i) ++ increase_places setting f
