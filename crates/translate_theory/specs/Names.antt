-- The names of values and operators in the text of a translation (Helmert 2006, the format of output.sas).
use Rattle.std.specs.Prelude.{ℕ, List, [], ◌∷◌, ◌++◌, map, slice_index_or, codes}
use Rattle.std.specs.List.{flat_map}
use Rattle.pddl_task.specs.Atoms.{Atom}
use Rattle.pddl_task.specs.Planning.{Vocabulary, Action}

-- the texts one after another, with `between` between each two
abbrev pub joined : List ℕ → List (List ℕ) → List ℕ
joined between [] = []
joined between (t ∷ []) = t
joined between (t ∷ u ∷ ts) = t ++ between ++ joined between (u ∷ ts)

abbrev pub object_name : Vocabulary → ℕ → List ℕ
object_name names o = slice_index_or names.objects o []

-- the name of the predicate, with the names of the objects in parentheses
abbrev pub atom_text : Vocabulary → Atom → List ℕ
atom_text names p =
    slice_index_or names.predicates p.predicate [] ++ codes "(" ++ joined (codes ", ") (map (object_name names) p.objects) ++ codes ")"

-- the names of the values of the atoms
abbrev pub atom_names : Vocabulary → List Atom → List (List ℕ)
atom_names names atoms = map (λ p. codes "Atom " ++ atom_text names p) atoms

-- the name of the none value, at which none of the atoms is true
abbrev pub none_name : Vocabulary → List Atom → List ℕ
none_name names [] = codes "<none of those>"
none_name names (p ∷ []) = codes "NegatedAtom " ++ atom_text names p
none_name names (p ∷ q ∷ rest) = codes "<none of those>"

-- the names of the schema and of the objects, with single blanks between them
abbrev pub action_name : Vocabulary → Action → List ℕ
action_name names a = slice_index_or names.schemas a.schema [] ++ flat_map (λ o. codes " " ++ object_name names o) a.objects
