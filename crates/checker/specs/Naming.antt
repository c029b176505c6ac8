-- The atoms of a planning task that a certificate lists by name.
use Rattle.std.specs.Prelude.{ℕ, List, [], ◌∷◌, ◌++◌, map, length, slice_index_or, codes}
use Rattle.pddl_names.specs.Names.{number_of}
use Rattle.pddl_task.specs.Atoms.{Atom}
use Rattle.pddl_task.specs.Planning.{Vocabulary}
use Rattle.cert_value.specs.Certificates.{Variable}
use Rattle.cert_text.specs.Pieces.{joined}
use Rattle.translate_theory.specs.Variables.{PlacedVariable}

-- The atom with this predicate and these objects, given by their names. An unknown name gets the number after all known
-- ones, so that the atom is not one of the task.
abbrev pub named : Vocabulary → List (List ℕ) → Atom
named names [] = record { predicate = length names.predicates; objects = [] }
named names (w ∷ ws) = record { predicate = number_of names.predicates w; objects = map (number_of names.objects) ws }

abbrev pub named_atoms : Vocabulary → List (List (List ℕ)) → List Atom
named_atoms names words = map (named names) words

-- a variable of a certificate, over the atoms that it lists
abbrev pub listed : Variable → PlacedVariable
listed v = record { places = v.atoms; has_none = v.has_none_value }

-- names with blanks between them, in parentheses
abbrev pub words_text : List (List ℕ) → List ℕ
words_text words = codes "(" ++ joined 32 words ++ codes ")"

-- the names of the predicate and the objects of an atom of the task
abbrev pub words_of : Vocabulary → Atom → List (List ℕ)
words_of names p = slice_index_or names.predicates p.predicate [] ∷ map (λ o. slice_index_or names.objects o []) p.objects
