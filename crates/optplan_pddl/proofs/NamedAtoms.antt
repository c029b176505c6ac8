-- Atoms that are named by their own words, and variables that are listed again.
use Rattle.std.proofs.Common.{◌≡◌, ℕ, ◌<◌, List, [], ◌∷◌, length, map, refl, ap, arith}
use Rattle.std.specs.Prelude.{slice_index_or, All}
use Rattle.std.proofs.lemmas.List.Elements.{All-head, All-tail}
use Rattle.std.proofs.lemmas.Option.{slice_get_within, slice_get-get_or}
use Rattle.pddl_names.specs.Names.{number_of, AreDistinct}
use Rattle.pddl_names.proofs.NameLists.{number_of-distinct}
use Rattle.pddl_task.specs.Atoms.{Atom}
use Rattle.pddl_task.specs.Planning.{PlanningTask, IsAtomOf}
use Rattle.translate_theory.specs.Variables.{PlacedVariable}
use Rattle.checker.specs.Naming.{named, listed, words_of}
use Rattle.optplan_pddl.specs.Kinds.{listing}

-- what holds of the names of a task, so that each of its atoms is named by its words
pub record HasOwnNames (task : PlanningTask) : Type 0 where
  pub predicates : length task.arities ≡ length task.vocabulary.predicates
  pub objects : length task.object_types ≡ length task.vocabulary.objects
  pub distinct_predicates : AreDistinct task.vocabulary.predicates
  pub distinct_objects : AreDistinct task.vocabulary.objects

abbrev name_at : List (List ℕ) → ℕ → List ℕ
name_at names n = slice_index_or names n []

number_again : (names : List (List ℕ)) → AreDistinct names → (n : ℕ) → n < length names → number_of names (name_at names n) ≡ n
number_again names distinct n l = number_of-distinct names distinct n (name_at names n) (slice_get-get_or names n [] l)

numbers_again : (names : List (List ℕ)) → AreDistinct names → (ns : List ℕ) → All (λ n. n < length names) ns → map (number_of names) (map (name_at names) ns) ≡ ns
numbers_again names distinct [] h = refl
numbers_again names distinct (n ∷ ns) h =
    let first = number_again names distinct n (All-head (λ n. n < length names) n ns h) in
    let later = numbers_again names distinct ns (All-tail (λ n. n < length names) n ns h) in
    λ i. first i ∷ later i

module _ (task : PlanningTask) where
  -- the numbers in an atom of the task have names
  pub predicate_named : (p : Atom) → length task.arities ≡ length task.vocabulary.predicates → IsAtomOf task p → p.predicate < length task.vocabulary.predicates
  predicate_named p e is = omega (arith, e, slice_get_within task.arities p.predicate (length p.objects) is.places)

  pub objects_named : (p : Atom) → length task.object_types ≡ length task.vocabulary.objects → IsAtomOf task p → All (λ o. o < length task.vocabulary.objects) p.objects
  objects_named p e is k d l = omega (arith, e, is.objects k d l)

  atom_again : (p : Atom) → HasOwnNames task → IsAtomOf task p → named task.vocabulary (words_of task.vocabulary p) ≡ p
  atom_again p own is =
      let predicate = number_again task.vocabulary.predicates own.distinct_predicates p.predicate (predicate_named p own.predicates is) in
      let objects = numbers_again task.vocabulary.objects own.distinct_objects p.objects (objects_named p own.objects is) in
      λ i. record { predicate = predicate i; objects = objects i }

  pub atoms_again : (atoms : List Atom) → HasOwnNames task → All (IsAtomOf task) atoms → map (named task.vocabulary) (map (words_of task.vocabulary) atoms) ≡ atoms
  atoms_again [] own h = refl
  atoms_again (p ∷ atoms) own h =
      let first = atom_again p own (All-head (IsAtomOf task) p atoms h) in
      let later = atoms_again atoms own (All-tail (IsAtomOf task) p atoms h) in
      λ i. first i ∷ later i

pub variables_again : (variables : List PlacedVariable) → map listed (map listing variables) ≡ variables
variables_again [] = refl
variables_again (v ∷ variables) = ap (λ (vs : List PlacedVariable). v ∷ vs) (variables_again variables)
