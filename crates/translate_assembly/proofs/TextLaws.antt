-- The texts of names, as they are put together.
use Rattle.std.proofs.Common.{◌≡◌, ◌≢◌, ℕ, ◌+◌, ◌<◌, List, [], ◌∷◌, ◌++◌, length, get_or, take, map, Some, refl, sym, ap, ◌∙◌, arith, append_assoc, All}
use Rattle.std.specs.Prelude.{slice_get, codes, String, string_bytes}
use Rattle.std.specs.List.{flat_map, filter_map, cons_option}
use Rattle.std.proofs.lemmas.List.{take_more}
use Rattle.std.proofs.lemmas.List.Elements.{filter_map-append}
use Rattle.std.proofs.lemmas.Option.{slice_get-get_or}
use Rattle.pddl_task.specs.Atoms.{Atom}
use Rattle.pddl_task.specs.Planning.{Vocabulary}
use Rattle.mutex_index.specs.Places.{atoms_at}
use Rattle.translate_theory.specs.Names.{joined, object_name, atom_text, atom_names, none_name}
use Rattle.translate_assembly.proofs.PlaceLaws.{atoms_length}

-- texts with one between each two: the first, and each other one behind it
pub joined_is : (names : Vocabulary) (between : List ℕ) (o : ℕ) (os : List ℕ)
    → joined between (map (object_name names) (o ∷ os)) ≡ object_name names o ++ flat_map (λ o. between ++ object_name names o) os
joined_is names between o [] = sym (append_nil (object_name names o))
  where
    append_nil : (xs : List ℕ) → xs ++ [] ≡ xs
    append_nil [] = refl
    append_nil (x ∷ xs) = ap (λ l. x ∷ l) (append_nil xs)
joined_is names between o (p ∷ os) =
    ap (λ (t : List ℕ). object_name names o ++ between ++ t) (joined_is names between p os)
    ∙ append_assoc (object_name names o) between (object_name names p ++ flat_map (λ o. between ++ object_name names o) os)
    ∙ ap (λ (t : List ℕ). object_name names o ++ t) (sym (append_assoc between (object_name names p) (flat_map (λ o. between ++ object_name names o) os)))

map_append : {X Y : Type 0} (f : X → Y) (xs ys : List X) → map f (xs ++ ys) ≡ map f xs ++ map f ys
map_append f [] ys = refl
map_append f (x ∷ xs) ys = ap (λ l. f x ∷ l) (map_append f xs ys)

-- the names of the atoms at one more place
pub names_more : (names : Vocabulary) (atoms : List Atom) (places : List ℕ) (i : ℕ) (now after : List (List ℕ)) → i < length places
    → now ≡ atom_names names (atoms_at atoms (take i places))
    → after ≡ now ++ atom_names names (cons_option (slice_get atoms (get_or places i 0)) [])
    → after ≡ atom_names names (atoms_at atoms (take (i + 1) places))
names_more names atoms places i now after l e g =
    let last = cons_option (slice_get atoms (get_or places i 0)) [] in
    g ∙ ap (λ (t : List (List ℕ)). t ++ atom_names names last) e
    ∙ sym (map_append (λ p. codes "Atom " ++ atom_text names p) (atoms_at atoms (take i places)) last)
    ∙ ap (atom_names names) (sym (filter_map-append (slice_get atoms) (take i places) (get_or places i 0 ∷ [])) ∙ ap (filter_map (slice_get atoms)) (sym (take_more places i 0 l)))

several : (names : Vocabulary) (atoms : List Atom) → length atoms ≢ 1 → none_name names atoms ≡ codes "<none of those>"
several names [] n = refl
several names (p ∷ []) n = absurd (n refl)
several names (p ∷ q ∷ rest) n = refl

pub none_of_several : (names : Vocabulary) (atoms : List Atom) (places : List ℕ) → All (λ p. p < length atoms) places → length places ≢ 1
    → none_name names (atoms_at atoms places) ≡ codes "<none of those>"
none_of_several names atoms places within n = several names (atoms_at atoms places) (λ e. n (sym (atoms_length atoms places within) ∙ e))

-- the first object's name, and the others' behind it
pub objects_pushed : (names : Vocabulary) (objects others : List ℕ) (o : ℕ) (old now new : List ℕ) → objects ≡ o ∷ others
    → now ≡ old ++ object_name names o → new ≡ now ++ flat_map (λ o. codes ", " ++ object_name names o) others
    → new ≡ old ++ joined (codes ", ") (map (object_name names) objects)
objects_pushed names objects others o old now new is e g =
    let rest = flat_map (λ o. codes ", " ++ object_name names o) others in
    g ∙ ap (λ (t : List ℕ). t ++ rest) e ∙ append_assoc old (object_name names o) rest
    ∙ ap (λ (t : List ℕ). old ++ t) (sym (joined_is names (codes ", ") o others))
    ∙ ap (λ (os : List ℕ). old ++ joined (codes ", ") (map (object_name names) os)) (sym is)

pub none_of_one : (names : Vocabulary) (atoms : List Atom) (places : List ℕ) (p : ℕ) (x : Atom) → length places ≡ 1
    → p ≡ get_or places 0 0 → p < length atoms → x ≡ get_or atoms p x → none_name names (atoms_at atoms places) ≡ codes "NegatedAtom " ++ atom_text names x
none_of_one names atoms [] p x e is l at = absurd (omega (arith, e))
none_of_one names atoms (q ∷ []) p x e is l at =
    let here : slice_get atoms q ≡ Some x = ap (slice_get atoms) (sym is) ∙ slice_get-get_or atoms p x l ∙ ap Some (sym at) in rw here refl
none_of_one names atoms (q ∷ r ∷ places) p x e is l at = absurd (omega (arith, e))

pub pushed : {Z : Type 0} (texts after : List (String Z)) (s : String Z) → after ≡ texts ++ s ∷ [] → map string_bytes after ≡ map string_bytes texts ++ string_bytes s ∷ []
pushed texts after s e = ap (map string_bytes) e ∙ map_append string_bytes texts (s ∷ [])
