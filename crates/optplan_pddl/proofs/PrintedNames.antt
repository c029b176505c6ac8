-- Names made of words are printed, and have no blank at their ends.
use Rattle.std.proofs.Common.{◌≡◌, ℕ, zero, suc, ◌<◌, Bool, true, false, List, [], ◌∷◌, ◌++◌, refl, ap, subst, sym, ◌∙◌, arith}
use Rattle.std.specs.Prelude.{All, length, map, codes, slice_index_or, if◌then◌else◌}
use Rattle.std.specs.List.{list_all}
use Rattle.std.proofs.lemmas.Bool.{and_from}
use Rattle.std.proofs.lemmas.Bool.Decides.{nat_tests}
use Rattle.std.proofs.lemmas.List.{append-nil}
use Rattle.std.proofs.lemmas.List.Folds.{list_all-append}
use Rattle.std.proofs.lemmas.List.Elements.{All-nil, All-cons, All-head, All-tail, All-append}
use Rattle.pddl_task.specs.Atoms.{Atom}
use Rattle.pddl_task.specs.Planning.{Vocabulary, Action}
use Rattle.sasfile_reader.specs.Lines.{is_text_byte, is_end_byte, before_end, trimmed}
use Rattle.sasfile_writer.specs.TextOrder.{IsName}
use Rattle.pddl_laws.specs.Known.{IsWordByte, IsWord, HasWords}
use Rattle.translate_theory.specs.Names.{joined, object_name, atom_text, atom_names, none_name, action_name}
use Rattle.translate_theory.specs.Translations.{Variable, value_names_of}
use Rattle.validate.specs.Written.{name_of, spaced}
use Rattle.optplan_pddl.proofs.SpelledSteps.{action_words}

-- ---- the end of a text

-- a byte that is kept at the end keeps what stands before it
trimmed_kept : (xs : List ℕ) (b : ℕ) → is_end_byte b ≡ false → trimmed (xs ++ b ∷ []) ≡ xs ++ b ∷ []
unfolding trimmed
trimmed_kept [] b e = rw e refl
trimmed_kept (x ∷ xs) b e = ap (before_end x) (trimmed_kept xs b e) ∙ some xs where
  some : (ys : List ℕ) → before_end x (ys ++ b ∷ []) ≡ x ∷ (ys ++ b ∷ [])
  some [] = refl
  some (y ∷ ys) = refl

trimmed_behind : (xs : List ℕ) (y : ℕ) (ys : List ℕ) → trimmed (y ∷ ys) ≡ y ∷ ys → trimmed (xs ++ y ∷ ys) ≡ xs ++ y ∷ ys
unfolding trimmed
trimmed_behind [] y ys e = e
trimmed_behind (x ∷ xs) y ys e = ap (before_end x) (trimmed_behind xs y ys e) ∙ some xs where
  some : (zs : List ℕ) → before_end x (zs ++ y ∷ ys) ≡ x ∷ (zs ++ y ∷ ys)
  some [] = refl
  some (z ∷ zs) = refl

no_end : (b : ℕ) → IsWordByte b → is_end_byte b ≡ false
no_end b h = let low = h.0 in grind (arith, nat_tests)

word_whole : (w : List ℕ) → All IsWordByte w → trimmed w ≡ w
unfolding trimmed
word_whole [] h = refl
word_whole (b ∷ []) h = rw (no_end b (All-head IsWordByte b [] h)) refl
word_whole (b ∷ c ∷ w) h = ap (before_end b) (word_whole (c ∷ w) (All-tail IsWordByte b (c ∷ w) h))

-- words with single blanks between them
words_whole : (w : List ℕ) (ws : List (List ℕ)) → IsWord w → All IsWord ws → trimmed (w ++ spaced ws) ≡ w ++ spaced ws
unfolding trimmed
words_whole w [] h k = ap trimmed (append-nil w) ∙ word_whole w h.printed ∙ sym (append-nil w)
words_whole w ([] ∷ ws) h k = absurd ((All-head IsWord [] ws k).some refl)
words_whole w ((b ∷ v) ∷ ws) h k =
    trimmed_behind w 32 (b ∷ (v ++ spaced ws))
    (ap (before_end 32) (words_whole (b ∷ v) ws (All-head IsWord (b ∷ v) ws k) (All-tail IsWord (b ∷ v) ws k)))

-- ---- printed bytes

abbrev IsPrinted : List ℕ → Type 0
IsPrinted text = list_all is_text_byte text ≡ true

printed_append : (xs ys : List ℕ) → IsPrinted xs → IsPrinted ys → IsPrinted (xs ++ ys)
printed_append xs ys h k = list_all-append is_text_byte xs ys ∙ and_from (list_all is_text_byte xs) (list_all is_text_byte ys) h k

text_byte : (b : ℕ) → IsWordByte b → is_text_byte b ≡ true
text_byte b h = let low = h.0 in let high = h.1 in grind (arith, nat_tests)

word_printed : (w : List ℕ) → All IsWordByte w → IsPrinted w
word_printed [] h = refl
word_printed (b ∷ w) h = and_from (is_text_byte b) (list_all is_text_byte w) (text_byte b (All-head IsWordByte b w h)) (word_printed w (All-tail IsWordByte b w h))

words_printed : (ws : List (List ℕ)) → All IsWord ws → IsPrinted (spaced ws)
words_printed [] h = refl
words_printed (w ∷ ws) h =
    printed_append (codes " " ++ w) (spaced ws) (word_printed w (All-head IsWord w ws h).printed) (words_printed ws (All-tail IsWord w ws h))

name_printed : (names : List (List ℕ)) (n : ℕ) → All IsWord names → IsPrinted (slice_index_or names n [])
name_printed [] n h = refl
name_printed (w ∷ ws) zero h = word_printed w (All-head IsWord w ws h).printed
name_printed (w ∷ ws) (suc n) h = name_printed ws n (All-tail IsWord w ws h)

-- ---- the names of values

module _ (names : Vocabulary) (words : HasWords names) where
  objects_printed : (os : List ℕ) → IsPrinted (joined (codes ", ") (map (object_name names) os))
  objects_printed [] = refl
  objects_printed (o ∷ []) = name_printed names.objects o words.of_objects
  objects_printed (o ∷ p ∷ os) =
      printed_append (object_name names o ++ codes ", ") (joined (codes ", ") (map (object_name names) (p ∷ os)))
      (printed_append (object_name names o) (codes ", ") (name_printed names.objects o words.of_objects) refl) (objects_printed (p ∷ os))

  -- an atom's text up to the last parenthesis
  abbrev front : Atom → List ℕ
  front p = slice_index_or names.predicates p.predicate [] ++ codes "(" ++ joined (codes ", ") (map (object_name names) p.objects)

  front_printed : (p : Atom) → IsPrinted (front p)
  front_printed p =
      printed_append (slice_index_or names.predicates p.predicate [] ++ codes "(") (joined (codes ", ") (map (object_name names) p.objects))
      (printed_append (slice_index_or names.predicates p.predicate []) (codes "(") (name_printed names.predicates p.predicate words.of_predicates) refl) (objects_printed p.objects)

  -- the atom behind a first word
  atom_is_name : (first : List ℕ) (p : Atom) → IsPrinted first → IsName (first ++ front p ++ codes ")")
  atom_is_name first p h = record {
    printed = printed_append (first ++ front p) (codes ")") (printed_append first (front p) h (front_printed p)) refl;
    whole = trimmed_kept (first ++ front p) 41 refl;
  }

  atoms_are_names : (atoms : List Atom) → All IsName (atom_names names atoms)
  atoms_are_names [] = All-nil IsName
  atoms_are_names (p ∷ atoms) = All-cons IsName (codes "Atom " ++ atom_text names p) (atom_names names atoms) (atom_is_name (codes "Atom ") p refl) (atoms_are_names atoms)

  none_is_name : (atoms : List Atom) → IsName (none_name names atoms)
  unfolding trimmed
  none_is_name [] = record { printed = refl; whole = refl }
  none_is_name (p ∷ []) = atom_is_name (codes "NegatedAtom ") p refl
  none_is_name (p ∷ q ∷ rest) = record { printed = refl; whole = refl }

  values_are_names : (v : Variable) → All IsName (value_names_of names v)
  values_are_names v = All-append IsName (atom_names names v.atoms) (if v.has_none then none_name names v.atoms ∷ [] else []) (atoms_are_names v.atoms) (by v.has_none) where
    by : (b : Bool) → All IsName (if b then none_name names v.atoms ∷ [] else [])
    by true = All-cons IsName (none_name names v.atoms) [] (none_is_name v.atoms) (All-nil IsName)
    by false = All-nil IsName

  pub all_values_are_names : (variables : List Variable) → All (λ ns. All IsName ns) (map (value_names_of names) variables)
  all_values_are_names [] = All-nil (λ ns. All IsName ns)
  all_values_are_names (v ∷ variables) =
      All-cons (λ ns. All IsName ns) (value_names_of names v) (map (value_names_of names) variables) (values_are_names v) (all_values_are_names variables)

  -- ---- the names of operators

  name_word : (ws : List (List ℕ)) (n : ℕ) → All IsWord ws → n < length ws → IsWord (name_of ws n)
  name_word [] n h l = absurd (omega (arith, l))
  name_word (w ∷ ws) zero h l = All-head IsWord w ws h
  name_word (w ∷ ws) (suc n) h l = name_word ws n (All-tail IsWord w ws h) (omega (arith, l))

  object_words : (os : List ℕ) → All (λ o. o < length names.objects) os → All IsWord (map (name_of names.objects) os)
  object_words [] h = All-nil IsWord
  object_words (o ∷ os) h =
      All-cons IsWord (name_of names.objects o) (map (name_of names.objects) os)
      (name_word names.objects o words.of_objects (All-head (λ n. n < length names.objects) o os h)) (object_words os (All-tail (λ n. n < length names.objects) o os h))

  pub action_is_name : (a : Action) → a.schema < length names.schemas → All (λ o. o < length names.objects) a.objects → IsName (action_name names a)
  action_is_name a schema objects =
      let first = name_word names.schemas a.schema words.of_schemas schema in
      let others = object_words a.objects objects in
      subst IsName (sym (action_words names a)) (record {
        printed = printed_append (name_of names.schemas a.schema) (spaced (map (name_of names.objects) a.objects)) (word_printed (name_of names.schemas a.schema) first.printed)
            (words_printed (map (name_of names.objects) a.objects) others);
        whole = words_whole (name_of names.schemas a.schema) (map (name_of names.objects) a.objects) first others;
      })
