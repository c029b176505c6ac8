-- Steps through the declarations of objects.
use Rattle.std.proofs.Common.{◌≡◌, ◌<◌, ◌+◌, ◌==◌, ℕ, Bool, true, false, List, [], ◌∷◌, ◌++◌, length, map, drop, get_or, refl, sym, ap, subst, ◌∙◌, arith, true≢false, if◌then◌else◌}
use Rattle.std.proofs.lemmas.List.{length-append}
use Rattle.std.specs.Prelude.{Option, Some, None, not, slice_get, option_and_then}
use Rattle.std.specs.Option.{option_map, IfSome}
use Rattle.std.specs.String.{string_bytes}
use Rattle.std.proofs.lemmas.Bool.{eq-eqb, eqb-true}
use Rattle.std.proofs.lemmas.Option.{same_Some, slice_get_within, slice_get-get_or, get_or_from_slice_get}
use Rattle.pddl_names.specs.Names.{same_text, place_of, number_of, is_there, with_name, AreDistinct}
use Rattle.pddl_names.proofs.NameLists.{with_name-new, number_of-there, number_of-distinct, slice_get-number, same_text-true, same_text-equal}
use Rattle.pddl_syntax.specs.declared.fault.Fault.{Fault}
use Rattle.pddl_syntax.specs.Faults.{first_of}
use Rattle.pddl_syntax.specs.declared.typed.Named.{Named}
use Rattle.pddl_syntax.specs.declared.typed.Run.{Run}
use Rattle.pddl_syntax.specs.Typed.{Declared, spread, spread_run, with_type}
use Rattle.pddl_syntax.proofs.ParameterSteps.{run_at, spread_at}
use Rattle.pddl_domain.specs.Types.{with_parent, differs}
use Rattle.pddl_domain.specs.Objects.{Objects, with_entry, with_text, number_of_type, with_object, objects_with, first_text, first_type, differs_text, AreTexts, IsTextOf, declaration_faults, object_faults}
use Rattle.pddl_domain.proofs.TypeSteps.{with_parent-there, with_parent-twice}

-- ---- types by their texts and by the numbers of these

pub text_within : (texts : List (List ℕ)) (p : Option (List ℕ)) (number : Option ℕ) → IsTextOf texts p number → IfSome number (λ n. n < length texts)
text_within texts None number h = subst (λ (o : Option ℕ). IfSome o (λ n. n < length texts)) (sym h) tt
text_within texts (Some t) number h = subst (λ (o : Option ℕ). IfSome o (λ n. n < length texts)) (sym h.1) (number_of-there texts t h.0)

first_within : (texts : List (List ℕ)) (firsts : List (Option ℕ)) → AreTexts texts firsts → (place : Option ℕ)
    → IfSome (option_and_then (λ (n : ℕ). option_and_then (λ (text : Option ℕ). text) (slice_get firsts n)) place) (λ n. n < length texts)
first_within texts firsts all None = tt
first_within texts firsts all (Some n) = by (slice_get firsts n) refl
  where
    by : (o : Option (Option ℕ)) → slice_get firsts n ≡ o → IfSome (option_and_then (λ (text : Option ℕ). text) o) (λ k. k < length texts)
    by None e = tt
    by (Some text) e =
        subst (λ (o : Option ℕ). IfSome o (λ k. k < length texts)) (get_or_from_slice_get firsts n text None e)
        (all n None (slice_get_within firsts n text e))

-- two of the texts differ where their numbers do
same_numbers : (texts : List (List ℕ)) → AreDistinct texts → (m : ℕ) (s t : List ℕ) → slice_get texts m ≡ Some s → is_there texts t ≡ true → (m == number_of texts t) ≡ same_text s t
same_numbers texts distinct m s t at there = by (same_text s t) refl (m == number_of texts t) refl
  where
    by : (b : Bool) → same_text s t ≡ b → (d : Bool) → (m == number_of texts t) ≡ d → (m == number_of texts t) ≡ same_text s t
    by true e d q =
        eq-eqb m (number_of texts t) (sym (number_of-distinct texts distinct m s at) ∙ ap (number_of texts) (same_text-true s t e)) ∙ sym e
    by false e false q = q ∙ sym e
    by false e true q =
        let same : s ≡ t = same_Some s t (sym at ∙ ap (slice_get texts) (eqb-true m (number_of texts t) q) ∙ slice_get-number texts t there) in
        absurd (true≢false (sym (same_text-equal s t same) ∙ e))

differs_by : (texts : List (List ℕ)) → AreDistinct texts → (p : Option (List ℕ)) (text : Option ℕ) → IsTextOf texts p text → (first : Option ℕ) → IfSome first (λ n. n < length texts)
    → differs first text ≡ differs_text (option_and_then (slice_get texts) first) p
differs_by texts distinct p text h None lt = refl
differs_by texts distinct None text h (Some m) lt = ap (differs (Some m)) h ∙ by (slice_get texts m)
  where
    by : (o : Option (List ℕ)) → false ≡ differs_text o None
    by None = refl
    by (Some s) = refl
differs_by texts distinct (Some t) text h (Some m) lt =
    let at : slice_get texts m ≡ Some (get_or texts m []) = slice_get-get_or texts m [] lt in
    ap (differs (Some m)) h.1
    ∙ ap not (same_numbers texts distinct m (get_or texts m []) t at h.0)
    ∙ sym (ap (λ (o : Option (List ℕ)). differs_text o (Some t)) at)

pub other_type : (o : Objects) → AreDistinct o.texts → AreTexts o.texts o.firsts → (t : List ℕ) (text : Option ℕ) (p : Option (List ℕ)) → IsTextOf o.texts p text
    → differs (first_text o t) text ≡ differs_text (first_type o t) p
other_type o distinct all t text p h = differs_by o.texts distinct p text h (first_text o t) (first_within o.texts o.firsts all (place_of o.names t))

-- ---- one declaration

parent_is_there : (texts : List (List ℕ)) (p : Option (List ℕ)) (number : Option ℕ) → IsTextOf texts p number → with_parent texts p ≡ texts
parent_is_there texts None number h = refl
parent_is_there texts (Some t) number h = with_parent-there texts (Some t) h.0

number_is : (texts : List (List ℕ)) (p : Option (List ℕ)) (number : Option ℕ) → IsTextOf texts p number → number ≡ option_map (number_of texts) p
number_is texts None number h = h
number_is texts (Some t) number h = h.1

-- the objects with other texts
abbrev of_texts : Objects → List (List ℕ) → Objects
of_texts o texts = record { names = o.names; types = o.types; texts = texts; firsts = o.firsts }

text_is_there : (o : Objects) (p : Option (List ℕ)) (number : Option ℕ) → IsTextOf o.texts p number → with_text o p ≡ o
text_is_there o p number h = ap (of_texts o) (parent_is_there o.texts p number h)

entry_is_object : (types : List (List ℕ)) (o : Objects) (p : Option (List ℕ)) (n : Named) (type : ℕ) (text : Option ℕ) → IsTextOf o.texts p text → type ≡ number_of_type types p
    → with_entry o (string_bytes n.name) type text ≡ with_object types o (with_type p n)
entry_is_object types o p n type text h is =
    ap (λ (k : ℕ). with_entry o (string_bytes n.name) k text) is
    ∙ ap (with_entry o (string_bytes n.name) (number_of_type types p)) (number_is o.texts p text h)
    ∙ sym (ap (λ (texts : List (List ℕ)). with_entry (of_texts o texts) (string_bytes n.name) (number_of_type types p) (option_map (number_of texts) p)) (parent_is_there o.texts p text h))

pub texts_stay : (o : Objects) (t : List ℕ) (type : ℕ) (text : Option ℕ) → (with_entry o t type text).texts ≡ o.texts
texts_stay o t type text = by (is_there o.names t)
  where
    by : (b : Bool) → (if b then o else record { names = with_name o.names t; types = o.types ++ type ∷ []; texts = o.texts; firsts = o.firsts ++ text ∷ [] }).texts ≡ o.texts
    by true = refl
    by false = refl

pub object_added : (types : List (List ℕ)) (p : Option (List ℕ)) (old new : Objects) (type : ℕ) (text : Option ℕ) (ns ms : List Named) (i : ℕ) (n : Named)
    → ms ≡ ns → i < length ms → n ≡ get_or ms i n → IsTextOf old.texts p text → type ≡ number_of_type types p → new ≡ with_entry old (string_bytes n.name) type text
    → objects_with types new (map (with_type p) (drop (i + 1) ns)) ≡ objects_with types old (map (with_type p) (drop i ns))
object_added types p old new type text ns ms i n same lt is h type_is e =
    ap (λ (o : Objects). objects_with types o (map (with_type p) (drop (i + 1) ns))) (e ∙ entry_is_object types old p n type text h type_is)
    ∙ sym (ap (objects_with types old) (run_at p ns ms i n same lt is))

pub object_blamed : (types : List (List ℕ)) (p : Option (List ℕ)) (first new_first : Option Fault) (old new : Objects) (type : ℕ) (text : Option ℕ) (ns ms : List Named) (i : ℕ) (n : Named) (rest : List Declared)
    → ms ≡ ns → i < length ms → n ≡ get_or ms i n → IsTextOf old.texts p text → type ≡ number_of_type types p → new ≡ with_entry old (string_bytes n.name) type text
    → ((q : Option (List ℕ)) (fs : List Fault) → IsTextOf old.texts q text → first_of first (declaration_faults old (with_type q n) fs) ≡ first_of new_first fs)
    → first_of new_first (object_faults types new (map (with_type p) (drop (i + 1) ns) ++ rest)) ≡ first_of first (object_faults types old (map (with_type p) (drop i ns) ++ rest))
object_blamed types p first new_first old new type text ns ms i n rest same lt is h type_is e step =
    let later = map (with_type p) (drop (i + 1) ns) ++ rest in let d = with_type p n in
    ap (λ (o : Objects). first_of new_first (object_faults types o later)) (e ∙ entry_is_object types old p n type text h type_is)
    ∙ sym (ap (λ (ds : List Declared). first_of first (object_faults types old (ds ++ rest))) (run_at p ns ms i n same lt is)
    ∙ ap (λ (o : Objects). first_of first (declaration_faults o d (object_faults types (with_object types old d) later))) (text_is_there old p text h)
    ∙ step p (object_faults types (with_object types old d) later) h)

-- ---- the first declaration of a run

again : (types : List (List ℕ)) (o : Objects) (p : Option (List ℕ)) (n : Named) → with_object types (with_text o p) (with_type p n) ≡ with_object types o (with_type p n)
again types o p n =
    ap (λ (texts : List (List ℕ)). with_entry (of_texts o texts) (string_bytes n.name) (number_of_type types p) (option_map (number_of texts) p)) (with_parent-twice o.texts p)

pub run_begun : (types : List (List ℕ)) (o : Objects) (p : Option (List ℕ)) (ns : List Named) → 0 < length ns
    → objects_with types (with_text o p) (map (with_type p) ns) ≡ objects_with types o (map (with_type p) ns)
run_begun types o p [] some = absurd (omega (arith, some))
run_begun types o p (n ∷ ns) some = ap (λ (k : Objects). objects_with types k (map (with_type p) ns)) (again types o p n)

pub run_begun_faults : (types : List (List ℕ)) (o : Objects) (p : Option (List ℕ)) (ns : List Named) (rest : List Declared) → 0 < length ns
    → object_faults types (with_text o p) (map (with_type p) ns ++ rest) ≡ object_faults types o (map (with_type p) ns ++ rest)
run_begun_faults types o p [] rest some = absurd (omega (arith, some))
run_begun_faults types o p (n ∷ ns) rest some =
    ap (λ (k : Objects). declaration_faults (with_text (with_text o p) p) (with_type p n) (object_faults types k (map (with_type p) ns ++ rest))) (again types o p n)
    ∙ ap (λ (texts : List (List ℕ)). declaration_faults (of_texts o texts) (with_type p n) (object_faults types (with_object types o (with_type p n)) (map (with_type p) ns ++ rest))) (with_parent-twice o.texts p)

-- ---- runs

objects_with-append : (types : List (List ℕ)) (o : Objects) (ds es : List Declared) → objects_with types o (ds ++ es) ≡ objects_with types (objects_with types o ds) es
objects_with-append types o [] es = refl
objects_with-append types o (d ∷ ds) es = objects_with-append types (with_object types o d) ds es

pub objects_run : (types : List (List ℕ)) (old new : Objects) (rs : List Run) (i : ℕ) (r : Run) → i < length rs → r ≡ get_or rs i r → new ≡ objects_with types old (spread_run r)
    → objects_with types new (spread (drop (i + 1) rs)) ≡ objects_with types old (spread (drop i rs))
objects_run types old new rs i r lt is e =
    ap (λ (k : Objects). objects_with types k (spread (drop (i + 1) rs))) e
    ∙ sym (objects_with-append types old (spread_run r) (spread (drop (i + 1) rs)))
    ∙ sym (ap (objects_with types old) (spread_at rs i r lt is))

pub objects_run_faults : (types : List (List ℕ)) (first new_first : Option Fault) (old new : Objects) (rs : List Run) (i : ℕ) (r : Run) → i < length rs → r ≡ get_or rs i r
    → ((rest : List Declared) → first_of first (object_faults types old (spread_run r ++ rest)) ≡ first_of new_first (object_faults types new rest))
    → first_of new_first (object_faults types new (spread (drop (i + 1) rs))) ≡ first_of first (object_faults types old (spread (drop i rs)))
objects_run_faults types first new_first old new rs i r lt is step =
    sym (ap (λ (ds : List Declared). first_of first (object_faults types old ds)) (spread_at rs i r lt is) ∙ step (spread (drop (i + 1) rs)))

-- ---- how many there are

entry_count : (o : Objects) (t : List ℕ) (type : ℕ) (text : Option ℕ) → length o.types ≡ length o.names → length (with_entry o t type text).types ≡ length (with_entry o t type text).names
entry_count o t type text h = by (is_there o.names t) refl
  where
    by : (b : Bool) → is_there o.names t ≡ b → length (if b then o else record { names = with_name o.names t; types = o.types ++ type ∷ []; texts = o.texts; firsts = o.firsts ++ text ∷ [] }).types
        ≡ length (if b then o else record { names = with_name o.names t; types = o.types ++ type ∷ []; texts = o.texts; firsts = o.firsts ++ text ∷ [] }).names
    by true e = h
    by false e = omega (arith, h, length-append o.types (type ∷ []), ap length (with_name-new o.names t e), length-append o.names (t ∷ []))

pub types_count : (types : List (List ℕ)) (o : Objects) (ds : List Declared) → length o.types ≡ length o.names → length (objects_with types o ds).types ≡ length (objects_with types o ds).names
types_count types o [] h = h
types_count types o (d ∷ ds) h =
    types_count types (with_object types o d) ds
    (entry_count (with_text o d.parent) d.name (number_of_type types d.parent) (option_map (number_of (with_parent o.texts d.parent)) d.parent) h)
