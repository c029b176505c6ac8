-- The kind of a certificate for a translation has a text, and a certificate of that kind that holds is accepted.
use Rattle.std.proofs.Common.{◌≡◌, ℕ, zero, suc, ◌+◌, ◌<◌, ◌≤◌, ◌^◌, Bool, true, false, List, [], ◌∷◌, length, map, refl, sym, subst, arith, ltb-false, if◌then◌else◌}
use Rattle.std.specs.Prelude.{◌≢◌, slice_index_or, All}
use Rattle.std.specs.List.{AllByRecursion}
use Rattle.std.specs.List.Sorted.{IsStrictlyIncreasing}
use Rattle.std.proofs.lemmas.Bool.{or_parts}
use Rattle.std.proofs.lemmas.List.{length-map}
use Rattle.std.proofs.lemmas.List.Elements.{All-head, All-tail, recursion_from_All}
use Rattle.pddl_task.specs.Atoms.{Atom}
use Rattle.pddl_task.specs.Planning.{PlanningTask, IsAtomOf}
use Rattle.pddl.specs.Texts.{SpellTask}
use Rattle.pddl_laws.specs.Known.{IsWordByte, IsWord, HasWords}
use Rattle.pddl_laws.proofs.Counts.{spelled_predicates, spelled_objects}
use Rattle.pddl_laws.proofs.WordNames.{spelled_words}
use Rattle.translate_theory.specs.Variables.{PlacedVariable, IsPlaced}
use Rattle.translate_vars.specs.Parts.{value_count, has_long_range}
use Rattle.translate.specs.Translated.{TranslatedTask, IsTranslation}
use Rattle.cert_value.specs.Certificates.{CertificateValue}
use Rattle.cert_value.specs.Lawful.{IsIncreasing, IsAtomWord, IsAtom, IsVariable, IsLawful, IsLawfulKind}
use Rattle.cert_text.specs.Spelling.{spelling}
use Rattle.checker_clauses.specs.Violations.{IsHeld}
use Rattle.checker.specs.declared.verdict.PlanningVerdict.TheVariants.{Accepted}
use Rattle.checker.specs.Naming.{words_of}
use Rattle.checker.specs.Judgements.{Judged}
use Rattle.checker.specs.Answers.{IsAnswer}
use Rattle.checker.proofs.Verdicts.{translation_verdict}
use Rattle.optplan_pddl.specs.Kinds.{listing, translation_kind}
use Rattle.pddl_laws.proofs.DistinctNames.{distinct_objects, distinct_predicates}
use Rattle.optplan_pddl.proofs.NamedAtoms.{HasOwnNames, predicate_named, objects_named, atoms_again, variables_again}

-- ---- the words of atoms

word_lawful : (w : List ℕ) → IsWord w → IsAtomWord w
word_lawful w is = record { some = is.some; printed = recursion_from_All IsWordByte w is.printed }

names_lawful : (names : List (List ℕ)) → All IsWord names → (ns : List ℕ) → All (λ n. n < length names) ns → AllByRecursion IsAtomWord (map (λ n. slice_index_or names n []) ns)
names_lawful names words [] h = tt
names_lawful names words (n ∷ ns) h = (
  word_lawful (slice_index_or names n []) (words n [] (All-head (λ n. n < length names) n ns h)),
  names_lawful names words ns (All-tail (λ n. n < length names) n ns h),
)

module _ (task : PlanningTask) (words : HasWords task.vocabulary) (predicates : length task.arities ≡ length task.vocabulary.predicates)
    (objects : length task.object_types ≡ length task.vocabulary.objects) where
  atom_lawful : (p : Atom) → IsAtomOf task p → IsAtom (words_of task.vocabulary p)
  atom_lawful p is = record {
    some = λ e. absurd cc;
    each_word = (
      word_lawful (slice_index_or task.vocabulary.predicates p.predicate []) (words.of_predicates p.predicate [] (predicate_named task p predicates is)),
      names_lawful task.vocabulary.objects words.of_objects p.objects (objects_named task p objects is),
    );
  }

  atoms_lawful : (atoms : List Atom) → All (IsAtomOf task) atoms → AllByRecursion IsAtom (map (words_of task.vocabulary) atoms)
  atoms_lawful [] h = tt
  atoms_lawful (p ∷ atoms) h = (atom_lawful p (All-head (IsAtomOf task) p atoms h), atoms_lawful atoms (All-tail (IsAtomOf task) p atoms h))

-- ---- variables

increasing : (xs : List ℕ) → IsStrictlyIncreasing xs → IsIncreasing xs
increasing [] h = tt
increasing (x ∷ []) h = tt
increasing (x ∷ y ∷ ys) h = (h zero (omega arith), increasing (y ∷ ys) behind) where
  behind : IsStrictlyIncreasing (y ∷ ys)
  behind k l = let step : suc k + 1 ≡ suc (k + 1) = omega arith in rw step at (h (suc k) (omega arith))

places_counted : (v : PlacedVariable) → length v.places ≤ value_count v
places_counted v = by v.has_none where
  by : (b : Bool) → length v.places ≤ (if b then length v.places + 1 else length v.places)
  by true = omega arith
  by false = omega arith

some_place : (xs : List ℕ) → 0 < length xs → xs ≢ []
some_place [] l e = omega (arith, l)
some_place (x ∷ xs) l e = absurd cc

variable_lawful : (count : ℕ) (v : PlacedVariable) → IsPlaced count v → value_count v ≤ 65536 → IsVariable count (listing v)
variable_lawful count v is few = record {
  some = some_place v.places is.some;
  few = omega (arith, places_counted v, few);
  atoms = recursion_from_All (λ a. a < count) v.places is.within;
  increasing = increasing v.places is.rising;
}

variables_lawful : (count : ℕ) (variables : List PlacedVariable) → All (IsPlaced count) variables → has_long_range variables ≡ false → AllByRecursion (IsVariable count) (map listing variables)
variables_lawful count [] h few = tt
variables_lawful count (v ∷ variables) h few =
    let parts = or_parts _ _ few in (
      variable_lawful count v (All-head (IsPlaced count) v variables h) (ltb-false 65536 (value_count v) parts.0),
      variables_lawful count variables (All-tail (IsPlaced count) v variables h) parts.1,
    )

-- ---- the laws

pub kind_lawful : (domain problem : List ℕ) (task : PlanningTask) (t : TranslatedTask) → SpellTask domain problem task → IsTranslation task t → IsLawfulKind (translation_kind task t)
kind_lawful domain problem task t spelled made =
    let count = length-map t.atoms (words_of task.vocabulary) in
    record {
      few_atoms = omega (arith, count, made.fit.within.few_atoms);
      each_atom = atoms_lawful task (spelled_words domain problem task spelled) (spelled_predicates domain problem task spelled) (spelled_objects domain problem task spelled) t.atoms made.fit.listed.known;
      few_variables = omega (arith, length-map t.variables listing, made.fit.within.few_variables);
      each_variable = subst (λ (n : ℕ). AllByRecursion (IsVariable n) (map listing t.variables)) (sym count)
          (variables_lawful (length t.atoms) t.variables made.placed made.fit.within.few_values);
    }

own_names : (domain problem : List ℕ) (task : PlanningTask) → SpellTask domain problem task → HasOwnNames task
own_names domain problem task spelled = record {
  predicates = spelled_predicates domain problem task spelled;
  objects = spelled_objects domain problem task spelled;
  distinct_predicates = distinct_predicates domain problem task spelled;
  distinct_objects = distinct_objects domain problem task spelled;
}

-- what a certificate of that kind is judged by
abbrev judged_by : PlanningTask → TranslatedTask → Judged
judged_by task t = record { task = task; words = map (words_of task.vocabulary) t.atoms; variables = map listing t.variables }

pub held_accepted : (domain problem text : List ℕ) (task : PlanningTask) (t : TranslatedTask) (c : CertificateValue) → SpellTask domain problem task → IsTranslation task t
    → c.kind ≡ translation_kind task t → IsHeld t.task c → IsLawful c → length text ≤ 2 ^ 30 → text ≡ spelling c → IsAnswer domain problem text (Accepted c.bound)
held_accepted domain problem text task t c spelled made kind held lawful short is = record {
  judged = judged_by task t;
  certificate = c;
  spelled = record { task_spelled = spelled; certificate_spelled = record { short = short; lawful = lawful; spelled = is; kind = kind } };
  holds = translation_verdict (judged_by task t) c (Accepted c.bound) t t.task made
      (sym (atoms_again task t.atoms (own_names domain problem task spelled) made.fit.listed.known)) (sym (variables_again t.variables)) refl (refl, held);
}
