-- Distinct atoms of a task, one more at a time.
use Rattle.std.proofs.Common.{◌≡◌, ◌≢◌, ℕ, zero, suc, ◌+◌, ◌<◌, ◌≤◌, true, false, List, [], ◌∷◌, ◌++◌, length, get_or, take, Some, refl, sym, ap, ◌∙◌, arith, subst, ⊎_elim}
use Rattle.std.specs.Prelude.{slice_get, All}
use Rattle.std.proofs.Math.Seq.{take-suc}
use Rattle.std.proofs.lemmas.List.{get_or_default}
use Rattle.std.proofs.lemmas.List.Quantifiers.{all_pairs_push}
use Rattle.ground_atoms.specs.Order.{AreDistinct, with_atom}
use Rattle.std.proofs.lemmas.Bool.{both_ways, cases_lt}
use Rattle.std.proofs.lemmas.Option.{slice_get_within, slice_get_read, get_or_from_slice_get}
use Rattle.pddl_task.specs.Atoms.{Atom, contains}
use Rattle.pddl_task.specs.Planning.{PlanningTask, IsAtomOf}
use Rattle.pddl_task.proofs.Lists.{mem_get, all_mem, mem_from_contains, get_of_mem}
use Rattle.pddl_task.proofs.AtomLaws.{contains_mem, mem_contains}
use Rattle.mutex_index.proofs.IndexLaws.{get_of_within}
use Rattle.translate_vars.specs.Faults.{AreAtomsOf, IsBadAtom}

-- an element of a longer beginning is one of a shorter, or the one at its end
pub taken_get : (atoms : List Atom) (i k : ℕ) (p : Atom) → slice_get (take i atoms) k ≡ Some p → (k < i) × (slice_get atoms k ≡ Some p)
taken_get [] zero k p e = cc e
taken_get [] (suc i) k p e = cc e
taken_get (x ∷ atoms) zero k p e = cc e
taken_get (x ∷ atoms) (suc i) zero p e = (omega arith, e)
taken_get (x ∷ atoms) (suc i) (suc k) p e = let w = taken_get atoms i k p e in (omega (arith, w.0), w.1)

pub get_taken : (atoms : List Atom) (i k : ℕ) (p : Atom) → k < i → slice_get atoms k ≡ Some p → slice_get (take i atoms) k ≡ Some p
get_taken [] i k p l e = cc e
get_taken (x ∷ atoms) zero k p l e = absurd (omega arith)
get_taken (x ∷ atoms) (suc i) zero p l e = e
get_taken (x ∷ atoms) (suc i) (suc k) p l e = get_taken atoms i k p (omega arith) e

module _ (task : PlanningTask) (atoms : List Atom) (i : ℕ) (p : Atom) (low : i < length atoms) (is : p ≡ get_or atoms i p) where
  next_taken : take (suc i) atoms ≡ take i atoms ++ p ∷ []
  next_taken = take-suc atoms i p low ∙ ap (λ (q : Atom). take i atoms ++ q ∷ []) (sym is)

  here : slice_get atoms i ≡ Some p
  here = slice_get_read atoms (length atoms) i p refl low is

  pub one_more_listed : AreAtomsOf task (take i atoms) → IsAtomOf task p → contains (take i atoms) p ≡ false → AreAtomsOf task (take (i + 1) atoms)
  one_more_listed before known new =
      let s : suc i ≡ i + 1 = omega arith in
      subst (λ n. AreAtomsOf task (take n atoms)) s (record {
        known = λ k q e.
            let w = taken_get atoms (suc i) k q e in
            ⊎_elim
            (λ (l : k < i). before.known k q (get_taken atoms i k q l w.1))
            (λ (g : i ≤ k). let same : k ≡ i = omega (arith, w.0, g) in
            let there : slice_get atoms i ≡ Some q = subst (λ n. slice_get atoms n ≡ Some q) same w.1 in
            let both : p ≡ q = cc (here, there) in
            rw (← both) known)
            (cases_lt k i);
        distinct = subst (λ (xs : List Atom). AreDistinct xs) (sym next_taken) (all_pairs_push (λ p q. p ≢ q) (take i atoms) p before.distinct
            (λ k d l e. both_ways (contains (take i atoms) p) new (mem_contains (take i atoms) p (mem_from_contains (take i atoms) p
            (k, l, get_or_default (take i atoms) k p d l ∙ e)))));
      })

  last_taken : slice_get (take (suc i) atoms) i ≡ Some p
  last_taken = get_taken atoms (suc i) i p (omega arith) here

  pub bad_if_unknown : AreAtomsOf task (take i atoms) → (IsAtomOf task p → ⊥) → IsBadAtom task atoms i
  bad_if_unknown before unknown = record {
    there = low;
    before = before;
    bad = λ are. unknown (are.known i p last_taken);
  }

  pub bad_if_repeated : AreAtomsOf task (take i atoms) → contains (take i atoms) p ≡ true → IsBadAtom task atoms i
  bad_if_repeated before repeated = record {
    there = low;
    before = before;
    bad = λ are.
        let w = get_of_mem (take i atoms) p (contains_mem (take i atoms) p repeated) in
        let v = taken_get atoms i w.0 p w.1 in
        let first : slice_get (take (suc i) atoms) w.0 ≡ Some p = get_taken atoms (suc i) w.0 p (omega (arith, v.0)) v.1 in
        let size = slice_get_within (take (suc i) atoms) i p last_taken in
        are.distinct w.0 i p v.0 size
        (get_or_from_slice_get (take (suc i) atoms) w.0 p p first ∙ sym (get_or_from_slice_get (take (suc i) atoms) i p p last_taken));
  }

pub listed_with : (atoms : List Atom) (i : ℕ) (p : Atom) → i < length atoms → p ≡ get_or atoms i p → (now after : List Atom) → now ≡ take i atoms
    → contains (take i atoms) p ≡ false → after ≡ with_atom now p → after ≡ take (i + 1) atoms
listed_with atoms i p low is now after e new g =
    let s : suc i ≡ i + 1 = omega arith in
    let out : contains now p ≡ false = ap (λ (xs : List Atom). contains xs p) e ∙ new in
    let put : with_atom now p ≡ now ++ p ∷ [] = rw out refl in
    g ∙ put ∙ ap (λ (xs : List Atom). xs ++ p ∷ []) e ∙ ap (λ (q : Atom). take i atoms ++ q ∷ []) is ∙ sym (take-suc atoms i p low) ∙ ap (λ n. take n atoms) s

pub all_known : (task : PlanningTask) (atoms : List Atom) → AreAtomsOf task atoms → All (IsAtomOf task) atoms
all_known task atoms are k d l =
    let x = get_of_within atoms k l in
    rw (get_or_from_slice_get atoms k x.0 d x.1) (are.known k x.0 x.1)

pub known_at : (task : PlanningTask) (atoms : List Atom) → All (IsAtomOf task) atoms → AreDistinct atoms → AreAtomsOf task atoms
known_at task atoms all distinct = record {
  known = λ k p e. all_mem (IsAtomOf task) atoms p all (mem_get atoms k p e);
  distinct = distinct;
}
