-- Sets of atoms: adding and removing one atom after another.
use Rattle.std.proofs.Common.{◌≡◌, ℕ, ◌<◌, ◌≤◌, ◌+◌, suc, length, drop, get_or, arith, sym, Bool, true, false, ◌&&◌, ◌||◌, not, List, [], ◌∷◌, ◌++◌, refl, ap, ◌∙◌}
use Rattle.std.specs.Prelude.{Result, Ok, Err, OnOk}
use Rattle.std.proofs.Math.Path.{fun_ext}
use Rattle.std.proofs.Math.Seq.{drop-cons}
use Rattle.std.proofs.Math.ListN.{drop_of_length-le}
use Rattle.pddl_task.specs.Atoms.{Atom, State, same_atom, contains}
use Rattle.pddl_task.specs.Planning.{Action}
use Rattle.pddl_task.specs.Plans.{next_state}
use Rattle.validate.specs.States.{added, without}
use Rattle.validate.specs.Validation.{with_all, without_all}

or_shift : (a b c : Bool) → (b || (a || c)) ≡ ((a || b) || c)
or_shift true true c = refl
or_shift true false c = refl
or_shift false true c = refl
or_shift false false c = refl

and_shift : (a b c : Bool) → ((c && not a) && not b) ≡ (c && not (a || b))
and_shift a b false = refl
and_shift true true true = refl
and_shift true false true = refl
and_shift false b true = refl

or_none : (a : Bool) → (a || false) ≡ a
or_none true = refl
or_none false = refl

-- an atom is there that was added, or was there
with_all_at : (state : State) (ps : List Atom) (p : Atom) → with_all state ps p ≡ (contains ps p || state p)
with_all_at state [] p = refl
with_all_at state (q ∷ qs) p = with_all_at (added state q) qs p ∙ or_shift (same_atom p q) (contains qs p) (state p)

-- an atom is there that was there, and was not removed
without_all_at : (state : State) (ps : List Atom) (p : Atom) → without_all state ps p ≡ (state p && not (contains ps p))
without_all_at state [] p = keeps (state p)
  where
    keeps : (b : Bool) → b ≡ (b && true)
    keeps true = refl
    keeps false = refl
without_all_at state (q ∷ qs) p = without_all_at (without state q) qs p ∙ and_shift (same_atom p q) (contains qs p) (state p)

-- added to no atom, the atoms are those of the list
pub with_all_of_none : (ps : List Atom) → with_all (contains []) ps ≡ contains ps
with_all_of_none ps = fun_ext (λ p. with_all_at (contains []) ps p ∙ or_none (contains ps p))

-- what is deleted is removed first, and then what is added is there
pub removed_then_added : (state : State) (a : Action) → with_all (without_all state a.deletes) a.adds ≡ next_state state a
removed_then_added state a =
    fun_ext (λ p. with_all_at (without_all state a.deletes) a.adds p ∙ ap (λ (b : Bool). contains a.adds p || b) (without_all_at state a.deletes p))

-- one atom more, behind the others
pub with_all_push : (state : State) (ps : List Atom) (p : Atom) → with_all state (ps ++ p ∷ []) ≡ added (with_all state ps) p
with_all_push state [] p = refl
with_all_push state (q ∷ qs) p = with_all_push (added state q) qs p

-- the atom at a place is the next one
pub next_one : {X : Type 0} (ps : List X) (i : ℕ) (p : X) → i < length ps → p ≡ get_or ps i p → drop i ps ≡ p ∷ drop (i + 1) ps
next_one {X} ps i p lt is =
    drop-cons ps i p lt ∙ ap (λ (q : X). q ∷ drop (suc i) ps) (sym is) ∙ ap (λ (k : ℕ). p ∷ drop k ps) (let e : suc i ≡ i + 1 = omega arith in e)

-- a step of a loop that adds
pub with_all_next : (state new : State) (ps : List Atom) (i : ℕ) (p q : Atom) → i < length ps → p ≡ get_or ps i p → q ≡ p → new ≡ added state q
    → with_all new (drop (i + 1) ps) ≡ with_all state (drop i ps)
with_all_next state new ps i p q lt is same e =
    ap (λ (s : State). with_all s (drop (i + 1) ps)) (e ∙ ap (added state) same) ∙ sym (ap (with_all state) (next_one ps i p lt is))

-- its end
pub with_all_end : (state : State) (ps : List Atom) (i : ℕ) → length ps ≤ i → with_all state (drop i ps) ≡ state
with_all_end state ps i le = ap (with_all state) (drop_of_length-le ps le)

-- a step of a loop that removes
pub without_all_next : (state new : State) (ps : List Atom) (i : ℕ) (p : Atom) → i < length ps → p ≡ get_or ps i p → new ≡ without state p
    → without_all new (drop (i + 1) ps) ≡ without_all state (drop i ps)
without_all_next state new ps i p lt is e =
    ap (λ (s : State). without_all s (drop (i + 1) ps)) e ∙ sym (ap (without_all state) (next_one ps i p lt is))

-- the state after an action, where nothing failed
pub applied : {T E : Type 0} (r : Result T E) (old mid new : State) (deletes adds : List Atom) (a : Action) → OnOk r (new ≡ with_all mid adds)
    → mid ≡ without_all old deletes → deletes ≡ a.deletes → adds ≡ a.adds → OnOk r (new ≡ next_state old a)
applied (Ok x) old mid new deletes adds a h removed d e =
    h ∙ ap (λ (s : State). with_all s adds) (removed ∙ ap (without_all old) d) ∙ ap (with_all (without_all old a.deletes)) e ∙ removed_then_added old a
applied (Err x) old mid new deletes adds a h removed d e = tt
