-- The goal atoms that are in a set.
use Rattle.std.proofs.Common.{◌≡◌, Bool, true, false, ◌&&◌, not, cond, List, [], ◌∷◌, Some, None, refl, sym}
use Rattle.std.specs.Prelude.{find}
use Rattle.std.specs.List.{cons_option}
use Rattle.std.proofs.lemmas.Bool.{true≢false}
use Rattle.pddl_task.specs.Atoms.{State, Literal, has_wanted}
use Rattle.ground.specs.Rounds.{wanted_atoms}

module _ (set : State) where
  pub all_wanted : (literals : List Literal) → find (λ q. not (set q)) (wanted_atoms literals) ≡ None → has_wanted set literals ≡ true
  all_wanted [] h = refl
  all_wanted (l ∷ literals) h = go l.positive (set l.atom) refl h (all_wanted literals)
    where
      go : (b c : Bool) → set l.atom ≡ c → find (λ q. not (set q)) (cons_option (cond b (Some l.atom) None) (wanted_atoms literals)) ≡ None
          → (find (λ q. not (set q)) (wanted_atoms literals) ≡ None → has_wanted set literals ≡ true)
          → (cond b c true && has_wanted set literals) ≡ true
      go false c e h ih = ih h
      go true true e h ih = ih (rw e at h)
      go true false e h ih = cc (rw e at h)

  -- where the atoms among the literals are in the set, none of them is missing
  pub none_outside : (literals : List Literal) → has_wanted set literals ≡ true → find (λ q. not (set q)) (wanted_atoms literals) ≡ None
  none_outside [] h = refl
  none_outside (l ∷ literals) h = go l.positive (set l.atom) refl h (none_outside literals)
    where
      go : (b c : Bool) → set l.atom ≡ c → (cond b c true && has_wanted set literals) ≡ true
          → (has_wanted set literals ≡ true → find (λ q. not (set q)) (wanted_atoms literals) ≡ None)
          → find (λ q. not (set q)) (cons_option (cond b (Some l.atom) None) (wanted_atoms literals)) ≡ None
      go false c e h ih = ih h
      go true true e h ih = rw e (ih h)
      go true false e h ih = absurd (true≢false (sym h))
