-- Passes over texts that have no fault, and lists of faults that are empty.
use Rattle.std.proofs.Common.{◌≡◌, List, [], ◌∷◌, ◌++◌, refl}
use Rattle.std.specs.Prelude.{Option, Some, None}
use Rattle.sexp.specs.Forms.{Forms}
use Rattle.pddl_syntax.specs.declared.fault.Fault.{Fault}
use Rattle.pddl_syntax.specs.Faults.{first_of}
use Rattle.pddl_syntax.proofs.Firsts.{none_kept}
use Rattle.pddl_action.specs.Actions.{each_faults}
use Rattle.pddl.specs.Passes.{Pass, in_file, first_pass}
use Rattle.pddl.specs.Texts.{declarations_of, actions_of, declaring_passes, actions_pass, domain_passes}

pub empty_parts : {X : Type 0} (xs ys : List X) → xs ++ ys ≡ [] → (xs ≡ []) × (ys ≡ [])
empty_parts [] ys e = (refl, e)
empty_parts (x ∷ xs) ys e = absurd cc

pub kept_clean : (p : Pass) (ps : List Pass) → first_pass (p ∷ ps) ≡ None → (first_of None p.faults ≡ None) × (first_pass ps ≡ None)
unfolding first_pass
kept_clean p ps h = by (first_of None p.faults) refl h where
  by : (o : Option Fault) → first_of None p.faults ≡ o → in_file p.file o (first_pass ps) ≡ None → (first_of None p.faults ≡ None) × (first_pass ps ≡ None)
  by None e k = (e, k)
  by (Some f) e k = absurd cc

last_clean : (ps : List Pass) (p : Pass) → first_pass (ps ++ p ∷ []) ≡ None → first_of None p.faults ≡ None
last_clean [] p h = (kept_clean p [] h).0
last_clean (q ∷ ps) p h = last_clean ps p (kept_clean q (ps ++ p ∷ []) h).1

-- no action of a domain without a fault is at fault
pub clear_actions : (d : Forms) → first_pass (domain_passes d) ≡ None → each_faults (declarations_of d) [] (actions_of d) ≡ []
clear_actions d h =
    (empty_parts (each_faults (declarations_of d) [] (actions_of d)) _ (none_kept _ (last_clean (declaring_passes d) (actions_pass d) h))).0
