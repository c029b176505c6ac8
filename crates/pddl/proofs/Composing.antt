-- Passes behind one another: the first with a fault decides.
use Rattle.std.proofs.Common.{◌≡◌, List, [], ◌∷◌, ◌++◌, refl, sym, ap, subst, ◌∙◌}
use Rattle.std.specs.Prelude.{Option, Some, None, Result, Ok, Err, IfErr}
use Rattle.pddl_syntax.specs.declared.fault.Fault.{Fault}
use Rattle.pddl_syntax.specs.declared.fault.PlanningFile.{PlanningFile}
use Rattle.pddl_syntax.specs.Faults.{first_of}
use Rattle.pddl.specs.declared.fault.PddlFault.{PddlFault}
use Rattle.pddl.specs.declared.fault.PddlFault.TheVariants.{OutOfMemory, Tree, Section}
use Rattle.pddl.specs.Passes.{Pass, FileFault, in_file, first_pass, Fails, AllFail}

-- a pass without a fault
abbrev pub IsClean : Pass → Type 0
IsClean p = first_of None p.faults ≡ None

found : (p : Pass) (file : PlanningFile) (f : Fault) (later : Option FileFault) → file ≡ p.file → first_of None p.faults ≡ Some f
    → in_file p.file (first_of None p.faults) later ≡ Some (record { file = file; fault = f })
found p file f later same e =
    ap (λ (o : Option Fault). in_file p.file o later) e ∙ ap (λ (x : PlanningFile). Some (record { file = x; fault = f })) (sym same)

pub fails_here : (e : PddlFault) (p : Pass) (ps : List Pass) → Fails e p → AllFail e (p ∷ ps)
unfolding first_pass
fails_here OutOfMemory p ps h = tt
fails_here (Tree file e) p ps h = h
fails_here (Section file f) p ps h = found p file f (first_pass ps) h.0 h.1

pub first_later : (p : Pass) (ps : List Pass) → IsClean p → first_pass (p ∷ ps) ≡ first_pass ps
unfolding first_pass
first_later p ps clean = ap (λ (o : Option Fault). in_file p.file o (first_pass ps)) clean

pub fails_later : (e : PddlFault) (p : Pass) (ps : List Pass) → IsClean p → AllFail e ps → AllFail e (p ∷ ps)
fails_later OutOfMemory p ps clean h = tt
fails_later (Tree file e) p ps clean h = h
fails_later (Section file f) p ps clean h = first_later p ps clean ∙ h

pub clean_later : (p : Pass) (ps : List Pass) → IsClean p → first_pass ps ≡ None → first_pass (p ∷ ps) ≡ None
clean_later p ps clean h = first_later p ps clean ∙ h

pub no_pass : first_pass [] ≡ None
unfolding first_pass
no_pass = refl

in_file_later : (file : PlanningFile) (o : Option Fault) (later rest : Option FileFault) (e : FileFault) → in_file file o later ≡ Some e
    → (later ≡ Some e → rest ≡ Some e) → in_file file o rest ≡ Some e
in_file_later file (Some f) later rest e h go = h
in_file_later file None later rest e h go = go h

-- what fails among the first passes fails among all
found_early : (ps qs : List Pass) (e : FileFault) → first_pass ps ≡ Some e → first_pass (ps ++ qs) ≡ Some e
unfolding first_pass
found_early [] qs e h = absurd cc
found_early (p ∷ ps) qs e h = in_file_later p.file (first_of None p.faults) (first_pass ps) (first_pass (ps ++ qs)) e h (found_early ps qs e)

pub fails_early : (e : PddlFault) (ps qs : List Pass) → AllFail e ps → AllFail e (ps ++ qs)
fails_early OutOfMemory ps qs h = tt
fails_early (Tree file e) ps qs h = h
fails_early (Section file f) ps qs h = found_early ps qs _ h

in_file_none : (file : PlanningFile) (o : Option Fault) (later rest : Option FileFault) → in_file file o later ≡ None
    → (later ≡ None → rest ≡ None) → in_file file o rest ≡ None
in_file_none file (Some f) later rest h go = absurd cc
in_file_none file None later rest h go = go h

-- behind passes without a fault the others decide
pub first_behind : (ps qs : List Pass) → first_pass ps ≡ None → first_pass (ps ++ qs) ≡ first_pass qs
unfolding first_pass
first_behind [] qs h = refl
first_behind (p ∷ ps) qs h = both p.file (first_of None p.faults) (first_pass ps) h (first_behind ps qs) where
  both : (file : PlanningFile) (o : Option Fault) (later : Option FileFault) → in_file file o later ≡ None
      → (later ≡ None → first_pass (ps ++ qs) ≡ first_pass qs) → in_file file o (first_pass (ps ++ qs)) ≡ first_pass qs
  both file (Some f) later h go = absurd cc
  both file None later h go = go h

pub fails_behind : (e : PddlFault) (ps qs : List Pass) → first_pass ps ≡ None → AllFail e qs → AllFail e (ps ++ qs)
fails_behind OutOfMemory ps qs clean h = tt
fails_behind (Tree file e) ps qs clean h = h
fails_behind (Section file f) ps qs clean h = first_behind ps qs clean ∙ h

pub if_err : (r : Result (Unit {0}) PddlFault) (e : PddlFault) (ps : List Pass) → r ≡ Err e → AllFail e ps → IfErr r (λ e. AllFail e ps)
if_err r e ps is h = subst (λ (x : Result (Unit {0}) PddlFault). IfErr x (λ e. AllFail e ps)) (sym is) h

-- what fails behind passes without a fault fails among all
pub if_err_behind : (r : Result (Unit {0}) PddlFault) (ps : List Pass) (p : Pass) → first_pass ps ≡ None → IfErr r (λ e. Fails e p) → IfErr r (λ e. AllFail e (ps ++ p ∷ []))
if_err_behind (Ok u) ps p clean h = tt
if_err_behind (Err e) ps p clean h = fails_behind e ps (p ∷ []) clean (fails_here e p [] h)

pub clean_behind : (ps : List Pass) (p : Pass) → first_pass ps ≡ None → IsClean p → first_pass (ps ++ p ∷ []) ≡ None
clean_behind ps p h clean = first_behind ps (p ∷ []) h ∙ clean_later p [] clean no_pass
