-- What is first among faults, and what holds of results.
pub use Rattle.sexp.proofs.Walking.{word_is, list_is, at_tree, views_at, behind_before}
use Rattle.std.proofs.Common.{◌≡◌, List, [], ◌∷◌, ◌++◌, refl, sym, ap, ◌∙◌}
use Rattle.std.specs.Prelude.{Option, Result, Ok, Err, OnOk, IfOk}
use Rattle.pddl_syntax.specs.declared.fault.Fault.{Fault}
use Rattle.pddl_syntax.specs.Faults.{earlier, first_of}

-- faults in two lists are noted one list after the other
pub first_of_append : (known : Option Fault) (fs gs : List Fault) → first_of known (fs ++ gs) ≡ first_of (first_of known fs) gs
unfolding first_of
first_of_append known [] gs = refl
first_of_append known (f ∷ fs) gs = first_of_append (earlier known f) fs gs

pub first_of_nil : (known : Option Fault) → first_of known [] ≡ known
unfolding first_of
first_of_nil known = refl

pub first_of_cons : (known : Option Fault) (f : Fault) (fs : List Fault) → first_of known (f ∷ fs) ≡ first_of (earlier known f) fs
unfolding first_of
first_of_cons known f fs = refl

-- faults that were noted
pub noted : (old new : Option Fault) (fs gs : List Fault) → new ≡ first_of old fs → first_of old (fs ++ gs) ≡ first_of new gs
noted old new fs gs e = first_of_append old fs gs ∙ ap (λ (k : Option Fault). first_of k gs) (sym e)

-- a change of what holds of a result
pub on_ok : {A E : Type 0} (r : Result A E) (P Q : Type 0) → (P → Q) → OnOk r P → OnOk r Q
on_ok (Ok x) P Q f h = f h
on_ok (Err e) P Q f h = h

pub if_ok : {A E : Type 0} (r : Result A E) (P Q : A → Type 0) → ((x : A) → P x → Q x) → IfOk r P → IfOk r Q
if_ok (Ok x) P Q f h = f x h
if_ok (Err e) P Q f h = h

pub on_ok_3 : {A E : Type 0} (r : Result A E) (P Q R S : Type 0) → (P → Q → R → S) → OnOk r P → OnOk r Q → OnOk r R → OnOk r S
on_ok_3 (Ok x) P Q R S f p q s = f p q s
on_ok_3 (Err e) P Q R S f p q s = tt

-- for a function that notes faults: `using(pddl_syntax::proofs::Trees::noting)`
pub ruleset noting = (first_of_append)
