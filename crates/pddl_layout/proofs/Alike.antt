-- Lists of faults of which both are empty or neither is, wherever the faults are.
use Rattle.std.proofs.Common.{◌≡◌, Bool, true, false, List, [], ◌∷◌, ◌++◌, refl, sym, ap, ◌∙◌, if◌then◌else◌}
use Rattle.pddl_syntax.specs.declared.fault.Fault.{Fault}
use Rattle.pddl_syntax.specs.Faults.{faults_if}

abbrev pub faultless : List Fault → Bool
faultless [] = true
faultless (f ∷ fs) = false

pub record Alike (a b : List Fault) : Type 0 where
  pub same : faultless a ≡ faultless b

pub itself : (a : List Fault) → Alike a a
itself a = record { same = refl }

pub equal_lists : (a b : List Fault) → a ≡ b → Alike a b
equal_lists a b e = record { same = ap faultless e }

pub turned : {a b : List Fault} → Alike a b → Alike b a
turned h = record { same = sym h.same }

pub chained : {a b c : List Fault} → Alike a b → Alike b c → Alike a c
chained h k = record { same = h.same ∙ k.same }

pub faulty : {f g : Fault} {fs gs : List Fault} → Alike (f ∷ fs) (g ∷ gs)
faulty = record { same = refl }

pub clear : Alike [] []
clear = record { same = refl }

joined : (a c b d : List Fault) → faultless a ≡ faultless c → faultless b ≡ faultless d → faultless (a ++ b) ≡ faultless (c ++ d)
joined [] [] b d h k = k
joined [] (f ∷ c) b d h k = absurd cc
joined (f ∷ a) [] b d h k = absurd cc
joined (f ∷ a) (g ∷ c) b d h k = refl

pub both : {a b c d : List Fault} → Alike a c → Alike b d → Alike (a ++ b) (c ++ d)
both {a = a} {b = b} {c = c} {d = d} h k = record { same = joined a c b d h.same k.same }

pub chosen : (t : Bool) {a b c d : List Fault} → Alike a c → Alike b d → Alike (if t then a else b) (if t then c else d)
chosen true h k = h
chosen false h k = k

pub tested : (t : Bool) (f g : Fault) {a b : List Fault} → Alike a b → Alike (faults_if t f a) (faults_if t g b)
tested true f g h = faulty
tested false f g h = h

-- the same for two tests with one result
pub tested_both : (t u : Bool) (f g : Fault) {a b : List Fault} → t ≡ u → Alike a b → Alike (faults_if t f a) (faults_if u g b)
tested_both true true f g e h = faulty
tested_both true false f g e h = absurd cc
tested_both false true f g e h = absurd cc
tested_both false false f g e h = h

none_in : (b : List Fault) → true ≡ faultless b → b ≡ []
none_in [] e = refl
none_in (f ∷ fs) e = absurd cc

-- where one is empty the other is
pub clean_too : (a b : List Fault) → Alike a b → a ≡ [] → b ≡ []
clean_too [] b h e = none_in b h.same
clean_too (f ∷ fs) b h e = absurd cc
