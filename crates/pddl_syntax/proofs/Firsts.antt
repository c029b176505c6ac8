-- The fault that is kept is the first, and where none is kept there is none.
use Rattle.std.proofs.Common.{◌≡◌, ℕ, Bool, true, false, List, [], ◌∷◌, refl, sym, ap, subst, ◌∙◌, arith, inl, inr, if◌then◌else◌}
use Rattle.std.proofs.lemmas.Bool.Decides.{nat_tests}
use Rattle.std.specs.Prelude.{Option, Some, None, ◌⊎◌, ◌==◌, nat_lt, ◌||◌, ◌&&◌}
use Rattle.pddl_syntax.specs.declared.fault.Fault.{Fault}
use Rattle.pddl_syntax.specs.Faults.{number, precedes, earlier, first_of, IsOneOf, IsFirst}

asym : (a b x y : ℕ) → (nat_lt a b || (a == b && nat_lt x y)) ≡ true → (nat_lt b a || (b == a && nat_lt y x)) ≡ false
asym a b x y h = grind (arith, nat_tests)

not_between : (a b c x y z : ℕ) → (nat_lt a b || (a == b && nat_lt x y)) ≡ false → (nat_lt b c || (b == c && nat_lt y z)) ≡ false → (nat_lt a c || (a == c && nat_lt x z)) ≡ false
not_between a b c x y z h k = grind (arith, nat_tests)

same : (a x : ℕ) → (nat_lt a a || (a == a && nat_lt x x)) ≡ false
same a x = grind (arith, nat_tests)

-- kept so far, or still to come
abbrev Known : Option Fault → List Fault → Fault → Type 0
Known k fs f = (k ≡ Some f) ⊎ IsOneOf fs f

some : {A : Type 0} (x y : A) → Some x ≡ Some y → x ≡ y
some x y e = cc

record Least (k : Option Fault) (fs : List Fault) (e : Fault) : Type 0 where
  there : Known k fs e
  least : (f : Fault) → Known k fs f → precedes f e ≡ false

at_self : (e : Fault) → precedes e e ≡ false
at_self e = same e.at (number e.kind)

known_only : (k : Option Fault) (e f : Fault) → k ≡ Some e → Known k [] f → precedes f e ≡ false
known_only k e f h (inl s) = subst (λ (x : Fault). precedes x e ≡ false) (some e f (sym h ∙ s)) (at_self e)
known_only k e f h (inr m) = absurd m

first_goes : (f : Fault) (fs : List Fault) (e : Fault) → Known (Some f) fs e → IsOneOf (f ∷ fs) e
first_goes f fs e (inl s) = inl (sym (some f e s))
first_goes f fs e (inr m) = inr m

new_there : (k : Option Fault) (f : Fault) (fs : List Fault) (e : Fault) → Known (Some f) fs e → Known k (f ∷ fs) e
new_there k f fs e h = inr (first_goes f fs e h)

old_there : (k : Option Fault) (f : Fault) (fs : List Fault) (e : Fault) → Known k fs e → Known k (f ∷ fs) e
old_there k f fs e (inl s) = inl s
old_there k f fs e (inr m) = inr (inr m)

only_new : (f : Fault) (fs : List Fault) (e : Fault) → Least (Some f) fs e → (g : Fault) → Known None (f ∷ fs) g → precedes g e ≡ false
only_new f fs e r g (inl s) = absurd cc
only_new f fs e r g (inr (inl s)) = r.least g (inl (ap (λ (x : Fault). Some x) (sym s)))
only_new f fs e r g (inr (inr m)) = r.least g (inr m)

between : (d f e : Fault) → precedes d f ≡ false → precedes f e ≡ false → precedes d e ≡ false
between d f e h k = not_between d.at f.at e.at (number d.kind) (number f.kind) (number e.kind) h k

new_kept : (d f : Fault) (fs : List Fault) (e : Fault) → precedes f d ≡ true → Least (Some f) fs e → (g : Fault) → Known (Some d) (f ∷ fs) g → precedes g e ≡ false
new_kept d f fs e t r g (inl s) =
    subst (λ (x : Fault). precedes x e ≡ false) (some d g s) (between d f e (asym f.at d.at (number f.kind) (number d.kind) t) (r.least f (inl refl)))
new_kept d f fs e t r g (inr (inl s)) = r.least g (inl (ap (λ (x : Fault). Some x) (sym s)))
new_kept d f fs e t r g (inr (inr m)) = r.least g (inr m)

old_kept : (d f : Fault) (fs : List Fault) (e : Fault) → precedes f d ≡ false → Least (Some d) fs e → (g : Fault) → Known (Some d) (f ∷ fs) g → precedes g e ≡ false
old_kept d f fs e t r g (inl s) = r.least g (inl s)
old_kept d f fs e t r g (inr (inl s)) = subst (λ (x : Fault). precedes x e ≡ false) (sym s) (between f d e t (r.least d (inl refl)))
old_kept d f fs e t r g (inr (inr m)) = r.least g (inr m)

by_test : (d f : Fault) (fs : List Fault) (e : Fault) (t : Bool) → precedes f d ≡ t → Least (if t then Some f else Some d) fs e → Least (Some d) (f ∷ fs) e
by_test d f fs e true t r = record { there = new_there (Some d) f fs e r.there; least = new_kept d f fs e t r }
by_test d f fs e false t r = record { there = old_there (Some d) f fs e r.there; least = old_kept d f fs e t r }

join : (k : Option Fault) (f : Fault) (fs : List Fault) (e : Fault) → Least (earlier k f) fs e → Least k (f ∷ fs) e
join None f fs e r = record { there = new_there None f fs e r.there; least = only_new f fs e r }
join (Some d) f fs e r = by_test d f fs e (precedes f d) refl r

first_least : (k : Option Fault) (fs : List Fault) (e : Fault) → first_of k fs ≡ Some e → Least k fs e
unfolding first_of
first_least k [] e h = record { there = inl h; least = λ f m. known_only k e f h m }
first_least k (f ∷ fs) e h = join k f fs e (first_least (earlier k f) fs e h)

unknown : (fs : List Fault) (e : Fault) → Known None fs e → IsOneOf fs e
unknown fs e (inl s) = absurd cc
unknown fs e (inr m) = m

-- what is kept of these faults is the first of them
pub kept_is_first : (fs : List Fault) (e : Fault) → first_of None fs ≡ Some e → IsFirst fs e
kept_is_first fs e h =
    let r = first_least None fs e h in
    record { there = unknown fs e r.there; least = λ f m. r.least f (inr m) }

stays_by : (d f : Fault) (fs : List Fault) (t : Bool) → ((k : Fault) → first_of (Some k) fs ≡ None → ⊥) → first_of (if t then Some f else Some d) fs ≡ None → ⊥
stays_by d f fs true go h = go f h
stays_by d f fs false go h = go d h

stays : (d : Fault) (fs : List Fault) → first_of (Some d) fs ≡ None → ⊥
unfolding first_of
stays d [] h = cc
stays d (f ∷ fs) h = stays_by d f fs (precedes f d) (λ k. stays k fs) h

-- where none is kept there is none
pub none_kept : (fs : List Fault) → first_of None fs ≡ None → fs ≡ []
unfolding first_of
none_kept [] h = refl
none_kept (f ∷ fs) h = absurd (stays f fs h)
