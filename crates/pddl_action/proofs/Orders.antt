-- The order in which lists of faults are recorded does not change what is recorded, if one has no fault of a limit.
use Rattle.std.proofs.Common.{◌≡◌, ℕ, Bool, true, false, List, [], ◌∷◌, ◌++◌, refl, sym, ap, ◌∙◌, arith, if◌then◌else◌}
use Rattle.std.proofs.lemmas.Bool.Decides.{nat_tests}
use Rattle.std.specs.Prelude.{Option, Some, None, ◌==◌, nat_lt, ◌||◌, ◌&&◌}
use Rattle.sexp.specs.Forms.{Forms}
use Rattle.pddl_syntax.specs.declared.fault.Fault.{Fault}
use Rattle.pddl_syntax.specs.declared.fault.FaultKind.{FaultKind}
use Rattle.pddl_syntax.specs.declared.fault.FaultKind.TheVariants.{Shape, Unsupported, UnknownName, Arity, TwiceDeclared, TypeCycle, NotWhole, CostRange, Limit, GoalBothWays}
use Rattle.pddl_syntax.specs.Faults.{fault, number, precedes, earlier, first_of}
use Rattle.pddl_syntax.proofs.Trees.{first_of_append}
use Rattle.pddl_terms.specs.declared.beginning.Setting.TheVariants.{InCondition}
use Rattle.pddl_terms.specs.Terms.{Scope}
use Rattle.pddl_action.specs.declared.keyword.Keyword.{Keyword}
use Rattle.pddl_action.specs.declared.keyword.Keyword.TheVariants.{Parameters, Precondition, Effect}
use Rattle.pddl_action.specs.Keywords.{KeywordPart}
use Rattle.pddl_action.specs.Actions.{value_faults, values_faults}
use Rattle.pddl_action.specs.Readings.{list_faults, lists_faults, body_faults, bodies_faults}
use Rattle.pddl_action.proofs.Unlimited.{is_limit, NoLimit, no_limit_in_conditions, no_limit_in_effects}

-- ---- two faults

-- the kind with this number, if it is not that of a limit
abbrev kind_of : ℕ → FaultKind
kind_of n =
    if n == 10 then Shape else (if n == 11 then Unsupported else (if n == 12 then UnknownName else (if n == 13 then Arity else (
    if n == 14 then TwiceDeclared else (if n == 15 then TypeCycle else (if n == 16 then NotWhole else (if n == 17 then CostRange else GoalBothWays)))))))

numbered : (k : FaultKind) → is_limit k ≡ false → kind_of (number k) ≡ k
numbered Shape h = refl
numbered Unsupported h = refl
numbered UnknownName h = refl
numbered Arity h = refl
numbered TwiceDeclared h = refl
numbered TypeCycle h = refl
numbered NotWhole h = refl
numbered CostRange h = refl
numbered (Limit table) h = absurd cc
numbered GoalBothWays h = refl

-- no other kind has the number of a limit
limit_number : (k : FaultKind) → is_limit k ≡ false → 18 ≡ number k → ⊥
limit_number Shape h e = omega arith
limit_number Unsupported h e = omega arith
limit_number UnknownName h e = omega arith
limit_number Arity h e = omega arith
limit_number TwiceDeclared h e = omega arith
limit_number TypeCycle h e = omega arith
limit_number NotWhole h e = omega arith
limit_number CostRange h e = omega arith
limit_number (Limit table) h e = cc
limit_number GoalBothWays h e = omega arith

same_kind : (j k : FaultKind) → is_limit k ≡ false → number j ≡ number k → j ≡ k
same_kind Shape k h e = ap kind_of e ∙ numbered k h
same_kind Unsupported k h e = ap kind_of e ∙ numbered k h
same_kind UnknownName k h e = ap kind_of e ∙ numbered k h
same_kind Arity k h e = ap kind_of e ∙ numbered k h
same_kind TwiceDeclared k h e = ap kind_of e ∙ numbered k h
same_kind TypeCycle k h e = ap kind_of e ∙ numbered k h
same_kind NotWhole k h e = ap kind_of e ∙ numbered k h
same_kind CostRange k h e = ap kind_of e ∙ numbered k h
same_kind (Limit table) k h e = absurd (limit_number k h e)
same_kind GoalBothWays k h e = ap kind_of e ∙ numbered k h

abbrev before : ℕ → ℕ → ℕ → ℕ → Bool
before a b x y = nat_lt a b || (a == b && nat_lt x y)

not_both : (a b x y : ℕ) → before a b x y ≡ true → before b a y x ≡ true → ⊥
not_both a b x y h k = grind (arith, nat_tests)

same_place : (a b x y : ℕ) → before a b x y ≡ false → before b a y x ≡ false → a ≡ b
same_place a b x y h k = grind (arith, nat_tests)

same_number : (a b x y : ℕ) → before a b x y ≡ false → before b a y x ≡ false → x ≡ y
same_number a b x y h k = grind (arith, nat_tests)

-- what precedes a fault is not preceded by what does not
kept_before : (a b e x y z : ℕ) → before a e x z ≡ true → before b e y z ≡ false → before b a y x ≡ false
kept_before a b e x y z h k = grind (arith, nat_tests)

same_fault : (f g : Fault) → f.at ≡ g.at → f.kind ≡ g.kind → f ≡ g
same_fault f g p q = ap (λ (at : ℕ). fault f.kind at) p ∙ ap (λ (kind : FaultKind). fault kind g.at) q

alike : (f g : Fault) → is_limit g.kind ≡ false → precedes f g ≡ false → precedes g f ≡ false → f ≡ g
alike f g h p q =
    same_fault f g (same_place f.at g.at (number f.kind) (number g.kind) p q)
    (same_kind f.kind g.kind h (same_number f.at g.at (number f.kind) (number g.kind) p q))

two_by : (f g : Fault) → is_limit g.kind ≡ false → (p q : Bool) → precedes g f ≡ p → precedes f g ≡ q → (if p then Some g else Some f) ≡ (if q then Some f else Some g)
two_by f g h true true p q = absurd (not_both g.at f.at (number g.kind) (number f.kind) p q)
two_by f g h true false p q = refl
two_by f g h false true p q = refl
two_by f g h false false p q = ap (λ (x : Fault). Some x) (alike f g h q p)

two : (f g : Fault) → is_limit g.kind ≡ false → earlier (Some f) g ≡ earlier (Some g) f
two f g h = two_by f g h (precedes g f) (precedes f g) refl refl

kept : (f g : Fault) → precedes g f ≡ false → earlier (Some f) g ≡ Some f
kept f g p = ap (λ (b : Bool). if b then Some g else Some f) p

three_by : (e f g : Fault) → is_limit g.kind ≡ false → (p q : Bool) → precedes f e ≡ p → precedes g e ≡ q
    → earlier (if p then Some f else Some e) g ≡ earlier (if q then Some g else Some e) f
three_by e f g h true true p q = two f g h
three_by e f g h true false p q =
    kept f g (kept_before f.at g.at e.at (number f.kind) (number g.kind) (number e.kind) p q) ∙ sym (ap (λ (b : Bool). if b then Some f else Some e) p)
three_by e f g h false true p q =
    ap (λ (b : Bool). if b then Some g else Some e) q ∙ sym (kept g f (kept_before g.at f.at e.at (number g.kind) (number f.kind) (number e.kind) q p))
three_by e f g h false false p q = kept e g q ∙ sym (kept e f p)

swapped : (known : Option Fault) (f g : Fault) → is_limit g.kind ≡ false → earlier (earlier known f) g ≡ earlier (earlier known g) f
swapped None f g h = two f g h
swapped (Some e) f g h = three_by e f g h (precedes f e) (precedes g e) refl refl

-- ---- two lists of faults

one_later : (known : Option Fault) (f : Fault) (gs : List Fault) → NoLimit gs → first_of (earlier known f) gs ≡ earlier (first_of known gs) f
unfolding first_of
one_later known f [] h = refl
one_later known f (g ∷ gs) (h, hs) = ap (λ (k : Option Fault). first_of k gs) (swapped known f g h) ∙ one_later (earlier known g) f gs hs

exchanged : (known : Option Fault) (fs gs : List Fault) → NoLimit gs → first_of (first_of known fs) gs ≡ first_of (first_of known gs) fs
unfolding first_of
exchanged known [] gs h = refl
exchanged known (f ∷ fs) gs h = exchanged (earlier known f) fs gs h ∙ ap (λ (k : Option Fault). first_of k fs) (one_later known f gs h)

-- ---- the parts of an action

no_limit_in_body : (scope : Scope) (keyword : Keyword) (value : Forms) → NoLimit (body_faults scope keyword value)
no_limit_in_body scope Parameters value = tt
no_limit_in_body scope Precondition value = no_limit_in_conditions InCondition scope value
no_limit_in_body scope Effect value = no_limit_in_effects scope value

of_part : (known : Option Fault) (types : List (List ℕ)) (scope : Scope) (keyword : Keyword) (value : Forms)
    → first_of (first_of known (list_faults types keyword value)) (body_faults scope keyword value) ≡ first_of known (value_faults types scope keyword value)
unfolding first_of value_faults
of_part known types scope Parameters value = refl
of_part known types scope Precondition value = refl
of_part known types scope Effect value = refl

in_turn : (known : Option Fault) (types : List (List ℕ)) (scope : Scope) (ps : List KeywordPart)
    → first_of (first_of known (lists_faults types ps)) (bodies_faults scope ps) ≡ first_of known (values_faults types scope ps)
unfolding first_of
in_turn known types scope [] = refl
in_turn known types scope (p ∷ ps) =
    let list = list_faults types p.keyword p.value in let body = body_faults scope p.keyword p.value in
    let lists = lists_faults types ps in let bodies = bodies_faults scope ps in
    first_of_append (first_of known (list ++ lists)) body bodies
    ∙ ap (λ (k : Option Fault). first_of (first_of k body) bodies) (first_of_append known list lists)
    ∙ ap (λ (k : Option Fault). first_of k bodies) (exchanged (first_of known list) lists body (no_limit_in_body scope p.keyword p.value)
    ∙ ap (λ (k : Option Fault). first_of k lists) (of_part known types scope p.keyword p.value))
    ∙ in_turn (first_of known (value_faults types scope p.keyword p.value)) types scope ps
    ∙ sym (first_of_append known (value_faults types scope p.keyword p.value) (values_faults types scope ps))

-- the faults of the lists of parameters, and then those of the other parts, followed by others
pub in_any_order : (known : Option Fault) (types : List (List ℕ)) (scope : Scope) (ps : List KeywordPart) (later : List Fault)
    → first_of (first_of known (lists_faults types ps)) (bodies_faults scope ps ++ later) ≡ first_of known (values_faults types scope ps ++ later)
in_any_order known types scope ps later =
    first_of_append (first_of known (lists_faults types ps)) (bodies_faults scope ps) later
    ∙ ap (λ (k : Option Fault). first_of k later) (in_turn known types scope ps)
    ∙ sym (first_of_append known (values_faults types scope ps) later)
