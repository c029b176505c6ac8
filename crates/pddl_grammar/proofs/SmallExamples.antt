-- Small chains, numbers, atoms and conditions.
use Rattle.std.proofs.Common.{◌≡◌, ◌<◌, suc, zero, ℕ, Bool, true, false, List, [], ◌∷◌, inl, inr, codes, refl, sym, ◌∙◌, length, slice_get, arith, true≢false}
use Rattle.std.specs.Prelude.{◌≢◌, Some}
use Rattle.std.proofs.lemmas.Option.{none-some, same_Some}
use Rattle.sexp.specs.Forms.{Forms, none, word, group}
use Rattle.pddl_names.specs.Names.{same_text, number_of}
use Rattle.pddl_names.proofs.NameLists.{same_text-equal}
use Rattle.pddl_task.specs.Lifted.{Lifted}
use Rattle.pddl_task.specs.declared.schema.Condition.TheVariants.{Positive, Negative}
use Rattle.pddl_task.specs.declared.schema.Term.TheVariants.{Parameter, Object}
use Rattle.pddl_syntax.specs.declared.fault.FaultKind.TheVariants.{Arity}
use Rattle.pddl_syntax.specs.Faults.{fault}
use Rattle.pddl_syntax.specs.Heads.{Heads}
use Rattle.pddl_terms.specs.Terms.{Scope, lifted, lifted_faults}
use Rattle.pddl_grammar.specs.Atoms.{IsFirstAt, SpellsAtom}
use Rattle.pddl_grammar.proofs.Atoms.{atom_read}
use Rattle.pddl_effect.specs.Conditions.{conditions, conditions_faults}
use Rattle.pddl_grammar.specs.ConditionTrees.{nothing, leaf, all_of, in_order}
use Rattle.pddl_task.specs.Planning.{is_below}
use Rattle.pddl_syntax.specs.declared.number.Number.TheVariants.{Whole, Fraction, NoNumber}
use Rattle.pddl_syntax.specs.Numbers.{number_of as number_in}
use Rattle.pddl_syntax.specs.Typed.{Declared}
use Rattle.pddl_domain.specs.Types.{type_names, supertypes}
use Rattle.pddl_grammar.specs.Chains.{IsBelow}
use Rattle.pddl_grammar.specs.WholeNumbers.{value_of}

-- the first and the second of texts
first : (t : List ℕ) (texts : List (List ℕ)) → IsFirstAt (t ∷ texts) t 0
first t texts = record { there = refl; not_before = λ j lt at. omega (arith, lt) }

second : (s t : List ℕ) (texts : List (List ℕ)) → same_text s t ≡ false → IsFirstAt (s ∷ t ∷ texts) t 1
second s t texts apart = record { there = refl; not_before = before }
  where
    before : (j : ℕ) → j < 1 → slice_get (s ∷ t ∷ texts) j ≢ Some t
    before zero lt at = true≢false (sym (same_text-equal s t (same_Some s t at)) ∙ apart)
    before (suc j) lt at = omega (arith, lt)

-- truck - vehicle vehicle - thing
abbrev vehicles : List Declared
vehicles = record { name = codes "truck"; at = 0; parent = Some (codes "vehicle") } ∷ record { name = codes "vehicle"; at = 16; parent = Some (codes "thing") } ∷ []

abbrev below : List ℕ → List ℕ → Bool
below a b = is_below (supertypes vehicles) (number_of (type_names vehicles) a) (number_of (type_names vehicles) b) (length (supertypes vehicles))

truck_is_thing : below (codes "truck") (codes "thing") ≡ true
truck_is_thing = refl

thing_is_no_truck : below (codes "thing") (codes "truck") ≡ false
thing_is_no_truck = refl

truck_chain : IsBelow vehicles (codes "truck") (codes "thing")
truck_chain = inr (codes "vehicle" ∷ codes "thing" ∷ [], (inl (record { name_is = refl; parent_is = refl }), (inr (inl (record { name_is = refl; parent_is = refl })), refl)))

number_407 : value_of (codes "407") ≡ 407
number_407 = refl

read_407 : number_in (codes "407") ≡ Whole 407
read_407 = refl

read_407_0 : number_in (codes "407.00") ≡ Whole 407
read_407_0 = refl

fraction : number_in (codes "4.5") ≡ Fraction
fraction = refl

point_alone : number_in (codes "4.") ≡ NoNumber
point_alone = refl

-- a predicate `at` of two parameters behind one of none, and what is in scope
abbrev places : Heads
places = record { names = codes "light" ∷ codes "at" ∷ []; arities = 0 ∷ 2 ∷ [] }

abbrev rooms : Scope
rooms = record { predicates = places; functions = record { names = []; arities = [] }; variables = codes "?x" ∷ codes "?y" ∷ []; objects = codes "home" ∷ [] }

-- ?y home
abbrev y_home : Forms
y_home = word 4 6 (codes "?y") (word 7 11 (codes "home") none)

-- ?y alone
abbrev y_alone : Forms
y_alone = word 4 6 (codes "?y") none

-- (at ?y home)
abbrev at_home : Lifted
at_home = record { predicate = 1; terms = Parameter 1 ∷ Object 0 ∷ [] }

at_home_read : lifted places rooms (codes "at") y_home ≡ Some at_home
at_home_read = refl

at_home_spelled : SpellsAtom places rooms (codes "at") y_home at_home
at_home_spelled = record {
  declared = second (codes "light") (codes "at") [] refl;
  arity = refl;
  terms = ((refl, second (codes "?x") (codes "?y") [] refl), ((refl, first (codes "home") []), tt));
}

alone_faults : lifted_faults places rooms 0 1 (codes "at") y_alone ≡ fault Arity 0 ∷ []
alone_faults = refl

no_atom_alone : (a : Lifted) → SpellsAtom places rooms (codes "at") y_alone a → ⊥
no_atom_alone a h = none-some a (atom_read places rooms (codes "at") y_alone a h)

-- (and (p) (and (not (q)) (p))) and nothing else, where p and q are predicates without parameters
abbrev flags : Scope
flags = record {
  predicates = record { names = codes "p" ∷ codes "q" ∷ []; arities = 0 ∷ 0 ∷ [] };
  functions = record { names = []; arities = [] };
  variables = [];
  objects = [];
}

abbrev flag : List ℕ → Forms → Forms
flag name f = group 0 0 (word 0 0 name none) f

abbrev joined : Forms → Forms → Forms
joined parts f = group 0 0 (word 0 0 (codes "and") parts) f

abbrev nested : Forms
nested = joined (flag (codes "p") (joined (group 0 0 (word 0 0 (codes "not") (flag (codes "q") none)) (flag (codes "p") none)) none)) none

abbrev holds : ℕ → Lifted
holds n = record { predicate = n; terms = [] }

nested_faultless : conditions_faults flags nested ≡ []
nested_faultless = refl

nested_read : conditions flags nested ≡ Positive (holds 0) ∷ Negative (holds 1) ∷ Positive (holds 0) ∷ []
nested_read = refl

nested_in_order : in_order (all_of (leaf (Positive (holds 0)) (all_of (leaf (Negative (holds 1)) (leaf (Positive (holds 0)) nothing)) nothing)) nothing) ≡ conditions flags nested
nested_in_order = refl
