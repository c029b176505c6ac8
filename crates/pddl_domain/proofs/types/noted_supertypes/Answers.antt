use Rattle.std.proofs.Common.{◌≡◌, ◌<◌, ℕ, List, length, map, subst, sym, ap, ◌∙◌}
use Rattle.std.specs.Prelude.{Option}
use Rattle.std.specs.List.{All, range_with_len}
use Rattle.std.proofs.lemmas.List.FromFn.{length-map-range_with_len}
use Rattle.pddl_syntax.specs.Faults.{first_of}
use Rattle.pddl_domain.specs.declared.types.Subtype.{Subtype}
use Rattle.pddl_domain.specs.Cycles.{lies_on_cycle}
use Rattle.pddl_domain.specs.Types.{first_of_name, first_parent, parent_of, parents, subtype_faults}
use Rattle.pddl_domain.proofs.TypeSteps.{parents_within, parents_are}
use Rattle.pddl_domain.proofs.types.noted_supertypes.Goals as goal

-- the supertypes of the first declarations
supertypes_are : (ds : List Subtype) (count : ℕ) (firsts given : List (Option Subtype)) (made read : List ℕ)
    → firsts ≡ map (first_of_name ds) (range_with_len 0 count) → given ≡ firsts → made ≡ map first_parent given → read ≡ made → read ≡ parents ds count
supertypes_are ds count firsts given made read p q r s = s ∙ r ∙ ap (map first_parent) q ∙ parents_are ds count firsts p

long : (ds : List Subtype) (count : ℕ) (read : List ℕ) → read ≡ parents ds count → length read ≡ count
long ds count read e = ap length e ∙ length-map-range_with_len (parent_of ds) 0 count

pub blame_declarations-requires-clause-names_in : goal.blame_declarations-requires-clause-names_in
blame_declarations-requires-clause-names_in c =
    let ds = c.args.subtypes.now in let count = c.args.count in let read = c.deref-3.result.now in
    let e : read ≡ parents ds count =
    supertypes_are ds count c.in_ok-firsts.firsts.items c.deref.result.now c.in_ok-supertypes.supertypes.items read c.in_ok-firsts.ensures c.deref.ensures.value c.in_ok-supertypes.ensures c.deref-3.ensures.value in
    subst (λ (k : ℕ). All (λ (d : Subtype). d.name < k) ds) (sym (long ds count read e)) c.requires.names_in

pub blame_declarations-requires-clause-firsts : goal.blame_declarations-requires-clause-firsts
blame_declarations-requires-clause-firsts c =
    let ds = c.args.subtypes.now in let count = c.args.count in let read = c.deref-3.result.now in
    let e : read ≡ parents ds count =
    supertypes_are ds count c.in_ok-firsts.firsts.items c.deref.result.now c.in_ok-supertypes.supertypes.items read c.in_ok-firsts.ensures c.deref.ensures.value c.in_ok-supertypes.ensures c.deref-3.ensures.value in
    c.deref-2.ensures.value ∙ c.in_ok-firsts.ensures ∙ sym (ap (λ (k : ℕ). map (first_of_name ds) (range_with_len 0 k)) (long ds count read e))

pub blame_declarations-requires-clause-supertypes_in : goal.blame_declarations-requires-clause-supertypes_in
blame_declarations-requires-clause-supertypes_in c =
    let ds = c.args.subtypes.now in let count = c.args.count in let read = c.deref-3.result.now in
    parents_within count ds c.requires.parents_in read
    (supertypes_are ds count c.in_ok-firsts.firsts.items c.deref.result.now c.in_ok-supertypes.supertypes.items read c.in_ok-firsts.ensures c.deref.ensures.value c.in_ok-supertypes.ensures c.deref-3.ensures.value)

pub returns-clause-supertypes : goal.returns-clause-supertypes
returns-clause-supertypes c =
    c.in_ok-supertypes.ensures ∙ ap (map first_parent) c.deref.ensures.value ∙ parents_are c.args.subtypes.now c.args.count c.in_ok-firsts.firsts.items c.in_ok-firsts.ensures

pub returns-clause-faults : goal.returns-clause-faults
returns-clause-faults c =
    let ds = c.args.subtypes.now in let count = c.args.count in let read = c.deref-3.result.now in
    c.in_ok-blame_declarations.ensures
    ∙ ap (λ (s : List ℕ). first_of c.args.first.now (subtype_faults (first_of_name ds) (lies_on_cycle s) ds))
    (supertypes_are ds count c.in_ok-firsts.firsts.items c.deref.result.now c.in_ok-supertypes.supertypes.items read c.in_ok-firsts.ensures c.deref.ensures.value c.in_ok-supertypes.ensures c.deref-3.ensures.value)
