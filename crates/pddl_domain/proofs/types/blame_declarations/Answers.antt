use Rattle.std.proofs.Common.{◌≡◌, ◌<◌, ℕ, List, length, subst, sym, ap, ◌∙◌}
use Rattle.std.specs.List.{All}
use Rattle.std.proofs.lemmas.List.FromFn.{length-map-range_with_len}
use Rattle.pddl_syntax.specs.Faults.{first_of}
use Rattle.pddl_domain.specs.declared.types.Subtype.{Subtype}
use Rattle.pddl_domain.specs.Cycles.{lies_on_cycle}
use Rattle.pddl_domain.specs.Types.{first_of_name}
use Rattle.pddl_domain.proofs.TypeSteps.{table_faults}
use Rattle.pddl_domain.proofs.types.blame_declarations.Goals as goal

-- a table of this many has each number of these declarations
in_table : (ds : List Subtype) (m n : ℕ) → n ≡ m → All (λ (d : Subtype). d.name < m) ds → All (λ (d : Subtype). d.name < n) ds
in_table ds m n e h = subst (λ (k : ℕ). All (λ (d : Subtype). d.name < k) ds) (sym e) h

pub blame_subtypes-requires-clause-first_in : goal.blame_subtypes-requires-clause-first_in
blame_subtypes-requires-clause-first_in c =
    let ds = c.args.subtypes.now in let count = length c.args.supertypes.now in
    in_table ds count (length c.args.firsts.now) (ap length c.requires.firsts ∙ length-map-range_with_len (first_of_name ds) 0 count) c.requires.names_in

pub blame_subtypes-requires-clause-cyclic_in : goal.blame_subtypes-requires-clause-cyclic_in
blame_subtypes-requires-clause-cyclic_in c =
    let count = length c.args.supertypes.now in
    in_table c.args.subtypes.now count (length c.deref.result.now)
    (ap length (c.deref.ensures.value ∙ c.in_ok-cyclic.ensures) ∙ length-map-range_with_len (lies_on_cycle c.args.supertypes.now) 0 count) c.requires.names_in

pub returns : goal.returns
returns c =
    let ds = c.args.subtypes.now in let supertypes = c.args.supertypes.now in
    c.blame_subtypes.ensures
    ∙ ap (first_of c.args.first.now) (table_faults (length supertypes) ds c.requires.names_in (first_of_name ds) (lies_on_cycle supertypes)
    c.args.firsts.now c.requires.firsts c.deref.result.now (c.deref.ensures.value ∙ c.in_ok-cyclic.ensures))
