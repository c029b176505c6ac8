use Rattle.std.proofs.Common.{◌∙◌}
use Rattle.pddl_syntax.specs.Typed.{spread}
use Rattle.pddl_domain.proofs.TypeSteps.{names_within, supertypes_within}
use Rattle.pddl_domain.proofs.types.declared_supertypes.Goals as goal

pub noted_supertypes-requires-clause-names_in : goal.noted_supertypes-requires-clause-names_in
noted_supertypes-requires-clause-names_in c =
    names_within c.args.names.now (spread c.args.runs.now) c.deref.result.now c.len.result c.requires (c.deref.ensures.value ∙ c.in_ok-subtypes.ensures) c.len.ensures

pub noted_supertypes-requires-clause-parents_in : goal.noted_supertypes-requires-clause-parents_in
noted_supertypes-requires-clause-parents_in c =
    supertypes_within c.args.names.now (spread c.args.runs.now) c.deref.result.now c.len.result c.requires (c.deref.ensures.value ∙ c.in_ok-subtypes.ensures) c.len.ensures
