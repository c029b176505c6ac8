use Rattle.std.proofs.Common.{map, ap, ◌∙◌}
use Rattle.pddl_terms.specs.Terms.{Scope}
use Rattle.pddl_action.specs.Keywords.{part_of}
use Rattle.pddl_action.specs.Actions.{schema_in}
use Rattle.pddl_action.proofs.Schemas.{schema_same}
use Rattle.pddl_action.proofs.schema.read_schema_in.Goals as goal

pub returns-clause-meaning : goal.returns-clause-meaning
returns-clause-meaning c =
    let ps = map part_of c.args.parts.now in
    c.schema.ensures
    ∙ schema_same c.args.parameters.items c.scope-scope.result ps _ _ _ c.in_ok-body.ensures.precondition c.in_ok-body.ensures.effects c.in_ok-body.ensures.increases
    ∙ ap (λ (scope : Scope). schema_in c.args.parameters.items scope ps) c.scope-scope.ensures
