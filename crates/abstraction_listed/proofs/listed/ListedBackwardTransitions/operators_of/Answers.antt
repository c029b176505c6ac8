use Rattle.std.proofs.Common.{◌≡◌, ◌∙◌}
use Rattle.abstraction_listed.specs.Affecting.{affecting}
use Rattle.abstraction_listed.proofs.OperatorLaws.{one_operator}
use Rattle.abstraction_listed.proofs.listed.ListedBackwardTransitions.operators_of.Goals as goal

pub returns-clause-operators : goal.returns-clause-operators
returns-clause-operators g c o =
    let task = g.A.Abstraction.task c.args.self.now in
    let a = g.A.Abstraction.abstraction c.args.self.now in
    let class = c.args.class in
    let operators : c.deref.result.now ≡ affecting task a =
    c.deref.ensures.value ∙ rw (← c.self.view_is) c.self.invariant.0 in
    rw operators (one_operator task a class c.requires o)
