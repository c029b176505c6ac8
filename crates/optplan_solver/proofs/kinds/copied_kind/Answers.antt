use Rattle.std.proofs.Common.{ap}
use Rattle.cert_value.specs.Views.{kind_of}
use Rattle.optplan_solver.proofs.KindCopies.{copied_atoms}
use Rattle.optplan_solver.proofs.kinds.copied_kind.Goals as goal

pub returns-in_ok-copied_variables-in-Pddl : goal.returns-in_ok-copied_variables-in-Pddl
returns-in_ok-copied_variables-in-Pddl c =
    let atoms = copied_atoms c.in-Pddl.parts.atoms.items c.in_ok-clone-in-Pddl.field-0.items c.in_ok-clone-in-Pddl.ensures.cases.0 in
    let variables = c.in_ok-copied_variables-in-Pddl.ensures in
    let passed = c.deref.ensures.value in
    let same = ap kind_of c.in-Pddl.is in
    cc
