use Rattle.std.proofs.Common.{List, ap, ◌∙◌}
use Rattle.pddl_syntax.specs.declared.fault.Fault.{Fault}
use Rattle.pddl_syntax.specs.Faults.{first_of}
use Rattle.pddl_problem.specs.Initial.{values_of}
use Rattle.pddl.proofs.Greatest.{known_faults}
use Rattle.pddl.proofs.sums.blame_sums.Goals as goal

pub returns : goal.returns
returns c =
    c.blame_schemas.ensures
    ∙ ap (λ (fs : List Fault). first_of c.args.first.now fs)
    (known_faults c.in_ok-greatest.greatest.entries (values_of c.args.values.now.entries) c.in_ok-greatest.ensures c.args.schemas.now c.args.places.now)
