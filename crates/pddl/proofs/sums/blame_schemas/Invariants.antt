use Rattle.std.proofs.Common.{◌≡◌, drop, length}
use Rattle.pddl_syntax.specs.Faults.{first_of}
use Rattle.pddl.specs.Sums as spec
use Rattle.pddl.proofs.sums.blame_schemas.Given as goal

abbrev pub invariant-loop-schema : goal.invariant-loop-schema
invariant-loop-schema l =
    first_of l.first (spec.sum_faults (spec.most_known l.greatest.entries) (drop (length l.yielded) l.schemas) (drop (length l.yielded) l.places))
    ≡ first_of l.fn.first (spec.sum_faults (spec.most_known l.greatest.entries) l.schemas l.places)
