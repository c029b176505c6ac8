use Rattle.std.proofs.Common.{◌≡◌, drop, get_or}
use Rattle.std.specs.Prelude.{None, false}
use Rattle.pddl_syntax.specs.Faults.{first_of}
use Rattle.pddl_domain.specs.Types.{subtype_faults}
use Rattle.pddl_domain.proofs.types.blame_subtypes.Given as goal

abbrev pub invariant-loop-subtype : goal.invariant-loop-subtype
invariant-loop-subtype l =
    first_of l.first (subtype_faults (λ n. get_or l.firsts n None) (λ n. get_or l.cyclic n false) (drop l.subtype-index l.subtypes))
    ≡ first_of l.fn.first (subtype_faults (λ n. get_or l.firsts n None) (λ n. get_or l.cyclic n false) l.subtypes)
