use Rattle.std.proofs.Common.{◌≡◌, drop, false}
use Rattle.sexp.specs.Forms.{views}
use Rattle.pddl_syntax.specs.Faults.{first_of}
use Rattle.pddl_syntax.specs.Typed.{spread, declared}
use Rattle.pddl_domain.specs.Objects.{objects_with, object_faults, objects_faults}
use Rattle.pddl_domain.proofs.objects.objects_section.Given as goal

abbrev pub invariant-loop-run : goal.invariant-loop-run
invariant-loop-run l = record {
  objects : objects_with l.types.names l.objects (spread (drop l.run-index l.run-items)) ≡ objects_with l.types.names l.fn.objects (declared false (views l.fn.items));
  faults : first_of l.first (object_faults l.types.names l.objects (spread (drop l.run-index l.run-items))) ≡ first_of l.fn.first (objects_faults l.types.names l.fn.objects l.home (views l.fn.items));
}
