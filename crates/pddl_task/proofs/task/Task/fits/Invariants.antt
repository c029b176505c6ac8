use Rattle.std.proofs.Common.{◌≡◌, drop, length}
use Rattle.pddl_task.specs.Planning.{fits}
use Rattle.pddl_task.proofs.task.Task.fits.Given as goal

abbrev pub invariant-loop-type_number : goal.invariant-loop-type_number
invariant-loop-type_number l =
    fits l.self (drop (length l.yielded) l.types) (drop (length l.yielded) l.objects) ≡ fits l.self l.types l.objects
