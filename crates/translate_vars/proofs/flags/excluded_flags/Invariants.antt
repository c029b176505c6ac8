use Rattle.std.proofs.Common.{◌≡◌, map, take}
use Rattle.mutex_index.specs.Groups.{is_excluded}
use Rattle.translate_vars.proofs.flags.excluded_flags.Given as goal

abbrev pub invariant-loop-place : goal.invariant-loop-place
invariant-loop-place l = l.flags.items ≡ map (is_excluded l.index.task l.index.actions) (take l.place l.index.atoms)
