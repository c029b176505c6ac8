use Rattle.std.proofs.Common.{◌≡◌, ℕ, ◌<◌, ◌||◌, true}
use Rattle.translate_vars.specs.Flags.{flag_at}
use Rattle.translate_vars.proofs.covering.first_unset.Given as goal

abbrev pub invariant-loop-place : goal.invariant-loop-place
invariant-loop-place l = (k : ℕ) → k < l.place → (flag_at l.constant k || flag_at l.taken k) ≡ true
