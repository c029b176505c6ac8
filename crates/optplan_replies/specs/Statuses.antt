-- Exit statuses.
use Rattle.std.specs.Prelude.{◌≡◌, ◌⊎◌, ℕ}
use Rattle.optplan_replies.specs.declared.status.Status.{Status}
use Rattle.optplan_replies.specs.declared.status.Status.TheVariants.{Done, Refused, Misused, Rejected, Unsolvable, Limited, OutOfMemory, DeviceFailed}

-- the number with which the program exits
abbrev pub status_code : Status → ℕ
status_code Done = 0
status_code Refused = 1
status_code Misused = 2
status_code Rejected = 3
status_code Unsolvable = 4
status_code Limited = 5
status_code OutOfMemory = 6
status_code DeviceFailed = 7

-- the status of a verdict: on a plan that is valid or not, or on a certificate that is accepted or rejected
abbrev pub IsOfVerdict : Status → Type 0
IsOfVerdict status = (status ≡ Done) ⊎ (status ≡ Rejected)
