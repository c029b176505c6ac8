-- The exit statuses of verdicts.
use Rattle.optplan_replies.specs.declared.status.Status.{Status}
use Rattle.optplan_replies.specs.declared.status.Status.TheVariants as exit
use Rattle.optplan_optimal.specs.declared.verdict.OptimalityVerdict.{OptimalityVerdict}
use Rattle.optplan_optimal.specs.declared.verdict.OptimalityVerdict.TheVariants.{Optimal, Gap, CertificateRejected, PlanRejected, Unsolvable, AtLeast, ClaimRejected}

-- the exit status of a verdict: a plan is optimal, there is no valid plan, or neither is proved
abbrev pub verdict_status : OptimalityVerdict → Status
verdict_status (Optimal cost) = exit.Done
verdict_status (Gap cost bound) = exit.Rejected
verdict_status (CertificateRejected cost v) = exit.Rejected
verdict_status (PlanRejected line) = exit.Rejected
verdict_status Unsolvable = exit.Unsolvable
verdict_status (AtLeast bound) = exit.Rejected
verdict_status (ClaimRejected v) = exit.Rejected
