-- The lines of verdicts.
use Rattle.std.specs.Prelude.{ℕ, List, ◌++◌, codes, decimal}
use Rattle.std.specs.String.{string_bytes}
use Rattle.checker.specs.Judgements.{violation_text}
use Rattle.optplan_optimal.specs.declared.verdict.OptimalityVerdict.{OptimalityVerdict}
use Rattle.optplan_optimal.specs.declared.verdict.OptimalityVerdict.TheVariants.{Optimal, Gap, CertificateRejected, PlanRejected, Unsolvable, AtLeast, ClaimRejected}

-- the line of a verdict, without its line feed
abbrev pub verdict_text : OptimalityVerdict → List ℕ
verdict_text (Optimal cost) = codes "optimal " ++ decimal cost
verdict_text (Gap cost bound) = codes "valid " ++ (decimal cost ++ (codes ", at least " ++ decimal bound))
verdict_text (CertificateRejected cost v) = codes "valid " ++ (decimal cost ++ (codes ", rejected " ++ violation_text v))
verdict_text (PlanRejected line) = string_bytes line
verdict_text Unsolvable = codes "unsolvable"
verdict_text (AtLeast bound) = codes "at least " ++ decimal bound
verdict_text (ClaimRejected v) = codes "rejected " ++ violation_text v
