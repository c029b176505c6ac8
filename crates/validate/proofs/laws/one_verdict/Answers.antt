use Rattle.validate.specs.Validation.{verdict_of}
use Rattle.validate.proofs.VerdictTheorem.{verdict_holds, one_verdict_is}
use Rattle.validate.proofs.laws.one_verdict.Goals as goal

pub returns : goal.returns
returns c = record {
  some = λ task steps. (verdict_of task steps, verdict_holds task steps);
  unique = one_verdict_is;
}
