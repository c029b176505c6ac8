use Rattle.sasfile_reader.proofs.Promises.{spelled_or_not_is}
use Rattle.sasfile_reader.proofs.laws.spelled_or_not.Goals as goal

pub returns : goal.returns
returns c = spelled_or_not_is
