use Rattle.sasfile_reader.proofs.Promises.{one_reading_is}
use Rattle.sasfile_reader.proofs.laws.one_reading.Goals as goal

pub returns : goal.returns
returns c = one_reading_is
