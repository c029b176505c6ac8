use Rattle.sasfile_writer.proofs.WholeLaws.{written_is_read}
use Rattle.sasfile_writer.proofs.laws.written_text_is_read.Goals as goal

pub returns : goal.returns
returns c = written_is_read
