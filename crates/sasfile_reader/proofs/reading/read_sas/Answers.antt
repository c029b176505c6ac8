use Rattle.std.proofs.Common.{arith, Ok}
use Rattle.sasfile_reader.specs.SasTexts.{SpellsTask}
use Rattle.sasfile_reader.specs.Reading.{task_in}
use Rattle.sasfile_reader.proofs.SoundWhole.{task_sound}
use Rattle.sasfile_reader.proofs.CompleteWhole.{task_complete}
use Rattle.sasfile_reader.proofs.Promises.{found_by, only_by}
use Rattle.sasfile_reader.proofs.reading.read_sas.Goals as goal

pub returns-clause-found : goal.returns-clause-found
returns-clause-found c =
    found_by (SpellsTask c.args.bytes.now) c.whole.result (task_in c.args.bytes.now) c.whole.ensures (λ t h. task_sound c.args.bytes.now t (omega arith) h)

pub returns-clause-only : goal.returns-clause-only
returns-clause-only c = λ task h. only_by c.whole.result (task_in c.args.bytes.now) (Ok task) (task_complete c.args.bytes.now task (omega arith) h) c.whole.ensures
