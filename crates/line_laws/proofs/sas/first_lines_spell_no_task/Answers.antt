use Rattle.line_laws.proofs.SasPromises.{nothing_spelled_is}
use Rattle.line_laws.proofs.sas.first_lines_spell_no_task.Goals as goal

pub returns : goal.returns
returns c = nothing_spelled_is
