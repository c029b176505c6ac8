use Rattle.std.proofs.Common.{refl}
use Rattle.cert_text.specs.Lamp.{lamp_text}
use Rattle.cert_text.proofs.Worked.{read}
use Rattle.cert_text.proofs.laws.worked_class_lines.Goals as goal

pub returns-clause-no_rows : goal.returns-clause-no_rows
unfolding read lamp_text
returns-clause-no_rows c = refl

pub returns-clause-row_too_many : goal.returns-clause-row_too_many
unfolding read lamp_text
returns-clause-row_too_many c = refl

pub returns-clause-row_missing : goal.returns-clause-row_missing
unfolding read lamp_text
returns-clause-row_missing c = refl

pub returns-clause-text_ends : goal.returns-clause-text_ends
unfolding read lamp_text
returns-clause-text_ends c = refl

pub returns-clause-no_classes : goal.returns-clause-no_classes
unfolding read lamp_text
returns-clause-no_classes c = refl

pub returns-clause-version_2 : goal.returns-clause-version_2
unfolding read lamp_text
returns-clause-version_2 c = refl

pub returns-clause-version_1 : goal.returns-clause-version_1
unfolding read lamp_text
returns-clause-version_1 c = refl

pub returns-clause-version_4 : goal.returns-clause-version_4
unfolding read lamp_text
returns-clause-version_4 c = refl
