use Rattle.std.proofs.Common.{refl}
use Rattle.cert_text.specs.Lamp.{lamp_text, lamp_text_with, lamp_certificate}
use Rattle.cert_text.proofs.Worked.{read, lamp_written}
use Rattle.cert_text.proofs.laws.worked_classes.Goals as goal

pub returns-clause-read : goal.returns-clause-read
unfolding read lamp_text lamp_text_with lamp_certificate
returns-clause-read c = refl

pub returns-clause-written : goal.returns-clause-written
returns-clause-written c = lamp_written

pub returns-clause-all_apart : goal.returns-clause-all_apart
unfolding read lamp_text lamp_text_with lamp_certificate
returns-clause-all_apart c = refl

pub returns-clause-all_apart_before_later_fault : goal.returns-clause-all_apart_before_later_fault
unfolding read lamp_text lamp_text_with lamp_certificate
returns-clause-all_apart_before_later_fault c = refl

pub returns-clause-misnumbered : goal.returns-clause-misnumbered
unfolding read lamp_text lamp_text_with lamp_certificate
returns-clause-misnumbered c = refl

pub returns-clause-too_few : goal.returns-clause-too_few
unfolding read lamp_text lamp_text_with lamp_certificate
returns-clause-too_few c = refl

pub returns-clause-none : goal.returns-clause-none
unfolding read lamp_text lamp_text_with lamp_certificate
returns-clause-none c = refl
