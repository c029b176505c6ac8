use Rattle.optplan_pddl.proofs.KindLaws.{kind_lawful}
use Rattle.optplan_pddl.proofs.certificate_laws.translation_kind_has_text.Goals as goal

pub returns : goal.returns
returns c = kind_lawful
