use Rattle.cert.proofs.HeldLists.{held_prop, merely_held}
use Rattle.cert.proofs.laws.finished_list_is_held.Goals as goal

pub returns-clause-held : goal.returns-clause-held
returns-clause-held c task kind bound columns closed divided finished rising = merely_held task kind bound columns closed divided finished rising

pub returns-clause-proposition : goal.returns-clause-proposition
returns-clause-proposition c task cert = held_prop task cert
