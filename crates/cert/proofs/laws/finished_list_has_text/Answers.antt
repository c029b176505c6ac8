use Rattle.cert.proofs.LawfulLists.{has_text}
use Rattle.cert.proofs.laws.finished_list_has_text.Goals as goal

pub returns : goal.returns
returns c task kind bound columns closed limits divided lawful small states cheap few = has_text task limits kind bound columns closed divided lawful small states cheap few
