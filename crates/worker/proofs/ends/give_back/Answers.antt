use Rattle.std.proofs.Common.{◌∙◌, ap, sym}
use Rattle.std.specs.Prelude.{Some}
use Rattle.std.proofs.lemmas.Option.{slice_get-get_or}
use Rattle.worker.proofs.Rows.{received_returned, known_returned}
use Rattle.worker.proofs.ends.give_back.Goals as goal

pub give_back-requires-clause-last : goal.give_back-requires-clause-last
give_back-requires-clause-last g c =
    c.requires.last c.index_mut.result.now
    (slice_get-get_or c.args.ins.now.items c.args.from c.index_mut.result.now c.requires.within ∙ ap Some (sym c.index_mut.ensures.value))

pub returns-clause-taken : goal.returns-clause-taken
returns-clause-taken g c = λ values v.
    received_returned values c.args.ins.now.items c.args.from c.index_mut.result.now c.give_back.new.self c.args.message v c.requires.within
    c.index_mut.ensures.value c.give_back.ensures.taken

pub returns-clause-known : goal.returns-clause-known
returns-clause-known g c = λ values.
    known_returned values c.args.ins.now.items c.args.from c.index_mut.result.now c.give_back.new.self c.args.message c.requires.within
    c.give_back.ensures.known
