use Rattle.std.proofs.Common.{◌∙◌, ap, sym}
use Rattle.std.specs.Prelude.{Some}
use Rattle.std.proofs.lemmas.Option.{slice_get-get_or}
use Rattle.worker.proofs.Rows.{matched_up}
use Rattle.worker.proofs.matching.match_in_rows.Goals as goal

pub match_up-requires : goal.match_up-requires
match_up-requires g c =
    c.requires.linked c.index_mut.result.now c.index_mut-2.result.now
    (slice_get-get_or c.args.outs.now.items c.args.to c.index_mut.result.now c.requires.to ∙ ap Some (sym c.index_mut.ensures.value))
    (slice_get-get_or c.args.ins.now.items c.args.from c.index_mut-2.result.now c.requires.from ∙ ap Some (sym c.index_mut-2.ensures.value))

pub returns : goal.returns
returns g c =
    matched_up c.args.outs.now.items c.args.to c.index_mut.result.now c.match_up.new.sender c.args.ins.now.items c.args.from
    c.index_mut-2.result.now c.match_up.new.receiver c.match_up.result c.requires.to c.requires.from c.index_mut.ensures.value
    c.index_mut-2.ensures.value c.match_up.ensures.ends c.match_up.ensures.same.0 c.match_up.ensures.same.1 c.match_up.ensures.left
    c.match_up.ensures.count
