use Rattle.std.proofs.Common.{[], ◌∷◌}
use Rattle.std.proofs.lemmas.Option.{slice_get-get_or}
use Rattle.std.proofs.Common.{◌∙◌, ap, sym}
use Rattle.std.specs.Prelude.{Some}
use Rattle.worker.proofs.Rows.{sent_changed, was_ok}
use Rattle.worker.proofs.ends.push.Goals as goal

pub returns-clause-sent : goal.returns-clause-sent
returns-clause-sent g c = λ values v.
    sent_changed values c.args.outs.now.items c.args.to c.index_mut.result.now c.push-pushed.new.self (c.args.message ∷ []) v c.requires.within
    c.index_mut.ensures.value
    (was_ok c.push-pushed.result _
    (c.push-pushed.ensures.succeeds (c.requires.room c.index_mut.result.now
    (slice_get-get_or c.args.outs.now.items c.args.to c.index_mut.result.now c.requires.within ∙ ap Some (sym c.index_mut.ensures.value))))
    c.push-pushed.ensures.ok)
