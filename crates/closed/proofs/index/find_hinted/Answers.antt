use Rattle.std.proofs.Common.{◌∙◌, Some, sym, ap}
use Rattle.std.proofs.lemmas.Option.{slice_get-get_or}
use Rattle.closed.proofs.Indexing.{search_found}
use Rattle.closed.proofs.index.find_hinted.Goals as goal

pub returns-in-Some-clause-index : goal.returns-in-Some-clause-index
returns-in-Some-clause-index g c =
    search_found g.F.PartialEq.eq g.F.Hash.hash_input g.met.F.Eq.laws g.met.F.Hash.respects_eq c.args.rows.now c.args.slots.now c.args.form.now _ c.in-Some.row.now c.requires.indexed
    (slice_get-get_or c.args.rows.now _ c.in-Some.row.now c.in-Some.ensures.lookup.3.0 ∙ ap Some (sym (c.in-Some.ensures.lookup.3.1 c.in-Some.row.now))) (sym c.eq.ensures ∙ c.if-eq.true)
