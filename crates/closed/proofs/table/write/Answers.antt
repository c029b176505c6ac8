use Rattle.std.proofs.Common.{◌≡◌, List, [], ◌∷◌, ◌++◌, length, sym, ap, ◌∙◌, subst, arith}
use Rattle.std.specs.Prelude.{All}
use Rattle.std.proofs.lemmas.List.{length-map}
use Rattle.closed.specs.declared.small_entry.SmallEntry.{SmallEntry}
use Rattle.closed.specs.declared.table.Entry.{Entry}
use Rattle.closed.specs.Tables.{node_with}
use Rattle.closed.specs.Entries.{entry_in, nodes_of, ever_of, with_entry}
use Rattle.closed.proofs.Reached.{outcome_of-Kept}
use Rattle.closed.proofs.Entries.{nodes_of-pushed, nodes_of-set_entry_at, with_entry-reached, All-pushed, All-set_entry_at}
use Rattle.closed.proofs.Indexing.{absent_equal, none_pushed}
use Rattle.closed.proofs.Ever.{padded_same, ever_of-pushed, ever_of-replaced}
use Rattle.closed.proofs.table.write.Goals as goal
use Rattle.closed.proofs.table.write.Goals.{In_ok-index_or_push-in-New}

-- no row had the form, and one was appended
pushed : (g : _) (c : In_ok-index_or_push-in-New g) → c.index_or_push.new.self ≡ c.args.rows.now ++ (c.in_ok-key-in-New.key, c.args.entry) ∷ []
pushed g c =
    let ranges = c.requires.form.0 in
    let form = c.requires.form.1 in
    let key = c.in_ok-key-in-New.key in
    none_pushed c.in_ok-index_or_push-in-New.field-0 _ (c.in_ok-index_or_push-in-New.ensures.index
    ∙ absent_equal g.F.PartialEq.eq g.met.F.Eq.laws c.args.rows.now c.args.form.now key
    (g.met.F.StateForm.equal ranges c.args.form.now key form (c.in_ok-key-in-New.ensures.form ranges form) (sym (c.in_ok-key-in-New.ensures.values ranges form)))
    (c.requires.absent c.in-New.field-0 c.in-New.is)) c.in_ok-index_or_push-in-New.ensures.pushed

pub returns-in_ok-index_or_push-in-New-clause-keys : goal.returns-in_ok-index_or_push-in-New-clause-keys
returns-in_ok-index_or_push-in-New-clause-keys g c ranges form keys =
    let IsForm = g.F.StateForm.IsForm ranges in
    subst (λ (es : List (g.row.F.Denot × SmallEntry)). All (λ p. IsForm p.0) es) (sym (pushed g c))
    (All-pushed IsForm c.args.rows.now c.in_ok-key-in-New.key c.args.entry (c.in_ok-key-in-New.ensures.form ranges form) keys)

pub returns-in_ok-index_or_push-in-New-clause-nodes : goal.returns-in_ok-index_or_push-in-New-clause-nodes
returns-in_ok-index_or_push-in-New-clause-nodes g c ranges form keys told =
    let values = g.F.StateForm.values ranges in
    ap (λ (es : List (g.row.F.Denot × SmallEntry)). nodes_of values es) (pushed g c)
    ∙ nodes_of-pushed values c.args.rows.now c.in_ok-key-in-New.key c.args.entry (values c.args.form.now) c.in-New.field-0
    (c.in_ok-key-in-New.ensures.values ranges form) (sym told ∙ c.in-New.is)

pub returns-in-Better-clause-keys : goal.returns-in-Better-clause-keys
returns-in-Better-clause-keys g c ranges form keys =
    subst (λ (es : List (g.row.F.Denot × SmallEntry)). All (λ p. g.F.StateForm.IsForm ranges p.0) es) (sym c.set_entry.ensures)
    (All-set_entry_at (g.F.StateForm.IsForm ranges) c.args.rows.now c.in-Better.index c.in_place_of-replacement.result keys)

pub returns-in-Better-clause-nodes : goal.returns-in-Better-clause-nodes
returns-in-Better-clause-nodes g c ranges form keys told =
    let values = g.F.StateForm.values ranges in
    let entries = c.args.rows.now in
    ap (λ (es : List (g.row.F.Denot × SmallEntry)). nodes_of values es) c.set_entry.ensures
    ∙ nodes_of-set_entry_at values entries c.in-Better.index c.in_place_of-replacement.result
    ∙ ap (λ (e : Entry). with_entry (nodes_of values entries) c.in-Better.index e) c.in_place_of-replacement.ensures.entry
    ∙ with_entry-reached (nodes_of values entries) (values c.args.form.now) (entry_in c.args.entry) c.in-Better.index
    (sym told ∙ c.in-Better.is)

pub returns-in-Kept-clause-nodes : goal.returns-in-Kept-clause-nodes
returns-in-Kept-clause-nodes g c ranges form keys told =
    let values = g.F.StateForm.values ranges in
    sym (outcome_of-Kept (nodes_of values c.args.rows.now) (node_with (values c.args.form.now) (entry_in c.args.entry))
    (sym told ∙ c.in-Kept.is)).same

pub returns-in_ok-index_or_push-in-New-clause-ever : goal.returns-in_ok-index_or_push-in-New-clause-ever
returns-in_ok-index_or_push-in-New-clause-ever g c =
    ever_of-pushed c.args.rows.now c.index_or_push.new.self c.in_ok-key-in-New.key c.args.entry (pushed g c) c.requires.never

pub returns-in-Better-clause-ever : goal.returns-in-Better-clause-ever
returns-in-Better-clause-ever g c =
    let rows = c.args.rows.now in
    let same = ap (λ (rs : List (g.row.F.Denot × SmallEntry)). ever_of rs) c.set_entry.ensures
    ∙ ever_of-replaced rows c.in-Better.index c.entry.result c.in_place_of-replacement.result c.entry.ensures c.in_place_of-replacement.ensures.ever in
    same ∙ sym (padded_same (ever_of rows) (length c.set_entry.new.self) (omega (
      arith,
      ap length same,
      length-map rows (λ (p : g.row.F.Denot × SmallEntry). p.1.ever),
      length-map c.set_entry.new.self (λ (p : g.row.F.Denot × SmallEntry). p.1.ever),
    )))

pub returns-in-Kept-clause-ever : goal.returns-in-Kept-clause-ever
returns-in-Kept-clause-ever g c =
    let rows = c.args.rows.now in
    sym (padded_same (ever_of rows) (length rows) (omega (arith, length-map rows (λ (p : g.row.F.Denot × SmallEntry). p.1.ever))))
