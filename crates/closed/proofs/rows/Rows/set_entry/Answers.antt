use Rattle.std.proofs.Common.{List, ◌<◌, length, refl, sym, ap, ◌∙◌, subst}
use Rattle.std.proofs.lemmas.Option.{slice_get_read}
use Rattle.closed.specs.declared.small_entry.SmallEntry.{SmallEntry}
use Rattle.closed.specs.Entries.{set_entry_at}
use Rattle.closed.specs.Rows.{AreIndexed}
use Rattle.closed.proofs.Indexing.{set_is, indexed_set}
use Rattle.closed.proofs.rows.Rows.set_entry.Goals as goal

pub invariant_of-self : goal.invariant_of-self
invariant_of-self g c =
    let eq = g.F.PartialEq.eq in
    let writes = g.F.Hash.hash_input in
    let rows = c.self.inside.rows.items in
    let slots = c.self.inside.slots.items in
    subst (λ (rs : List (g.row.F.Denot × SmallEntry)). AreIndexed eq writes rs slots)
    (sym (set_is rows c.args.index c.index_mut.result.now c.args.entry
    (slice_get_read c.self.inside.rows.items (length c.self.inside.rows.items) c.args.index c.index_mut.result.now refl
    (subst (λ (rs : List (g.row.F.Denot × SmallEntry)). c.args.index < length rs) (sym c.self.view_is) c.requires) c.index_mut.ensures.value)))
    (indexed_set eq writes rows slots c.args.index c.args.entry c.self.invariant)

pub returns : goal.returns
returns g c =
    set_is c.self.inside.rows.items c.args.index c.index_mut.result.now c.args.entry
    (slice_get_read c.self.inside.rows.items (length c.self.inside.rows.items) c.args.index c.index_mut.result.now refl
    (subst (λ (rs : List (g.row.F.Denot × SmallEntry)). c.args.index < length rs) (sym c.self.view_is) c.requires) c.index_mut.ensures.value)
    ∙ ap (λ (rs : List (g.row.F.Denot × SmallEntry)). set_entry_at rs c.args.index c.args.entry) c.self.view_is
