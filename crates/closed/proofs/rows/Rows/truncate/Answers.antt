use Rattle.std.proofs.Common.{List, ◌≡◌, ◌+◌, length, take, sym, ap, ◌∙◌, subst, arith, refl}
use Rattle.slots.specs.Slots.{links_of, empties}
use Rattle.closed.specs.declared.small_entry.SmallEntry.{SmallEntry}
use Rattle.closed.specs.Rows.{tags_of, HasTag, Holds, AreIndexed}
use Rattle.slots.proofs.Added.{empties_filled}
use Rattle.closed.proofs.Holding.{empty, is_empty, whole}
use Rattle.closed.proofs.Indexing.{indexed_taken}
use Rattle.closed.proofs.rows.Rows.truncate.Goals as goal

pub add_rows-requires-clause-empty : goal.add_rows-requires-clause-empty
add_rows-requires-clause-empty g c =
    empties_filled empty refl c.deref_mut.result.now c.self.inside.slots.len (c.deref_mut.ensures.value ∙ c.fill.ensures.items is_empty)

pub invariant_of-self : goal.invariant_of-self
invariant_of-self g c =
    let eq = g.F.PartialEq.eq in
    let writes = g.F.Hash.hash_input in
    let rows = c.self.inside.rows.items in
    let old = c.self.inside.slots.items in
    let filled = c.fill.new.self.items in
    let new = c.add_rows.new.slots in
    let kept = c.deref.ensures.value ∙ c.truncate.ensures.items in
    let long : length new ≡ length filled = c.add_rows.ensures.len ∙ ap length c.deref_mut.ensures.value in
    let size : length new ≡ length old = omega (arith, long, c.fill.ensures.len, c.fill.new.self.ok.0, c.self.inside.slots.ok.0) in
    let held : Holds (HasTag (tags_of writes (take c.args.len rows))) new =
    subst (λ (rs : List (g.row.F.Denot × SmallEntry)). Holds (HasTag (tags_of writes rs)) new) kept c.add_rows.ensures.holds in
    let count : length (take c.args.len rows) + empties (links_of new) ≡ length old =
    omega (arith, ap length kept, c.add_rows.ensures.count, c.add_rows.ensures.len, size) in
    subst (AreIndexed eq writes c.truncate.new.self.items) (sym (whole new filled c.fill.new.self.len long (omega (arith, c.fill.new.self.ok.0))))
    (subst (λ (rs : List (g.row.F.Denot × SmallEntry)). AreIndexed eq writes rs new) (sym c.truncate.ensures.items)
    (indexed_taken eq writes rows old new c.args.len c.self.invariant size count held))
