use Rattle.std.proofs.Common.{◌≡◌, ◌++◌, ◌∙◌, inl, inr, length, ap, sym, append-nil}
use Rattle.links.specs.Tables.{rows}
use Rattle.links.proofs.Rows.{grown_none, length-rows}
use Rattle.links.proofs.table.add_ends.Goals as goal

pub returns : goal.returns
returns g c =
    let none : length c.loop-row.row-iterator.a.rest.items ≡ 0 = elim c.in-None.ensures.steps [
      | inl e ↦ sym c.loop-row.row-iterator.a.rest.ok.0 ∙ e.1.0
      | inr e ↦ c.loop-row.invariant.0 ∙ (sym c.loop-row.row-iterator.b.rest.ok.0 ∙ e.1.0)
    ] in
    let left = grown_none (rows c.loop-row.row-iterator.a.rest.items) c.loop-row.row-iterator.b.rest.items (length-rows c.loop-row.row-iterator.a.rest.items ∙ none) in
    sym (c.loop-row.invariant.1 ∙ (ap (λ rs. rows c.loop-row.all.items ++ rs) left ∙ append-nil (rows c.loop-row.all.items)))
