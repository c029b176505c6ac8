use Rattle.std.proofs.Common.{ℕ, slice_index, ap, ◌∙◌, arith}
use Rattle.abstraction_mapping.specs.MappingLaws.{mapping_abstracts}
use Rattle.scp_columns.proofs.Forms.{formed}
use Rattle.scp_columns.proofs.Lawful.{lawful}
use Rattle.scp_columns.proofs.Tables.{needed_below, is_next}
use Rattle.abstraction_mapping.specs.Views.{mapping_of}
use Rattle.scp_columns.proofs.column.new_table.Goals as goal

pub shares_of-requires-clause-small : goal.shares_of-requires-clause-small
shares_of-requires-clause-small c o =
    let same = c.requires.abstraction in
    let abstracts = rw (same.0, same.1) at (mapping_abstracts c.args.abstraction.now) in
    let distances = rw (same.0, same.1) at c.in_ok-values.ensures.distances in
    let falls = λ (q : ℕ). rw (same.0, same.1) at (c.in_ok-values.ensures.needed q) in
    let below = needed_below c.args.task.now (mapping_of c.args.mapping.now) abstracts c.args.left.now c.in_ok-values.values c.in_ok-values.needed.items distances falls o in
    rw c.deref.ensures.value (omega (arith, below, c.requires.small o))

pub new-requires-clause-form : goal.new-requires-clause-form
new-requires-clause-form c =
    let same = c.requires.abstraction in
    let distances = rw (same.0, same.1) at c.in_ok-values.ensures.distances in
    rw c.in_ok-mapping.ensures (formed c.args.task.now (mapping_of c.args.mapping.now) c.in_ok-shares.shares.items c.in_ok-values.values c.requires.mapping.mapping distances.as_long)

pub new-requires-clause-lawful : goal.new-requires-clause-lawful
new-requires-clause-lawful c =
    let same = c.requires.abstraction in
    let distances = rw (same.0, same.1) at c.in_ok-values.ensures.distances in
    rw c.in_ok-mapping.ensures
    (lawful c.args.task.now c.recall.ensures.task c.recall.ensures.limits (mapping_of c.args.mapping.now) c.requires.mapping c.in_ok-shares.shares.items c.in_ok-values.values distances.as_long
    c.in_ok-shares.ensures.lawful c.in_ok-values.ensures.small)

pub returns-clause-next : goal.returns-clause-next
returns-clause-next c =
    let same = c.requires.abstraction in
    let abstracts = rw (same.0, same.1) at (mapping_abstracts c.args.abstraction.now) in
    let distances = rw (same.0, same.1) at c.in_ok-values.ensures.distances in
    let falls = λ (q : ℕ). rw (same.0, same.1) at (c.in_ok-values.ensures.needed q) in
    let shares = λ (q : ℕ). c.in_ok-shares.ensures.same q ∙ ap (λ ns. slice_index ns q) c.deref.ensures.value in
    rw (c.new.ensures.table, c.in_ok-mapping.ensures)
    (is_next c.args.task.now (mapping_of c.args.mapping.now) abstracts c.args.left.now c.in_ok-values.values c.in_ok-values.needed.items distances falls c.in_ok-shares.shares.items shares)
