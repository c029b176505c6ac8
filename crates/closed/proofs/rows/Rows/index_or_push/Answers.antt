use Rattle.std.proofs.Common.{ℕ, List, ◌≡◌, ◌+◌, ◌≤◌, ◌∷◌, ◌++◌, [], length, position, None, sym, ap, ◌∙◌, subst, arith}
use Rattle.std.specs.Map.{keys_of}
use Rattle.slots.specs.declared.probing.Slot.{Slot}
use Rattle.slots.specs.Slots.{home_of}
use Rattle.closed.specs.declared.small_entry.SmallEntry.{SmallEntry}
use Rattle.closed.specs.Rows.{room_in, AreIndexed}
use Rattle.closed.proofs.Holding.{whole}
use Rattle.closed.proofs.Indexing.{indexed_moved, indexed_pushed}
use Rattle.closed.proofs.rows.Rows.index_or_push.Goals as goal

pub invariant_of-self-2 : goal.invariant_of-self-2
invariant_of-self-2 g c =
    let eq = g.F.PartialEq.eq in
    let writes = g.F.Hash.hash_input in
    let laws = g.met.F.Eq.laws in
    let rows = c.self.inside.rows.items in
    let before = c.self.inside.slots.items in
    let roomy = c.make_room.new.slots.items in
    let old = c.deref_mut.result.now in
    let new = c.fill.new.slots in
    let form = c.args.form in
    let slot : Slot ℕ = record { link = c.len-link.result; note = c.args.hint.tag } in
    let room : length rows + 1 ≤ room_in (length roomy) = omega (arith, c.in_ok-make_room.ensures.room, c.len.ensures, c.self.inside.rows.ok.0) in
    let moved : AreIndexed eq writes rows roomy =
    indexed_moved eq writes rows before roomy c.self.invariant c.make_room.ensures.some c.make_room.ensures.few c.make_room.ensures.count (omega (arith, room))
    (c.make_room.ensures.holds _ c.self.invariant.holds) in
    let indexed : AreIndexed eq writes rows old = subst (AreIndexed eq writes rows) (sym c.deref_mut.ensures.value) moved in
    let room_there : length rows + 1 ≤ room_in (length old) = subst (λ (ss : List (Slot ℕ)). length rows + 1 ≤ room_in (length ss)) (sym c.deref_mut.ensures.value) room in
    let size = c.len-2.ensures ∙ sym c.deref_mut.ensures.len in
    let none : position (eq form) (keys_of rows) ≡ None = subst (λ (rs : List (g.row.F.Denot × SmallEntry)). position (eq form) (keys_of rs) ≡ None) c.deref.ensures.value c.in-Err.ensures.absent in
    let links : slot.link ≡ length rows + 1 = omega (arith, c.len-link.ensures, c.in_ok-push.ensures.len, c.self.inside.rows.ok.0) in
    let pushed : AreIndexed eq writes (rows ++ (form, c.args.entry) ∷ []) new =
    indexed_pushed eq writes laws rows old new form c.args.entry c.home_of-home.result slot indexed room_there none (omega (arith, c.home_of-home.ensures.below, size))
    (c.home_of-home.ensures.value ∙ ap (home_of c.args.hint.tag) size) links c.requires.hint c.fill.ensures in
    let long : length new ≡ length roomy = c.fill.auto.slots ∙ ap length c.deref_mut.ensures.value in
    subst (AreIndexed eq writes c.push.new.self.items) (sym (whole new roomy c.make_room.new.slots.len long (omega (arith, c.make_room.new.slots.ok.0))))
    (subst (λ (rs : List (g.row.F.Denot × SmallEntry)). AreIndexed eq writes rs new) (sym c.in_ok-push.ensures.items) pushed)
