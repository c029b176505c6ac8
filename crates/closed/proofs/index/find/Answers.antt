use Rattle.std.proofs.Common.{◌≡◌, ◌-◌, ℕ, Some, length, inl, sym, ap, refl, subst, ◌∙◌, arith}
use Rattle.std.specs.Prelude.{slice_get}
use Rattle.std.proofs.lemmas.Option.{same_Some, slice_get_read}
use Rattle.slots.specs.Slots.{links_of, home_of, IsFirstEmpty}
use Rattle.closed.proofs.Indexing.{read_home, row_within, link_is, other_row, misses, search_end, search_found, ends_first, never_all}
use Rattle.closed.proofs.index.find.Goals as goal
use Rattle.closed.proofs.index.find.Goals.{else-slot-tag-via-then-slot-tag+else-eq, else-slot-tag-via-else-slot-tag}

pub returns-then-slot-eq0-clause-absent : goal.returns-then-slot-eq0-clause-absent
returns-then-slot-eq0-clause-absent g c =
    let eq = g.F.PartialEq.eq in
    let writes = g.F.Hash.hash_input in
    let laws = g.met.F.Eq.laws in
    let respects = g.met.F.Hash.respects_eq in
    let rows = c.args.rows.now in
    let slots = c.args.slots.now in
    let form = c.args.form.now in
    let slot = c.slot_after-slot.result in
    let read =
    read_home eq writes laws respects rows slots form c.home_of-home.result c.args.tag c.loop-steps.steps slot c.home_of-home.ensures.value c.requires.tag c.slot_after-slot.ensures in
    search_end eq writes laws respects rows slots form c.loop-steps.steps c.requires.indexed c.loop-steps.invariant
    (inl (link_is eq writes laws respects rows slots form c.loop-steps.steps slot read ∙ c.if-slot-eq0.true))

pub returns-then-slot-eq0-clause-free : goal.returns-then-slot-eq0-clause-free
returns-then-slot-eq0-clause-free g c =
    let eq = g.F.PartialEq.eq in
    let writes = g.F.Hash.hash_input in
    let laws = g.met.F.Eq.laws in
    let respects = g.met.F.Hash.respects_eq in
    let rows = c.args.rows.now in
    let slots = c.args.slots.now in
    let form = c.args.form.now in
    let slot = c.slot_after-slot.result in
    let read =
    read_home eq writes laws respects rows slots form c.home_of-home.result c.args.tag c.loop-steps.steps slot c.home_of-home.ensures.value c.requires.tag c.slot_after-slot.ensures in
    subst (λ (t : ℕ). IsFirstEmpty (links_of slots) (home_of t (length slots)) c.loop-steps.steps) (sym c.requires.tag)
    (ends_first eq writes laws respects rows slots form c.loop-steps.steps c.loop-steps-test.true c.loop-steps.invariant
    (link_is eq writes laws respects rows slots form c.loop-steps.steps slot read ∙ c.if-slot-eq0.true))

pub bounds-rows-index : goal.bounds-rows-index
bounds-rows-index g c =
    row_within g.F.PartialEq.eq g.F.Hash.hash_input c.args.rows.now c.args.slots.now _ c.slot_after-slot.result c.requires.indexed c.slot_after-slot.ensures c.if-slot-eq0.false

pub offset_bounds-rows-index : goal.offset_bounds-rows-index
offset_bounds-rows-index g c =
    let within =
    row_within g.F.PartialEq.eq g.F.Hash.hash_input c.args.rows.now c.args.slots.now _ c.slot_after-slot.result c.requires.indexed c.slot_after-slot.ensures c.if-slot-eq0.false in
    omega (arith, within)

pub returns-then-eq-clause-within : goal.returns-then-eq-clause-within
returns-then-eq-clause-within g c =
    row_within g.F.PartialEq.eq g.F.Hash.hash_input c.args.rows.now c.args.slots.now _ c.slot_after-slot.result c.requires.indexed c.slot_after-slot.ensures c.if-slot-eq0.false

pub returns-then-eq-clause-index : goal.returns-then-eq-clause-index
returns-then-eq-clause-index g c =
    let eq = g.F.PartialEq.eq in
    let writes = g.F.Hash.hash_input in
    let laws = g.met.F.Eq.laws in
    let respects = g.met.F.Hash.respects_eq in
    let rows = c.args.rows.now in
    let slots = c.args.slots.now in
    let form = c.args.form.now in
    let slot = c.slot_after-slot.result in
    let row = c.index-rows-index.result in
    let within = row_within eq writes rows slots _ slot c.requires.indexed c.slot_after-slot.ensures c.if-slot-eq0.false in
    let there : slice_get rows (slot.link - 1) ≡ Some row = slice_get_read rows (length rows) (slot.link - 1) row refl within c.index-rows-index.is in
    search_found eq writes laws respects rows slots form (slot.link - 1) row c.requires.indexed there
    (ap (λ (r : g.row.F.Denot × _). eq form r.0) c.index-rows-index.is ∙ sym c.eq.ensures ∙ c.if-eq.true)

pub loop-steps-preserved : goal.loop-steps-preserved
loop-steps-preserved g c =
    let eq = g.F.PartialEq.eq in
    let writes = g.F.Hash.hash_input in
    let laws = g.met.F.Eq.laws in
    let respects = g.met.F.Hash.respects_eq in
    let rows = c.args.rows.now in
    let slots = c.args.slots.now in
    let form = c.args.form.now in
    let slot = c.slot_after-slot.result in
    let read =
    read_home eq writes laws respects rows slots form c.home_of-home.result c.args.tag c.loop-steps.steps slot c.home_of-home.ensures.value c.requires.tag c.slot_after-slot.ensures in
    let within = row_within eq writes rows slots _ slot c.requires.indexed c.slot_after-slot.ensures c.if-slot-eq0.false in
    misses eq writes laws respects rows slots form c.loop-steps.steps c.loop-steps.invariant
    (other_row eq writes laws respects rows slots form c.loop-steps.steps slot c.requires.indexed read c.if-slot-eq0.false
    (elim c.else-slot-tag.branch [
      | else-slot-tag-via-then-slot-tag+else-eq w ↦ λ p there same.
          let row = w.index-rows-index.result in
          let here : slice_get rows (slot.link - 1) ≡ Some row = slice_get_read rows (length rows) (slot.link - 1) row refl within w.index-rows-index.is in
          let is : row ≡ p = same_Some row p (sym here ∙ there) in
          ap (λ (r : g.row.F.Denot × _). eq form r.0) (sym is ∙ w.index-rows-index.is) ∙ sym w.eq.ensures ∙ w.if-eq.false
      | else-slot-tag-via-else-slot-tag w ↦ λ p there same. absurd (w.if-slot-tag.false (sym same ∙ sym c.requires.tag))
    ]))

pub unreachable-requires : goal.unreachable-requires
unreachable-requires g c =
    absurd (never_all g.F.PartialEq.eq g.F.Hash.hash_input g.met.F.Eq.laws g.met.F.Hash.respects_eq c.args.rows.now c.args.slots.now c.args.form.now
    c.home_of-home.result c.args.tag c.loop-steps.steps c.home_of-home.ensures.value c.requires.tag c.home_of-home.ensures.below c.requires.indexed
    c.loop-steps.invariant c.loop-steps-test.false)
