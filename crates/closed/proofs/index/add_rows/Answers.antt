use Rattle.std.proofs.Common.{ℕ, ◌+◌, length, refl, sym, subst, arith}
use Rattle.std.proofs.lemmas.List.{length-map}
use Rattle.std.proofs.lemmas.Option.{slice_get_read}
use Rattle.slots.specs.declared.probing.Slot.{Slot}
use Rattle.closed.specs.Rows.{tag_of, tags_of, HasTag}
use Rattle.slots.proofs.Added.{empties_added}
use Rattle.closed.proofs.Holding.{IsTagBelow, holds_none, holds_added, tag_added, tags_all, tag_read}
use Rattle.closed.proofs.index.add_rows.Goals as goal

pub loop-place-init : goal.loop-place-init
loop-place-init g c =
    let tags = tags_of g.F.Hash.hash_input c.args.rows.now in
    record {
      count = omega (arith, c.requires.empty);
      holds = holds_none (IsTagBelow 0 tags) c.args.slots.now (λ place tag is. absurd (omega (arith, is.0))) c.requires.empty;
    }

pub loop-place-preserved : goal.loop-place-preserved
loop-place-preserved g c =
    let tags = tags_of g.F.Hash.hash_input c.args.rows.now in
    let place = c.loop-place.place in
    let tag = c.tag_of-note.result in
    let has : HasTag tags place tag =
    subst (HasTag tags place) (sym c.tag_of-note.ensures) (tag_read g.F.Hash.hash_input c.args.rows.now place c.index-rows-place.result (slice_get_read c.args.rows.now (length c.args.rows.now) place c.index-rows-place.result refl c.loop-place-test.true c.index-rows-place.is)) in
    let slot : Slot ℕ = record { link = place + 1; note = tag } in
    let slots = c.loop-place.slots in
    let new = c.add.new.slots in
    let home = c.home_of-home.result in
    let fewer = empties_added slots new home place slot c.home_of-home.ensures.below refl c.add.ensures in
    record {
      count = omega (arith, c.loop-place.invariant.count, fewer);
      holds = tag_added tags place tag new has (holds_added slots new home place slot c.home_of-home.ensures.below refl c.add.ensures (IsTagBelow place tags) c.loop-place.invariant.holds c.home_of-home.ensures.value);
    }

pub returns-clause-holds : goal.returns-clause-holds
returns-clause-holds g c =
    let tags = tags_of g.F.Hash.hash_input c.args.rows.now in
    let long = length-map c.args.rows.now (λ p. tag_of (g.F.Hash.hash_input p.0)) in
    tags_all tags c.loop-place.place c.loop-place.slots (omega (arith, long, c.loop-place-test.false)) c.loop-place.invariant.holds
