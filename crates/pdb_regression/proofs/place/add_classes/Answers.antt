use Rattle.std.proofs.Common.{◌∙◌, List, set, ap, sym, refl, subst}
use Rattle.std.specs.Prelude.{All}
use Rattle.std.proofs.lemmas.List.{get_or_default}
use Rattle.abstraction.specs.declared.digit.Digit.{Digit}
use Rattle.abstraction_groups.specs.declared.change.DigitChange.{DigitChange}
use Rattle.pdb_regression.specs.Tables.{Place, no_place, IsAdded, IsPositionIn, positions_of, IsAlong}
use Rattle.pdb_regression.proofs.TableLaws.{positions_kept, indexed_more, indexed_rest, enters_is, row_at}
use Rattle.pdb_regression.proofs.place.add_classes.Goals as goal
use Rattle.pdb_regression.proofs.place.add_classes.Goals.{in-Some+in_ok-add-in-Some, in-None+in_ok-push-in-None}

pub key_of-requires : goal.key_of-requires
key_of-requires c =
    let row : List DigitChange = c.index-rules-class.result in
    let along : IsAlong c.args.digits.now row = subst (IsAlong c.args.digits.now) (sym c.index-rules-class.is) (c.requires.along c.loop-class.class row c.loop-class-test.true) in
    subst (λ (ds : List Digit). All (IsPositionIn ds) (positions_of c.loop-class.places)) (sym along)
    (subst (All (IsPositionIn c.args.digits.now)) (sym c.loop-class.invariant.positions) c.requires.positions)

pub add-requires : goal.add-requires
add-requires c =
    let key = c.in-Some.ensures in
    rw (get_or_default c.loop-class.places c.in-Some.key.place c.index-places-key.result no_place key.within) key.below

pub returns-in_err-add-in-Some-clause-positions : goal.returns-in_err-add-in-Some-clause-positions
returns-in_err-add-in-Some-clause-positions c =
    let places = c.loop-class.places in
    let k = c.in-Some.key.place in
    let key = c.in-Some.ensures in
    let kept = c.in_err-add-in-Some.ensures.position in
    positions_kept places k c.add.new.self (kept ∙ ap (λ (p : Place). p.position) (get_or_default places k c.index-places-key.result no_place key.within)) ∙ c.loop-class.invariant.positions

pub loop-class-preserved : goal.loop-class-preserved
loop-class-preserved c =
    let places = c.loop-class.places in
    let rest = c.loop-class.rest.items in
    let rules = c.args.rules.now in
    let n = c.loop-class.class in
    let row = c.index-rules-class.result in
    let here = row_at rules n row c.loop-class-test.true c.index-rules-class.is in
    elim c.match-key_of.branch [
      | in-Some+in_ok-add-in-Some w ↦
          let k = w.in-Some.key.place in
          let v = w.in-Some.key.value in
          let key = w.in-Some.ensures in
          let kept = w.in_ok-add-in-Some.ensures.position in
          let added = w.in_ok-add-in-Some.ensures.added in
          let place = get_or_default places k w.index-places-key.result no_place key.within in
          let same = positions_kept places k w.add.new.self (kept ∙ ap (λ (p : Place). p.position) place) in
          record {
            positions = rw w.places-is (same ∙ c.loop-class.invariant.positions);
            indexed = rw (w.places-is, w.rest-is)
                (indexed_more rest places (set places k w.add.new.self) rules n k v w.add.new.self key.within refl
                (subst (λ (p : Place). IsAdded p w.add.new.self v n) place added)
                (λ j en. key.entered j (sym (enters_is rules n j row here) ∙ en))
                c.loop-class.invariant.indexed);
          }
      | in-None+in_ok-push-in-None w ↦
          record {
            positions = rw w.places-is c.loop-class.invariant.positions;
            indexed = rw (w.places-is, w.rest-is) (indexed_rest rest w.push.new.self.items places rules n w.in_ok-push-in-None.ensures.items c.loop-class.invariant.indexed);
          }
    ]
