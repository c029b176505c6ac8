use Rattle.std.proofs.Common.{◌≡◌, ◌<◌, List, length, get_or, ap, sym, subst, ◌∙◌, Some}
use Rattle.std.proofs.lemmas.List.{get_or_default}
use Rattle.pdb_regression.specs.declared.place.Position.{Position}
use Rattle.abstraction_groups.specs.declared.change.DigitChange.{DigitChange}
use Rattle.pdb_regression.specs.Changes.{asked}
use Rattle.pdb_regression.specs.Tables.{Place, no_place, no_change}
use Rattle.pdb_regression.proofs.TableLaws.{position_at, key_is}
use Rattle.pdb_regression.proofs.place.key_at.Goals as goal

pub asked_of-requires : goal.asked_of-requires
asked_of-requires c =
    let places : List Place = c.args.places.now in
    let k = c.args.place in
    let same = c.index-places-place.is ∙ get_or_default places k c.index-places-place.result no_place c.requires.place in
    let at : c.position-position.result ≡ (get_or places k no_place).position = c.position-position.ensures.position ∙ ap (λ (p : Place). p.position) same in
    subst (λ (p : Position). p.number < length c.args.rule.now) (sym at) (position_at places c.args.rule.now k c.requires.positions c.requires.place).0

pub returns-clause-key : goal.returns-clause-key
returns-clause-key c =
    let places : List Place = c.args.places.now in
    let cs : List DigitChange = c.args.rule.now in
    let k = c.args.place in
    let same = c.index-places-place.is ∙ get_or_default places k c.index-places-place.result no_place c.requires.place in
    let at : c.position-position.result ≡ (get_or places k no_place).position = c.position-position.ensures.position ∙ ap (λ (p : Place). p.position) same in
    let asks = c.in_ok-value.ensures.asked in
    let below = c.in_ok-value.ensures.below in
    key_is places cs k c.in_ok-value.value c.requires.positions c.requires.place
    (subst (λ (p : Position). asked (get_or cs p.number no_change).change ≡ Some c.in_ok-value.value) at (sym asks))
    (subst (λ (p : Position). c.in_ok-value.value < (get_or cs p.number no_change).digit.range) at below)
