use Rattle.std.proofs.Common.{◌≡◌, ℕ, ◌<◌, ◌/◌, List, [], length, get_or, sym, ap, subst, ◌∙◌, arith}
use Rattle.std.specs.Prelude.{◌↔◌, ◌⊎◌, Contains, slice_index}
use Rattle.std.proofs.lemmas.List.{get_or_default}
use Rattle.std.proofs.lemmas.Nat.{mod_below}
use Rattle.abstraction.specs.Digits.{value_of}
use Rattle.abstraction_groups.specs.declared.backward.Transition.{Transition}
use Rattle.pdb_regression.specs.declared.place.Position.{Position}
use Rattle.pdb_regression.specs.Tables.{Place, no_place, IsReadAt, LeadsIn, IsUnder, list_at}
use Rattle.pdb_regression.proofs.TableLaws.{place_read, found_first, found_more}
use Rattle.pdb_regression.proofs.transitions.add_entering.Goals as goal

pub loop-place-init : goal.loop-place-init
loop-place-init c =
    let rules = c.args.rules.now in
    let j = c.args.abstract_state in
    let known = rw c.clear.ensures.items at c.in_ok-add_listed.ensures in
    found_first c.args.rest.now c.args.places.now (λ (t : Transition). LeadsIn rules t.class t.source j) j c.add_listed.new.transitions.items known

pub offset_bounds-values-position : goal.offset_bounds-values-position
offset_bounds-values-position c =
    let j = c.args.abstract_state in
    let k = c.loop-place.place in
    let places : List Place = c.args.places.now in
    let l = c.loop-place-test.true in
    let p : Place = get_or places k no_place in
    let at : c.position.result ≡ p.position = c.position.ensures.position ∙ ap (λ (q : Place). q.position) (c.index-places-place.is ∙ get_or_default places k c.index-places-place.result no_place l) in
    let read : IsReadAt c.args.values.now j p.position = place_read places c.args.values.now j k c.requires.values l in
    let within : c.position.result.number < length c.args.values.now = subst (λ (q : Position). q.number < length c.args.values.now) (sym at) read.within in
    omega (arith, c.type_inv.values)

pub bounds-values-position : goal.bounds-values-position
bounds-values-position c =
    let j = c.args.abstract_state in
    let k = c.loop-place.place in
    let places : List Place = c.args.places.now in
    let l = c.loop-place-test.true in
    let p : Place = get_or places k no_place in
    let at : c.position.result ≡ p.position = c.position.ensures.position ∙ ap (λ (q : Place). q.position) (c.index-places-place.is ∙ get_or_default places k c.index-places-place.result no_place l) in
    let read : IsReadAt c.args.values.now j p.position = place_read places c.args.values.now j k c.requires.values l in
    subst (λ (q : Position). q.number < length c.args.values.now) (sym at) read.within

pub classes-classes-requires : goal.classes-classes-requires
classes-classes-requires c =
    let j = c.args.abstract_state in
    let k = c.loop-place.place in
    let places : List Place = c.args.places.now in
    let l = c.loop-place-test.true in
    let p : Place = get_or places k no_place in
    let at : c.position.result ≡ p.position = c.position.ensures.position ∙ ap (λ (q : Place). q.position) (c.index-places-place.is ∙ get_or_default places k c.index-places-place.result no_place l) in
    let read : IsReadAt c.args.values.now j p.position = place_read places c.args.values.now j k c.requires.values l in
    let same : c.index-places-place-in-loop-place.result ≡ p = c.index-places-place-in-loop-place.is ∙ get_or_default places k c.index-places-place-in-loop-place.result no_place l in
    let below = c.position.ensures.below in
    let low : value_of p.position.digit j < p.position.digit.range = mod_below (j / p.position.digit.weight) p.position.digit.range (subst (λ (q : Position). 0 < q.digit.range) at below.range) in
    let less : slice_index c.args.values.now p.position.number < p.position.digit.range = rw read.value low in
    subst (λ (q : Place). slice_index c.args.values.now c.position.result.number < q.position.digit.range) (sym same)
    (subst (λ (q : Position). slice_index c.args.values.now q.number < p.position.digit.range) (sym at) less)

pub loop-place-preserved : goal.loop-place-preserved
loop-place-preserved c =
    let j = c.args.abstract_state in
    let k = c.loop-place.place in
    let places : List Place = c.args.places.now in
    let l = c.loop-place-test.true in
    let p : Place = get_or places k no_place in
    let at : c.position.result ≡ p.position = c.position.ensures.position ∙ ap (λ (q : Place). q.position) (c.index-places-place.is ∙ get_or_default places k c.index-places-place.result no_place l) in
    let read : IsReadAt c.args.values.now j p.position = place_read places c.args.values.now j k c.requires.values l in
    let same : c.index-places-place-in-loop-place.result ≡ p = c.index-places-place-in-loop-place.is ∙ get_or_default places k c.index-places-place-in-loop-place.result no_place l in
    let value : slice_index c.args.values.now c.position.result.number ≡ value_of p.position.digit j = ap (λ (q : Position). slice_index c.args.values.now q.number) at ∙ read.value in
    let listed : c.classes-classes.result.now ≡ list_at j p =
    c.classes-classes.ensures ∙ ap (λ (q : Place). get_or q.lists (slice_index c.args.values.now c.position.result.number) []) same ∙ ap (λ (v : ℕ). get_or p.lists v []) value in
    found_more (λ o. Contains c.args.rest.now o) places (λ (t : Transition). LeadsIn c.args.rules.now t.class t.source j) k j c.loop-place.transitions.items c.add_listed-in-loop-place.new.transitions.items c.classes-classes.result.now listed
    c.loop-place.invariant c.in_ok-add_listed-2.ensures

pub returns : goal.returns
returns c =
    subst (λ (n : ℕ). (t : Transition) → Contains c.loop-place.transitions.items t ↔ ((Contains c.args.rest.now t.class ⊎ IsUnder c.args.places.now n c.args.abstract_state t.class) × LeadsIn c.args.rules.now t.class t.source c.args.abstract_state))
    (omega (arith, c.loop-place-test.false, c.loop-place.auto.place-end)) c.loop-place.invariant
