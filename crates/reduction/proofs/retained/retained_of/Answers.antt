use Rattle.std.proofs.Common.{◌≡◌, ℕ, ◌<◌, List, length, Option, map, sym, ap, subst, ◌∙◌, arith}
use Rattle.std.specs.Prelude.{All, Contains, IfSome, option_map, slice_get, slice_index, Some}
use Rattle.reduction.specs.Adding.{images_in}
use Rattle.reduction.proofs.GroupLaws.{bests_are_retained, bests_cover, groups_below, increasing_few, retained_same, covers_same}
use Rattle.reduction.proofs.Permutations.{moved_members}
use Rattle.reduction.proofs.RepresentedLaws.{below_same, groups_exist, represented}
use Rattle.reduction.proofs.retained.retained_of.Goals as goal

pub in_order-requires : goal.in_order-requires
in_order-requires c =
    subst (All (λ o. o < c.operator_count-count.result)) (sym c.deref.ensures.value)
    (subst (λ (n : ℕ). All (λ o. o < n) c.in_ok-groups.groups.best.items) (sym c.operator_count-count.ensures)
    (groups_below c.args.task.now c.args.classes.now c.args.changing.now (length c.args.task.now.operators) (images_in c.in_ok-groups.groups.images.keys) c.in_ok-groups.groups.best.items c.in_ok-groups.ensures.groups))

pub in_walk_order-requires-clause-exist : goal.in_walk_order-requires-clause-exist
in_walk_order-requires-clause-exist c =
    let below = groups_below c.args.task.now c.args.classes.now c.args.changing.now (length c.args.task.now.operators) (images_in c.in_ok-groups.groups.images.keys) c.in_ok-groups.groups.best.items c.in_ok-groups.ensures.groups in
    subst (All (λ o. o < length c.args.task.now.operators)) (sym c.deref-2.ensures.value)
    (below_same (length c.args.task.now.operators) c.deref.result.now c.in_ok-ascending.ascending.items c.in_ok-ascending.ensures.same
    (subst (All (λ o. o < length c.args.task.now.operators)) (sym c.deref.ensures.value) below))

pub in_walk_order-requires-clause-few : goal.in_walk_order-requires-clause-few
in_walk_order-requires-clause-few c =
    let below = groups_below c.args.task.now c.args.classes.now c.args.changing.now (length c.args.task.now.operators) (images_in c.in_ok-groups.groups.images.keys) c.in_ok-groups.groups.best.items c.in_ok-groups.ensures.groups in
    let exist : All (λ o. o < length c.args.task.now.operators) c.in_ok-ascending.ascending.items =
    below_same (length c.args.task.now.operators) c.deref.result.now c.in_ok-ascending.ascending.items c.in_ok-ascending.ensures.same
    (subst (All (λ o. o < length c.args.task.now.operators)) (sym c.deref.ensures.value) below) in
    let few = increasing_few c.in_ok-ascending.ascending.items (length c.args.task.now.operators) c.in_ok-ascending.ensures.increasing exist in
    omega (arith, few, ap (λ (ns : List ℕ). length ns) c.deref-2.ensures.value, c.recall.ensures.limits.operators)

pub places_of-requires : goal.places_of-requires
places_of-requires c =
    let below = groups_below c.args.task.now c.args.classes.now c.args.changing.now (length c.args.task.now.operators) (images_in c.in_ok-groups.groups.images.keys) c.in_ok-groups.groups.best.items c.in_ok-groups.ensures.groups in
    let same = moved_members c.in_ok-groups.groups.best.items c.deref.result.now c.in_ok-ascending.ascending.items c.deref-2.result.now c.in_ok-retained.retained.items c.deref.ensures.value c.deref-2.ensures.value c.in_ok-ascending.ensures.same c.in_ok-retained.ensures in
    subst (All (λ o. o < c.operator_count-count.result)) (sym c.deref-3.ensures.value)
    (subst (λ (n : ℕ). All (λ o. o < n) c.in_ok-retained.retained.items) (sym c.operator_count-count.ensures)
    (below_same (length c.args.task.now.operators) c.in_ok-groups.groups.best.items c.in_ok-retained.retained.items same below))

pub representatives_of-requires-clause-groups : goal.representatives_of-requires-clause-groups
representatives_of-requires-clause-groups c =
    subst (λ (best : List ℕ). All (λ r. IfSome r (λ g. g < length best)) c.deref-4.result.now) (sym c.deref-5.ensures.value)
    (subst (All (λ r. IfSome r (λ g. g < length c.in_ok-groups.groups.best.items))) (sym c.deref-4.ensures.value)
    (groups_exist c.args.task.now c.args.classes.now c.args.changing.now (length c.args.task.now.operators) (images_in c.in_ok-groups.groups.images.keys) c.in_ok-groups.groups.best.items c.in_ok-groups.of_operators.items
    c.in_ok-groups.ensures.groups c.in_ok-groups.ensures.of_operators))

pub representatives_of-requires-clause-best : goal.representatives_of-requires-clause-best
representatives_of-requires-clause-best c =
    let long : length c.deref-6.result.now ≡ length c.args.task.now.operators = ap (λ (ps : List ℕ). length ps) c.deref-6.ensures.value ∙ c.in_ok-places.ensures.len ∙ c.operator_count-count.ensures in
    subst (λ (best : List ℕ). All (λ o. o < length c.deref-6.result.now) best) (sym c.deref-5.ensures.value)
    (subst (λ (n : ℕ). All (λ o. o < n) c.in_ok-groups.groups.best.items) (sym long)
    (groups_below c.args.task.now c.args.classes.now c.args.changing.now (length c.args.task.now.operators) (images_in c.in_ok-groups.groups.images.keys) c.in_ok-groups.groups.best.items c.in_ok-groups.ensures.groups))

pub returns-clause-retained : goal.returns-clause-retained
returns-clause-retained c asked marked =
    let same = moved_members c.in_ok-groups.groups.best.items c.deref.result.now c.in_ok-ascending.ascending.items c.deref-2.result.now c.in_ok-retained.retained.items c.deref.ensures.value c.deref-2.ensures.value c.in_ok-ascending.ensures.same c.in_ok-retained.ensures in
    retained_same c.args.task.now asked c.args.classes.now c.in_ok-groups.groups.best.items c.in_ok-retained.retained.items same
    (bests_are_retained c.args.task.now c.args.classes.now c.args.changing.now (images_in c.in_ok-groups.groups.images.keys) c.in_ok-groups.groups.best.items c.in_ok-groups.ensures.groups asked marked)

pub returns-clause-covers : goal.returns-clause-covers
returns-clause-covers c asked marked =
    let same = moved_members c.in_ok-groups.groups.best.items c.deref.result.now c.in_ok-ascending.ascending.items c.deref-2.result.now c.in_ok-retained.retained.items c.deref.ensures.value c.deref-2.ensures.value c.in_ok-ascending.ensures.same c.in_ok-retained.ensures in
    covers_same c.args.task.now asked c.args.classes.now c.in_ok-groups.groups.best.items c.in_ok-retained.retained.items same
    (bests_cover c.args.task.now c.args.classes.now c.args.changing.now (images_in c.in_ok-groups.groups.images.keys) c.in_ok-groups.groups.best.items c.in_ok-groups.ensures.groups asked marked)

pub returns-clause-represented : goal.returns-clause-represented
returns-clause-represented c asked by marked =
    represented c.args.task.now c.args.classes.now asked c.args.changing.now (images_in c.in_ok-groups.groups.images.keys) c.in_ok-groups.groups.best.items c.in_ok-retained.retained.items c.in_ok-places.places.items
    c.in_ok-groups.of_operators.items c.in_ok-representatives.representatives.items c.recall.ensures.task by marked c.in_ok-groups.ensures.groups c.in_ok-groups.ensures.of_operators at made
  where
    at : (n : ℕ) → Contains c.in_ok-groups.groups.best.items n → slice_get c.in_ok-retained.retained.items (slice_index c.in_ok-places.places.items n) ≡ Some n
    at n h =
        let listed : Contains c.in_ok-retained.retained.items n = (moved_members c.in_ok-groups.groups.best.items c.deref.result.now c.in_ok-ascending.ascending.items c.deref-2.result.now c.in_ok-retained.retained.items c.deref.ensures.value c.deref-2.ensures.value c.in_ok-ascending.ensures.same c.in_ok-retained.ensures n).1 h in
        subst (λ (xs : List ℕ). slice_get xs (slice_index c.in_ok-places.places.items n) ≡ Some n) c.deref-3.ensures.value
        (c.in_ok-places.ensures.places n (subst (λ (xs : List ℕ). Contains xs n) (sym c.deref-3.ensures.value) listed))

    made : c.in_ok-representatives.representatives.items ≡ map (option_map (λ g. slice_index c.in_ok-places.places.items (slice_index c.in_ok-groups.groups.best.items g))) c.in_ok-groups.of_operators.items
    made =
        c.in_ok-representatives.ensures
        ∙ ap (λ (ps : List ℕ). map (option_map (λ g. slice_index ps (slice_index c.deref-5.result.now g))) c.deref-4.result.now) c.deref-6.ensures.value
        ∙ ap (λ (best : List ℕ). map (option_map (λ g. slice_index c.in_ok-places.places.items (slice_index best g))) c.deref-4.result.now) c.deref-5.ensures.value
        ∙ ap (λ (gs : List (Option ℕ)). map (option_map (λ g. slice_index c.in_ok-places.places.items (slice_index c.in_ok-groups.groups.best.items g))) gs) c.deref-4.ensures.value
